-- `engine::marked::draw` meets its contract.
use Prim.Native.Nat.{◌^◌}
use native.Mathlib.Omega.{arith}
use native.Mathlib.Nat.{one-mul, mod-eq_of_lt}
use lib.Pow.{pow-lt}
use Rattle.engine.proofs.SetLaws.{no_word, take_by}
use Rattle.engine.proofs.marked.draw.Goals as goal

pub returns-then-at-ge256 : goal.returns-then-at-ge256
returns-then-at-ge256 c = no_word c.first_word-at.ensures c.if-at-ge256.true

pub returns : goal.returns
returns c =
    let l = c.lowest-place.ensures.0 in
    take_by c.first_word-at.ensures (omega (arith, c.if-at-ge256.false)) _ l c.lowest-place.ensures.1 c.lowest-place.ensures.2 c.requires.long _ (rw (one-mul (2 ^ c.lowest-place.result)) (mod-eq_of_lt (pow-lt {j = 32} (omega arith))))

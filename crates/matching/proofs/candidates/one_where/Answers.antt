-- `matching::candidates::one_where` meets its contract.
use Prim.Native.Nat.{◌^◌}
use native.Mathlib.Nat.{one-mul, mod-eq_of_lt}
use lib.Pow.{pow-lt}
use Rattle.engine.proofs.MaskBits.{has_by, has_say, mask_one, mask_none}
use Rattle.matching.proofs.candidates.one_where.Goals as goal

pub returns-then-b-eq1 : goal.returns-then-b-eq1
returns-then-b-eq1 c = mask_one _ _ (rw (one-mul (2 ^ c.args.k)) (mod-eq_of_lt (pow-lt {j = 32} c.requires.1))) (has_by _ _ c.if-b-eq1.true)

pub returns : goal.returns
returns c = mask_none (λ k h. c.if-b-eq1.false (has_say _ _ h.1))

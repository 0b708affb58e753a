-- `bits::put_bits` meets its contract.
use mathlib.Core.Path.{◌≡◌, ◌∙◌}
use Prim.Native.Nat.{◌+◌, ◌-◌, ◌/◌}
use native.Mathlib.Omega.{arith}
use lib.Pow.{shr_lt}
use Rattle.packed.specs.Bits.{bits}
use Rattle.packed.proofs.BitFields.{put_split}
use borrow.Author.Rules.{rules}
use Rattle.packed.proofs.bits.put_bits.Goals as goal

pub put_chunk-requires : goal.put_chunk-requires
put_chunk-requires c =
    let a = c.args in
    let k = c.room-k.result in
    let e : k + (a.n - k) ≡ a.n = omega arith in
    (search rules, shr_lt k (a.n - k) (rw e c.requires.2))

pub returns : goal.returns
returns c =
    let a = c.args in
    let k = c.room-k.result in
    let e : k + (a.n - k) ≡ a.n = omega arith in
    c.put_low.ensures
    ∙ rw c.put_chunk.ensures (put_split (bits a.out.now) a.at k (a.n - k) a.n ((a.at + k) / 8) a.v e (λ h. omega arith))

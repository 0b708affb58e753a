-- `matching::steps::last_end` meets its contract.
use mathlib.Core.Path.{◌≡◌, ap}
use mathlib.Core.Logic.{⊎_elim}
use Prim.Native.Nat.{◌≤◌, ◌<◌}
use native.Mathlib.Omega.{arith}
use Rattle.packed.proofs.OrderCases.{lt_or_ge}
use Rattle.engine.specs.Sweeping.{to_of}
use Rattle.matching.proofs.steps.last_end.Goals as goal

pub loop-i-preserved : goal.loop-i-preserved
loop-i-preserved c =
    let v = c.loop-i.invariant in
    let g = c.max-r.ensures in (
      omega arith,
      omega (arith, v.1),
      λ j l. ⊎_elim
          (λ (z : j < c.loop-i.i). omega (arith, v.2 j z))
          (λ (z : c.loop-i.i ≤ j). omega (arith, ap (to_of c.args.work.now) (let q : j ≡ c.loop-i.i = omega arith in q)))
          (lt_or_ge j c.loop-i.i),
      λ k h. omega (arith, v.3 k (λ j l. h j (omega arith)), h c.loop-i.i (omega arith)),
    )

pub returns : goal.returns
returns c =
    let v = c.loop-i.invariant in
    let u = v.0 in
    (v.1, λ i l. v.2 i (omega arith), λ k h. v.3 k (λ j l. h j (omega arith)))

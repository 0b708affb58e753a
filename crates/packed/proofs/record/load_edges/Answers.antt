-- `packed::record::load_edges` meets its contract.
use native.Mathlib.Omega.{arith}
use mathlib.Core.Path.{◌≡◌, refl}
use Prim.Native.Nat.{◌+◌, ◌*◌, ◌/◌}
use Rattle.packed.proofs.Records.{judged_start, judged_kept}
use Rattle.packed.proofs.record.load_edges.Goals as goal

pub loop-eight-init : goal.loop-eight-init
loop-eight-init c = (refl, omega (arith, c.requires.2), judged_start _ _ _ _ _ c.requires.1)

pub returns-in_default : goal.returns-in_default
returns-in_default c = c.load_rest.ensures _ (judged_kept c.in_default.ensures (omega (arith, c.within-whole.ensures, c.loop-eight-test.true)) c.loop-eight.invariant.2)

pub loop-eight-preserved : goal.loop-eight-preserved
loop-eight-preserved c =
    let i = c.loop-eight.invariant in
    let p = rw c.in-Some.is at c.load_eight.ensures in
    let e : 8 * c.loop-eight.eight + 8 ≡ 8 * (c.loop-eight.eight + 1) = omega arith in (
      omega (arith, i.0, p.around.long),
      omega (arith, i.1),
      rw e at p.judged _ _ _ i.1 (omega (arith, c.within-whole.ensures, c.loop-eight-test.true)) i.2,
    )

pub returns : goal.returns
returns c =
    let e : 8 * c.loop-eight.eight ≡ 8 * (c.within-whole.result / 8) = omega arith in
    c.load_rest-2.ensures _ (rw e at c.loop-eight.invariant.2)

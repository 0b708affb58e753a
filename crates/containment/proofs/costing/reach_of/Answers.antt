-- `containment::costing::reach_of` meets its contract: the words up to the view passed.
use mathlib.Core.Path.{◌≡◌, refl}
use Prim.Native.Nat.{◌+◌}
use native.Mathlib.Omega.{arith}
use lib.ListN.{replicate, length-set}
use Rattle.containment.specs.Tries.{reached}
use Rattle.containment.proofs.MaskedLaws.{masks_more}
use Rattle.containment.proofs.BoundedLaws.{reach_none, reach_more}
use Rattle.containment.proofs.costing.reach_of.Goals as goal

pub loop-a-init : goal.loop-a-init
loop-a-init c = (refl, λ b l. reach_none c.args.masks.now (replicate 16 0) b l)

pub loop-a-preserved : goal.loop-a-preserved
loop-a-preserved c =
    let l = c.loop-a in
    let masks = c.args.masks.now in
    (simp length-set l.invariant.0, masks_more (λ b x. x ≡ reached masks b) l.reach (l.a + 1) _ (omega arith) l.invariant.1 (reach_more masks l.a _ (l.invariant.1 l.a (omega arith))))

pub returns : goal.returns
returns c = λ u l. c.loop-a.invariant.1 u (omega arith)

-- `containment::choose::masks_of` meets its contract: the masks of the views passed.
use native.Mathlib.Omega.{arith}
use lib.ListN.{length-set}
use Rattle.engine.specs.Masks.{Mask}
use Rattle.containment.specs.Masked.{EdgeMatchedBy}
use Rattle.containment.proofs.MaskedLaws.{masks_more}
use Rattle.containment.proofs.choose.masks_of.Goals as goal

pub loop-a-preserved : goal.loop-a-preserved
loop-a-preserved c =
    let l = c.loop-a in
    let a = c.args in
    (simp length-set l.invariant.0, masks_more (λ b x. Mask (EdgeMatchedBy a.mapping.now b a.m) x) l.masks l.a c.edges_of.result (omega arith) l.invariant.1 c.edges_of.ensures)

pub returns : goal.returns
returns c = λ b l. c.loop-a.invariant.1 b (omega arith)

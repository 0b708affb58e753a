-- `containment::mapping::note_view` meets its contract.
use native.Mathlib.Omega.{arith}
use mathlib.Core.Bool.{not}
use mathlib.Core.Path.{◌∙◌, ap}
use Rattle.containment.proofs.MappingLaws.{column_more, column_end, column_map, column_none, noted_none, noted_all}
use Rattle.containment.proofs.mapping.note_view.Goals as goal

pub returns-then-not-lists_all : goal.returns-then-not-lists_all
returns-then-not-lists_all c =
    let a = c.args in
    λ d x. column_none _ (λ e l. c.requires.6 e ∙ noted_none a.o a.m d a.work.now _ (c.lists_all.ensures d _ x) (ap not c.if-not-lists_all.true))

pub loop-e-preserved : goal.loop-e-preserved
loop-e-preserved c =
    let p = c.requires in
    column_more c.loop-e.invariant p.0 (omega arith) p.3 c.bits_from.ensures

pub returns : goal.returns
returns c =
    let a = c.args in
    λ d x. column_map (λ e y l z. z ∙ noted_all a.o a.m d a.work.now _ (c.lists_all.ensures d _ x) (ap not c.if-not-lists_all.false)) (column_end _ _ c.loop-e.invariant (omega arith))

-- `matching::steps::step` meets its contract.
use mathlib.Core.Path.{refl}
use Rattle.matching.proofs.SteppingLaws.{stepped_skip, stepped_rest}
use Rattle.matching.proofs.steps.step.Goals as goal

pub returns-then-hurt-eq0 : goal.returns-then-hurt-eq0
returns-then-hurt-eq0 c =
    let pre = c.requires in
    stepped_skip _ _ c.args.place pre.0 pre.3 pre.4 c.leaving-due.ensures pre.6 c.if-hurt-eq0.true _ refl refl refl

pub returns : goal.returns
returns c =
    let pre = c.requires in
    stepped_rest _ _ c.args.place pre.0 pre.3 pre.4 c.leaving-due.ensures pre.6 pre.1 pre.2 c.rest.ensures c.look_up.ensures _ refl refl refl

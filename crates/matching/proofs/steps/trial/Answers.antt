-- `matching::steps::trial` meets its contract.
use Rattle.matching.proofs.SteppingLaws.{tried_short, tried_refused, tried_ran}
use Rattle.matching.proofs.AnswerFits.{given_fair}
use Rattle.matching.proofs.steps.trial.Goals as goal

pub returns-then-work-lt-WORKSPACE : goal.returns-then-work-lt-WORKSPACE
returns-then-work-lt-WORKSPACE c = tried_short c.args.question.now c.args.d c.args.steps c.args.pruned c.args.work.now c.if-work-lt-WORKSPACE.true

pub returns-in_default : goal.returns-in_default
returns-in_default c =
    let accept-pattern = c.accept_pattern in
    tried_refused c.args.question.now c.args.d c.args.steps c.args.pruned c.args.work.now rw c.in_default.is at accept-pattern.ensures

pub run_pruned-requires : goal.run_pruned-requires
run_pruned-requires c =
    let accept-pattern = c.accept_pattern in
    let q = rw c.in-Ok.is at accept-pattern.ensures in
    ((given_fair c.args.question.now q).0, c.pairs_at_front-number.ensures.pool)

pub returns : goal.returns
returns c =
    let accept-pattern = c.accept_pattern in
    let q = rw c.in-Ok.is at accept-pattern.ensures in
    tried_ran c.args.question.now c.args.d c.args.steps c.args.pruned c.args.work.now _ _ _ c.if-work-lt-WORKSPACE.false c.pairs_at_front-number.ensures q c.run_pruned.ensures

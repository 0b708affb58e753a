-- `containment::judging::judge_for` meets its contract.
use mathlib.Core.Path.{sym, subst, ◌∙◌}
use Rattle.packed.proofs.Passing.{err_is}
use Rattle.matching.proofs.OfferedLaws.{judged_rejected}
use Rattle.containment.specs.Steps.{JudgedTo}
use Rattle.packed.proofs.CallLaws.{judged_accepted}
use Rattle.containment.proofs.AnswerLaws.{judged_by, query_by}
use Rattle.containment.proofs.judging.judge_for.Goals as goal

pub returns-in_err-f : goal.returns-in_err-f
returns-in_err-f c =
    rw (err_is c.from_residual.result c.from_residual.ensures.1) (λ k. judged_rejected _ c.in_err-f.ensures)

pub judge_views-requires : goal.judge_views-requires
judge_views-requires c =
    let q = c.in_ok-f.ensures in
    (query_by c.args.question.now q, c.accept_pattern.auto.work ∙ c.requires)

pub returns : goal.returns
returns c =
    let a = c.args in
    let q = c.in_ok-f.ensures in
    judged_by (λ k. judged_accepted _ q.is) c.judge_views.result (c.judge_views.ensures (query_by a.question.now q))

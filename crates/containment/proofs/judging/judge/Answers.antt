-- `containment::judging::judge` meets its contract.
use Rattle.containment.proofs.AnswerLaws.{judged_by}
use Rattle.containment.proofs.TermsLaws.{quoted_none}
use Rattle.containment.proofs.judging.judge.Goals as goal

pub returns : goal.returns
returns c = judged_by (λ k. quoted_none _ _ k) _ c.judge_for.ensures

-- `answering::answering::answer_book` meets its contract.
use mathlib.Core.Path.{refl}
use native.Mathlib.Omega.{arith}
use Rattle.packed.proofs.Passing.{err_is}
use Rattle.containment.proofs.QueryLaws.{fair}
use Rattle.containment.proofs.AnswerLaws.{query_few}
use Rattle.answering.proofs.AnsweringLaws.{unloaded_answered, uncovered_answered, covered_answered}
use Rattle.answering.proofs.answering.answer_book.Goals as goal

pub returns-in_err-d : goal.returns-in_err-d
returns-in_err-d c = rw (err_is c.from_residual.result c.from_residual.ensures.1) (λ t v u g. unloaded_answered t v _ u g _ c.args.out.now c.in_err-d.field-0.0 (c.in_err-d.ensures v) refl)

pub overflow_cast-result : goal.overflow_cast-result
overflow_cast-result c = omega (arith, c.if-lowest-q.true, query_few c.requires.0)

pub returns-then-lowest-q : goal.returns-then-lowest-q
returns-then-lowest-q c = λ t v u g. uncovered_answered t v _ u g _ _ (c.in_ok-d.ensures v) c.requires.2 c.if-lowest-q.true

pub answer_pairs-requires : goal.answer_pairs-requires
answer_pairs-requires c = (fair c.requires.0, (c.in_ok-d.ensures c.requires.1).pairs)

pub returns : goal.returns
returns c = λ t v u g. covered_answered t v _ u g _ _ (c.in_ok-d.ensures v) c.requires.2 c.if-lowest-q.false c.answer_pairs.ensures

-- `answering::several::answer_book` meets its contract.
use mathlib.Core.Path.{refl}
use mathlib.Core.List.{[], ◌∷◌}
use lib.ListN.{length}
use native.Mathlib.Omega.{arith}
use Rattle.packed.proofs.Passing.{err_is}
use Rattle.packed.proofs.CallLaws.{refusal_answered}
use Rattle.containment.proofs.AnswerLaws.{views_few}
use Rattle.answering.proofs.SeveralLaws.{several_unloaded, several_uncovered, answerable, several_answered}
use Rattle.answering.proofs.several.answer_book.Goals as goal

pub returns-in_err-d : goal.returns-in_err-d
returns-in_err-d c =
    let a = c.args in
    rw (err_is c.from_residual.result c.from_residual.ensures.1) (λ q v m. refusal_answered (a.out.now ∷ []) (several_unloaded q v a.book.now (length a.out.now) (c.in_err-d.ensures v)) refl)

pub returns-in-Some : goal.returns-in-Some
returns-in-Some c =
    let a = c.args in
    λ q v m. refusal_answered (a.out.now ∷ []) (several_uncovered q v a.book.now (length a.out.now) (c.in_ok-d.ensures v) m c.in-Some.is) refl

pub number_in-sheets-requires : goal.number_in-sheets-requires
number_in-sheets-requires c = omega (arith, views_few c.requires.2.1.views)

pub answer_pairs-requires : goal.answer_pairs-requires
answer_pairs-requires c =
    (c.requires.1, answerable c.requires.2.0 c.requires.2.1 c.args.book.now (length c.args.out.now) (c.in_ok-d.ensures c.requires.2.1) c.requires.2.2)

pub returns : goal.returns
returns c =
    let a = c.args in
    λ q v m. let l = c.in_ok-d.ensures v in
    several_answered q v a.book.now (length a.out.now) l m c.in_default.is c.number_in-sheets.ensures.0 (c.answer_pairs.ensures (answerable q v a.book.now (length a.out.now) l m))

-- `answering::answering::load_book` meets its contract.
use mathlib.Core.Path.{ap, ◌∙◌}
use lib.ListN.{length, take}
use Rattle.packed.proofs.Passing.{err_is}
use Rattle.packed.specs.Formats.{book}
use Rattle.packed.proofs.CallLaws.{read_says, none_lent}
use Rattle.containment.proofs.AnswerLaws.{views_few}
use Rattle.answering.proofs.AnsweringLaws.{load_refused, load_many_pairs, load_done}
use Rattle.answering.proofs.answering.load_book.Goals as goal

pub accept_book-requires : goal.accept_book-requires
accept_book-requires c = views_few c.requires.0.views

pub returns-in_err-accept_book : goal.returns-in_err-accept_book
returns-in_err-accept_book c = rw (err_is c.from_residual.result c.from_residual.ensures.1) (λ v. load_refused v _ c.in_err-accept_book.field-0.0 c.in_err-accept_book.ensures)

pub gather_book-d-requires : goal.gather_book-d-requires
gather_book-d-requires c =
    let a = c.args in
    let r = c.in_ok-accept_book.ensures in (
      (read_says 65536 4 (book (take a.k a.counts)) a.book.now r.fields r.is).1,
      views_few c.requires.0.views,
      c.requires.0.small,
      ap length (none_lent a.work.now c.accept_book.new.words c.accept_book.auto.words) ∙ c.requires.1,
    )

pub returns-then-d-gt-PAIRS_MOST : goal.returns-then-d-gt-PAIRS_MOST
returns-then-d-gt-PAIRS_MOST c =
    let r = c.in_ok-accept_book.ensures in
    λ v. load_many_pairs v _ r c.gather_book-d.ensures c.if-d-gt-PAIRS_MOST.true

pub returns : goal.returns
returns c =
    let r = c.in_ok-accept_book.ensures in
    λ v. load_done v _ r c.gather_book-d.ensures c.if-d-gt-PAIRS_MOST.false

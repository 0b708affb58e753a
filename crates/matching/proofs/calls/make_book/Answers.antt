-- `matching::calls::make_book` meets its contract.
use mathlib.Core.Path.{refl, ◌∙◌}
use native.Mathlib.Omega.{arith}
use mathlib.Core.List.{[], ◌∷◌}
use lib.ListN.{length}
use Rattle.packed.proofs.Passing.{err_is}
use Rattle.packed.proofs.Accepted.{catalogue_read_lem}
use Rattle.packed.proofs.CallLaws.{refusal_answered}
use Rattle.matching.specs.Search.{book_for, make_book_outcome}
use Rattle.matching.proofs.OfferedLaws.{offered_on}
use Rattle.matching.proofs.BookLaws.{counted_by}
use Rattle.matching.proofs.calls.make_book.Goals as goal

pub returns-in_err-f : goal.returns-in_err-f
unfolding make_book_outcome
returns-in_err-f c =
    let accept-offer = c.accept_offer in
    let a = c.args in
    rw (err_is c.from_residual.result c.from_residual.ensures.1) (refusal_answered (a.out.now ∷ []) (c.in_err-f.ensures (λ o. book_for o a.«record».now (length a.out.now))) refl)

pub make_book_of-requires : goal.make_book_of-requires
make_book_of-requires c =
    let args = c.args in
    let pre = c.requires in
    let accept-offer = c.accept_offer in
    let q = c.in_ok-f.ensures in
    let d = (catalogue_read_lem args.catalogue.now q.fields).0 q.is in
    (accept-offer.auto.work ∙ pre, record { small = omega (arith, d.0); fields = q.fields; is = q.is; number = q.holds.number }, counted_by _ q.is q.holds)

pub returns : goal.returns
unfolding make_book_outcome
returns c =
    let accept-offer = c.accept_offer in
    let make-book-of = c.make_book_of in
    let a = c.args in
    let q = c.in_ok-f.ensures in
    rw (offered_on q (λ o. book_for o a.«record».now (length a.out.now))) (make-book-of.ensures q.fields q.is)

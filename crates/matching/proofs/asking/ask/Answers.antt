-- `matching::asking::ask` meets its contract.
use native.Mathlib.Omega.{arith}
use mathlib.Core.Path.{refl, ◌∙◌}
use mathlib.Core.List.{[]}
use Rattle.packed.proofs.Passing.{err_is}
use Rattle.packed.proofs.Accepted.{catalogue_read_lem}
use Rattle.packed.proofs.CallLaws.{refusal_answered}
use Rattle.matching.specs.Ask.{ask_of, ask_outcome}
use Rattle.matching.proofs.OfferedLaws.{offered_on}
use Rattle.matching.proofs.BookLaws.{counted_by}
use Rattle.matching.proofs.asking.ask.Goals as goal

pub returns-in_err-f : goal.returns-in_err-f
unfolding ask_outcome
returns-in_err-f c = rw (err_is c.from_residual.result c.from_residual.ensures.1) (refusal_answered [] (c.in_err-f.ensures (λ o. ask_of o c.args.«record».now c.args.state c.args.link)) refl)

pub ask_of-requires : goal.ask_of-requires
ask_of-requires c =
    let q = c.in_ok-f.ensures in
    let d = (catalogue_read_lem c.args.catalogue.now q.fields).0 q.is in
    (c.accept_offer.auto.work ∙ c.requires, record { small = omega (arith, d.0); fields = q.fields; is = q.is; number = q.holds.number }, counted_by _ q.is q.holds)

pub returns : goal.returns
unfolding ask_outcome
returns c =
    let q = c.in_ok-f.ensures in
    rw (offered_on q (λ o. ask_of o c.args.«record».now c.args.state c.args.link)) (c.ask_of.ensures q.fields q.is)

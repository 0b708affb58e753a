-- `containment::days::find_first_day` meets its contract.
use mathlib.Core.Path.{refl}
use mathlib.Core.List.{[]}
use Rattle.packed.proofs.Passing.{err_is}
use Rattle.matching.specs.Offered.{brings}
use Rattle.containment.specs.Terms.{quoted_on, first_day_for, first_day}
use Rattle.containment.proofs.AnswerLaws.{judged_refused, judged_on, handed_few}
use Rattle.containment.proofs.TermsLaws.{day_told, never_told}
use Rattle.containment.proofs.days.find_first_day.Goals as goal

pub returns-in_err-f : goal.returns-in_err-f
unfolding first_day
returns-in_err-f c =
    let a = c.args in
    rw (err_is c.from_residual.result c.from_residual.ensures.1) (judged_refused (quoted_on a.question.now (brings a.catalogue.now a.one_way) a.t a.day) (first_day_for a.t a.day) [] c.in_err-f.ensures refl)

pub earliest_of-d-requires : goal.earliest_of-d-requires
earliest_of-d-requires c =
    let few = handed_few c.in_ok-f.ensures in
    (few.1, few.0)

pub returns-then-d-lt-AFTER : goal.returns-then-d-lt-AFTER
unfolding first_day
returns-then-d-lt-AFTER c =
    let a = c.args in
    let h = c.in_ok-f.ensures in
    judged_on (quoted_on a.question.now (brings a.catalogue.now a.one_way) a.t a.day) (first_day_for a.t a.day) h.on (day_told h.query h.views _ h.table a.t a.day c.earliest_of-d.ensures c.if-d-lt-AFTER.true)

pub returns : goal.returns
unfolding first_day
returns c =
    let a = c.args in
    let h = c.in_ok-f.ensures in
    judged_on (quoted_on a.question.now (brings a.catalogue.now a.one_way) a.t a.day) (first_day_for a.t a.day) h.on (never_told h.query h.views _ h.table a.t a.day c.earliest_of-d.ensures c.if-d-lt-AFTER.false)

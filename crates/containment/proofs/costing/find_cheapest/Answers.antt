-- `containment::costing::find_cheapest` meets its contract.
use mathlib.Core.Path.{refl}
use mathlib.Core.List.{[]}
use Rattle.packed.proofs.Passing.{err_is}
use Rattle.matching.specs.Offered.{brings}
use Rattle.containment.specs.Cheapest.{cheapest_for}
use Rattle.containment.specs.Terms.{quoted_for}
use Rattle.containment.proofs.AnswerLaws.{judged_refused, judged_on, handed_few}
use Rattle.containment.proofs.CostingLaws.{wrong_charges, cheapest_given}
use Rattle.containment.proofs.costing.find_cheapest.Goals as goal

pub returns-in_err-f : goal.returns-in_err-f
returns-in_err-f c =
    let a = c.args in
    rw (err_is c.from_residual.result c.from_residual.ensures.1) (judged_refused (quoted_for a.day a.question.now (brings a.catalogue.now a.one_way)) (cheapest_for a.charges.now) [] c.in_err-f.ensures refl)

pub returns-then-number-f : goal.returns-then-number-f
returns-then-number-f c =
    let a = c.args in
    let h = c.in_ok-f.ensures in
    judged_on (quoted_for a.day a.question.now (brings a.catalogue.now a.one_way)) (cheapest_for a.charges.now) h.on (wrong_charges h.query h.views _ a.charges.now c.if-number-f.true refl)

pub cheapest_of-requires : goal.cheapest_of-requires
cheapest_of-requires c =
    let few = handed_few c.in_ok-f.ensures in
    (few.1, few.0, c.if-number-f.false, few.2)

pub returns : goal.returns
returns c =
    let a = c.args in
    let h = c.in_ok-f.ensures in
    judged_on (quoted_for a.day a.question.now (brings a.catalogue.now a.one_way)) (cheapest_for a.charges.now) h.on (cheapest_given h.query h.views _ a.charges.now h.table c.if-number-f.false c.cheapest_of.ensures)

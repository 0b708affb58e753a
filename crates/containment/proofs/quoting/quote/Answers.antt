-- `containment::quoting::quote` meets its contract.
use mathlib.Core.List.{[]}
use Rattle.matching.specs.Offered.{brings}
use Rattle.containment.specs.Quote.{quote_for}
use Rattle.containment.specs.Terms.{quoted_for}
use Rattle.containment.proofs.AnswerLaws.{judged_refused, judged_on, handed_few, quote_given}
use Rattle.containment.proofs.quoting.quote.Goals as goal

pub returns-in-Err : goal.returns-in-Err
returns-in-Err c =
    let a = c.args in
    judged_refused (quoted_for a.day a.question.now (brings a.catalogue.now a.one_way)) quote_for [] c.in-Err.ensures c.refused.ensures

pub quote_of-requires : goal.quote_of-requires
quote_of-requires c = handed_few c.in-Ok.ensures

pub returns-in-Ok : goal.returns-in-Ok
returns-in-Ok c =
    let a = c.args in
    let h = c.in-Ok.ensures in
    judged_on (quoted_for a.day a.question.now (brings a.catalogue.now a.one_way)) quote_for h.on (quote_given h.query h.views _ h.table c.quote_of.ensures)

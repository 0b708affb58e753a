-- `containment::cheapest_for` meets its contract.
use borrow.Author.Rules.{rules}
use mathlib.Core.Path.{refl}
use mathlib.Core.List.{[]}
use native.Mathlib.Omega.{arith}
use Rattle.packed.proofs.CallLaws.{small_settled, lent_settled}
use Rattle.matching.specs.Offered.{brings}
use Rattle.containment.specs.Cheapest.{cheapest_for}
use Rattle.containment.specs.Terms.{quoted_for}
use Rattle.containment.proofs.cheapest_for.Goals as goal

pub returns : goal.returns
returns c =
    let a = c.args in
    small_settled [] (quoted_for a.day a.question.now (brings a.catalogue.now a.one_way) (cheapest_for a.charges.now)) a.work.now [] (omega arith) refl

pub returns-2 : goal.returns-2
returns-2 c =
    let a = c.args in
    let k = c.find_cheapest in
    lent_settled [] (quoted_for a.day a.question.now (brings a.catalogue.now a.one_way) (cheapest_for a.charges.now)) a.work.now (omega arith) (rw c.from.ensures at k.ensures) k.new.work k.auto.work (search rules)

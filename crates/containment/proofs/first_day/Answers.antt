-- `containment::first_day` meets its contract.
use borrow.Author.Rules.{rules}
use mathlib.Core.Path.{refl}
use mathlib.Core.List.{[]}
use native.Mathlib.Omega.{arith}
use Rattle.packed.proofs.CallLaws.{small_settled, lent_settled}
use Rattle.matching.specs.Offered.{brings}
use Rattle.containment.specs.Terms.{first_day}
use Rattle.containment.proofs.first_day.Goals as goal

pub returns : goal.returns
returns c =
    let a = c.args in
    small_settled [] (first_day a.question.now (brings a.catalogue.now a.one_way) a.terms a.day) a.work.now [] (omega arith) refl

pub returns-2 : goal.returns-2
returns-2 c =
    let a = c.args in
    let k = c.find_first_day in
    lent_settled [] (first_day a.question.now (brings a.catalogue.now a.one_way) a.terms a.day) a.work.now (omega arith) (rw c.from.ensures at k.ensures) k.new.work k.auto.work (search rules)

-- `matching::ask` meets its contract.
use borrow.Author.Rules.{rules}
use mathlib.Core.Path.{refl}
use mathlib.Core.List.{[]}
use native.Mathlib.Omega.{arith}
use Rattle.packed.proofs.CallLaws.{small_settled, lent_settled}
use Rattle.matching.specs.Offered.{brings}
use Rattle.matching.specs.Ask.{ask_outcome}
use Rattle.matching.proofs.ask.Goals as goal

pub returns : goal.returns
returns c = small_settled [] (ask_outcome (brings c.args.catalogue.now c.args.one_way) c.args.«record».now c.args.state c.args.link) c.args.work.now [] (omega arith) refl

pub returns-2 : goal.returns-2
returns-2 c = lent_settled [] (ask_outcome (brings c.args.catalogue.now c.args.one_way) c.args.«record».now c.args.state c.args.link) c.args.work.now (omega arith) c.ask.ensures c.ask.new.work c.ask.auto.work (search rules)

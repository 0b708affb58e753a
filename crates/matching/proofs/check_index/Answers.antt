-- `matching::check_index` meets its contract.
use borrow.Author.Rules.{rules}
use mathlib.Core.Path.{refl}
use mathlib.Core.List.{[]}
use native.Mathlib.Omega.{arith}
use Rattle.packed.proofs.CallLaws.{small_settled, lent_settled}
use Rattle.matching.specs.Index.{check_index_outcome}
use Rattle.matching.proofs.check_index.Goals as goal

pub returns : goal.returns
returns c =
    let args = c.args in
    small_settled [] (check_index_outcome args.«record».now args.index.now) args.work.now [] (omega arith) refl

pub returns-2 : goal.returns-2
returns-2 c =
    let args = c.args in
    let check = c.check in
    lent_settled [] (check_index_outcome args.«record».now args.index.now) args.work.now (omega arith) check.ensures check.new.work check.auto.work (search rules)

-- `matching::make_index` meets its contract.
use borrow.Author.Rules.{rules}
use lib.ListN.{length}
use native.Mathlib.Omega.{arith}
use Rattle.packed.proofs.CallLaws.{settles_small, settles_lent}
use Rattle.matching.specs.Index.{make_index_outcome}
use Rattle.matching.proofs.make_index.Goals as goal

pub returns : goal.returns
returns c =
    let args = c.args in
    settles_small (make_index_outcome args.«record».now (length args.out.now)) args.out.now args.work.now (omega arith)

pub returns-2 : goal.returns-2
returns-2 c =
    let args = c.args in
    let make = c.make in
    settles_lent (make_index_outcome args.«record».now (length args.out.now)) args.out.now args.work.now make.new.work (omega arith) make.ensures make.auto.work (search rules)

-- `matching::search_indexed` meets its contract.
use borrow.Author.Rules.{rules}
use lib.ListN.{length}
use native.Mathlib.Omega.{arith}
use Rattle.packed.proofs.CallLaws.{settles_small, settles_lent}
use Rattle.matching.specs.Index.{search_indexed_outcome}
use Rattle.matching.proofs.search_indexed.Goals as goal

pub returns : goal.returns
returns c =
    let args = c.args in
    settles_small (search_indexed_outcome args.pattern.now args.«record».now args.index.now (length args.out.now)) args.out.now args.work.now (omega arith)

pub returns-2 : goal.returns-2
unfolding search_indexed_outcome
returns-2 c =
    let args = c.args in
    let at-search = c.search in
    settles_lent (search_indexed_outcome args.pattern.now args.«record».now args.index.now (length args.out.now)) args.out.now args.work.now at-search.new.work (omega arith) at-search.ensures at-search.auto.work (search rules)

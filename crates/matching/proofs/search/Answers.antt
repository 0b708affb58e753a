-- `matching::search` meets its contract.
use borrow.Author.Rules.{rules}
use lib.ListN.{length}
use native.Mathlib.Omega.{arith}
use Rattle.packed.proofs.CallLaws.{settles_small, settles_lent}
use Rattle.matching.specs.Search.{search_outcome}
use Rattle.matching.proofs.search.Goals as goal

pub returns : goal.returns
returns c =
    let a = c.args in
    settles_small (search_outcome a.pattern.now a.«record».now (length a.out.now)) a.out.now a.work.now (omega arith)

pub returns-2 : goal.returns-2
unfolding search_outcome
returns-2 c =
    let a = c.args in
    let k = c.search in
    settles_lent (search_outcome a.pattern.now a.«record».now (length a.out.now)) a.out.now a.work.now k.new.work (omega arith)
    k.ensures k.auto.work (search rules)

-- `matching::make_book` meets its contract.
use borrow.Author.Rules.{rules}
use lib.ListN.{length}
use native.Mathlib.Omega.{arith}
use Rattle.packed.proofs.CallLaws.{settles_small, settles_lent}
use Rattle.matching.specs.Offered.{brings}
use Rattle.matching.specs.Search.{make_book_outcome}
use Rattle.matching.proofs.make_book.Goals as goal

pub returns : goal.returns
returns c =
    let a = c.args in
    settles_small (make_book_outcome (brings a.catalogue.now a.one_way) a.«record».now (length a.out.now)) a.out.now a.work.now (omega arith)

pub returns-2 : goal.returns-2
returns-2 c =
    let a = c.args in
    let k = c.make_book in
    settles_lent (make_book_outcome (brings a.catalogue.now a.one_way) a.«record».now (length a.out.now)) a.out.now a.work.now k.new.work (omega arith)
    k.ensures k.auto.work (search rules)

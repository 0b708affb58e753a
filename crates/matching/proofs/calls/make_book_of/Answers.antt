-- `matching::calls::make_book_of` meets its contract.
use native.Mathlib.Omega.{arith}
use mathlib.Core.Path.{refl}
use lib.ListN.{length}
use Rattle.packed.proofs.Passing.{err_is}
use Rattle.packed.specs.Calls.{fit_file}
use Rattle.packed.proofs.CallLaws.{body_refused}
use Rattle.engine.specs.Simulation.{graph_of}
use Rattle.matching.specs.Search.{book_bytes, view_sheets}
use Rattle.matching.specs.Offered.{offers}
use Rattle.matching.proofs.BookLaws.{bookable_by}
use Rattle.matching.proofs.AnswerFits.{book_fulfilled}
use Rattle.matching.proofs.calls.make_book_of.Goals as goal

pub book_of-requires : goal.book_of-requires
book_of-requires c =
    let h = c.in_ok-n.ensures in
    bookable_by c.requires.1 c.requires.2 h.0 (omega (arith, h.1))

pub returns : goal.returns
returns c =
    let h = c.in_ok-n.ensures in
    λ cs e. book_fulfilled (offers cs c.args.one_way) h.1 h.0 (c.book_of.ensures cs e)

pub returns-in_err-n : goal.returns-in_err-n
returns-in_err-n c =
    let q = c.in_err-n.ensures in
    rw (err_is c.from_residual.result c.from_residual.ensures.1) (λ cs e. body_refused (λ rs. fit_file (length c.args.out.now) (book_bytes (view_sheets (offers cs c.args.one_way) (graph_of rs)))) c.args.out.now refl c.in_err-n.field-0.0 q)

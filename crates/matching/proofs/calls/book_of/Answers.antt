-- `matching::calls::book_of` meets its contract.
use native.Mathlib.Omega.{arith}
use mathlib.Core.Path.{◌≡◌, refl, ◌∙◌}
use lib.ListN.{length}
use Rattle.packed.specs.Matches.{sum_of}
use Rattle.packed.proofs.CallLaws.{over_file_no, fit_file_fits, fitted_tight, fitted_given}
use Rattle.engine.proofs.StartLaws.{room_blank}
use Rattle.matching.proofs.BatchLaws.{begins_first}
use Rattle.matching.proofs.BookLaws.{room_by, bookable_again, views_few, batch_range, none_given, sizes_most, size_is, later_sizes, later_book, first_room, later_fits, book_filled, sum_taken, sum_most}
use Rattle.matching.proofs.calls.book_of.Goals as goal
use Rattle.matching.proofs.calls.book_of.Goals.{After-total-size}

pub returns-then-k-eq0 : goal.returns-then-k-eq0
returns-then-k-eq0 c = none_given c.requires _ c.if-k-eq0.true _

pub fill-f-requires : goal.fill-f-requires
fill-f-requires c = (c.requires.views, c.requires.counted, omega (arith, c.if-k-eq0.false), begins_first _)

pub book_sizes-requires : goal.book_sizes-requires
book_sizes-requires c =
    let pre = c.requires in
    let v = c.fill-f.ensures in
    (pre, v.ahead, v.most, refl, room_blank 4096 _ pre.ready.nodes refl refl refl)

pub match_sizes-c-requires : goal.match_sizes-c-requires
match_sizes-c-requires c =
    let v = c.fill-f.ensures in
    let z = c.book_sizes.ensures in
    let b = bookable_again c.requires z.0.edges in
    (v.fair, b.ready, b.rises, z.1, batch_range c.requires v, z.0.long)

-- the first sizes together
sized : (c : After-total-size) → c.total-size.result ≡ sum_of c.args.k c.match_sizes-c.new.sizes
sized c = c.total-size.ensures ∙ sum_taken c.args.k _ (omega (arith, views_few c.requires, c.match_sizes-c.ensures.3.long, c.book_sizes.ensures.0.long))

pub total-size-requires : goal.total-size-requires
total-size-requires c =
    let q = c.match_sizes-c.ensures in
    let z = sum_most c.args.k _ (sizes_most c.requires c.fill-f.ensures c.book_sizes.ensures.0 q.0 q.2 q.3) in
    omega (arith, sum_taken c.args.k c.match_sizes-c.new.sizes (omega (arith, views_few c.requires, q.3.long, c.book_sizes.ensures.0.long)), z, views_few c.requires)

pub returns-then-out-size : goal.returns-then-out-size
returns-then-out-size c =
    let q = c.match_sizes-c.ensures in
    λ cs e. fitted_tight fit_file_fits c.args.out.now _ refl refl ((sized (goal.at.returns-then-out-size c).After-total-size) ∙ size_is c.requires c.fill-f.ensures c.book_sizes.ensures.0 q.0 q.2 q.3 cs e) c.if-out-size.true

pub write_sheets-at-requires : goal.write_sheets-at-requires
write_sheets-at-requires c =
    let q = c.match_sizes-c.ensures in
    let v = c.fill-f.ensures in
    let fits = room_by (sized (goal.at.write_sheets-at-requires c).After-total-size) (over_file_no (length c.args.out.now) _ c.if-out-size.false) in
    (q.0.marked, q.2, batch_range c.requires v, first_room c.requires v c.book_sizes.ensures.0 q.0 q.2 q.3 c.args.out.now fits)

pub write_book-requires : goal.write_book-requires
write_book-requires c =
    let q = c.match_sizes-c.ensures in
    let v = c.fill-f.ensures in
    let z = c.book_sizes.ensures.0 in
    let fits = room_by (sized (goal.at.write_book-requires c).After-total-size) (over_file_no (length c.args.out.now) _ c.if-out-size.false) in
    (later_book c.requires v z q.0 q.2 q.3, v.ahead, v.most, later_sizes c.requires v z q.0 q.2 q.3, later_fits c.requires v z q.0 q.2 q.3 c.args.out.now fits c.write_sheets-at.ensures, q.1)

pub returns : goal.returns
returns c =
    let q = c.match_sizes-c.ensures in
    let v = c.fill-f.ensures in
    let z = c.book_sizes.ensures.0 in
    let fits = room_by (sized (goal.at.returns c).After-total-size) (over_file_no (length c.args.out.now) _ c.if-out-size.false) in
    λ cs e. fitted_given fit_file_fits c.args.out.now _ refl refl ((sized (goal.at.returns c).After-total-size) ∙ size_is c.requires v z q.0 q.2 q.3 cs e) c.if-out-size.false (book_filled c.requires v z q.0 q.2 q.3 c.args.out.now fits c.write_sheets-at.ensures c.write_book.ensures e)

-- `listing::put_view` meets its contract.
use Rattle.containment.specs.Listing.{view_text}
use Rattle.listing.proofs.WrittenLaws.{written_then, written_none}
use Rattle.listing.proofs.lines.put_view.Goals as goal

pub returns-then-not-has : goal.returns-then-not-has
unfolding view_text
returns-then-not-has c = rw (← c.has.ensures, c.if-not-has.true) (written_none _ _)

pub returns : goal.returns
unfolding view_text
returns c = rw (← c.has.ensures, c.if-not-has.false) (written_then c.put-view.ensures c.put_number.ensures)

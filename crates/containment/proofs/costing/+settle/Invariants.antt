-- The measure is the number of views still undecided.
use Rattle.containment.proofs.costing.+settle.Given as goal

abbrev pub decreases-settle : goal.decreases-settle
decreases-settle l = l.u

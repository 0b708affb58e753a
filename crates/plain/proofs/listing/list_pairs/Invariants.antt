use Rattle.std.proofs.Common.{◌+◌, ◌*◌, ◌≤◌}
use Rattle.plain.proofs.listing.list_pairs.Given as goal

abbrev pub invariant-loop-i : goal.invariant-loop-i
invariant-loop-i l = (l.initial.out.at ≤ l.out.at) × (l.out.at ≤ l.initial.out.at + 2 * l.i)

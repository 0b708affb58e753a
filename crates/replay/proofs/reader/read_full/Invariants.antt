-- `replay::reader::read_full` is safe and ends, and meets its contract.
use Rattle.std.proofs.Common.{◌≡◌, ◌≤◌, length}
use Rattle.replay.proofs.reader.read_full.Given as goal

abbrev pub invariant-loop : goal.invariant-loop
invariant-loop g l = (length l.s ≡ length l.initial.s) × (l.done ≤ length l.s)

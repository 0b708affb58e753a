-- Some bytes were read, no more than the parts so far have.
use Rattle.std.proofs.Common.{◌*◌}
use Rattle.folder.specs.Reading.{state, Follows}
use Rattle.folder.proofs.numbers.take_parts.Given as goal

abbrev pub invariant-loop : goal.invariant-loop
invariant-loop g l = Follows (4096 * l.counter) (state l.initial.text l.initial.out) (state l.text l.out)

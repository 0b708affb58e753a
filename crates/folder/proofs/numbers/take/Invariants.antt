-- The bytes so far have been read, and the others are left.
use Rattle.std.proofs.Common.{◌≡◌, drop}
use Rattle.folder.specs.Reading.{state, steps}
use Rattle.folder.proofs.numbers.take.Given as goal

abbrev pub invariant-loop-byte : goal.invariant-loop-byte
invariant-loop-byte l = steps (state l.text l.out) (drop l.byte-index l.bytes) ≡ steps (state l.initial.text l.initial.out) l.bytes

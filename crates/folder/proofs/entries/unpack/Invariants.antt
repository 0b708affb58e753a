-- The entries so far are those of the bytes.
use Rattle.folder.specs.Entries.{entries_of}
use Rattle.folder.proofs.EntryLaws.{Written}
use Rattle.folder.proofs.entries.unpack.Given as goal

abbrev pub invariant-loop-i : goal.invariant-loop-i
invariant-loop-i l = Written 4098 (entries_of l.bytes) l.entries l.i

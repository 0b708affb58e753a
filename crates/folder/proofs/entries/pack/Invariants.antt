-- The bytes so far are those of the entries.
use Rattle.folder.specs.Entries.{entry_bytes}
use Rattle.folder.proofs.EntryLaws.{Written}
use Rattle.folder.proofs.entries.pack.Given as goal

abbrev pub invariant-loop-at : goal.invariant-loop-at
invariant-loop-at l = Written 8196 (entry_bytes l.entries) l.bytes l.at

-- `packed::old_record::read_edges` meets its contract. The loop: the edges read so far, with their ranks in the workspace.
use mathlib.Core.Path.{◌≡◌}
use mathlib.Core.List.{[]}
use Prim.Native.Nat.{◌+◌, ◌*◌, ◌-◌}
use lib.ListN.{length}
use Rattle.packed.specs.Formats.{edges}
use Rattle.packed.specs.OldRecord.{nothing}
use Rattle.packed.specs.OldLoading.{RanksAt}
use Rattle.packed.specs.declared.reply.File.TheVariants.{Record}
use Rattle.packed.proofs.OldLoadingLaws.{EdgesRead}
use Rattle.packed.proofs.old_record.read_edges.Given as goal

abbrev pub invariant-loop-k : goal.invariant-loop-k
invariant-loop-k l =
    (length l.words ≡ length l.initial.words)
    × EdgesRead (edges 12 0 l.nodes nothing l.number []) l.s l.start l.initial.words l.first Record l.nodes l.number l.initial.work l.words l.work l.at l.i l.k (l.number - l.k)
    × (l.at ≡ l.start + 24 * l.k)
    × RanksAt l.s l.start l.k l.initial.work l.work

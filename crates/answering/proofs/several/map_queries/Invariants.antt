-- `answering::several::map_queries` meets its contract.
use Prim.Native.Nat.{◌≤◌}
use mathlib.Core.Path.{◌≡◌}
use lib.ListN.{length}
use Rattle.containment.specs.Steps.{Views}
use Rattle.answering.specs.SeveralSteps.{Asked, asked_at, Mapped}
use Rattle.answering.proofs.SeveralLaws.{AskedFrom}
use Rattle.answering.proofs.several.map_queries.Given as goal

abbrev pub invariant-loop-i : goal.invariant-loop-i
invariant-loop-i l = (l.i ≤ l.number) × (length l.work ≡ length l.initial.work) × AskedFrom l.questions l.number l.i l.byte × ((a : Asked l.questions l.number) (v : Views l.catalogue l.k) → Mapped (asked_at a v l.one_way) l.i l.tables l.used l.needed l.lowest)

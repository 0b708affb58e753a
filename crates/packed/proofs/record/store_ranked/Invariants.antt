-- `packed::record::store_ranked` meets its contract.
use mathlib.Core.Path.{◌≡◌}
use mathlib.Core.List.{List}
use Prim.Native.Nat.{ℕ, ◌/◌, ◌%◌, ◌≤◌}
use lib.ListN.{length, take}
use lib.Seq.{sets}
use Rattle.packed.proofs.EdgePlaces.{threes}
use Rattle.packed.proofs.record.store_ranked.Given as goal

abbrev pub fields : List ℕ → List ℕ
fields l = threes (λ r. r / 8 / 4096) (λ r. r / 8 % 4096) (λ r. r % 8) l

abbrev pub invariant-loop-e : goal.invariant-loop-e
invariant-loop-e l = (l.e ≤ l.m) × (length l.out ≡ length l.initial.out) × (l.out ≡ sets l.initial.out l.at (fields (take l.e l.work)))

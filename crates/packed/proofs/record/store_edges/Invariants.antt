-- `packed::record::store_edges` meets its contract.
use mathlib.Core.Path.{◌≡◌}
use mathlib.Core.List.{List}
use Prim.Native.Nat.{ℕ, ◌/◌, ◌%◌, ◌^◌, ◌≤◌}
use lib.ListN.{length, take}
use lib.Seq.{sets}
use Rattle.packed.proofs.EdgePlaces.{threes}
use Rattle.packed.proofs.record.store_edges.Given as goal

abbrev pub fields : List ℕ → List ℕ
fields l = threes (λ c. c / 4096 % 4096) (λ c. c % 4096) (λ c. c / 2 ^ 24) l

abbrev pub invariant-loop-k : goal.invariant-loop-k
invariant-loop-k l = (l.k ≤ l.m) × (length l.out ≡ length l.initial.out) × (l.out ≡ sets l.initial.out l.at (fields (take l.k l.work)))

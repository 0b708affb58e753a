-- The edges of an old record in the workspace: loaded as they stand, and sorted.
use Prim.Native.Nat.{ℕ, zero, suc, ◌+◌, ◌-◌, ◌*◌, ◌<◌, ◌≤◌}
use mathlib.Core.Path.{◌≡◌, refl, sym, ap, ap₂, ◌∙◌}
use mathlib.Core.List.{List, [], ◌∷◌, ◌++◌}
use lib.ListN.{length, take, drop, get_or, set, length-append, length-set, get_or-append}
use lib.Seq.{sets, sets-eq, length-sets, take_at, length-take-le}
use native.Mathlib.Omega.{arith}
use native.Mathlib.Nat.{sub-zero}
use Rattle.packed.specs.Bits.{num, num_from, field}
use Rattle.packed.specs.Format.{ok, decode}
use Rattle.packed.specs.Formats.{rank}
use Rattle.packed.specs.Contents.{nodes_of, edges_of, from_ranks, distinct, ranks, sorted_edges}
use Rattle.packed.specs.Plain.{from_at, to_at, kind_at}
use Rattle.packed.specs.OldRecord.{old_record, read_old_record, sorted_fields, OldRecordFile}
use Rattle.packed.specs.Order.{Sorted}
use Rattle.packed.specs.Accepting.{reply_of, ContentTaken}
use Rattle.packed.specs.OldLoading.{RanksAt, RanksLoaded, Ordered, Orders}
use Rattle.packed.specs.Reading.{TwoValues, Judges}
use Rattle.packed.proofs.Accepted.{old_accepted}
use Rattle.packed.proofs.CallLaws.{read_says}
use Rattle.packed.proofs.Sets.{sets_front}
use Rattle.packed.proofs.DistinctAbsorb.{sorted_front}
use Rattle.packed.proofs.SortedEdges.{ranks_differ, ranks_length}
use Rattle.packed.proofs.GraphLaws.{Sited, sited_by, nodes_is, number_is, sited_number, sited_length, numbers_more, edges_few, loaded_at, loaded_front}
use Rattle.packed.specs.Parts.{Part}
use Rattle.std.specs.Prelude.{Ok, Err}

-- ---- as they are read
pub ranks_start : (s : List ℕ) (start : ℕ) (w : List ℕ) → RanksAt s start 0 w w
ranks_start s start w = record { long = refl; each = λ j h. absurd (omega arith) }

pub load_more : {s : List ℕ} {start k at nodes i a b c : ℕ} {w w' words words' : List ℕ} → k < length w → at ≡ start + 24 * k → TwoValues 12 nodes s at words i a b words'
    → c ≡ rank a b 0 → RanksAt s start k w w' → RanksAt s start (k + 1) w (set w' k c)
load_more {s} {start} {k} {c = c} {w' = w'} h z p is q =
    record {
      long = length-set w' k c ∙ q.long;
      each = numbers_more (λ j. rank (field s (start + 24 * j) 12) (field s (start + 24 * j + 12) 12) 0) k c w' q.each (omega (arith, q.long))
          (is ∙ ap₂ (λ (x y : ℕ). rank x y 0) p.first.is p.second.is ∙ ap (λ (j : ℕ). rank (field s j 12) (field s (j + 12) 12) 0) z);
    }

-- the same edges, with their place and number said otherwise
pub loaded_same : (s w : List ℕ) (p : Part) (k : ℕ) (w' : List ℕ) {start start' m m' : ℕ} → start ≡ start' → m ≡ m' → RanksLoaded s start m w p k w' → RanksLoaded s start' m' w p k w'
loaded_same s w p k w' e d c = rw (← e, ← d) c

-- a kind of no bits
kind_none : (s : List ℕ) (at : ℕ) → field s at 0 ≡ 0
unfolding field num num_from
kind_none s at = refl

-- ---- an accepted old record
module _ (s ws : List ℕ) (is : decode old_record s ≡ ok ws) where
  abbrev file : OldRecordFile s ws
  file = (old_accepted s ws).0 is

  abbrev pub old_sited : Sited 0 s ws
  old_sited = sited_by 0 s ws (λ nodes number es p. p.among) file

  -- ---- its edges, loaded and sorted
  module _ {w w₁ w₂ : List ℕ} (fits : 8192 ≤ length w) (c : RanksAt s (27 + 32 * field s 0 13) (field s 13 14) w w₁) (o : Sorted (field s 13 14) w₁ w₂) where
    fits₁ : 8192 ≤ length w₁
    fits₁ = omega (arith, c.long)

    each-edge : (j : ℕ) → j < field s 13 14
        → get_or w₁ j 0
        ≡ rank (field s (27 + 32 * field s 0 13 + 24 * j) 12) (field s (27 + 32 * field s 0 13 + 24 * j + 12) 12) (field s (27 + 32 * field s 0 13 + 24 * j + 24) 0)
    each-edge j h =
        c.each j h
        ∙ ap (rank (field s (27 + 32 * field s 0 13 + 24 * j) 12) (field s (27 + 32 * field s 0 13 + 24 * j + 12) 12)) (sym (kind_none s (27 + 32 * field s 0 13 + 24 * j + 24)))

    loaded-rank : (j : ℕ) → j < field s 13 14 → get_or w₁ j 0 ≡ rank (from_at old_sited.es j) (to_at old_sited.es j) (kind_at old_sited.es j)
    loaded-rank = loaded_at old_sited rank w₁ fits₁ each-edge

    loaded-differ : (i j : ℕ) → i < j → j < field s 13 14 → get_or w₁ i 0 ≡ get_or w₁ j 0 → ⊥
    loaded-differ i j p q e =
        let x = sited_number old_sited in
        let y = number_is old_sited in
        ranks_differ (omega arith) file.laid.most_nodes file.laid.edges i j p (omega arith) (sym (loaded-rank i (omega arith)) ∙ e ∙ loaded-rank j q)

    pub edges_ordered : Ordered (decode old_record s) w w₂
    edges_ordered =
        record {
          fields = ws;
          is = is;
          long = o.long ∙ c.long;
          front =
              ap (λ (k : ℕ). take k w₂) (sym (sited_number old_sited))
              ∙ sorted_front (field s 13 14) w₁ w₂ (omega (arith, fits₁, edges_few old_sited)) loaded-differ o
              ∙ ap distinct (loaded_front old_sited rank w₁ fits₁ each-edge);
        }

pub orders_by : (r : Part) (s words words' : List ℕ) (file : ℕ) {k : ℕ} {w w₁ w₂ : List ℕ} → Judges (decode old_record s) file r words words' → 8192 ≤ length w
    → (k ≡ field s 13 14) × RanksAt s (27 + 32 * field s 0 13) (field s 13 14) w w₁ → Sorted k w₁ w₂ → Orders (decode old_record s) (reply_of r) w w₂
orders_by (Ok (at, i)) s words words' file j fits c o = edges_ordered s j.fields j.is fits c.1 (rw c.0 at o)
orders_by (Err x) s words words' file j fits c o = tt

-- ---- its content with the edges ascending, in the words that it was read into
old_bounds : (s ws : List ℕ) → decode old_record s ≡ ok ws → (nodes_of ws ≤ 4096) × (edges_of ws ≤ 8192) × (length ws ≡ 2 + (nodes_of ws + 3 * edges_of ws))
old_bounds s ws is =
    let g = old_sited s ws is in
    (omega (arith, nodes_is g, g.most_nodes), omega (arith, number_is g, g.most_edges), sited_length g)

module _ (s ws : List ℕ) (is : decode old_record s ≡ ok ws) (zs words : List ℕ) (room : length zs ≡ 28674) (read : words ≡ sets zs 0 ws) where
  size : length ws ≡ 2 + (nodes_of ws + 3 * edges_of ws)
  size = (old_bounds s ws is).2

  fits : length ws ≤ length zs
  fits = omega (arith, size, (old_bounds s ws is).0, (old_bounds s ws is).1)

  words_are : words ≡ ws ++ drop (length ws) zs
  words_are = read ∙ sets_front zs ws fits

  old_nodes_at : get_or words 0 0 ≡ nodes_of ws
  old_nodes_at = ap (λ (l : List ℕ). get_or l 0 0) words_are ∙ get_or-append ws (drop (length ws) zs) 0 0 (omega (arith, size))

  old_edges_at : get_or words 1 0 ≡ edges_of ws
  old_edges_at = ap (λ (l : List ℕ). get_or l 1 0) words_are ∙ get_or-append ws (drop (length ws) zs) 0 1 (omega (arith, size))

  words_long : length words ≡ length zs
  words_long = ap length read ∙ length-sets zs 0 ws

  sorted_content : (work words' : List ℕ) → take (edges_of ws) work ≡ distinct (ranks (drop (2 + nodes_of ws) ws)) → edges_of ws ≤ length work
      → words' ≡ sets words (2 + get_or words 0 0) (from_ranks (take (get_or words 1 0) work)) → take (length ws) words' ≡ sorted_fields ws
  unfolding sorted_fields sorted_edges
  sorted_content work words' front few put =
      let k : ℕ = 2 + nodes_of ws in
      let es : List ℕ = from_ranks (distinct (ranks (drop k ws))) in
      let n : length es ≡ 3 * edges_of ws = ap (λ (l : List ℕ). length (from_ranks l)) (sym front) ∙ ranks_length (take (edges_of ws) work) ∙ ap (λ (i : ℕ). 3 * i) (length-take-le (edges_of ws) work few) in
      let t : take k words ≡ take k ws = ap (take k) words_are ∙ take-front k ws (drop (length ws) zs) (omega (arith, size)) in
      let l : length (take k ws) ≡ k = length-take-le k ws (omega (arith, size)) in
      let e : words' ≡ sets words k es =
      put ∙ ap₂ (λ (i j : ℕ). sets words (2 + i) (from_ranks (take j work))) old_nodes_at old_edges_at ∙ ap (λ (c : List ℕ). sets words k (from_ranks c)) front in
      ap (take (length ws)) (e ∙ sets-eq es words k (omega (arith, words_long, fits, size, n)) ∙ ap (λ (x : List ℕ). (x ++ es) ++ drop (k + length es) words) t)
      ∙ take_at (take k ws ++ es) (drop (k + length es) words) (length ws) (length-append (take k ws) es ∙ omega (arith, l, n, size))
    where
      take-front : (i : ℕ) (a b : List ℕ) → i ≤ length a → take i (a ++ b) ≡ take i a
      take-front zero a b h = refl
      take-front (suc i) [] b h = absurd (omega arith)
      take-front (suc i) (x ∷ a) b h = ap (λ (l : List ℕ). x ∷ l) (take-front i a b (omega arith))

-- of an old record that was accepted
module _ (s zs words work work' : List ℕ) (n : ℕ) (room : length zs ≡ 28674) (d : ContentTaken (read_old_record s) n zs words) (o : Ordered (decode old_record s) work work') where
  reads : decode old_record s ≡ ok d.fields
  reads = (read_says 40964 3 old_record s d.fields d.is).0

  pub old_sizes : (get_or words 0 0 ≤ 4096) × (get_or words 1 0 ≤ 8192) × (n ≡ 2 + get_or words 0 0 + 3 * get_or words 1 0)
  old_sizes =
      let b = old_bounds s d.fields reads in
      let x = old_nodes_at s d.fields reads zs words room d.front in
      let y = old_edges_at s d.fields reads zs words room d.front in
      (omega (arith, b.0), omega (arith, b.1), omega (arith, d.number, b.2))

  pub old_sorted : (words' : List ℕ) → edges_of d.fields ≤ length work' → words' ≡ sets words (2 + get_or words 0 0) (from_ranks (take (get_or words 1 0) work'))
      → take (n - 0) (drop 0 words') ≡ sorted_fields d.fields
  old_sorted words' few put =
      let z : o.fields ≡ d.fields = (let p = o.is in let q = reads in cc) in
      ap (λ (i : ℕ). take i words') (sub-zero n ∙ d.number)
      ∙ sorted_content s d.fields reads zs words room d.front work' words' (rw z at o.front) few put

  pub old_few : edges_of d.fields ≤ 8192
  old_few = (old_bounds s d.fields reads).1

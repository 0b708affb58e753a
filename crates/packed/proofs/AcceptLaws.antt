-- A pattern and a catalogue that were accepted, by value.
use Prim.Native.Nat.{ℕ, ◌+◌, ◌-◌, ◌*◌, ◌<◌, ◌≤◌}
use mathlib.Core.Path.{◌≡◌, refl, sym, ap, subst, ◌∙◌}
use mathlib.Core.List.{List, [], ◌∷◌}
use lib.ListN.{length, take, drop, get_or, set, replicate}
use native.Mathlib.Omega.{arith}
use native.Mathlib.Nat.{sub-zero}
use Rattle.packed.specs.Format.{Result, decode}
use Rattle.packed.specs.Formats.{pattern, catalogue}
use Rattle.packed.specs.Contents.{nodes_of, edges_of, pattern_size, patterns_in, views_of, edge_counts}
use Rattle.packed.specs.ByValue.{HoldsPattern, CountTable}
use Rattle.packed.specs.Reading.{Content}
use Rattle.packed.specs.Calls.{Verdict, accepted, read_pattern, read_catalogue}
use Rattle.packed.specs.Accepting.{Held, HoldsViews}
use Rattle.packed.specs.declared.by_value.Pattern.{Pattern}
use Rattle.packed.proofs.AcceptedBounds.{pattern_bounds, catalogue_bounds}
use Rattle.packed.proofs.ByValueLaws.{nothing_at}
use Rattle.packed.proofs.CallLaws.{Finds, read_finds, accepted_by, read_says, catalogue_by_fields, catalogue_empty, front_is, counts_are, counts_rest, counts_small}

-- the content stands in the words that it was read into
held_by : {H : List ℕ → Type 0} {v : Verdict} {r : Result ℕ} {file n : ℕ} {w w' : List ℕ} (c : Content r n w w') → n ≤ length w → Finds v file r → length w' ≡ length w
    → H c.fields → Held H v n w'
held_by {n = n} {w' = w'} c room f l h = record {
  fields = c.fields;
  is = accepted_by f c.is;
  fits = omega (arith, l);
  front = sym (ap (λ (m : ℕ). take m w') (sub-zero n)) ∙ front_is c room;
  holds = h;
}

-- what a pattern by value needs of it
pub pattern_fits : (s : List ℕ) {n : ℕ} {w w' : List ℕ} (c : Content (decode pattern s) n w w') → n ≤ length w
    → (nodes_of (take (n - 0) (drop 0 w')) ≤ 16) × (edges_of (take (n - 0) (drop 0 w')) ≤ 32)
    × (2 + (nodes_of (take (n - 0) (drop 0 w')) + 3 * edges_of (take (n - 0) (drop 0 w'))) ≤ length (take (n - 0) (drop 0 w')))
unfolding pattern_size
pattern_fits s c room = let b = pattern_bounds s c.fields c.is in rw (front_is c room) (b.1, b.3, omega (arith, b.4))

pub pattern_held : (s : List ℕ) {p : Pattern} {v : Verdict} {file n : ℕ} {w w' : List ℕ} (c : Content (decode pattern s) n w w') → n ≤ length w → Finds v file (decode pattern s)
    → length w' ≡ length w → HoldsPattern (take (n - 0) (drop 0 w')) p → Held (λ ws. HoldsPattern ws p) v n w'
pattern_held s {p = p} c room f l h = held_by c room f l (subst (λ ws. HoldsPattern ws p) (front_is c room) h)

pub pattern_few : (s : List ℕ) {p : Pattern} {n : ℕ} {w : List ℕ} (q : Held (λ ws. HoldsPattern ws p) (read_pattern s) n w) → p.edges ≤ 32
pattern_few s q = omega (arith, (pattern_bounds s q.fields (read_says 56 1 pattern s q.fields q.is).0).3, q.holds.edges)

-- the same of a catalogue's views
views_held : (s : List ℕ) {n k : ℕ} {w w' counts : List ℕ} (c : Content (decode catalogue s) n w w') → read_catalogue s ≡ accepted c.fields → n ≤ length w
    → k ≡ get_or (take (n - 0) (drop 0 w')) 0 0 → CountTable (take (n - 0) (drop 0 w')) counts → HoldsViews c.fields k counts
views_held s {k = k} c is room e m =
    let b = catalogue_bounds s c.fields is in
    let f = rw (front_is c room) at m in
    let g = rw (front_is c room) at e in
    record {
      number = g;
      few = omega (arith, g, b.0);
      are = counts_are f b.0 k b.1 g;
      rest = λ j h. counts_rest f b.0 b.1 j (omega (arith, g));
      small = counts_small f b.0 b.2;
    }

pub catalogue_held : (s : List ℕ) {file n k : ℕ} {w w' counts : List ℕ} (c : Content (decode catalogue s) n w w') → n ≤ length w
    → Finds (read_catalogue s) file (decode catalogue s) → length w' ≡ length w → k ≡ get_or (take (n - 0) (drop 0 w')) 0 0 → CountTable (take (n - 0) (drop 0 w')) counts
    → Held (λ cs. HoldsViews cs k counts) (read_catalogue s) n w'
catalogue_held s c room f l e m = held_by c room f l (views_held s c (accepted_by f c.is) room e m)

-- a catalogue that has a byte was judged by its fields
pub catalogue_finds : (s : List ℕ) → 0 < length s → length s ≤ 897 → Finds (read_catalogue s) 2 (decode catalogue s)
catalogue_finds s h l = record { is = catalogue_by_fields s h ∙ (read_finds 897 2 catalogue s l).is }

-- the empty one has the content 0
pub no_views_held : (s w : List ℕ) {counts : List ℕ} → length s ≡ 0 → 0 < length w → counts ≡ replicate 16 0 → Held (λ cs. HoldsViews cs 0 counts) (read_catalogue s) 1 (set w 0 0)
unfolding edge_counts views_of patterns_in
no_views_held s [] h some v = absurd (omega arith)
no_views_held s (x ∷ w) h some v =
    rw v (record {
      fields = 0 ∷ [];
      is = catalogue_empty s h;
      fits = omega arith;
      front = refl;
      holds = record { number = refl; few = omega arith; are = refl; rest = λ j _. nothing_at 16 j; small = λ j. omega (arith, nothing_at 16 j) };
    })

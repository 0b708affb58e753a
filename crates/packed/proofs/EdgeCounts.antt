-- The numbers of edges of the views of a catalogue, as they are counted one view at a time.
use Prim.Native.Nat.{ℕ, min, suc, ◌+◌, ◌-◌, ◌*◌, ◌<◌, ◌≤◌}
use mathlib.Core.Path.{◌≡◌, refl, ap, sym, ◌∙◌}
use mathlib.Core.List.{List, [], ◌∷◌, ◌++◌, append_assoc, append-nil, map}
use lib.ListN.{length, drop, get_or, set, replicate, length-append}
use lib.Seq.{set_at, get_or-take, get_or-drop, drop-drop}
use native.Mathlib.Omega.{arith}
use native.Mathlib.Nat.{add-zero}
use Rattle.packed.specs.Contents.{edges_of, pattern_size, patterns_in, views_of, edge_counts}
use Rattle.packed.specs.ByValue.{CountTable}

-- how many edges each of so many patterns has
unfoldable pub counts_in : ℕ → List ℕ → List ℕ
counts_in k ws = map edges_of (patterns_in k ws)

-- j of so many patterns are counted, those up to the word i, in a table of 16
pub record Counting (ws : List ℕ) (number : ℕ) (table : List ℕ) (i j : ℕ) : Type 0 where
  pub counts : List ℕ
  pub counted : length counts ≡ j
  pub is : table ≡ counts ++ replicate (16 - j) 0
  pub rest : counts_in number (drop 1 ws) ≡ counts ++ counts_in (number - j) (drop i ws)

-- the words of the pattern that starts at the word i
size_at : (ws : List ℕ) (i nodes edges : ℕ) → nodes ≡ get_or ws i 0 → edges ≡ get_or ws (i + 1) 0 → pattern_size (drop i ws) ≡ 2 + nodes + 3 * edges
unfolding pattern_size
size_at ws i nodes edges p q = omega (arith, get_or-drop i ws 0 0, get_or-drop i ws 1 0, ap (λ (k : ℕ). get_or ws k 0) (add-zero i))

size_some : (ws : List ℕ) → 1 < pattern_size ws
unfolding pattern_size
size_some ws = omega arith

next_count : (k : ℕ) (ws : List ℕ) → 0 < k → counts_in k ws ≡ get_or ws 1 0 ∷ counts_in (k - 1) (drop (pattern_size ws) ws)
unfolding counts_in patterns_in
next_count k ws h =
    let e : k ≡ suc (k - 1) = omega arith in
    ap (λ (n : ℕ). map edges_of (patterns_in n ws)) e
    ∙ ap (λ (n : ℕ). n ∷ map edges_of (patterns_in (k - 1) (drop (pattern_size ws) ws))) (get_or-take (pattern_size ws) ws 1 0 (size_some ws))

no_counts : (ws : List ℕ) → counts_in 0 ws ≡ []
unfolding counts_in patterns_in
no_counts ws = refl

pub counting_goes_on : (ws : List ℕ) (number : ℕ) (table : List ℕ) (i j nodes edges : ℕ) → j < 16 → j < number
    → nodes ≡ get_or ws i 0 → edges ≡ get_or ws (i + 1) 0 → Counting ws number table i j
    → Counting ws number (set table j edges) (i + (2 + nodes + 3 * edges)) (j + 1)
counting_goes_on ws number table i j nodes edges h g p q k =
    let c : List ℕ = k.counts in
    let t : List ℕ = replicate (16 - (j + 1)) 0 in
    let e : 16 - j ≡ suc (16 - (j + 1)) = omega arith in
    let m : number - j - 1 ≡ number - (j + 1) = omega arith in
    let n : get_or (drop i ws) 1 0 ≡ edges = get_or-drop i ws 1 0 ∙ sym q in
    let d : drop (pattern_size (drop i ws)) (drop i ws) ≡ drop (i + (2 + nodes + 3 * edges)) ws =
    drop-drop (pattern_size (drop i ws)) i ws ∙ ap (λ (z : ℕ). drop (i + z) ws) (size_at ws i nodes edges p q) in
    record {
      counts = c ++ (edges ∷ []);
      counted = omega (arith, length-append c (edges ∷ []), k.counted);
      is =
          ap (λ (l : List ℕ). set l j edges) (k.is ∙ ap (λ (z : ℕ). c ++ replicate z 0) e)
          ∙ set_at c 0 t edges j k.counted
          ∙ sym (append_assoc c (edges ∷ []) t);
      rest =
          k.rest
          ∙ ap (λ (l : List ℕ). c ++ l) (next_count (number - j) (drop i ws) (omega arith) ∙ rw (n, d, m))
          ∙ sym (append_assoc c (edges ∷ []) (counts_in (number - (j + 1)) (drop (i + (2 + nodes + 3 * edges)) ws)));
    }

pub counting_ends : (ws : List ℕ) (number : ℕ) (table : List ℕ) (i j : ℕ) → number ≡ get_or ws 0 0 → j ≤ number → min number 16 ≤ j
    → Counting ws number table i j → CountTable ws table
unfolding edge_counts views_of counts_in
counting_ends ws number table i j e h s k =
    record {
      is = λ l.
          let c : List ℕ = k.counts in
          let g : j ≡ get_or ws 0 0 = omega (arith, s, h, e, l) in
          let z : number - j ≡ 0 = omega arith in
          let d : counts_in number (drop 1 ws) ≡ c =
          k.rest ∙ ap (λ (n : ℕ). c ++ counts_in n (drop i ws)) z ∙ ap (λ (t : List ℕ). c ++ t) (no_counts (drop i ws)) ∙ append-nil c in
          k.is
          ∙ ap (λ (n : ℕ). c ++ replicate (16 - n) 0) g
          ∙ ap (λ (t : List ℕ). t ++ replicate (16 - get_or ws 0 0) 0) (sym d ∙ ap (λ (n : ℕ). counts_in n (drop 1 ws)) e);
    }

-- Edges: the tests on their fields, and the moves of a reader and of a writer over one edge.
use Prim.Native.Nat.{ℕ, suc, ◌+◌, ◌-◌, ◌*◌, ◌^◌, ◌<◌, ◌≤◌}
use mathlib.Core.Path.{◌≡◌, refl, ap, sym, ◌∙◌}
use mathlib.Core.List.{List, [], ◌∷◌, ◌++◌, append_assoc}
use mathlib.Core.Bool.{true, false, not, ◌&&◌, ◌||◌}
use lib.ListN.{length, get_or, take, drop, set, length-set, length-drop}
use lib.Seq.{drop-cons, drop-set-add, take-suc-set, take-add, drop-drop}
use lib.Dec.{eqb}
use native.Mathlib.Omega.{arith}
use native.Mathlib.Numerals.{add-one}
use Rattle.packed.specs.Format.{Format, ask, test}
use Rattle.packed.specs.Formats.{linked, is_end, all_ends, edges}
use Rattle.packed.specs.Reading.{Reading, Refuses, TwoValues, EdgeValues}
use Rattle.packed.specs.Writing.{Writing, Rejects, TwoPut, EdgePut}
use Rattle.packed.specs.declared.reply.Refusal.{Refusal}
use Rattle.packed.specs.Refusals.{file_number}
use Rattle.packed.specs.declared.reply.File.{File}
use Rattle.packed.specs.declared.reply.Refusal.TheVariants.{DuplicateEdge}
use Rattle.packed.proofs.ReadingLaws.{starts, left_is, same_at, reads, reads_none, refused, passes, fails}
use Rattle.packed.proofs.WritingLaws.{begins, left_to, same_to, writes, rejected, accepts, denies}

-- ---- the tests on the fields of edges

-- the first of what is left, and the first three
next : (l : List ℕ) (i : ℕ) → i < length l → drop i l ≡ get_or l i 0 ∷ drop (i + 1) l
next l i h = drop-cons l i 0 h ∙ ap (λ (n : ℕ). get_or l i 0 ∷ drop n l) (sym (add-one i))

three : (l : List ℕ) (i : ℕ) → i + 2 < length l → drop i l ≡ get_or l i 0 ∷ get_or l (i + 1) 0 ∷ get_or l (i + 2) 0 ∷ drop (i + 3) l
three l i h =
    let e : i + 1 + 1 ≡ i + 2 = omega arith in
    let f : i + 2 + 1 ≡ i + 3 = omega arith in
    next l i (omega arith)
    ∙ ap (λ (t : List ℕ). get_or l i 0 ∷ t) (
    next l (i + 1) (omega arith)
    ∙ ap (λ (n : ℕ). get_or l (i + 1) 0 ∷ drop n l) e
    ∙ ap (λ (t : List ℕ). get_or l (i + 1) 0 ∷ t) (next l (i + 2) h ∙ ap (λ (n : ℕ). get_or l (i + 2) 0 ∷ drop n l) f)
    )

module _ (x : ℕ) (l : List ℕ) (i : ℕ) where
  pub end_yes : i + 2 < length l → (eqb (get_or l i 0) x || eqb (get_or l (i + 1) 0) x) ≡ true → is_end x (drop i l) ≡ true
  unfolding is_end
  end_yes h e = rw (three l i h, e)

  pub end_no : i + 2 < length l → (eqb (get_or l i 0) x || eqb (get_or l (i + 1) 0) x) ≡ false → is_end x (drop i l) ≡ is_end x (drop (i + 3) l)
  unfolding is_end
  end_no h e = rw (three l i h, e)

end_short : (x : ℕ) (l : List ℕ) → length l ≤ 2 → is_end x l ≡ false
unfolding is_end
end_short x [] h = refl
end_short x (a ∷ []) h = refl
end_short x (a ∷ b ∷ []) h = refl
end_short x (a ∷ b ∷ k ∷ l) h = absurd (omega arith)

pub end_end : (x : ℕ) (l : List ℕ) (i : ℕ) → length l - i ≤ 2 → is_end x (drop i l) ≡ false
end_end x l i h = end_short x (drop i l) (omega (arith, length-drop i l))

pub all_none : (l : List ℕ) → all_ends 0 l ≡ true
unfolding all_ends
all_none l = refl

pub all_more : (n : ℕ) (l : List ℕ) → all_ends (n + 1) l ≡ all_ends n l && is_end n l
unfolding all_ends
all_more n l = rw (add-one n)

-- ---- the part of a list from f to i, as more is stored at i

module _ (w : List ℕ) (f i : ℕ) (le : f ≤ i) where
  part_snoc : (v : ℕ) → i < length w → take (i + 1 - f) (drop f (set w i v)) ≡ take (i - f) (drop f w) ++ (v ∷ [])
  part_snoc v h =
      let j : ℕ = i - f in
      let e : i ≡ f + j = omega arith in
      let k : i + 1 - f ≡ suc j = omega arith in
      ap (λ (n : ℕ). take n (drop f (set w i v))) k
      ∙ ap (λ (n : ℕ). take (suc j) (drop f (set w n v))) e
      ∙ ap (take (suc j)) (drop-set-add f w j v)
      ∙ take-suc-set (drop f w) j v (omega (arith, length-drop f w))

module _ {wide nodes : ℕ} {s : List ℕ} {at : ℕ} {w : List ℕ} {i a b k : ℕ} {w' : List ℕ} (p : EdgeValues wide nodes s at w i a b k w') (f : ℕ) (h : f ≤ i) where
  -- what stood before the edge, and the edge
  pub part_edge : i + 3 ≤ length w → take (i + 3 - f) (drop f w') ≡ take (i - f) (drop f w) ++ (a ∷ b ∷ k ∷ [])
  part_edge g =
      let t : List ℕ = take (i - f) (drop f w) in
      let e : i + 3 - f ≡ i + 2 + 1 - f = omega arith in
      let d : i + 2 - f ≡ i + 1 + 1 - f = omega arith in
      let m : length p.ends.between ≡ length w = ap length p.ends.first.stored ∙ length-set w i a in
      let n : length p.between ≡ length w = ap length p.ends.second.stored ∙ length-set p.ends.between (i + 1) b ∙ m in
      ap (λ (n : ℕ). take n (drop f w')) e
      ∙ ap (λ (l : List ℕ). take (i + 2 + 1 - f) (drop f l)) p.kind.stored
      ∙ part_snoc p.between f (i + 2) (omega arith) k (omega arith)
      ∙ ap (λ (l : List ℕ). l ++ (k ∷ [])) (
      ap (λ (n : ℕ). take n (drop f p.between)) d
      ∙ ap (λ (l : List ℕ). take (i + 1 + 1 - f) (drop f l)) p.ends.second.stored
      ∙ part_snoc p.ends.between f (i + 1) (omega arith) b (omega arith)
      ∙ ap (λ (l : List ℕ). l ++ (b ∷ [])) (ap (λ (l : List ℕ). take (i + 1 - f) (drop f l)) p.ends.first.stored ∙ part_snoc w f i h a (omega arith))
      ∙ append_assoc t (a ∷ []) (b ∷ [])
      )
      ∙ append_assoc t (a ∷ b ∷ []) (k ∷ [])

-- the same where the words are only looked at
pub words_edge : {wide nodes : ℕ} {ws : List ℕ} {i : ℕ} {o : List ℕ} {at a b k : ℕ} {o' : List ℕ} (p : EdgePut wide nodes ws i o at a b k o') (f : ℕ) → f ≤ i
    → take (i + 3 - f) (drop f ws) ≡ take (i - f) (drop f ws) ++ (a ∷ b ∷ k ∷ [])
words_edge {ws = ws} {i} {a = a} {b} {k} p f h =
    let j : ℕ = i - f in
    let e : i + 3 - f ≡ j + 3 = omega arith in
    let n : f + j ≡ i = omega arith in
    let d : drop (f + j) ws ≡ get_or ws i 0 ∷ get_or ws (i + 1) 0 ∷ get_or ws (i + 2) 0 ∷ drop (i + 3) ws = ap (λ (n : ℕ). drop n ws) n ∙ three ws i p.kind.there in
    ap (λ (n : ℕ). take n (drop f ws)) e
    ∙ take-add j 3 (drop f ws)
    ∙ ap (λ (l : List ℕ). take j (drop f ws) ++ take 3 l) (drop-drop j f ws ∙ d)
    ∙ rw (p.ends.first.is, p.ends.second.is, p.kind.is)

-- ---- one edge

pub edges_none : (w wide nodes : ℕ) (last : List ℕ → Format) (es : List ℕ) → edges w wide nodes last 0 es ≡ last es
unfolding edges
edges_none w wide nodes last es = refl

module _ (w wide nodes : ℕ) (last : List ℕ → Format) (left : ℕ) (es : List ℕ) where
  -- after the edge from a to b of the kind k
  abbrev pub after : ℕ → ℕ → ℕ → Format
  after a b k = test (not (linked a b k es)) 5 (edges w wide nodes last (left - 1) (es ++ (a ∷ b ∷ k ∷ [])))

  edges_some : 0 < left → edges w wide nodes last left es ≡ ask w 0 nodes 4 (λ a. ask w 0 nodes 4 (λ b. ask wide 0 (2 ^ wide) 3 (λ k. after a b k)))
  unfolding edges
  edges_some h =
      let e : left ≡ suc (left - 1) = omega arith in
      ap (λ (n : ℕ). edges w wide nodes last n es) e

-- a kind of 3 bits
module _ (w nodes : ℕ) (last : List ℕ → Format) (left : ℕ) (es : List ℕ) (h : 0 < left) where
  module _ {F : Format} {s : List ℕ} {at₀ : ℕ} {w₀ : List ℕ} {i₀ at : ℕ} {ws : List ℕ} {i : ℕ}
      (r : Reading F s at₀ w₀ i₀ (edges w 3 nodes last left es) at ws i) where
    -- up to the test that it stands once
    reads-fields : {a b k : ℕ} {ws' : List ℕ} → EdgeValues w nodes s at ws i a b k ws'
        → Reading F s at₀ w₀ i₀ (after w 3 nodes last left es a b k) (at + (2 * w + 3)) ws' (i + 3)
    reads-fields p =
        same_at (omega arith) (omega arith)
        (reads (same_at (omega arith) (omega arith) (reads (reads (left_is (edges_some w 3 nodes last left es h) r) p.ends.first) p.ends.second)) p.kind)

    pub reads_edge : {a b k : ℕ} {ws' : List ℕ} → EdgeValues w nodes s at ws i a b k ws' → linked a b k es ≡ false
        → Reading F s at₀ w₀ i₀ (edges w 3 nodes last (left - 1) (es ++ (a ∷ b ∷ k ∷ []))) (at + (2 * w + 3)) ws' (i + 3)
    reads_edge p e = passes (ap not e) (reads-fields p)

    pub reads_twice : {a b k : ℕ} {ws' : List ℕ} (file : File) → EdgeValues w nodes s at ws i a b k ws' → linked a b k es ≡ true
        → Refuses F s at₀ (file_number file) (DuplicateEdge file)
    reads_twice file p e = fails (DuplicateEdge file) (ap not e) refl (reads-fields p)

    pub edge_refused : {file : ℕ} {x : Refusal}
        → ((f : ℕ → ℕ → ℕ → Format) → Refuses (ask w 0 nodes 4 (λ a. ask w 0 nodes 4 (λ b. ask 3 0 8 3 (λ k. f a b k)))) s at file x)
        → Refuses F s at₀ file x
    edge_refused p = refused (left_is (edges_some w 3 nodes last left es h) r) (p (after w 3 nodes last left es))

  module _ {F : Format} {ws : List ℕ} {i₀ : ℕ} {b₀ : List ℕ} {at₀ i : ℕ} {o : List ℕ} {at : ℕ}
      (r : Writing F ws i₀ b₀ at₀ (edges w 3 nodes last left es) i o at) where
    writes-fields : {a b k : ℕ} {o' : List ℕ} → EdgePut w nodes ws i o at a b k o'
        → Writing F ws i₀ b₀ at₀ (after w 3 nodes last left es a b k) (i + 3) o' (at + (2 * w + 3))
    writes-fields p =
        same_to (omega arith) (omega arith)
        (writes (same_to (omega arith) (omega arith) (writes (writes (left_to (edges_some w 3 nodes last left es h) r) p.ends.first) p.ends.second)) p.kind)

    pub writes_edge : {a b k : ℕ} {o' : List ℕ} → EdgePut w nodes ws i o at a b k o' → linked a b k es ≡ false
        → Writing F ws i₀ b₀ at₀ (edges w 3 nodes last (left - 1) (es ++ (a ∷ b ∷ k ∷ []))) (i + 3) o' (at + (2 * w + 3))
    writes_edge p e = accepts (ap not e) (writes-fields p)

    pub writes_twice : {a b k : ℕ} {o' : List ℕ} (file : File) → EdgePut w nodes ws i o at a b k o' → linked a b k es ≡ true
        → Rejects F ws i₀ at₀ (file_number file) (DuplicateEdge file)
    writes_twice file p e = denies (DuplicateEdge file) (ap not e) refl (writes-fields p)

    pub edge_rejected : {file : ℕ} {x : Refusal}
        → ((f : ℕ → ℕ → ℕ → Format) → Rejects (ask w 0 nodes 4 (λ a. ask w 0 nodes 4 (λ b. ask 3 0 8 3 (λ k. f a b k)))) ws i at file x)
        → Rejects F ws i₀ at₀ file x
    edge_rejected p = rejected (left_to (edges_some w 3 nodes last left es h) r) (p (after w 3 nodes last left es))

-- the ends of an edge were read, or written, and its kind is refused
module _ {w nodes at i a b file : ℕ} {x : Refusal} where
  pub kind_refused : {s ws ws' : List ℕ} → at ≤ 8 * length s → TwoValues w nodes s at ws i a b ws' → ((f : ℕ → Format) → Refuses (ask 3 0 8 3 f) s (at + 2 * w) file x)
      → (f : ℕ → ℕ → ℕ → Format) → Refuses (ask w 0 nodes 4 (λ a. ask w 0 nodes 4 (λ b. ask 3 0 8 3 (λ k. f a b k)))) s at file x
  kind_refused h p q f = refused (same_at {at' = at + 2 * w} {i' = i + 2} (omega arith) (omega arith) (reads (reads (starts h) p.first) p.second)) (q (f a b))

  pub kind_rejected : {ws o o' : List ℕ} → i ≤ length ws → TwoPut w nodes ws i o at a b o' → ((f : ℕ → Format) → Rejects (ask 3 0 8 3 f) ws (i + 2) (at + 2 * w) file x)
      → (f : ℕ → ℕ → ℕ → Format) → Rejects (ask w 0 nodes 4 (λ a. ask w 0 nodes 4 (λ b. ask 3 0 8 3 (λ k. f a b k)))) ws i at file x
  kind_rejected h p q f = rejected (same_to {i' = i + 2} {at' = at + 2 * w} (omega arith) (omega arith) (writes (writes (begins h) p.first) p.second)) (q (f a b))

-- ---- an edge whose kind takes no bits and is 0

module _ (w nodes : ℕ) (last : List ℕ → Format) (left : ℕ) (es : List ℕ) (h : 0 < left) {F : Format} {s : List ℕ} {at₀ : ℕ} {w₀ : List ℕ} {i₀ at : ℕ} {ws : List ℕ} {i : ℕ}
    (r : Reading F s at₀ w₀ i₀ (edges w 0 nodes last left es) at ws i) where
  -- up to the test that it stands once
  pub reads_old : {a b : ℕ} {ws' : List ℕ} → 2 ≤ w → TwoValues w nodes s at ws i a b ws'
      → Reading F s at₀ w₀ i₀ (after w 0 nodes last left es a b 0) (at + 2 * w) (set ws' (i + 2) 0) (i + 3)
  reads_old g p =
      same_at refl (omega arith)
      (reads_none (omega (arith, g, r.paced))
      (same_at (omega arith) (omega arith) (reads (reads (left_is (edges_some w 0 nodes last left es h) r) p.first) p.second)))

  pub old_refused : {file : ℕ} {x : Refusal} → ((f : ℕ → ℕ → Format) → Refuses (ask w 0 nodes 4 (λ a. ask w 0 nodes 4 (λ b. f a b))) s at file x)
      → Refuses F s at₀ file x
  old_refused p = refused (left_is (edges_some w 0 nodes last left es h) r) (p (λ a b. ask 0 0 1 3 (λ k. after w 0 nodes last left es a b k)))

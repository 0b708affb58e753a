-- Accepted records by the places of their fields, and the words of their edges in the workspace.
use Prim.Native.Nat.{ℕ, zero, suc, ◌+◌, ◌-◌, ◌*◌, ◌/◌, ◌%◌, ◌^◌, ◌<◌, ◌≤◌}
use mathlib.Core.Path.{◌≡◌, refl, ap, ap₂, sym, ◌∙◌, subst}
use mathlib.Core.List.{List, [], ◌∷◌, ◌++◌, append_assoc}
use mathlib.Core.Bool.{Bool, false}
use mathlib.Core.Logic.{⊎_elim}
use lib.ListN.{length, take, drop, get_or, set, replicate, length-append, length-drop, length-set, take-append-drop, get_or-append}
use lib.Seq.{sets, sets-eq, take_at, drop_at, get_or-take, get_or-drop, get_or-set_same, get_or-set_other, length-take-le, ext_get_or}
use native.Mathlib.Omega.{arith}
use native.Mathlib.Nat.{mul-zero, mul-suc, lt_of_lt_of_le}
use Rattle.packed.specs.Bits.{bits_of, bits, field, gap}
use Rattle.packed.specs.Format.{ok, decode}
use Rattle.packed.specs.Formats.{record'}
use Rattle.packed.specs.Contents.{nodes_of, edges_of, edge_word, each_edge, edge_words, from_words}
use Rattle.packed.specs.Plain.{Whole, field_bits, Below, from_at, to_at, kind_at, edge_bits, EdgesAmong, PlainGraph}
use Rattle.packed.specs.LoadedGraph.{WordsAt, Holds, LabelsStored}
use Rattle.packed.proofs.BitsLaws.{length_bits_of, length-bits, num_bits_of_lt}
use Rattle.packed.proofs.OrderCases.{lt_or_ge, eq_or_ne}
use Rattle.packed.proofs.Sets.{sets_front}
use Rattle.packed.proofs.EdgePlaces.{from_cons, to_cons, kind_cons, among_tail, each_length, each_at, threes, threes_each}
use Rattle.packed.proofs.Accepted.{record_accepted}

-- ---- fields by their places in the bits
field_here : (s : List ℕ) (at w v : ℕ) (p q : List Bool) → bits s ≡ p ++ (bits_of w v ++ q) → length p ≡ at → v < 2 ^ w → field s at w ≡ v
unfolding field
field_here s at w v p q e l h =
    rw (e, drop_at p (bits_of w v ++ q) at l, take_at (bits_of w v) q w (length_bits_of w v)) (num_bits_of_lt w v h)

pub fields_length : (w : ℕ) (vs : List ℕ) → length (field_bits w vs) ≡ w * length vs
unfolding field_bits
fields_length w [] = sym (mul-zero w)
fields_length w (v ∷ vs) =
    length-append (bits_of w v) (field_bits w vs) ∙ omega (arith, length_bits_of w v, fields_length w vs, mul-suc w (length vs))

fields_here : (s : List ℕ) (w : ℕ) (vs : List ℕ) (at : ℕ) (p q : List Bool) → bits s ≡ p ++ (field_bits w vs ++ q) → length p ≡ at → Below (2 ^ w) vs
    → (j : ℕ) → j < length vs → field s (at + w * j) w ≡ get_or vs j 0
unfolding field_bits
fields_here s w [] at p q e l b j h = absurd (omega arith)
fields_here s w (v ∷ vs) at p q e l b zero h =
    field_here s (at + w * 0) w v p (field_bits w vs ++ q) (e ∙ ap (λ (t : List Bool). p ++ t) (append_assoc (bits_of w v) (field_bits w vs) q)) (omega arith) (b 0 (omega arith))
fields_here s w (v ∷ vs) at p q e l b (suc j) h =
    let n : length (p ++ bits_of w v) ≡ at + w = length-append p (bits_of w v) ∙ omega (arith, length_bits_of w v) in
    let z : at + w * suc j ≡ (at + w) + w * j = omega (arith, mul-suc w j) in
    ap (λ (i : ℕ). field s i w) z
    ∙ fields_here s w vs (at + w) (p ++ bits_of w v) q
    (e ∙ ap (λ (t : List Bool). p ++ t) (append_assoc (bits_of w v) (field_bits w vs) q) ∙ sym (append_assoc p (bits_of w v) (field_bits w vs ++ q)))
    n (λ i g. b (suc i) (omega arith)) j (omega arith)

-- ---- edges by their places in the bits: w for an end, and wide for a kind
module _ (w wide size : ℕ) (is : size ≡ w + w + wide) where
  pub edges_length : (m : ℕ) (es : List ℕ) → length es ≡ 3 * m → length (edge_bits w wide es) ≡ size * m
  unfolding edge_bits
  edges_length zero [] e = sym (mul-zero size)
  edges_length (suc m) [] e = absurd (omega arith)
  edges_length m (a ∷ []) e = absurd (omega arith)
  edges_length m (a ∷ b ∷ []) e = absurd (omega arith)
  edges_length zero (a ∷ b ∷ k ∷ es) e = absurd (omega arith)
  edges_length (suc m) (a ∷ b ∷ k ∷ es) e =
      let l : List Bool = edge_bits w wide es in
      let n : length l ≡ size * m = edges_length m es (omega arith) in
      length-append (bits_of w a) (bits_of w b ++ (bits_of wide k ++ l))
      ∙ omega (arith, length-append (bits_of w b) (bits_of wide k ++ l), length-append (bits_of wide k) l, length_bits_of w a, length_bits_of w b, length_bits_of wide k, mul-suc size m)

  -- the edge from a to b of the kind k stands at the bit offset at
  abbrev EdgeAt : List ℕ → ℕ → ℕ → ℕ → ℕ → Type 0
  EdgeAt s at a b k = (field s at w ≡ a) × (field s (at + w) w ≡ b) × (field s (at + (w + w)) wide ≡ k)

  edge_here : (s : List ℕ) (at a b k : ℕ) (p q : List Bool) → bits s ≡ p ++ (bits_of w a ++ (bits_of w b ++ (bits_of wide k ++ q))) → length p ≡ at
      → a < 2 ^ w → b < 2 ^ w → k < 2 ^ wide → EdgeAt s at a b k
  edge_here s at a b k p q e l x y z =
      let n : length (p ++ bits_of w a) ≡ at + w = length-append p (bits_of w a) ∙ omega (arith, length_bits_of w a) in
      let m : length ((p ++ bits_of w a) ++ bits_of w b) ≡ at + (w + w) = length-append (p ++ bits_of w a) (bits_of w b) ∙ omega (arith, length_bits_of w b) in (
        field_here s at w a p (bits_of w b ++ (bits_of wide k ++ q)) e l x,
        field_here s (at + w) w b (p ++ bits_of w a) (bits_of wide k ++ q) (e ∙ simp append_assoc) n y,
        field_here s (at + (w + w)) wide k ((p ++ bits_of w a) ++ bits_of w b) q (e ∙ simp append_assoc) m z,
      )

  edges_here : (s : List ℕ) (nodes m : ℕ) (es : List ℕ) (at : ℕ) (p q : List Bool) → bits s ≡ p ++ (edge_bits w wide es ++ q) → length p ≡ at
      → nodes ≤ 2 ^ w → EdgesAmong nodes (2 ^ wide) m es → (j : ℕ) → j < m → EdgeAt s (at + size * j) (from_at es j) (to_at es j) (kind_at es j)
  unfolding edge_bits
  edges_here s nodes m [] at p q e l f g j h = absurd (omega (arith, g.three_each))
  edges_here s nodes m (a ∷ []) at p q e l f g j h = absurd (omega (arith, g.three_each))
  edges_here s nodes m (a ∷ b ∷ []) at p q e l f g j h = absurd (omega (arith, g.three_each))
  edges_here s nodes zero (a ∷ b ∷ k ∷ es) at p q e l f g j h = absurd (omega arith)
  edges_here s nodes (suc m) (a ∷ b ∷ k ∷ es) at p q e l f g zero h =
      let z : at ≡ at + size * 0 = omega arith in
      subst (λ (i : ℕ). EdgeAt s i a b k) z
      (edge_here s at a b k p (edge_bits w wide es ++ q) (e ∙ simp append_assoc) l
      (lt_of_lt_of_le (g.from_node 0 (omega arith)) f) (lt_of_lt_of_le (g.to_node 0 (omega arith)) f) (g.is_kind 0 (omega arith)))
  edges_here s nodes (suc m) (a ∷ b ∷ k ∷ es) at p q e l f g (suc j) h =
      let c : List Bool = bits_of w a ++ (bits_of w b ++ bits_of wide k) in
      let o : length c ≡ size = length-append (bits_of w a) (bits_of w b ++ bits_of wide k) ∙ omega (arith, length-append (bits_of w b) (bits_of wide k), length_bits_of w a, length_bits_of w b, length_bits_of wide k) in
      let n : length (p ++ c) ≡ at + size = length-append p c ∙ omega arith in
      let z : at + size * suc j ≡ (at + size) + size * j = omega (arith, mul-suc size j) in
      rw (from_cons a b k es j, to_cons a b k es j, kind_cons a b k es j, z)
      (edges_here s nodes m es (at + size) (p ++ c) q (e ∙ simp append_assoc) n f (among_tail g) j (omega arith))

-- ---- the places of a record's fields, where a kind has wide bits
pub record Sited (wide : ℕ) (s ws : List ℕ) : Type 0 where
  pub nodes : ℕ
  pub number : ℕ
  pub labels : List ℕ
  pub es : List ℕ
  pub tail : List Bool
  pub content : ws ≡ nodes ∷ number ∷ (labels ++ es)
  pub spread : bits s ≡ bits_of 13 nodes ++ (bits_of 14 number ++ (field_bits 32 labels ++ (edge_bits 12 wide es ++ tail)))
  pub most_nodes : nodes ≤ 4096
  pub most_edges : number ≤ 8192
  pub labels_each : length labels ≡ nodes
  pub are_labels : Below (2 ^ 32) labels
  pub among : EdgesAmong nodes (2 ^ wide) number es

-- whatever else holds of its edges
abbrev pub sited_by : (wide : ℕ) {Edges : ℕ → ℕ → List ℕ → Type 0} (s ws : List ℕ)
    → ((nodes number : ℕ) (es : List ℕ) → Edges nodes number es → EdgesAmong nodes (2 ^ wide) number es) → Whole (PlainGraph wide Edges) ws (bits s) → Sited wide s ws
sited_by wide s ws basic q =
    let p = q.laid in
    let tail : List Bool = replicate (gap (length q.body)) false in
    record {
      nodes = p.nodes;
      number = p.number;
      labels = p.labels;
      es = p.es;
      tail = tail;
      content = p.content;
      spread = q.fills ∙ ap (λ (l : List Bool). l ++ tail) p.layout ∙ simp append_assoc;
      most_nodes = p.most_nodes;
      most_edges = p.most_edges;
      labels_each = p.labels_each;
      are_labels = p.are_labels;
      among = basic p.nodes p.number p.es p.edges;
    }

sited : (s ws : List ℕ) → decode record' s ≡ ok ws → Sited 3 s ws
sited s ws e = sited_by 3 s ws (λ nodes number es p. p.among) ((record_accepted s ws).0 e)

module _ {wide : ℕ} {s ws : List ℕ} (g : Sited wide s ws) where
  pub nodes_is : nodes_of ws ≡ g.nodes
  nodes_is = ap (λ (l : List ℕ). get_or l 0 0) g.content

  pub number_is : edges_of ws ≡ g.number
  number_is = ap (λ (l : List ℕ). get_or l 1 0) g.content

  abbrev front : List Bool
  front = bits_of 13 g.nodes ++ bits_of 14 g.number

  front_length : length front ≡ 27
  front_length = length-append (bits_of 13 g.nodes) (bits_of 14 g.number) ∙ omega (arith, length_bits_of 13 g.nodes, length_bits_of 14 g.number)

  from_labels : bits s ≡ front ++ (field_bits 32 g.labels ++ (edge_bits 12 wide g.es ++ g.tail))
  from_labels = g.spread ∙ simp append_assoc

  from_edges : bits s ≡ (front ++ field_bits 32 g.labels) ++ (edge_bits 12 wide g.es ++ g.tail)
  from_edges = g.spread ∙ simp append_assoc

  before_edges : length (front ++ field_bits 32 g.labels) ≡ 27 + 32 * g.nodes
  before_edges =
      length-append front (field_bits 32 g.labels) ∙ omega (arith, front_length, fields_length 32 g.labels, g.labels_each)

  sited_fits : 27 + 32 * nodes_of ws + (24 + wide) * edges_of ws ≤ 8 * length s
  sited_fits =
      let l = length-bits s in
      let a = ap length from_edges ∙ length-append (front ++ field_bits 32 g.labels) (edge_bits 12 wide g.es ++ g.tail) in
      let b = length-append (edge_bits 12 wide g.es) g.tail in
      let c = edges_length 12 wide (24 + wide) refl (edges_of ws) g.es (omega (arith, g.among.three_each, number_is)) in
      let d = before_edges in
      let x = nodes_is in
      omega arith

  pub sited_nodes : field s 0 13 ≡ nodes_of ws
  sited_nodes = field_here s 0 13 g.nodes [] _ g.spread refl (let h = g.most_nodes in omega arith) ∙ sym nodes_is

  pub sited_number : field s 13 14 ≡ edges_of ws
  sited_number =
      field_here s 13 14 g.number (bits_of 13 g.nodes) _ g.spread (length_bits_of 13 g.nodes) (let h = g.most_edges in omega arith) ∙ sym number_is

  pub edges_few : field s 13 14 ≤ 8192
  edges_few = omega (arith, sited_number, number_is, g.most_edges)

  sited_label : (v : ℕ) → v < nodes_of ws → field s (27 + 32 * v) 32 ≡ get_or ws (2 + v) 0
  sited_label v h =
      let k : v < length g.labels = omega (arith, nodes_is, g.labels_each) in
      let z : 2 + v ≡ suc (suc v) = omega arith in
      fields_here s 32 g.labels 27 front _ from_labels front_length g.are_labels v k
      ∙ sym (ap₂ (λ (l : List ℕ) (i : ℕ). get_or l i 0) g.content z ∙ get_or-append g.labels g.es 0 v k)

  sited_edges : drop (2 + nodes_of ws) ws ≡ g.es
  sited_edges =
      let z : 2 + nodes_of ws ≡ suc (suc g.nodes) = omega (arith, nodes_is) in
      ap₂ (λ (i : ℕ) (l : List ℕ). drop i l) z g.content ∙ drop_at g.labels g.es g.nodes g.labels_each

  sited_edge : (j : ℕ) → j < field s 13 14 → EdgeAt 12 wide (24 + wide) refl s (27 + 32 * field s 0 13 + (24 + wide) * j) (from_at g.es j) (to_at g.es j) (kind_at g.es j)
  sited_edge j h =
      edges_here 12 wide (24 + wide) refl s g.nodes g.number g.es (27 + 32 * field s 0 13) (front ++ field_bits 32 g.labels) g.tail from_edges
      (omega (arith, before_edges, nodes_is, sited_nodes)) g.most_nodes g.among j (omega (arith, sited_number, number_is))

  pub sited_length : length ws ≡ 2 + (nodes_of ws + 3 * edges_of ws)
  sited_length =
      ap length g.content ∙ omega (arith, length-append g.labels g.es, g.labels_each, g.among.three_each, nodes_is, number_is)

  sited_among : EdgesAmong (nodes_of ws) (2 ^ wide) (edges_of ws) (drop (2 + nodes_of ws) ws)
  sited_among = rw (sited_edges, nodes_is, number_is) g.among

-- ---- an accepted record
pub record_nodes_field : (s ws : List ℕ) → decode record' s ≡ ok ws → field s 0 13 ≡ nodes_of ws
record_nodes_field s ws e = sited_nodes (sited s ws e)

pub record_edges_field : (s ws : List ℕ) → decode record' s ≡ ok ws → field s 13 14 ≡ edges_of ws
record_edges_field s ws e = sited_number (sited s ws e)

pub labels_field : (s ws : List ℕ) → decode record' s ≡ ok ws → (v : ℕ) → v < nodes_of ws → field s (27 + 32 * v) 32 ≡ get_or ws (2 + v) 0
labels_field s ws e = sited_label (sited s ws e)

pub record_fits : (s ws : List ℕ) → decode record' s ≡ ok ws → 27 + 32 * nodes_of ws + 27 * edges_of ws ≤ 8 * length s
record_fits s ws e = sited_fits (sited s ws e)

pub record_bounds : (s ws : List ℕ) → decode record' s ≡ ok ws
    → (nodes_of ws ≤ 4096) × (edges_of ws ≤ 8192) × (length ws ≡ 2 + (nodes_of ws + 3 * edges_of ws)) × (27 + 32 * nodes_of ws ≤ 8 * length s)
record_bounds s ws e =
    let g = sited s ws e in
    let m = g.most_nodes in
    let n = g.most_edges in
    let x = nodes_is g in
    let y = number_is g in
    let f = record_fits s ws e in
    (omega arith, omega arith, sited_length g, omega arith)

pub record_among : (s ws : List ℕ) → decode record' s ≡ ok ws → EdgesAmong (nodes_of ws) 8 (edges_of ws) (drop (2 + nodes_of ws) ws)
record_among s ws e = sited_among (sited s ws e)

-- ---- numbers in the workspace, one more
pub numbers_more : (v : ℕ → ℕ) (k c : ℕ) (w : List ℕ) → ((j : ℕ) → j < k → get_or w j 0 ≡ v j) → k < length w → c ≡ v k
    → (j : ℕ) → j < k + 1 → get_or (set w k c) j 0 ≡ v j
numbers_more v k c w a h e j l =
    ⊎_elim
    (λ (p : j ≡ k). ap (λ (i : ℕ). get_or (set w k c) i 0) p ∙ get_or-set_same w k c 0 h ∙ e ∙ ap v (sym p))
    (λ (p : j ≡ k → ⊥). get_or-set_other w k j c 0 p ∙ a j (ne-lt p))
    (eq_or_ne j k)
  where
    ne-lt : (j ≡ k → ⊥) → j < k
    ne-lt p = ⊎_elim (λ (u : j < k). u) (λ (u : k ≤ j). absurd (p (omega arith))) (lt_or_ge j k)

-- ---- the words in the workspace, as they are loaded
pub words_start : (s : List ℕ) (start m : ℕ) (w : List ℕ) → WordsAt s start 0 m w w
words_start s start m w = record { long = refl; rest = λ j h. refl; each = λ j h. absurd (omega arith) }

pub words_more : {s : List ℕ} {start k m c : ℕ} {w w' : List ℕ} → WordsAt s start k m w w' → k < m → k < length w'
    → c ≡ edge_word (field s (start + 27 * k) 12) (field s (start + 27 * k + 12) 12) (field s (start + 27 * k + 24) 3) → WordsAt s start (k + 1) m w (set w' k c)
words_more {s} {start} {k} {m} {c} {w} {w'} a l h e =
    record {
      long = length-set w' k c ∙ a.long;
      rest = λ j q. get_or-set_other w' k j c 0 (λ p. omega arith) ∙ a.rest j q;
      each = numbers_more (λ j. edge_word (field s (start + 27 * j) 12) (field s (start + 27 * j + 12) 12) (field s (start + 27 * j + 24) 3)) k c w' a.each h e;
    }

-- ---- the edges of an accepted record, loaded: what f makes of each stands at the front of the workspace
module _ {wide : ℕ} {s ws : List ℕ} (g : Sited wide s ws) (f : ℕ → ℕ → ℕ → ℕ) (w : List ℕ) (fits : 8192 ≤ length w)
    (each : (j : ℕ) → j < field s 13 14 → get_or w j 0
    ≡ f (field s (27 + 32 * field s 0 13 + (24 + wide) * j) 12) (field s (27 + 32 * field s 0 13 + (24 + wide) * j + 12) 12) (field s (27 + 32 * field s 0 13 + (24 + wide) * j + 24) wide)) where
  abbrev m : ℕ
  m = field s 13 14

  pub loaded_at : (j : ℕ) → j < m → get_or w j 0 ≡ f (from_at g.es j) (to_at g.es j) (kind_at g.es j)
  loaded_at j h = let e = sited_edge g j h in each j h ∙ rw (e.0, e.1, e.2)

  edges_many : length (each_edge f g.es) ≡ m
  edges_many = each_length f m g.es (omega (arith, g.among.three_each, sited_number g, number_is g))

  pub loaded_front : take m w ≡ each_edge f (drop (2 + nodes_of ws) ws)
  loaded_front =
      let l : length (take m w) ≡ m = length-take-le m w (omega (arith, fits, edges_few g)) in
      let k = edges_many in
      ext_get_or 0 (take m w) (each_edge f g.es) (l ∙ sym k)
      (λ j h. let z : j < m = omega arith in
      get_or-take m w j 0 z ∙ loaded_at j z ∙ sym (each_at f g.es j (omega arith)))
      ∙ ap (each_edge f) (sym (sited_edges g))

pub holds_by : (s ws w : List ℕ) {n m : ℕ} {w' : List ℕ} → decode record' s ≡ ok ws → length w ≡ 16384 → WordsAt s (27 + 32 * field s 0 13) (field s 13 14) (field s 13 14) w w'
    → n ≡ field s 0 13 → m ≡ field s 13 14 → Holds s n m w'
holds_by s ws w {w' = w'} is long c en em =
    record {
      fields = ws;
      is = is;
      nodes = en ∙ record_nodes_field s ws is;
      edges = em ∙ record_edges_field s ws is;
      long = c.long ∙ long;
      front = ap (λ (k : ℕ). take k w') em ∙ loaded_front (sited s ws is) edge_word w' (omega (arith, c.long)) c.each;
    }

pub holds_bounds : {s : List ℕ} {n m : ℕ} {w : List ℕ} (h : Holds s n m w) → (n ≤ 4096) × (m ≤ 8192) × (27 + 32 * n ≤ 8 * length s) × (2 + n + 3 * m ≡ length h.fields)
holds_bounds {s} h =
    let b = record_bounds s h.fields h.is in
    let x = h.nodes in
    let y = h.edges in
    (omega (arith, b.0), omega (arith, b.1), omega (arith, b.3), omega (arith, b.2))

-- ---- its content, from the labels in its bytes and the words in the workspace
pub labels_more : {s : List ℕ} {v x : ℕ} {w w' : List ℕ} → LabelsStored s v w w' → 2 + v < length w' → x ≡ field s (27 + 32 * v) 32 → LabelsStored s (v + 1) w (set w' (2 + v) x)
labels_more {s} {v} {x} {w} {w'} a h e =
    record {
      around = record {
        long = length-set w' (2 + v) x ∙ a.around.long;
        low = λ k l. get_or-set_other w' (2 + v) k x 0 (λ p. omega arith) ∙ a.around.low k l;
        high = λ k l. get_or-set_other w' (2 + v) k x 0 (λ p. omega arith) ∙ a.around.high k (omega arith);
      };
      each = λ u l. ⊎_elim
          (λ (p : u < v). get_or-set_other w' (2 + v) (2 + u) x 0 (λ q. omega arith) ∙ a.each u p)
          (λ (p : v ≤ u).
          let z : u ≡ v = omega arith in
          ap (λ (i : ℕ). get_or (set w' (2 + v) x) (2 + i) 0) z ∙ get_or-set_same w' (2 + v) x 0 h ∙ e ∙ ap (λ (i : ℕ). field s (27 + 32 * i) 32) (sym z))
          (lt_or_ge u v);
    }

pub labels_end : {s : List ℕ} {n v : ℕ} {w w' : List ℕ} → v ≡ n → LabelsStored s v w w' → LabelsStored s n w w'
labels_end e a = rw (← e) a

-- after the two counts
pub labels_long : {s : List ℕ} {n : ℕ} (a b : ℕ) (out : List ℕ) {out' : List ℕ} → LabelsStored s n (set (set out 0 a) 1 b) out' → length out' ≡ length out
labels_long a b out l = l.around.long ∙ length-set (set out 0 a) 1 b ∙ length-set out 0 a

-- ---- fields from words
pub words_threes : (l : List ℕ) → from_words l ≡ threes (λ c. c / 4096 % 4096) (λ c. c % 4096) (λ c. c / 2 ^ 24) l
unfolding from_words threes
words_threes [] = refl
words_threes (c ∷ l) = ap (λ (t : List ℕ). c / 4096 % 4096 ∷ c % 4096 ∷ c / 2 ^ 24 ∷ t) (words_threes l)

pub words_back : {nodes : ℕ} (m : ℕ) (es : List ℕ) → nodes ≤ 4096 → EdgesAmong nodes 8 m es → from_words (edge_words es) ≡ es
words_back m es few g =
    words_threes (edge_words es)
    ∙ threes_each (λ c. c / 4096 % 4096) (λ c. c % 4096) (λ c. c / 2 ^ 24) edge_word (λ a b k x y z. (omega arith, omega arith, omega arith)) m es g

-- two counts, the labels and the edges: the whole content
module _ {s : List ℕ} {n m : ℕ} {w : List ℕ} (out : List ℕ) {out' : List ℕ} (h : Holds s n m w) (room : 2 + n + 3 * m ≤ length out) (a : LabelsStored s n (set (set out 0 n) 1 m) out') where
  abbrev ws : List ℕ
  ws = h.fields

  g : Sited 3 s ws
  g = sited s ws h.is

  long' : length out' ≡ length out
  long' = labels_long n m out a

  whole_length : length ws ≡ 2 + n + 3 * m
  whole_length = omega (arith, sited_length g, h.nodes, h.edges)

  content_at : (j : ℕ) → j < 2 + n → get_or out' j 0 ≡ get_or ws j 0
  content_at zero l = a.around.low 0 (omega arith) ∙ get_or-set_other (set out 0 n) 1 0 m 0 (λ p. omega arith) ∙ get_or-set_same out 0 n 0 (omega arith) ∙ h.nodes
  content_at (suc zero) l = a.around.low 1 (omega arith) ∙ get_or-set_same (set out 0 n) 1 m 0 (omega (arith, length-set out 0 n)) ∙ h.edges
  content_at (suc (suc j)) l =
      let z : suc (suc j) ≡ 2 + j = omega arith in
      let k : j < n = omega arith in
      ap (λ (i : ℕ). get_or out' i 0) z ∙ a.each j k ∙ sited_label g j (omega (arith, h.nodes)) ∙ ap (λ (i : ℕ). get_or ws i 0) (sym z)

  front_same : take (2 + n) out' ≡ take (2 + n) ws
  front_same =
      let p : length (take (2 + n) out') ≡ 2 + n = length-take-le (2 + n) out' (omega (arith, long')) in
      let q : length (take (2 + n) ws) ≡ 2 + n = length-take-le (2 + n) ws (omega (arith, whole_length)) in
      ext_get_or 0 (take (2 + n) out') (take (2 + n) ws) (p ∙ sym q)
      (λ j l. let k : j < 2 + n = omega arith in get_or-take (2 + n) out' j 0 k ∙ content_at j k ∙ sym (get_or-take (2 + n) ws j 0 k))

  edges_same : from_words (take m w) ≡ drop (2 + n) ws
  edges_same =
      let e : 2 + nodes_of ws ≡ 2 + n = omega (arith, h.nodes) in
      ap from_words h.front
      ∙ words_back (edges_of ws) (drop (2 + nodes_of ws) ws) (record_bounds s ws h.is).0 (record_among s ws h.is)
      ∙ ap (λ (i : ℕ). drop i ws) e

  tail_same : drop (2 + n + 3 * m) out' ≡ drop (2 + n + 3 * m) out
  tail_same =
      ext_get_or 0 (drop (2 + n + 3 * m) out') (drop (2 + n + 3 * m) out)
      (length-drop (2 + n + 3 * m) out' ∙ ap (λ (i : ℕ). i - (2 + n + 3 * m)) long' ∙ sym (length-drop (2 + n + 3 * m) out))
      (λ j l.
      get_or-drop (2 + n + 3 * m) out' j 0
      ∙ a.around.high (2 + n + 3 * m + j) (omega arith)
      ∙ get_or-set_other (set out 0 n) 1 (2 + n + 3 * m + j) m 0 (λ p. omega arith)
      ∙ get_or-set_other out 0 (2 + n + 3 * m + j) n 0 (λ p. omega arith)
      ∙ sym (get_or-drop (2 + n + 3 * m) out j 0))

  pub content_stored : sets out' (2 + n) (from_words (take m w)) ≡ sets out 0 ws
  content_stored =
      let k : length (drop (2 + n) ws) ≡ 3 * m = length-drop (2 + n) ws ∙ omega (arith, whole_length) in
      let z : 2 + n + length (drop (2 + n) ws) ≡ 2 + n + 3 * m = omega arith in
      ap (sets out' (2 + n)) edges_same
      ∙ sets-eq (drop (2 + n) ws) out' (2 + n) (omega (arith, long'))
      ∙ ap₂ (λ (x y : List ℕ). (x ++ drop (2 + n) ws) ++ y) front_same (ap (λ (i : ℕ). drop i out') z ∙ tail_same)
      ∙ ap₂ (λ (x : List ℕ) (i : ℕ). x ++ drop i out) (take-append-drop (2 + n) ws) (sym whole_length)
      ∙ sym (sets_front out ws (omega (arith, whole_length)))

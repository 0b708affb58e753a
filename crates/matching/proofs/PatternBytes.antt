-- A pattern's content and its bytes: those of a part of an accepted query are accepted, and mean the part.
use mathlib.Core.Path.{◌≡◌, refl, sym, ap, ap₂, subst, ◌∙◌}
use mathlib.Core.Logic.{◌⊎◌}
use mathlib.Core.Bool.{Bool}
use mathlib.Core.List.{List, [], ◌∷◌, ◌++◌}
use Prim.Native.Nat.{ℕ, zero, suc, ◌*◌, ◌≤◌, ◌<◌}
use native.Mathlib.Omega.{arith}
use lib.ListN.{length, get_or}
use lib.Dec.{T}
use Rattle.packed.specs.Bits.{bits_of}
use Rattle.packed.specs.Format.{ok, decode, encode}
use Rattle.packed.specs.Formats.{pattern}
use Rattle.packed.specs.Plain.{Below, field_bits, edge_bits, PlainPattern}
use Rattle.packed.specs.Calls.{accepted, read_pattern, bytes_in}
use Rattle.packed.proofs.OrderCases.{trichotomy}
use Rattle.packed.proofs.RoundTrip.{Bytes}
use Rattle.packed.proofs.AcceptedGraphs.{accepts_pattern}
use Rattle.packed.proofs.Accepted.{pattern_accepted, pattern_read_lem, written_accepted, plain_written}
use Rattle.packed.proofs.Most.{pattern_bytes_lem}
use Rattle.engine.specs.Lists.{In, keep, gather}
use Rattle.engine.specs.Simulation.{Edge, between, no_edge, Pattern, edges_in, pattern_of}
use Rattle.matching.specs.Part.{rank, at_places, touches, number, moved, part_of, edge_fields, pattern_fields, pattern_bytes}
use Rattle.engine.proofs.ListLaws.{in_at, in_length, in_keep, keep_length, length_each}
use Rattle.engine.proofs.MatchLaws.{SoundPattern, sound_say}
use Rattle.matching.proofs.EdgeLaws.{edge_at, edges_in-length, edges_in_at, at_edges_in, edge_at_lem}
use Rattle.matching.proofs.PatternLaws.{pattern_is, sound_of}
use Rattle.matching.proofs.PlaceLaws.{rank_apart, places_at, places_from}
use Rattle.matching.proofs.PartLaws.{touches_by, part_edge, part_sound, part_few, part_in, part_from}

-- ---- edges and their fields
pub fields_edges : (es : List Edge) → edges_in (edge_fields es) ≡ es
unfolding edge_fields gather edges_in
fields_edges [] = refl
fields_edges (e ∷ es) = ap (λ l. e ∷ l) (fields_edges es)

pub edges_fields : (fs : List ℕ) (m : ℕ) → length fs ≡ 3 * m → edge_fields (edges_in fs) ≡ fs
unfolding edge_fields gather edges_in
edges_fields [] m h = refl
edges_fields (a ∷ []) m h = absurd (omega arith)
edges_fields (a ∷ b ∷ []) m h = absurd (omega arith)
edges_fields (a ∷ b ∷ k ∷ fs) zero h = absurd (omega arith)
edges_fields (a ∷ b ∷ k ∷ fs) (suc m) h = ap (λ l. a ∷ b ∷ k ∷ l) (edges_fields fs m (omega arith))

pub fields_three : (es : List Edge) → length (edge_fields es) ≡ 3 * length es
unfolding edge_fields gather
fields_three [] = refl
fields_three (e ∷ es) = omega (arith, fields_three es)

pub fields_append : (es fs : List Edge) → edge_fields (es ++ fs) ≡ edge_fields es ++ edge_fields fs
unfolding edge_fields gather
fields_append [] fs = refl
fields_append (e ∷ es) fs = ap (λ l. e.from ∷ e.to ∷ e.kind ∷ l) (fields_append es fs)

-- ---- the rules of patterns, said of a pattern's lists
pub record WellFormed (P : Pattern) : Type 0 where
  pub few_nodes : length P.labels ≤ 16
  pub some_edges : 1 ≤ length P.edges
  pub few_edges : length P.edges ≤ 32
  pub sound : SoundPattern P
  pub are_labels : Below 32 P.labels
  pub are_kinds : (e : Edge) → In e P.edges → e.kind < 8
  pub differ : (i j : ℕ) → i < j → j < length P.edges → get_or P.edges i no_edge ≡ get_or P.edges j no_edge → ⊥

-- an accepted pattern keeps them
module _ {ws : List ℕ} {bs : List Bool} (q : PlainPattern ws bs) where
  three : length q.es ≡ 3 * q.number
  three = q.edges.among.three_each

  labels_are : (pattern_of ws).labels ≡ q.labels
  labels_are = ap (λ (P : Pattern). P.labels) (pattern_is q)

  edges_are : (pattern_of ws).edges ≡ edges_in q.es
  edges_are = ap (λ (P : Pattern). P.edges) (pattern_is q)

  number_is : length (pattern_of ws).edges ≡ q.number
  number_is = ap length edges_are ∙ edges_in-length q.es q.number three

  edge_is : (i : ℕ) → i < q.number → get_or (pattern_of ws).edges i no_edge ≡ edge_at q.es i
  edge_is i h = ap (λ l. get_or l i no_edge) edges_are ∙ edge_at_lem q.es q.number i three h

  pub formed_of : WellFormed (pattern_of ws)
  formed_of = record {
    few_nodes = omega (arith, ap length labels_are, q.label_each, q.most_nodes);
    some_edges = omega (arith, number_is, q.some_edges);
    few_edges = omega (arith, number_is, q.most_edges);
    sound = sound_say (pattern_of ws) (sound_of q);
    are_labels = rw labels_are q.are_labels;
    are_kinds = λ e i.
        let r = edges_in_at q.es q.number three (subst (λ l. In e l) edges_are i) in
        subst (λ (f : Edge). f.kind < 8) (sym r.holds) (q.edges.among.is_kind r.at r.below);
    differ = λ i j l k e.
        let h : edge_at q.es i ≡ edge_at q.es j = sym (edge_is i (omega (arith, number_is))) ∙ e ∙ edge_is j (omega (arith, number_is)) in
        q.edges.differ i j l (omega (arith, number_is)) (ap (λ (f : Edge). f.from) h, ap (λ (f : Edge). f.to) h, ap (λ (f : Edge). f.kind) h);
  }

  -- and its content is its own
  pub content_back : pattern_fields (pattern_of ws) ≡ ws
  unfolding pattern_fields
  content_back =
      ap₂ (λ (l : List ℕ) (es : List Edge). length l ∷ length es ∷ (l ++ edge_fields es)) labels_are edges_are
      ∙ ap (λ l. length q.labels ∷ length (edges_in q.es) ∷ (q.labels ++ l)) (edges_fields q.es q.number three)
      ∙ ap₂ (λ (n m : ℕ). n ∷ m ∷ (q.labels ++ q.es)) q.label_each (edges_in-length q.es q.number three)
      ∙ sym q.content

-- ---- a pattern that keeps them, as a file
pub record PatternFile (P : Pattern) : Type 0 where
  pub written : encode pattern (pattern_fields P) ≡ ok (pattern_bytes P)
  pub read : decode pattern (pattern_bytes P) ≡ ok (pattern_fields P)
  pub bytes : Bytes (pattern_bytes P)
  pub size : length (pattern_bytes P) ≤ 56

module _ (P : Pattern) (w : WellFormed P) where
  abbrev fs : List ℕ
  fs = edge_fields P.edges

  abbrev m : ℕ
  m = length P.edges

  edge_in : (i : ℕ) → i < m → In (edge_at fs i) P.edges
  edge_in i h = subst (λ l. In (edge_at fs i) l) (fields_edges P.edges) (at_edges_in fs m (fields_three P.edges) i h)

  number_at : (i : ℕ) → i < m → get_or P.edges i no_edge ≡ edge_at fs i
  number_at i h = ap (λ l. get_or l i no_edge) (sym (fields_edges P.edges)) ∙ edge_at_lem fs m i (fields_three P.edges) h

  abbrev body : List Bool
  body = bits_of 5 (length P.labels) ++ (bits_of 6 m ++ (field_bits 5 P.labels ++ edge_bits 4 3 fs))

  some_nodes : 1 ≤ length P.labels
  some_nodes = omega (arith, (w.sound.ends (edge_at fs 0) (edge_in 0 w.some_edges)).0)

  plain : PlainPattern (pattern_fields P) body
  unfolding pattern_fields
  plain = record {
    nodes = length P.labels;
    number = m;
    labels = P.labels;
    es = fs;
    content = refl;
    layout = refl;
    some_nodes = some_nodes;
    most_nodes = w.few_nodes;
    some_edges = w.some_edges;
    most_edges = w.few_edges;
    label_each = refl;
    are_labels = w.are_labels;
    edges = record {
      among = record {
        three_each = fields_three P.edges;
        from_node = λ i h. (w.sound.ends (edge_at fs i) (edge_in i h)).0;
        to_node = λ i h. (w.sound.ends (edge_at fs i) (edge_in i h)).1;
        is_kind = λ i h. w.are_kinds (edge_at fs i) (edge_in i h);
      };
      differ = λ i j l k e. w.differ i j l k (number_at i (omega arith) ∙ (λ z. between (e.0 z) (e.1 z) (e.2 z)) ∙ sym (number_at j k));
    };
    met = λ x h.
        let r = w.sound.touched x h in
        let o = edges_in_at fs m (fields_three P.edges) (subst (λ l. In r.0 l) (sym (fields_edges P.edges)) r.1) in
        (o.at, o.below, subst (λ (f : Edge). (f.from ≡ x) ⊎ (f.to ≡ x)) o.holds r.2);
  }

  pub formed_file : PatternFile P
  unfolding pattern_bytes
  formed_file =
      let s = plain_written pattern (accepts_pattern 0) (pattern_fields P) body plain in
      let e : encode pattern (pattern_fields P) ≡ ok (pattern_bytes P) = s.1 ∙ ap (λ r. ok (bytes_in r)) (sym s.1) in
      let r = (written_accepted pattern (pattern_fields P) (pattern_bytes P)).0 e in
      record { written = e; read = r.1; bytes = r.0; size = pattern_bytes_lem (pattern_fields P) (pattern_bytes P) e }

  pub formed_read : read_pattern (pattern_bytes P) ≡ accepted (pattern_fields P)
  formed_read =
      let f = formed_file in
      (pattern_read_lem (pattern_bytes P) (pattern_fields P)).1 (f.size, (pattern_accepted (pattern_bytes P) (pattern_fields P)).0 f.read)

  -- it means the pattern, where this has the rule of all patterns
  pub formed_means : (ws : List ℕ) → P.rule ≡ (pattern_of ws).rule → pattern_of (pattern_fields P) ≡ P
  unfolding pattern_of plain
  formed_means ws r = λ i. record {
    labels = labels_are plain i;
    edges = (edges_are plain ∙ fields_edges P.edges) i;
    rule = sym r i;
  }

-- ---- the part that some of its edges are
module _ (Q : Pattern) (w : WellFormed Q) (takes : Edge → Bool) where
  abbrev f : ℕ → ℕ
  f = number (keep takes Q.edges)

  -- different edges stay different
  moved_apart : (v v' : ℕ) → v < length Q.edges → v' < length Q.edges → T (takes (get_or Q.edges v no_edge)) → T (takes (get_or Q.edges v' no_edge))
      → moved f (get_or Q.edges v no_edge) ≡ moved f (get_or Q.edges v' no_edge) → get_or Q.edges v no_edge ≡ get_or Q.edges v' no_edge
  moved_apart v v' h h' t t' e =
      let t₁ = touches_by (in_keep takes (in_at Q.edges v no_edge h) t) in
      let t₂ = touches_by (in_keep takes (in_at Q.edges v' no_edge h') t') in
      let z : (a b : ℕ) → T (touches (keep takes Q.edges) a) → T (touches (keep takes Q.edges) b) → f a ≡ f b → a ≡ b = rank_apart (touches (keep takes Q.edges)) in
      let p = z _ _ t₁.0 t₂.0 (ap (λ (g : Edge). g.from) e) in
      let q = z _ _ t₁.1 t₂.1 (ap (λ (g : Edge). g.to) e) in
      λ i. between (p i) (q i) (e i).kind

  part_fewer : length (part_of takes Q).edges ≤ length Q.edges
  unfolding part_of
  part_fewer = omega (arith, length_each (moved f) (keep takes Q.edges), keep_length takes Q.edges)

  labels_small : Below 32 (part_of takes Q).labels
  unfolding part_of
  labels_small u h =
      let t = touches (keep takes Q.edges) in
      let c = places_from t Q.labels u h in
      let e : get_or (at_places t Q.labels) u 0 ≡ get_or Q.labels c.0 0 = ap (λ (j : ℕ). get_or (at_places t Q.labels) j 0) (sym c.3) ∙ places_at t Q.labels c.0 0 c.2 c.1 in
      rw e (w.are_labels c.0 c.1)

  pub part_formed : {e : Edge} → In e Q.edges → T (takes e) → WellFormed (part_of takes Q)
  part_formed i t = record {
    few_nodes = omega (arith, part_few Q w.sound takes, w.few_nodes);
    some_edges = in_length (part_in Q w.sound takes i t);
    few_edges = omega (arith, part_fewer, w.few_edges);
    sound = part_sound Q w.sound takes;
    are_labels = labels_small;
    are_kinds = λ h j. let o = part_from Q w.sound takes j in subst (λ (g : Edge). g.kind < 8) (sym o.3) (w.are_kinds o.0 o.1);
    differ = λ i j l k e.
        let a = part_edge Q w.sound takes i (omega arith) in
        let b = part_edge Q w.sound takes j k in
        let q = moved_apart a.0 b.0 a.1 b.1 a.2 b.2 (sym a.4 ∙ e ∙ b.4) in
        trichotomy a.0 b.0
        (λ h. w.differ a.0 b.0 h b.1 q)
        (λ h. absurd (omega (arith, sym a.3 ∙ ap (rank (λ v. takes (get_or Q.edges v no_edge))) h ∙ b.3)))
        (λ h. w.differ b.0 a.0 h a.1 (sym q));
  }

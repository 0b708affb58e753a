-- An accepted query by value: what its functions need of it, and the bytes of the record that it is written as.
use Prim.Native.Nat.{ℕ, ◌-◌, ◌<◌, ◌≤◌}
use mathlib.Core.Path.{◌≡◌, sym, ap, ◌∙◌}
use mathlib.Core.Bool.{Bool}
use mathlib.Core.Logic.{⊎_elim}
use mathlib.Core.List.{List}
use lib.ListN.{length, take, drop, get_or}
use lib.Seq.{sets}
use native.Mathlib.Omega.{arith}
use native.Mathlib.Nat.{sub-zero}
use borrow.Author.Tests.{lt-ltb, le-ltb}
use Rattle.packed.specs.Format.{ok, bad, encode}
use Rattle.packed.specs.Formats.{record'}
use Rattle.packed.specs.Contents.{edges_of}
use Rattle.packed.specs.Plain.{PlainPattern}
use Rattle.packed.specs.Reading.{Content}
use Rattle.packed.specs.declared.by_value.Pattern.{Pattern as Given}
use Rattle.packed.proofs.OrderCases.{lt_or_ge}
use Rattle.packed.proofs.Accepted.{pattern_accepted}
use Rattle.packed.specs.Calls.{record_bytes}
use Rattle.packed.proofs.MadeRecords.{Made}
use Rattle.engine.specs.Simulation.{no_edge, Pattern, pattern_of}
use Rattle.engine.specs.Loaded.{given_edge, pattern_in, Fair}
use Rattle.engine.proofs.UpToLaws.{length_up_to, get_d_up_to}
use Rattle.matching.proofs.PatternLaws.{edges_in_lem, fair_by, pattern_same}
use Rattle.containment.specs.Show.{graph_fields}
use Rattle.containment.specs.Steps.{Query, fields_but, HoldsFields, Graphed, shown_fields}
use Rattle.containment.specs.declared.query.Fields.{Fields}
use Rattle.containment.proofs.QueryGraph.{graph_made, fewer_made}
use Rattle.containment.proofs.FieldLaws.{fields_are}

module _ {p : Given} (t : Query p) where
  pub body : List Bool
  body = ((pattern_accepted t.bytes t.content).0 t.is).body

  pub plain : PlainPattern t.content body
  unfolding body
  plain = ((pattern_accepted t.bytes t.content).0 t.is).laid

  pub fair : Fair p
  fair = fair_by plain t.holds

  pub some_edges : 1 ≤ edges_of t.content
  some_edges = omega (arith, edges_in_lem plain, plain.some_edges)

  pub few_edges : edges_of t.content ≤ 32
  few_edges = omega (arith, edges_in_lem plain, plain.most_edges)

  -- its edges by value
  pub query_number : length (pattern_of t.content).edges ≡ p.edges
  unfolding pattern_in
  query_number = ap (λ (P : Pattern). length P.edges) (sym (pattern_same plain t.holds)) ∙ length_up_to (given_edge p) p.edges

  pub query_edge : (e : ℕ) → e < p.edges → get_or (pattern_of t.content).edges e no_edge ≡ given_edge p e
  unfolding pattern_in
  query_edge e l = ap (λ (P : Pattern). get_or P.edges e no_edge) (sym (pattern_same plain t.holds)) ∙ get_d_up_to (given_edge p) p.edges e no_edge l

  pub shown_whole : (skip : ℕ) → edges_of t.content ≤ skip → shown_fields t.content skip ≡ graph_fields t.content
  unfolding shown_fields
  shown_whole skip l = rw (le-ltb skip (edges_of t.content) l)

  pub shown_made : (skip : ℕ) → Made 176 (shown_fields t.content skip)
  unfolding shown_fields
  shown_made skip =
      ⊎_elim
      (λ (l : skip < edges_of t.content). rw (lt-ltb skip (edges_of t.content) l) (fewer_made plain skip (omega (arith, edges_in_lem plain))))
      (λ (l : edges_of t.content ≤ skip). rw (le-ltb skip (edges_of t.content) l) (graph_made plain))
      (lt_or_ge skip (edges_of t.content))

  -- what its writer was given
  module _ (skip : ℕ) {f : Fields} (h : HoldsFields (fields_but p skip) f) where
    abbrev words : List ℕ
    words = take (f.number - 0) (drop 0 f.words)

    encodes : encode record' words ≡ ok (record_bytes (shown_fields t.content skip))
    encodes =
        ap (encode record') (ap (λ (n : ℕ). take n f.words) (sub-zero f.number) ∙ h.front.is ∙ fields_are plain t.holds skip)
        ∙ (shown_made skip).is

    pub graphed : {n : ℕ} {out out' : List ℕ} → Content (encode record' words) n out out' → Graphed t.content skip n out out'
    graphed {out = out} c =
        let e = encodes in
        let q : c.fields ≡ record_bytes (shown_fields t.content skip) = cc c.is in
        record { number = c.number ∙ ap length q; front = c.front ∙ ap (sets out 0) q }

    pub not_refused : {A : Type 0} {n : ℕ} → encode record' words ≡ bad n → A
    not_refused e = absurd (let g = encodes in let z : ◌≡◌ {A = ℕ} 0 1 = cc in omega arith)

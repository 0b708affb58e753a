-- The answers of quoting and of showing, from what their parts found.
use Prim.Native.Nat.{ℕ, ◌<◌, ◌≤◌}
use mathlib.Core.Path.{◌≡◌, refl, sym, ap, subst, ◌∙◌}
use mathlib.Core.Bool.{true, false}
use mathlib.Core.List.{List, [], ◌∷◌}
use lib.ListN.{length, replicate}
use lib.Dec.{T}
use native.Mathlib.Omega.{arith}
use borrow.Author.Tests.{lt-ltb, le-ltb}
use Rattle.packed.specs.Format.{pick}
use Rattle.packed.specs.Formats.{pattern}
use Rattle.packed.specs.Contents.{edges_of}
use Rattle.packed.specs.ByValue.{HoldsPattern}
use Rattle.packed.specs.Accepting.{Held, HoldsViews}
use Rattle.packed.specs.Refusals.{Told, told, number_of, detail_of}
use Rattle.packed.specs.Calls.{Outcome, refuse, told_of, fronts, outputs_of, Fulfils, accepted, read_pattern, read_catalogue, record_bytes, fit_both}
use Rattle.packed.specs.declared.reply.Refusal.{Refusal}
use Rattle.packed.specs.Parts.{Reply}
use Rattle.packed.specs.declared.by_value.Pattern.{Pattern as Given}
use Rattle.packed.proofs.Accepted.{catalogue_read_lem}
use Rattle.packed.proofs.AcceptedBounds.{catalogue_views}
use Rattle.packed.proofs.CallLaws.{refusal_answered, read_says}
use Rattle.engine.specs.Lists.{In}
use Rattle.engine.specs.Simulation.{Pattern, pattern_of, sound}
use Rattle.matching.specs.Offered.{offers, view_patterns}
use Rattle.matching.proofs.OfferedLaws.{views_number, view_of_lem, view_sound}
use Rattle.containment.specs.Choice.{covers_in, columns_in, lowest_unmatched, chosen}
use Rattle.containment.specs.Quote.{blank, flat, Quoted, table_of, values_from, quote_values, quote_for, quote_told}
use Rattle.containment.specs.Show.{graph_fields, fewer_fields, show_for}
use Rattle.containment.specs.Steps.{Query, Views, ViewCounts, quoted_as, Handed, JudgedTo, shown_fields}
use Rattle.containment.specs.declared.judging.Judged.{Judged}
use Rattle.containment.specs.declared.quote_type.Coverage.TheVariants as coverage-is
use Rattle.containment.proofs.ChoiceLaws.{chosen_none, lowest_leaves, lowest_covers}
use Rattle.containment.proofs.MappingLaws.{mapping_length}
use Rattle.containment.proofs.QueryLaws.{few_edges}
use Rattle.containment.proofs.NotingLaws.{views_many as contents-many}
use Rattle.std.specs.Prelude.{Result, Ok, Err}

-- ---- what is judged

-- what the client brings was refused, and the refusal is handed up; or it was accepted, and the call goes on
module _ {none : List ℕ} {r : Told} (f : (Quoted → Outcome) → Outcome) (k : Quoted → Outcome) where
  pub judged_refused : (outs : List (List ℕ)) {n d : ℕ} → ((k : Quoted → Outcome) → f k ≡ refuse n d) → r ≡ told n (d ∷ none) → Fulfils none (f k) r outs outs
  judged_refused outs e q = refusal_answered outs (e k) q

  pub judged_on : {x : Quoted} {outs outs' : List (List ℕ)} → ((k : Quoted → Outcome) → f k ≡ k x) → Fulfils none (k x) r outs outs' → Fulfils none (f k) r outs outs'
  judged_on e b = rw (e k) b

-- what holds of one way of judging holds of another that agrees with it
pub judged_by : {f g : (Quoted → Outcome) → Outcome} → ((k : Quoted → Outcome) → f k ≡ g k) → (r : Result Judged Refusal) → JudgedTo g r → JudgedTo f r
judged_by e (Ok r) h = record { query = h.query; views = h.views; on = λ k. e k ∙ h.on k; table = h.table }
judged_by e (Err x) h = λ k. e k ∙ h k

-- ---- what a quote tells

pub refused_told : (x : Refusal) (t : List ℕ) → t ≡ replicate 512 0
    → quote_told (record { coverage = Err x; mapping = t; edges = 0; chosen = 0; lowest = 0 }) ≡ told (number_of x) (detail_of x ∷ blank)
unfolding quote_told
refused_told x t e = rw e

module _ (t : List ℕ) (set m k : ℕ) {masks : List ℕ} (shown : masks ≡ columns_in set t) where
  pub covered_told : (c : ℕ) → covers_in t set k m ≡ true → c ≡ chosen t set m k
      → quote_told (record { coverage = Ok coverage-is.Covered; mapping = masks; edges = m; chosen = c; lowest = 0 }) ≡ told 0 (flat (values_from t set m k))
  unfolding quote_told values_from
  covered_told c h e = rw (h, e, shown)

  pub uncovered_told : (e : ℕ) → covers_in t set k m ≡ false → e ≡ lowest_unmatched t set k m
      → quote_told (record { coverage = Ok coverage-is.Uncovered; mapping = masks; edges = m; chosen = 0; lowest = e }) ≡ told 0 (flat (values_from t set m k))
  unfolding quote_told values_from
  uncovered_told e h q = rw (h, q, chosen_none t set m k h, shown)

-- ---- an accepted query and accepted views

-- a pattern that was accepted, by value
abbrev pub query_by : (s : List ℕ) {q : Given} {n : ℕ} {w : List ℕ} → Held (λ ws. HoldsPattern ws q) (read_pattern s) n w → Query q
query_by s h = record { bytes = s; content = h.fields; is = (read_says 56 1 pattern s h.fields h.is).0; holds = h.holds }

pub query_few : {q : Given} → Query q → q.edges ≤ 32
query_few t = let h = few_edges t in omega (arith, t.holds.edges)

-- the views of a catalogue that was accepted
module _ (s : List ℕ) {cs : List ℕ} (is : read_catalogue s ≡ accepted cs) where
  pub views_small : length s ≤ 897
  views_small = ((catalogue_read_lem s cs).0 is).0

  module _ {k : ℕ} {counts : List ℕ} (h : HoldsViews cs k counts) where
    abbrev pub views_by : Views s k
    views_by = record { content = cs; is = is; number = h.number }

    -- with the numbers of their edges, and a set of those that are matched one-way
    abbrev pub counts_by : ℕ → ViewCounts counts k
    counts_by one = record { bytes = s; views = views_by; one_way = one; are = h.are; small = h.small }

module _ {s : List ℕ} {k : ℕ} (v : Views s k) where
  pub views_few : k ≤ 16
  views_few = let q = (catalogue_views s v.content v.is).most in omega (arith, v.number)

  -- by whatever rule each is matched
  module _ (one : ℕ) where
    pub views_many : length (view_patterns (offers v.content one)) ≡ k
    views_many = views_number (offers v.content one) ∙ contents-many v

    -- each of them is sound
    pub views_sound : (P : Pattern) → In P (view_patterns (offers v.content one)) → T (sound P)
    views_sound P i = let o = view_of_lem (offers v.content one) i in rw o.holds (view_sound s v.content v.is o.at o.below one)

-- what is handed on is small
pub handed_few : {f : (Quoted → Outcome) → Outcome} {r : Judged} → Handed f r → (r.query.edges ≤ 32) × (r.views ≤ 16) × (length r.table ≡ 512)
handed_few {f} {r} h =
    let Ps = view_patterns (offers h.views.views.content h.views.one_way) in
    (query_few h.query, views_few h.views.views, ap length h.table ∙ mapping_length (pattern_of h.query.content) Ps)

module _ {q : Given} (t : Query q) {counts : List ℕ} {k : ℕ} (v : ViewCounts counts k) (usable : ℕ) {table : List ℕ} (e : table ≡ table_of (quoted_as t v usable)) where
  pub quote_given : {r : Told} → r ≡ told 0 (flat (values_from table usable q.edges k)) → Fulfils blank (quote_for (quoted_as t v usable)) r [] []
  unfolding quote_for quote_values told_of outputs_of fronts
  quote_given h = record { result = rw (← t.holds.edges, views_many v.views v.one_way) (rw e at h); outputs = refl }

  module _ (room room' : ℕ) where
    show_by : show_for room room' (quoted_as t v usable)
        ≡ pick (covers_in table usable k q.edges) (refuse 13 0)
        (fit_both room room' (record_bytes (graph_fields t.content)) (record_bytes (fewer_fields t.content (lowest_unmatched table usable k q.edges))))
    unfolding show_for
    show_by = rw (e, views_many v.views v.one_way, ← t.holds.edges)

    module _ {r : Told} {n : ℕ} (is : n ≡ lowest_unmatched table usable k q.edges) where
      pub show_covered : (outs : List (List ℕ)) → q.edges ≤ n → r ≡ told 13 (0 ∷ []) → Fulfils [] (show_for room room' (quoted_as t v usable)) r outs outs
      show_covered outs h g = refusal_answered outs (show_by ∙ rw (lowest_covers table usable k q.edges is h)) g

      pub show_uncovered : {outs outs' : List (List ℕ)} → n < q.edges
          → Fulfils [] (fit_both room room' (record_bytes (shown_fields t.content 32)) (record_bytes (shown_fields t.content n))) r outs outs'
          → Fulfils [] (show_for room room' (quoted_as t v usable)) r outs outs'
      unfolding shown_fields
      show_uncovered {outs} {outs'} h b =
          let x = le-ltb 32 (edges_of t.content) (few_edges t) in
          let y = lt-ltb n (edges_of t.content) (omega (arith, t.holds.edges)) in
          let d : show_for room room' (quoted_as t v usable) ≡ fit_both room room' (record_bytes (graph_fields t.content)) (record_bytes (fewer_fields t.content n)) =
          show_by ∙ rw (lowest_leaves table usable k q.edges is h, is) in
          subst (λ a. Fulfils [] a r outs outs') (sym d) (rw (x, y) at b)

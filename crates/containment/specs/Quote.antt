-- What a quote answers: which edges of each view match each edge of the query, whether the query is covered, and the chosen views.
use Rattle.std.specs.Prelude.{ℕ, ◌+◌, ◌*◌, ◌/◌, ◌%◌, List, [], ◌∷◌, ◌++◌, Bool, ◌&&◌, length, get_or, replicate, ltb, Result, Ok, Err}
use Rattle.packed.specs.declared.reply.Refusal.{Refusal}
pub use Rattle.packed.specs.Bits.{one}
use Rattle.packed.specs.Format.{pick}
use Rattle.packed.specs.Contents.{edges_of}
use Rattle.packed.specs.Refusals.{Told, told, number_of, detail_of}
use Rattle.packed.specs.Calls.{Outcome, give, judged, read_pattern}
use Rattle.engine.specs.Simulation.{Edge, no_edge, both_ways, Pattern, bit, pattern_of, as_graph, view_sheet}
use Rattle.engine.specs.Lists.{up_to}
use Rattle.matching.specs.Join.{is_match}
use Rattle.matching.specs.Offered.{Brought, Offered, view_patterns, offered}
use Rattle.containment.specs.Choice.{every_view, covers_in, columns_in, lowest_unmatched, chosen, used}
use Rattle.containment.specs.declared.quote_type.Coverage.{Coverage}
use Rattle.containment.specs.declared.quote_type.Coverage.TheVariants as coverage-is
use Rattle.containment.specs.declared.quote_type.Quote.{Quote}

-- those of the edges gs of a view, each with its list, that match the edge e, as a mask
unfoldable pub mask_in : Edge → List Edge → List (List ℕ) → ℕ
mask_in e [] ls = 0
mask_in e (g ∷ gs) [] = 0
mask_in e (g ∷ gs) (l ∷ ls) = one (is_match e g l) + 2 * mask_in e gs ls

-- the edges of the view P that match the edge e of the query Q: those of its kind whose lists, on Q read as a graph, have e
unfoldable pub match_mask : Pattern → Edge → Pattern → ℕ
match_mask Q e P = mask_in e P.edges (view_sheet P (as_graph Q))

abbrev pub no_pattern : Pattern
no_pattern = record { labels = []; edges = []; rule = both_ways }

-- the table of a quote: 16 masks for each edge, one for each view; zero beyond the edges and beyond the views
unfoldable pub mask_at : Pattern → List Pattern → ℕ → ℕ
mask_at Q Ps k =
    pick (ltb (k / 16) (length Q.edges) && ltb (k % 16) (length Ps))
    (match_mask Q (get_or Q.edges (k / 16) no_edge) (get_or Ps (k % 16) no_pattern)) 0

unfoldable pub mapping : Pattern → List Pattern → List ℕ
mapping Q Ps = up_to (mask_at Q Ps) 512

-- ---- what is judged before a call quotes

-- an accepted question and what a client brings beside it
pub record Quoted : Type 0 where
  -- the content of the question
  pub content : List ℕ
  pub offer : Offered
  -- which of the views may be used, as a set
  pub usable : ℕ

-- the content of a question and what a catalogue offers, whose views in a set may be used; and where all may
abbrev pub quoted_in : ℕ → List ℕ → Offered → Quoted
quoted_in set qs o = record { content = qs; offer = o; usable = set }

abbrev pub quoted_by : List ℕ → Offered → Quoted
quoted_by qs o = quoted_in every_view qs o

-- the question is judged, then the catalogue, and both are handed on: every call that quotes judges them here
abbrev pub quoted : List ℕ → Brought → (Quoted → Outcome) → Outcome
quoted q c k = judged (read_pattern q) (λ qs. offered c (λ o. k (quoted_by qs o)))

-- those of the views that are in a set, and those that may be used
unfoldable pub views_in_set : ℕ → List Pattern → List Pattern
views_in_set set [] = []
views_in_set set (P ∷ Ps) = pick (bit set 0) (P ∷ views_in_set (set / 2) Ps) (views_in_set (set / 2) Ps)

abbrev pub usable_views : Quoted → List Pattern
usable_views x = views_in_set x.usable (view_patterns x.offer)

-- its table, and what the views in a set do by it
abbrev pub table_of : Quoted → List ℕ
table_of x = mapping (pattern_of x.content) (view_patterns x.offer)

abbrev pub covering : Quoted → ℕ → Bool
covering x set = covers_in (table_of x) set (length (view_patterns x.offer)) (edges_of x.content)

abbrev pub lowest_left : Quoted → ℕ → ℕ
lowest_left x set = lowest_unmatched (table_of x) set (length (view_patterns x.offer)) (edges_of x.content)

-- the views that answer: those chosen from the usable ones; where these don't cover the query all of them, so that 11 has the lowest edge that
-- none of them matches
abbrev pub used_by : Quoted → ℕ
used_by x = used (table_of x) x.usable (edges_of x.content) (length (view_patterns x.offer))

-- ---- what a quote answers

-- what it gives by value
pub record QuoteValues : Type 0 where
  -- "covered if every link is matched by at least one": 1 if so, 0 if not
  pub covered : ℕ
  -- "for each question link, the extract links that match it": the table above, where a view that may not be used has no masks
  pub mapping : List ℕ
  -- how many links the question has
  pub edges : ℕ
  -- "a chosen set", in which the bit worth 2 ^ a says extract a; "for an uncovered question the chosen set is empty"
  pub chosen : ℕ
  -- "the lowest unmatched link"; 0 for a covered question
  pub lowest : ℕ

-- what these are by the views in a set, from the table, the number of edges and the number of views
unfoldable pub values_from : List ℕ → ℕ → ℕ → ℕ → QuoteValues
values_from t set m k =
    record {
      covered = one (covers_in t set k m);
      mapping = columns_in set t;
      edges = m;
      chosen = chosen t set m k;
      lowest = pick (covers_in t set k m) 0 (lowest_unmatched t set k m);
    }

unfoldable pub quote_values : Quoted → QuoteValues
quote_values x = values_from (table_of x) x.usable (edges_of x.content) (length (view_patterns x.offer))

-- the list of them that the protocol of a call carries
unfoldable pub flat : QuoteValues → List ℕ
flat v = v.covered ∷ (v.mapping ++ (v.edges ∷ v.chosen ∷ v.lowest ∷ []))

unfoldable pub quote_for : Quoted → Outcome
quote_for x = give (flat (quote_values x)) []

-- quoting: the question's refusals, the catalogue's
unfoldable pub quote_outcome : List ℕ → Brought → Outcome
quote_outcome q c = quoted q c quote_for

-- on a refusal each of them is zero
abbrev pub blank : List ℕ
blank = flat (record { covered = 0; mapping = replicate 512 0; edges = 0; chosen = 0; lowest = 0 })

-- whether the query is covered, or the refusal
abbrev pub CoverageReply : Type 0
CoverageReply = Result Coverage Refusal

-- what a quote tells
abbrev pub covered_of : CoverageReply → ℕ
covered_of (Ok coverage-is.Covered) = 1
covered_of (Ok coverage-is.Uncovered) = 0
covered_of (Err x) = 0

abbrev pub values_of : Quote → QuoteValues
values_of q = record { covered = covered_of q.coverage; mapping = q.mapping; edges = q.edges; chosen = q.chosen; lowest = q.lowest }

unfoldable pub quote_told : Quote → Told
quote_told q = by q.coverage
  where
    by : CoverageReply → Told
    by (Ok coverage-is.Covered) = told 0 (flat (values_of q))
    by (Ok coverage-is.Uncovered) = told 0 (flat (values_of q))
    by (Err x) = told (number_of x) (detail_of x ∷ flat (values_of q))

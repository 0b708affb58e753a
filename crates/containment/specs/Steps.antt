-- inner: what the steps of quoting, of answering and of showing promise one another.
use Rattle.std.specs.Prelude.{ℕ, zero, suc, ◌+◌, ◌*◌, ◌/◌, ◌%◌, ◌^◌, ◌<◌, ◌≤◌, ◌≡◌, List, [], ◌∷◌, ◌++◌, map, length, get_or, take, replicate, eqb, ltb, Result, Ok, Err}
use Rattle.std.proofs.lemmas.List.Edits.{sets}
use Rattle.packed.specs.Format.{ok, pick, decode}
use Rattle.packed.specs.Formats.{pattern}
use Rattle.packed.specs.Contents.{edges_of, edge_counts, edge_word, sorted_edges}
use Rattle.packed.specs.ByValue.{HoldsPattern, Small}
use Rattle.packed.specs.Calls.{Outcome, refuse, accepted, judged, read_catalogue, read_book, within_pairs, record_bytes}
use Rattle.packed.specs.Matches.{marked_from, any_empty, codes_of, masks_of, Named, sum_of}
use Rattle.packed.specs.declared.reply.Refusal.{Refusal}
use Rattle.packed.specs.Refusals.{number_of, detail_of}
use Rattle.packed.specs.Parts.{Reply}
use Rattle.packed.specs.declared.by_value.Pattern.{Pattern as Given}
use Rattle.engine.specs.Masks.{OneOf}
use Rattle.engine.specs.Loaded.{Fair}
use Rattle.matching.specs.Candidates.{Booked}
use Rattle.matching.specs.Offered.{Offered, offers}
use Rattle.containment.specs.Quote.{Quoted, table_of}
use Rattle.containment.specs.Show.{graph_fields, fewer_fields}
use Rattle.containment.specs.declared.query.Fields.{Fields}
use Rattle.containment.specs.declared.judging.Judged.{Judged}

-- an accepted pattern by value
pub record Query (q : Given) : Type 0 where
  pub bytes : List ℕ
  pub content : List ℕ
  pub is : decode pattern bytes ≡ ok content
  pub holds : HoldsPattern content q

-- an accepted catalogue of k views
pub record Views (c : List ℕ) (k : ℕ) : Type 0 where
  pub content : List ℕ
  pub is : read_catalogue c ≡ accepted content
  pub number : k ≡ get_or content 0 0

-- the numbers of edges of k views of an accepted catalogue, in a table; the views in the set are matched one-way
pub record ViewCounts (counts : List ℕ) (k : ℕ) : Type 0 where
  pub bytes : List ℕ
  pub views : Views bytes k
  pub one_way : ℕ
  pub are : take k counts ≡ edge_counts views.content
  pub small : Small counts

abbrev pub offer_of : {counts : List ℕ} {k : ℕ} → ViewCounts counts k → Offered
offer_of v = offers v.views.content v.one_way

-- what was judged, by value
abbrev pub quoted_as : {q : Given} → Query q → {counts : List ℕ} {k : ℕ} → ViewCounts counts k → ℕ → Quoted
quoted_as t v usable = record { content = t.content; offer = offer_of v; usable = usable }

-- nothing was refused: r holds what is handed on
pub record Handed (f : (Quoted → Outcome) → Outcome) (r : Judged) : Type 0 where
  pub query : Query r.query
  pub views : ViewCounts r.edges r.views
  pub on : (k : Quoted → Outcome) → f k ≡ k (quoted_as query views r.usable)
  pub table : r.table ≡ table_of (quoted_as query views r.usable)

-- what the calls that judge by f go on with, or what each of them refuses
abbrev pub JudgedTo : ((Quoted → Outcome) → Outcome) → Result Judged Refusal → Type 0
JudgedTo f (Ok r) = Handed f r
JudgedTo f (Err x) = (k : Quoted → Outcome) → f k ≡ refuse (number_of x) (detail_of x)

-- ---- a book

-- the book s of a catalogue with the content cs was accepted and is not crowded; its d different pairs stand in the workspace
pub record Loaded (cs s counts : List ℕ) (k d : ℕ) (w : List ℕ) : Type 0 where
  pub fields : List ℕ
  pub is : read_book cs s ≡ accepted fields
  pub few : (a : Outcome) → within_pairs cs fields a ≡ a
  pub pairs : Booked s counts k d w

-- so many pairs were loaded, or what each call that answers from the book refuses
abbrev pub LoadedTo : List ℕ → List ℕ → List ℕ → ℕ → List ℕ → Reply → Type 0
LoadedTo cs s counts k w (Ok d) = Loaded cs s counts k d w
LoadedTo cs s counts k w (Err x) =
    (a : List ℕ → Outcome) → judged (read_book cs s) (λ bs. within_pairs cs bs (a bs)) ≡ refuse (number_of x) (detail_of x)

-- ---- a query read as a record

-- the content of the query with content ws read as a record, without the edge skip, if there is one
unfoldable pub shown_fields : List ℕ → ℕ → List ℕ
shown_fields ws skip = pick (ltb skip (edges_of ws)) (fewer_fields ws skip) (graph_fields ws)

-- the labels of nodes that have one each
unfoldable pub powers : List ℕ → List ℕ
powers ls = map (λ k. 2 ^ k) ls

-- the fields of the first e edges without the edge skip
unfoldable pub edges_but : List ℕ → List ℕ → List ℕ → ℕ → ℕ → List ℕ
edges_but from to kind skip zero = []
edges_but from to kind skip (suc e) = edges_but from to kind skip e ++ pick (eqb e skip) [] (get_or from e 0 ∷ get_or to e 0 ∷ get_or kind e 0 ∷ [])

-- the first n words of the workspace are these ranks
pub record RanksFront (rs : List ℕ) (n : ℕ) (w : List ℕ) : Type 0 where
  pub long : length w ≡ 16384
  pub few : n ≤ 32
  pub is : take n w ≡ rs

-- the first n words are these
pub record Front (words : List ℕ) (n : ℕ) (fs : List ℕ) : Type 0 where
  pub long : length words ≡ 114
  pub number : n ≡ length fs
  pub is : take n words ≡ fs

-- k words more, after the first n
abbrev pub Extends : ℕ → ℕ → List ℕ → List ℕ → List ℕ → Type 0
Extends n k more words words' = (fs : List ℕ) → Front words n fs → Front words' (n + k) (fs ++ more)

unfoldable pub label_fields : Given → ℕ → List ℕ
label_fields p left = (p.nodes ∷ left ∷ []) ++ powers (take p.nodes p.labels)

unfoldable pub fields_but : Given → ℕ → List ℕ
fields_but p skip = let es = edges_but p.from p.to p.kind skip p.edges in label_fields p (length es / 3) ++ sorted_edges es

pub record HoldsFields (fs : List ℕ) (f : Fields) : Type 0 where
  pub front : Front f.words f.number fs
  pub most : f.number ≤ 114

-- the bytes of the query read as a record, without the edge skip, stand at the front of out as far as it goes
pub record Graphed (content : List ℕ) (skip r : ℕ) (out out' : List ℕ) : Type 0 where
  pub number : r ≡ length (record_bytes (shown_fields content skip))
  pub front : out' ≡ sets out 0 (record_bytes (shown_fields content skip))

-- ---- the table of a quote

-- r is the place of x among the first m words, or m
pub record PlaceOf (w : List ℕ) (m x r : ℕ) : Type 0 where
  pub within : r ≤ m
  pub here : r < m → get_or w r 0 ≡ x
  pub lower : (i : ℕ) → i < r → get_or w i 0 ≡ x → ⊥

-- the word of an edge of the query
abbrev pub word_at : Given → ℕ → ℕ
word_at q e = edge_word (get_or q.from e 0) (get_or q.to e 0) (get_or q.kind e 0)

-- the edges of the query stand in the workspace
unfoldable pub Present : Given → ℕ → List ℕ → Type 0
Present q m w = (e : ℕ) → e < q.edges → OneOf m (λ i. get_or w i 0 ≡ word_at q e)

-- these are the places of the n edges of the query among the first m words
pub record Placed (q : Given) (n m : ℕ) (w ps : List ℕ) : Type 0 where
  pub fair : Fair q
  pub edges : n ≡ q.edges
  pub some : n ≤ length ps
  pub each : (e : ℕ) → e < n → (get_or ps e 0 < m) × (get_or w (get_or ps e 0) 0 ≡ word_at q e)

-- only the first n of column a may differ, in a table with 16 columns
pub record Column (a n : ℕ) (g : ℕ → ℕ → Type 0) (t t' : List ℕ) : Type 0 where
  pub long : length t' ≡ length t
  pub each : (e : ℕ) → e < n → g e (get_or t' (16 * e + a) 0)
  pub rest : (k : ℕ) → ((k % 16 ≡ a) × (k / 16 < n) → ⊥) → get_or t' k 0 ≡ get_or t k 0

-- the same for the columns a .. j
pub record Columns (a j n : ℕ) (g : ℕ → ℕ → ℕ → Type 0) (t t' : List ℕ) : Type 0 where
  pub long : length t' ≡ length t
  pub each : (i e : ℕ) → a ≤ i → i < j → e < n → g i e (get_or t' (16 * e + i) 0)
  pub rest : (k : ℕ) → ((a ≤ k % 16) × (k % 16 < j) × (k / 16 < n) → ⊥) → get_or t' k 0 ≡ get_or t k 0

-- what is noted of a view for the pair at place i of d: those of the view's m edges, whose bits begin at o, that list it, or none where one of the
-- lists would be empty
unfoldable pub noted_mask : ℕ → ℕ → ℕ → List ℕ → ℕ → ℕ
noted_mask o m d w i = pick (any_empty (marked_from o m (codes_of d w) (masks_of d w))) 0 (get_or w (8192 + i) 0 / 2 ^ o % 2 ^ m)

-- the views a .. j of a batch are noted, at the places of the n edges of the query: each by its own bits, which follow those of the one before it
abbrev pub BatchNoted : ℕ → ℕ → ℕ → List ℕ → ℕ → List ℕ → List ℕ → List ℕ → List ℕ → Type 0
BatchNoted a j n counts d w ps t t' =
    Columns a j n (λ i e x. (o : ℕ) → o + sum_of a counts ≡ sum_of i counts → x ≡ noted_mask o (get_or counts i 0) d w (get_or ps e 0)) t t'

-- x is the mask of the edges that are named, of so many pairs
abbrev pub AnyNamed : List ℕ → ℕ → Type 0
AnyNamed w x = (d : ℕ) × Named d w x

-- The answers of answering a query from a book, from what their parts found.
use Prim.Native.Nat.{ℕ, ◌+◌, ◌*◌, ◌<◌, ◌≤◌}
use mathlib.Core.Path.{◌≡◌, refl, sym, ap, subst, ◌∙◌}
use mathlib.Core.List.{List, [], ◌∷◌, map, flatten}
use lib.ListN.{length, get_or, take}
use native.Mathlib.Omega.{arith}
use Rattle.packed.specs.Format.{ok, pick, decode, encode}
use Rattle.packed.specs.Formats.{book, sheet}
use Rattle.packed.specs.Contents.{edge_counts, sheets_in, sheet_fields}
use Rattle.packed.specs.Accepting.{ContentTaken}
use Rattle.packed.specs.Refusals.{Told, number_of, detail_of, reply_told}
use Rattle.packed.specs.Matches.{matches_of, Marked}
use Rattle.packed.specs.Walks.{book_pairs, Different}
use Rattle.packed.specs.Calls.{Outcome, refuse, FulfilsOne, rejected, read_file, judged, read_book, within_pairs, fit_file}
use Rattle.packed.specs.declared.reply.Refusal.{Refusal}
use Rattle.packed.specs.declared.reply.Refusal.TheVariants.{NotContained}
use Rattle.packed.specs.declared.by_value.Pattern.{Pattern as Given}
use Rattle.packed.proofs.WalkLaws.{book_pairs_lem}
use Rattle.packed.proofs.CallLaws.{read_says, judged_accepted, gathered_many, gathered_few, refusal_answered, body_declined}
use Rattle.engine.specs.Masks.{Has}
use Rattle.engine.specs.Loaded.{pattern_in}
use Rattle.matching.specs.Offered.{Offered, view_patterns}
use Rattle.matching.specs.Search.{sheet_bytes}
use Rattle.matching.specs.Join.{View, answer_sets}
use Rattle.matching.specs.Candidates.{Pool}
use Rattle.matching.specs.Joining.{Agrees, Joined}
use Rattle.matching.proofs.PatternLaws.{pattern_same}
use Rattle.matching.proofs.BookLaws.{made_encodes}
use Rattle.matching.proofs.OfferedLaws.{judged_rejected}
use Rattle.containment.specs.Choice.{covers_in, lowest_unmatched, used}
use Rattle.containment.specs.Quote.{table_of, used_by}
use Rattle.containment.specs.Answer.{views_in, answer_bytes, answer_in}
use Rattle.containment.specs.Steps.{Query, ViewCounts, quoted_as, Loaded, offer_of}
use Rattle.containment.proofs.QueryLaws.{plain}
use Rattle.containment.proofs.AnswerLaws.{views_many}
use Rattle.containment.proofs.ChoiceLaws.{lowest_leaves, lowest_covers, lowest_used}
use Rattle.answering.proofs.BookLaws.{booked_by}
use Rattle.answering.proofs.CandidateLaws.{agrees_by}
use Rattle.std.specs.Prelude.{Err}

-- ---- the sheet of what the join kept
module _ {q : Given} {table : List ℕ} {set : ℕ} {s counts : List ℕ} {k d : ℕ} {w w' : List ℕ} (j : Joined q table set s counts k d w w') (p : Pool d w) where
  -- the pairs of the book, marked
  pub joined_marked : Marked d w'
  joined_marked =
      let same = j.edges.same in
      let most = p.most in
      record {
        long = omega (arith, j.edges.long, p.long);
        most = most;
        rises = λ a b e h l _ _.
            (let x = same a (omega arith) in
            let y = same b (omega arith) in
            let small = p.small b l in
            let less = p.rises a b h l in
            omega arith);
      }

  -- the bytes that are written
  pub answer_encodes : (vs : List View) → Agrees q table set s counts k vs
      → encode (sheet q.edges) (sheet_fields (matches_of d q.edges w')) ≡ ok (sheet_bytes (answer_sets (pattern_in q) vs))
  answer_encodes vs g = made_encodes q.edges joined_marked (j.sets vs g)

-- ---- what is answered from an accepted book

-- the sheet by the views in a set
abbrev by_set : Given → Offered → List ℕ → ℕ → ℕ → Outcome
by_set q o bs room set = fit_file room (sheet_bytes (answer_sets (pattern_in q) (views_in set (view_patterns o) (sheets_in (edge_counts o.content) bs))))

-- the views that the quote chooses
module _ {q : Given} (t : Query q) {counts : List ℕ} {k : ℕ} (v : ViewCounts counts k) (usable : ℕ) {table : List ℕ} (is : table ≡ table_of (quoted_as t v usable)) {set : ℕ}
    (chosen : set ≡ used table usable q.edges k) where
  pub used_is : set ≡ used_by (quoted_as t v usable)
  used_is = chosen ∙ rw (is, views_many v.views v.one_way, ← t.holds.edges)

  pub used_lowest : {lowest : ℕ} → lowest ≡ lowest_unmatched table usable k q.edges → lowest ≡ lowest_unmatched table set k q.edges
  used_lowest e = e ∙ sym (ap (λ (s : ℕ). lowest_unmatched table s k q.edges) chosen ∙ lowest_used table usable k q.edges)

-- ---- a book is loaded: it is judged, and its pairs are gathered
module _ {counts : List ℕ} {k : ℕ} (v : ViewCounts counts k) (s : List ℕ) where
  abbrev cs : List ℕ
  cs = v.views.content

  pub load_refused : (x : Refusal) → read_file 65536 4 (book (take k counts)) s ≡ rejected (number_of x) (detail_of x)
      → (a : List ℕ → Outcome) → judged (read_book v.views.content s) (λ bs. within_pairs v.views.content bs (a bs)) ≡ refuse (number_of x) (detail_of x)
  load_refused x e a = judged_rejected _ (rw v.are at e)

  module _ {n : ℕ} {w₀ w₁ : List ℕ} (r : ContentTaken (read_file 65536 4 (book (take k counts)) s) n w₀ w₁) {d : ℕ} {w : List ℕ} (g : Different (book_pairs s 0 (take k counts)) d w) where
    content : ContentTaken (read_book cs s) n w₀ w₁
    content = rw v.are at r

    book_read_lem : (decode (book (edge_counts cs)) s ≡ ok content.fields) × (length s ≤ 65536)
    book_read_lem = read_says 65536 4 (book (edge_counts cs)) s content.fields content.is

    pairs : book_pairs s 0 (take k counts) ≡ flatten (map flatten (sheets_in (edge_counts cs) content.fields))
    pairs = ap (book_pairs s 0) v.are ∙ book_pairs_lem (edge_counts cs) s content.fields book_read_lem.0

    pub load_many_pairs : 8192 < d → (a : List ℕ → Outcome) → judged (read_book v.views.content s) (λ bs. within_pairs v.views.content bs (a bs)) ≡ refuse 10 4
    load_many_pairs h a = judged_accepted _ content.is ∙ gathered_many (edge_counts cs) content.fields g pairs _ h

    pub load_done : d ≤ 8192 → Loaded v.views.content s counts k d w
    load_done h = record {
      fields = content.fields;
      is = content.is;
      few = λ a. gathered_few (edge_counts cs) content.fields g pairs a h;
      pairs = booked_by v.views counts s content.fields v.are book_read_lem.0 g h book_read_lem.1 v.small;
    }

-- ---- what is answered from it
module _ {q : Given} (t : Query q) {counts : List ℕ} {k : ℕ} (v : ViewCounts counts k) (s : List ℕ) (usable : ℕ) {table : List ℕ} (is : table ≡ table_of (quoted_as t v usable)) (set : ℕ)
    (out : List ℕ) where
  abbrev content_of : List ℕ
  content_of = v.views.content

  -- from the content of the book
  abbrev answers : List ℕ → Outcome
  answers bs = answer_in set (quoted_as t v usable) bs (length out)

  answer_is : (bs : List ℕ) → answers bs
      ≡ within_pairs content_of bs (pick (covers_in table set k q.edges) (by_set q (offer_of v) bs (length out) set) (refuse 11 (lowest_unmatched table set k q.edges)))
  unfolding answer_in answer_bytes
  answer_is bs = rw (pattern_same (plain t) t.holds, is, views_many v.views v.one_way, ← t.holds.edges)

  pub unloaded_answered : (x : Refusal) → ((a : List ℕ → Outcome) → judged (read_book v.views.content s) (λ bs. within_pairs v.views.content bs (a bs)) ≡ refuse (number_of x) (detail_of x))
      → {out' : List ℕ} → out' ≡ out → FulfilsOne (judged (read_book v.views.content s) answers) (reply_told (Err x)) out out'
  unloaded_answered x e p = rw p (refusal_answered (out ∷ []) ((λ i. judged (read_book content_of s) (λ bs. answer_is bs i)) ∙ e _) refl)

  module _ {d : ℕ} {w : List ℕ} (b : Loaded v.views.content s counts k d w) {lowest : ℕ} (low : lowest ≡ lowest_unmatched table set k q.edges) where
    pub uncovered_answered : lowest < q.edges → FulfilsOne (judged (read_book v.views.content s) answers) (reply_told (Err (NotContained lowest))) out out
    uncovered_answered h =
        body_declined answers b.is out refl (NotContained lowest) (answer_is b.fields ∙ b.few _ ∙ rw (lowest_leaves table set k q.edges low h, low))

    -- the views of the set with their sheets, which the join is lent, by a table that has the columns of these views
    pub book_agrees : (rows : List ℕ) → ((i a : ℕ) → i < q.edges → a < k → Has set a → get_or rows (16 * i + a) 0 ≡ get_or (table_of (quoted_as t v usable)) (16 * i + a) 0)
        → Agrees q rows set s counts k (views_in set (view_patterns (offer_of v)) (sheets_in (edge_counts v.views.content) b.fields))
    book_agrees rows rows_are = agrees_by t v.views counts s b.fields v.are (read_says 65536 4 (book (edge_counts content_of)) s b.fields b.is).0 v.one_way rows set rows_are

    pub covered_is : q.edges ≤ lowest
        → judged (read_book v.views.content s) answers
        ≡ fit_file (length out) (sheet_bytes (answer_sets (pattern_in q) (views_in set (view_patterns (offer_of v)) (sheets_in (edge_counts v.views.content) b.fields))))
    covered_is h = judged_accepted answers b.is ∙ answer_is b.fields ∙ b.few _ ∙ rw (lowest_covers table set k q.edges low h)

    pub covered_answered : {x : Told} {out' : List ℕ} → q.edges ≤ lowest
        → ((vs : List View) → Agrees q table set s counts k vs → FulfilsOne (fit_file (length out) (sheet_bytes (answer_sets (pattern_in q) vs))) x out out')
        → FulfilsOne (judged (read_book v.views.content s) answers) x out out'
    covered_answered {x} {out'} h f = subst (λ y. FulfilsOne y x out out') (sym (covered_is h)) (f _ (book_agrees table (λ i a _ _ _. ap (λ (r : List ℕ). get_or r (16 * i + a) 0) is)))

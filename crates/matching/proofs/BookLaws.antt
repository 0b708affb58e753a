-- Sheets and books by batches: the lists of a batch's views by their bits, their sizes, and their bytes one after the other.
use Prim.Native.Nat.{ℕ, zero, suc, ◌+◌, ◌-◌, ◌*◌, ◌<◌, ◌≤◌}
use mathlib.Core.Path.{◌≡◌, refl, sym, ap, ap₂, subst, ◌∙◌}
use mathlib.Core.Logic.{inl, inr, ⊎_elim}
use mathlib.Core.List.{List, [], ◌∷◌, ◌++◌, append-nil, append_assoc}
use mathlib.Core.Bool.{Bool, true, false, ◌||◌}
use lib.ListN.{length, take, drop, get_or, set, replicate, length-append, length-drop, length-set, drop_of_length-le}
use Rattle.std.specs.List.{sum}
use Rattle.std.proofs.lemmas.List.Sums.{sum_by-append, sum_by-cons}
use lib.Seq.{take-suc, sets, length-sets, take_all, get_or-set_same, get_or-set_other}
use lib.Dec.{ltb}
use borrow.Author.Tests.{le-leb, lt-leb, le-ltb}
use native.Mathlib.Omega.{arith}
use native.Mathlib.Nat.{add-zero}
use borrow.Rule.Slice.PartMut.{put_mid, post_of}
use Rattle.packed.specs.Format.{pick, ok, encode}
use Rattle.packed.specs.Formats.{sheet as sheet_format}
use Rattle.packed.specs.Contents.{edges_of, views_of, edge_counts, pair_count, sheet_fields, sheet_length}
use Rattle.packed.specs.Calls.{accepted, read_catalogue}
use Rattle.packed.specs.Refusals.{reply_told}
use Rattle.packed.specs.LoadedGraph.{Holds}
use Rattle.packed.specs.Accepting.{HoldsViews}
use Rattle.packed.specs.Matches.{marked, marked_from, any_empty, emptied, all_or_none, matches_from, matches_of, sum_of, Marked, Counts, SheetWritten}
use Rattle.packed.proofs.OrderCases.{lt_or_ge}
use Rattle.packed.proofs.Sets.{sets_append, sets_drop}
use Rattle.packed.proofs.SheetLaws.{Fit, fit_none, fit_next, fit_all, length_one, length_most}
use Rattle.packed.proofs.BookSheetLaws.{none_total}
use Rattle.packed.proofs.MatchLaws.{fit_lists, matches_long, matches_encode, sum_next}
use Rattle.packed.proofs.AcceptedBounds.{catalogue_views, plain_bounded}
use Rattle.packed.proofs.CallLaws.{fit_file_fits, fitted_given}
use Rattle.packed.specs.declared.by_value.Pattern.{Pattern as Given}
use Rattle.engine.specs.Lists.{up_to}
use Rattle.engine.specs.Simulation.{Edge, both_ways, Pattern, ruled, Graph, match_sets, view_sheet}
use Rattle.engine.specs.Loaded.{edge_of_word, pattern_in, graph_in, Ready, Edges}
use Rattle.engine.specs.Matched.{Rises, EdgesMatched}
use Rattle.engine.specs.Batches.{BatchMatched}
use Rattle.matching.specs.declared.batches.Filled.{Filled}
use Rattle.matching.specs.Batches.{BeginsAt, Fills, ViewMatched}
use Rattle.matching.specs.Offered.{Offered, offers, view_at}
use Rattle.matching.specs.Search.{sheet_bytes, book_bytes}
use Rattle.matching.specs.Books.{Catalogued, EdgesCounted, Bookable, book_in, sheet_at, sheet_size, Batched, bits_before, lists_at, sheets_from, SizesKept, SizesFrom, Sized, ListNothing, Paired, SheetsWritten, Room, BookFits, BookWritten, BookGiven}
use Rattle.engine.proofs.UpToLaws.{length_up_to, up_to_more, up_to_in}
use Rattle.engine.proofs.MatchedLaws.{edges_twice}
use Rattle.matching.proofs.MatchSetLaws.{Narrow, sets_listable, view_sheet_lem, view_length}
use Rattle.matching.proofs.PatternLaws.{edges_many}
use Rattle.matching.proofs.RecordLaws.{ready_by, rises_by, ready_again, rises_again, graph_again}
use Rattle.matching.proofs.SheetBytes.{sheet_is, sheet_by, fit_by, sets_sheet}
use Rattle.matching.proofs.OfferedLaws.{sheets_are, view_plain, view_sound}
use Rattle.matching.proofs.BatchLaws.{sum_grows, count_of, table_of, view_matched}
use Rattle.matching.proofs.BookBytes.{book_append, book_one}
use Rattle.std.specs.Prelude.{Ok}

-- ---- one sheet
total_most : {ls : List (List ℕ)} → Fit ls → pair_count ls ≤ 8192 * length ls
unfolding pair_count
total_most fit_none = omega arith
total_most (fit_next r h f) = omega (arith, total_most f)

-- a sheet of up to 32 lists takes at most so many bytes
pub size_at_most : (d m : ℕ) (w : List ℕ) → Marked d w → m ≤ 32 → sheet_length m (pair_count (matches_of d m w)) ≤ 786489
unfolding matches_from
size_at_most d m w h few =
    let t = total_most (fit_all _ (fit_lists 0 d m w h)) in
    omega (arith, length_most m (pair_count (matches_of d m w)) (8192 * m) (omega (arith, t, matches_long 0 d m w)))

-- a pattern that is given is matched by its own rule
pub own_rule : (p : Given) → ruled both_ways (pattern_in p) ≡ pattern_in p
unfolding pattern_in
own_rule p = refl

-- the sheet for m edges that the first d pairs make has the lists ls
module _ (m : ℕ) {d : ℕ} {w : List ℕ} {ls : List (List ℕ)} (marks : Marked d w) (sets : matches_of d m w ≡ ls) where
  -- the bytes that are counted
  pub made_size : sheet_length m (pair_count (matches_of d m w)) ≡ length (sheet_bytes ls)
  made_size =
      let n = matches_long 0 d m w in
      let x = sheet_by m (matches_of d m w) n (matches_encode 0 d m w marks) in
      let y = rw n at x.size in
      sym y ∙ ap (λ (l : List (List ℕ)). length (sheet_bytes l)) sets

  -- the bytes that are written
  pub made_bytes : {out out' : List ℕ} {r : ℕ} (x : SheetWritten 0 d m w out r out') → x.bytes ≡ sheet_bytes ls
  made_bytes x = sym (sheet_is m (matches_of d m w) x.bytes (matches_long 0 d m w) x.is) ∙ ap sheet_bytes sets

  -- and they are those of the sheet
  pub made_encodes : encode (sheet_format m) (sheet_fields (matches_of d m w)) ≡ ok (sheet_bytes ls)
  made_encodes =
      let x = matches_encode 0 d m w marks in
      x.is ∙ ap ok (sym (sheet_is m (matches_of d m w) x.bytes (matches_long 0 d m w) x.is) ∙ ap sheet_bytes sets)

-- the bytes of the sheet of a pattern that is given
pub encodes : {p : Given} {s : List ℕ} {n m : ℕ} {w w' : List ℕ} → EdgesMatched both_ways p s n m w w'
    → encode (sheet_format p.edges) (sheet_fields (matches_of m p.edges w')) ≡ ok (sheet_bytes (match_sets (pattern_in p) (graph_in s n m w)))
encodes {p = p} {s = s} {n = n} {m = m} {w = w} q =
    made_encodes p.edges q.marked (q.sets ∙ ap (λ (P : Pattern). match_sets P (graph_in s n m w)) (own_rule p))

-- ---- a sheet that lists nothing
none_marked : (e m : ℕ) (qs : List ℕ) → marked_from e m [] qs ≡ replicate m []
unfolding marked_from marked
none_marked e zero qs = refl
none_marked e (suc m) qs = ap (λ (l : List (List ℕ)). [] ∷ l) (none_marked (suc e) m qs)

none_emptied : (m : ℕ) → emptied (replicate m []) ≡ replicate m []
unfolding emptied
none_emptied zero = refl
none_emptied (suc m) = ap (λ (l : List (List ℕ)). [] ∷ l) (none_emptied m)

pick_same : (b : Bool) {x y : List (List ℕ)} → x ≡ y → pick b x y ≡ y
pick_same true e = e
pick_same false e = refl

none_matches : (o m : ℕ) (w : List ℕ) → matches_from o 0 m w ≡ replicate m []
unfolding matches_from all_or_none
none_matches o m w =
    ap (λ (ls : List (List ℕ)). pick (any_empty ls) (emptied ls) ls) (none_marked o m [])
    ∙ pick_same (any_empty (replicate m [])) (none_emptied m)

-- it is made from no pairs
pub nothing_made : (m : ℕ) (w : List ℕ) (ls : List (List ℕ)) → 16384 ≤ length w → length ls ≡ m → sheet_size ls ≡ 1 → Marked 0 w × (matches_of 0 m w ≡ ls)
nothing_made m w ls long l e =
    let z : pair_count ls ≡ 0 = length_one (length ls) (pair_count ls) e in
    (record { long = long; most = omega arith; rises = λ i j e a b. absurd (omega arith) }, none_matches 0 m w ∙ ap (λ (k : ℕ). replicate k []) (sym l) ∙ sym (none_total ls z))

-- the rest of the lent book, from a byte on, once the front of that was written
pub rest_written : (out : List ℕ) (at : ℕ) (part bytes : List ℕ) → at ≤ length out → part ≡ sets (take (length out - at) (drop at out)) 0 bytes
    → put_mid at (length out - at) out part ≡ sets out at bytes
rest_written out at part bytes h e =
    let l : length (drop at out) ≤ length out - at = omega (arith, length-drop at out) in
    let p : post_of at (length out - at) out ≡ [] = drop_of_length-le (drop at out) l in
    ap (λ (x : List ℕ). take at out ++ x) (ap (λ (x : List ℕ). part ++ x) p ∙ append-nil part ∙ e ∙ ap (λ (x : List ℕ). sets x 0 bytes) (take_all (length out - at) (drop at out) l))
    ∙ sym (sets_drop out at 0 bytes h)
    ∙ ap (λ (i : ℕ). sets out i bytes) (add-zero at)

-- ---- sheets one after the other
sheets_below : (f : ℕ → List (List ℕ)) (a b : ℕ) → b ≤ a → sheets_from f a b ≡ []
unfolding sheets_from
sheets_below f a zero h = refl
sheets_below f a (suc b) h = ap (λ (t : Bool). pick t (sheets_from f a b ++ sheet_bytes (f b)) []) (lt-leb a b (omega arith))

sheets_more : (f : ℕ → List (List ℕ)) (a b : ℕ) → a ≤ b → sheets_from f a (suc b) ≡ sheets_from f a b ++ sheet_bytes (f b)
unfolding sheets_from
sheets_more f a b h = ap (λ (t : Bool). pick t (sheets_from f a b ++ sheet_bytes (f b)) []) (le-leb a b h)

sheets_split : (f : ℕ → List (List ℕ)) (z a b : ℕ) → z ≤ a → a ≤ b → sheets_from f z b ≡ sheets_from f z a ++ sheets_from f a b
sheets_split f z a zero h l =
    sheets_below f z 0 (omega arith) ∙ sym (ap₂ (λ (x y : List ℕ). x ++ y) (sheets_below f z a (omega arith)) (sheets_below f a 0 (omega arith)))
sheets_split f z a (suc b) h l =
    ⊎_elim
    (λ (q : a < suc b).
    sheets_more f z b (omega arith)
    ∙ ap (λ (x : List ℕ). x ++ sheet_bytes (f b)) (sheets_split f z a b h (omega arith))
    ∙ append_assoc (sheets_from f z a) (sheets_from f a b) (sheet_bytes (f b))
    ∙ ap (λ (x : List ℕ). sheets_from f z a ++ x) (sym (sheets_more f a b (omega arith))))
    (λ (q : suc b ≤ a).
    let e : suc b ≡ a = omega arith in
    ap (sheets_from f z) e ∙ sym (append-nil (sheets_from f z a)) ∙ ap (λ (x : List ℕ). sheets_from f z a ++ x) (sym (sheets_below f a (suc b) q)))
    (lt_or_ge a (suc b))

sheets_same : (f g : ℕ → List (List ℕ)) (a b : ℕ) → ((j : ℕ) → a ≤ j → j < b → f j ≡ g j) → sheets_from f a b ≡ sheets_from g a b
sheets_same f g a zero h = sheets_below f a 0 (omega arith) ∙ sym (sheets_below g a 0 (omega arith))
sheets_same f g a (suc b) h =
    ⊎_elim
    (λ (q : a < suc b).
    sheets_more f a b (omega arith)
    ∙ ap₂ (λ (x : List ℕ) (ls : List (List ℕ)). x ++ sheet_bytes ls) (sheets_same f g a b (λ j l u. h j l (omega arith))) (h b (omega arith) (omega arith))
    ∙ sym (sheets_more g a b (omega arith)))
    (λ (q : suc b ≤ a). sheets_below f a (suc b) q ∙ sym (sheets_below g a (suc b) q))
    (lt_or_ge a (suc b))

-- all of them are a book
sheets_book : (f : ℕ → List (List ℕ)) (k : ℕ) → sheets_from f 0 k ≡ book_bytes (up_to f k)
unfolding book_bytes up_to sheets_from
sheets_book f zero = refl
sheets_book f (suc k) =
    sheets_more f 0 k (omega arith)
    ∙ ap₂ (λ (x y : List ℕ). x ++ y) (sheets_book f k) (sym (book_one (f k)))
    ∙ sym (ap book_bytes (up_to_more f k) ∙ book_append (up_to f k) (f k ∷ []))

-- and as long as their sizes together
sheets_sum : (f : ℕ → List (List ℕ)) (sizes : List ℕ) (k : ℕ) → ((j : ℕ) → j < k → get_or sizes j 0 ≡ length (sheet_bytes (f j))) → sum_of k sizes ≡ length (sheets_from f 0 k)
unfolding sum_of
sheets_sum f sizes zero h = sym (ap length (sheets_below f 0 0 (omega arith)))
sheets_sum f sizes (suc k) h =
    omega (arith, sheets_sum f sizes k (λ j l. h j (omega arith)), h k (omega arith), ap length (sheets_more f 0 k (omega arith)), length-append (sheets_from f 0 k) (sheet_bytes (f k)))

-- the sizes of the front are those of the first k
pub sum_taken : (k : ℕ) (sizes : List ℕ) → k ≤ length sizes → sum (take k sizes) ≡ sum_of k sizes
unfolding sum_of
sum_taken zero sizes h = refl
sum_taken (suc k) sizes h =
    ap sum (take-suc sizes k 0 h) ∙ sum_by-append (λ x. x) (take k sizes) (get_or sizes k 0 ∷ [])
    ∙ (let e = sum_taken k sizes (omega arith) in let z = sum_by-cons (λ x. x) (get_or sizes k 0) [] in omega arith)

pub sum_most : {m : ℕ} (k : ℕ) (sizes : List ℕ) → ((j : ℕ) → j < k → get_or sizes j 0 ≤ m) → sum_of k sizes ≤ m * k
unfolding sum_of
sum_most zero sizes h = omega arith
sum_most {m} (suc k) sizes h = let e = sum_most k sizes (λ j l. h j (omega arith)) in let z = h k (omega arith) in omega arith

-- ---- the views of a batch one by one, a up to b: o bits are behind at the view j
pub record Walk (edges : List ℕ) (a b o j : ℕ) : Type 0 where
  pub range : Batched edges a b
  pub since : a ≤ j
  pub most : j ≤ b
  pub bits : o + sum_of a edges ≡ sum_of j edges

pub walk_start : {edges : List ℕ} {a b : ℕ} → Batched edges a b → Walk edges a b 0 a
walk_start r = record { range = r; since = omega arith; most = r.since; bits = omega arith }

module _ {edges : List ℕ} {a b o j : ℕ} (t : Walk edges a b o j) where
  pub walk_end : b ≤ j → j ≡ b
  walk_end h = omega (arith, t.most)

  -- its bits begin there
  pub walk_bits : o ≡ bits_before edges a j
  walk_bits = omega (arith, t.bits)

  module _ (some : j < b) where
    pub walk_below : j < 16
    walk_below = omega (arith, t.range.most)

    pub walk_fits : o + get_or edges j 0 ≤ 32
    walk_fits = omega (arith, t.bits, t.range.few, sum_next j edges, sum_grows (j + 1) b edges (omega arith))

    pub walk_next : Walk edges a b (o + get_or edges j 0) (j + 1)
    walk_next = record { range = t.range; since = omega (arith, t.since); most = omega arith; bits = omega (arith, t.bits, sum_next j edges) }

-- sizes
pub kept_next : {edges : List ℕ} {a b o j : ℕ} {q sizes₀ sizes : List ℕ} → Walk edges a b o j → j < b → length sizes₀ ≡ 16 → SizesKept edges a j q sizes₀ sizes → {r : ℕ}
    → ((d : ℕ) (w : List ℕ) → Counts d w q → r ≡ sheet_length (get_or edges j 0) (pair_count (matches_from o d (get_or edges j 0) w))) → SizesKept edges a (j + 1) q sizes₀ (set sizes j r)
kept_next {edges} {a} {b} {o} {j} {q} {sizes₀} {sizes} t some long z {r} h =
    let l : j < length sizes = omega (arith, z.long, walk_below t some) in
    record {
      long = length-set sizes j r ∙ z.long;
      each = λ d w n i since below.
          ⊎_elim
          (λ (u : i < j). get_or-set_other sizes j i r 0 (λ p. omega arith) ∙ z.each d w n i since u)
          (λ (u : j ≤ i).
          let e : i ≡ j = omega arith in
          subst (λ (i : ℕ). get_or (set sizes j r) i 0 ≡ sheet_length (get_or edges i 0) (pair_count (lists_at edges a d w i))) (sym e)
          (get_or-set_same sizes j r 0 l ∙ h d w n ∙ unfold lists_at in ap (λ (x : ℕ). sheet_length (get_or edges j 0) (pair_count (matches_from x d (get_or edges j 0) w))) (walk_bits t)))
          (lt_or_ge i j);
      rest = λ i side. get_or-set_other sizes j i r 0 (λ p. ⊎_elim (λ (u : i < a). omega (arith, t.since)) (λ (u : j + 1 ≤ i). omega arith) side)
          ∙ z.rest i (⊎_elim (λ (u : i < a). inl u) (λ (u : j + 1 ≤ i). inr (omega arith)) side);
    }

pub kept_end : {edges : List ℕ} {a b o j : ℕ} {q sizes₀ sizes : List ℕ} → Walk edges a b o j → b ≤ j → SizesKept edges a j q sizes₀ sizes → SizesKept edges a b q sizes₀ sizes
kept_end {edges} {a} {q = q} {sizes₀} {sizes} t h z = subst (λ (i : ℕ). SizesKept edges a i q sizes₀ sizes) (walk_end t h) z

-- bytes
pub written_start : (f : ℕ → List (List ℕ)) (a at : ℕ) (out : List ℕ) → SheetsWritten f a a at out at out
written_start f a at out =
    let e = sheets_below f a a (omega arith) in
    record { number = omega (arith, ap length e); bytes = ap (sets out at) (sym e) }

pub written_on : {f : ℕ → List (List ℕ)} {z a b at at₁ at₂ : ℕ} {out out₁ out₂ : List ℕ} → z ≤ a → a ≤ b → SheetsWritten f z a at out at₁ out₁ → SheetsWritten f a b at₁ out₁ at₂ out₂
    → SheetsWritten f z b at out at₂ out₂
written_on {f} {z} {a} {b} {at} {at₁} {at₂} {out} h l x y =
    let e = sheets_split f z a b h l in
    record {
      number = omega (arith, x.number, y.number, ap length e, length-append (sheets_from f z a) (sheets_from f a b));
      bytes =
          y.bytes
          ∙ ap₂ (λ (o : List ℕ) (i : ℕ). sets o i (sheets_from f a b)) x.bytes x.number
          ∙ sets_append out at (sheets_from f z a) (sheets_from f a b)
          ∙ ap (sets out at) (sym e);
    }

written_one : (f : ℕ → List (List ℕ)) (a at : ℕ) (out : List ℕ) → {r : ℕ} {out' : List ℕ} → r ≡ at + length (sheet_bytes (f a)) → out' ≡ sets out at (sheet_bytes (f a))
    → SheetsWritten f a (a + 1) at out r out'
written_one f a at out n b =
    let i : a + 1 ≡ suc a = omega arith in
    let e : sheets_from f a (a + 1) ≡ sheet_bytes (f a) =
    ap (sheets_from f a) i ∙ sheets_more f a a (omega arith) ∙ ap (λ (x : List ℕ). x ++ sheet_bytes (f a)) (sheets_below f a a (omega arith)) in
    record { number = n ∙ ap (λ (x : List ℕ). at + length x) (sym e); bytes = b ∙ ap (sets out at) (sym e) }

pub written_end : {f : ℕ → List (List ℕ)} {edges : List ℕ} {a b o j begin at : ℕ} {out₀ out : List ℕ} → Walk edges a b o j → b ≤ j → SheetsWritten f a j begin out₀ at out
    → SheetsWritten f a b begin out₀ at out
written_end {f} {a = a} {begin = begin} {at} {out₀} {out} t h z = subst (λ (i : ℕ). SheetsWritten f a i begin out₀ at out) (walk_end t h) z

-- what is left of the lent book
module _ {edges : List ℕ} {a b o j : ℕ} (t : Walk edges a b o j) (d : ℕ) (w : List ℕ) {out₀ out : List ℕ} {begin at : ℕ} (z : SheetsWritten (lists_at edges a d w) a j begin out₀ at out)
    (room : Room (begin + length (sheets_from (lists_at edges a d w) a b)) out₀) where
  abbrev f : ℕ → List (List ℕ)
  f = lists_at edges a d w

  pub writing_long : length out ≡ length out₀
  writing_long = ap length z.bytes ∙ length-sets out₀ begin (sheets_from f a j)

  pub writing_inside : at ≤ length out
  writing_inside =
      omega (arith, z.number, room.lent, writing_long, ap length (sheets_split f a j b t.since t.most), length-append (sheets_from f a j) (sheets_from f j b))

  module _ (some : j < b) {r : ℕ} {part : List ℕ} (x : SheetWritten o d (get_or edges j 0) w (take (length out - at) (drop at out)) r part) where
    its-bytes : x.bytes ≡ sheet_bytes (f j)
    unfolding lists_at
    its-bytes =
        sym (sheet_is (get_or edges j 0) (matches_from o d (get_or edges j 0) w) x.bytes (matches_long o d (get_or edges j 0) w) x.is)
        ∙ ap (λ (i : ℕ). sheet_bytes (matches_from i d (get_or edges j 0) w)) (walk_bits t)

    pub writing_next : SheetsWritten f a (j + 1) begin out₀ (at + r) (put_mid at (length out - at) out part)
    writing_next =
        written_on t.since (omega arith) z
        (written_one f j at out (ap (λ (i : ℕ). at + i) (x.number ∙ ap length its-bytes))
        (rest_written out at part x.bytes writing_inside x.front ∙ ap (sets out at) its-bytes))

    pub writing_most : at + r ≤ 65536
    writing_most =
        let y = writing_next in
        omega (arith, y.number, room.most, ap length (sheets_split f a (j + 1) b (omega (arith, t.since)) (omega arith)), length-append (sheets_from f a (j + 1)) (sheets_from f (j + 1) b))

-- ---- the views of an accepted catalogue, and the record in the workspace
pub ready_narrow : {s : List ℕ} {n m : ℕ} {w : List ℕ} → Ready s n m w → Narrow (graph_in s n m w)
unfolding graph_in
ready_narrow {s} {n} {m} {w} r f i =
    let q = up_to_in (λ j. edge_of_word (get_or w j 0)) m i in
    subst (λ (g : Edge). (g.from < 4096) × (g.to < 4096)) (sym q.holds) (omega arith, omega arith)

ready_few : {s : List ℕ} {n m : ℕ} {w : List ℕ} → Ready s n m w → length (graph_in s n m w).edges ≤ 8192
unfolding graph_in
ready_few {m = m} {w} r = omega (arith, length_up_to (λ j. edge_of_word (get_or w j 0)) m, r.edges)

-- the numbers of edges, of the one content that the catalogue has
pub counted_by : (c : List ℕ) {fields : List ℕ} {k : ℕ} {edges : List ℕ} → read_catalogue c ≡ accepted fields → HoldsViews fields k edges → EdgesCounted c k edges
counted_by c {fields} {k} {edges} i h cs e = let q : fields ≡ cs = cc in subst (λ (us : List ℕ). HoldsViews us k edges) q h

pub bookable_by : {c : List ℕ} {k : ℕ} {edges s : List ℕ} {n m : ℕ} {w : List ℕ} → Catalogued c k → EdgesCounted c k edges → Holds s n m w → length s ≤ 65536
    → Bookable c k edges s n m w
bookable_by v u h l = record { views = v; counted = u; ready = ready_by h l; rises = rises_by h }

pub bookable_again : {c : List ℕ} {k : ℕ} {edges s : List ℕ} {n m : ℕ} {w w' : List ℕ} → Bookable c k edges s n m w → Edges w w' → Bookable c k edges s n m w'
bookable_again b e =
    record { views = b.views; counted = b.counted; ready = ready_again e b.ready; rises = rises_again e b.ready.edges b.rises }

module _ {c : List ℕ} {k : ℕ} {edges s : List ℕ} {n m : ℕ} {w₀ : List ℕ} (bk : Bookable c k edges s n m w₀) where
  abbrev G : Graph
  G = graph_in s n m w₀

  pub views_few : k ≤ 16
  views_few = (bk.counted bk.views.fields bk.views.is).few

  module _ {cs : List ℕ} (e : read_catalogue c ≡ accepted cs) where
    held : HoldsViews cs k edges
    held = bk.counted cs e

    pub views_number : length (views_of cs) ≡ k
    views_number = (catalogue_views c cs e).many ∙ sym held.number

    -- the tables agree
    pub count_same : (j : ℕ) → j < k → get_or edges j 0 ≡ edges_of (get_or (views_of cs) j [])
    count_same j l = table_of cs held j l

    sums_same : (j : ℕ) → j ≤ k → sum_of j edges ≡ sum_of j (edge_counts cs)
    unfolding sum_of
    sums_same zero h = refl
    sums_same (suc j) h = ap₂ (λ (x y : ℕ). x + y) (sums_same j (omega arith)) (count_same j (omega arith) ∙ sym (count_of cs j))

    module _ (one : ℕ) where
      abbrev o : Offered
      o = offers cs one

      -- what is known of the sheet of a view
      module _ (j : ℕ) (l : j < k) where
        abbrev P : Pattern
        P = view_at o j

        below : j < length (views_of cs)
        below = omega (arith, views_number)

        sheet_long : length (sheet_at o s n m w₀ j) ≡ get_or edges j 0
        sheet_long = view_length P G ∙ edges_many (view_plain c cs e j below).1 ∙ sym (count_same j l)

        sheet_fields_lem : length (sheet_bytes (sheet_at o s n m w₀ j)) ≡ sheet_size (sheet_at o s n m w₀ j)
        sheet_fields_lem =
            ap (λ (ls : List (List ℕ)). length (sheet_bytes ls)) (view_sheet_lem P G)
            ∙ (sets_sheet P G (view_sound c cs e j below one) (ready_narrow bk.ready) (ready_few bk.ready)).size
            ∙ ap sheet_size (sym (view_sheet_lem P G))

        sheet-most : sheet_size (sheet_at o s n m w₀ j) ≤ 786489
        sheet-most =
            let ls : List (List ℕ) = match_sets P G in
            let q = view_plain c cs e j below in
            let n : length ls ≡ get_or edges j 0 = ap length (sym (view_sheet_lem P G)) ∙ sheet_long in
            let t = total_most (fit_by ls (sets_listable P G (ready_narrow bk.ready) (ready_few bk.ready))) in
            let u : sheet_size ls ≤ 786489 = omega (arith, length_most (length ls) (pair_count ls) (8192 * length ls) t, (plain_bounded _ q.0 q.1).most_edges, count_same j l) in
            subst (λ (x : List (List ℕ)). sheet_size x ≤ 786489) (sym (view_sheet_lem P G)) u

      -- the book is all sheets
      book-sheets : sheets_from (sheet_at o s n m w₀) 0 k ≡ book_in o s n m w₀
      book-sheets = sheets_book (sheet_at o s n m w₀) k ∙ ap (λ (i : ℕ). book_bytes (up_to (sheet_at o s n m w₀) i)) (sym views_number) ∙ ap book_bytes (sym (sheets_are o G))

  -- ---- a batch of them
  module _ {one a : ℕ} {r : Filled} (z : Fills c one k a r) where
    pub batch_range : Batched edges a r.next
    batch_range =
        let e = bk.views.is in
        record {
          since = omega (arith, z.some);
          most = omega (arith, z.most, views_few);
          few = omega (arith, z.few bk.views.fields e, sums_same e r.next z.most, sums_same e a (omega (arith, z.some, z.most)));
        }

    -- matched: its bits give the lists
    module _ {w w' : List ℕ} (same : Edges w₀ w) (q : BatchMatched r.batch s n m w w') {cs : List ℕ} (e : read_catalogue c ≡ accepted cs) where
      pub batch_view : (j : ℕ) → a ≤ j → j < r.next → ViewMatched (offers cs one) j (bits_before edges a j) s n m w w'
      batch_view j since below =
          let u = sums_same e j (omega (arith, z.most)) in
          let v = sums_same e a (omega (arith, z.most)) in
          let stands : bits_before edges a j + sum_of a (edge_counts cs) ≡ sum_of j (edge_counts cs) = omega (arith, u, v, sum_grows a j edges since) in
          view_matched (z.views cs e j (bits_before edges a j) since below stands) q

      pub batch_lists : (j : ℕ) → a ≤ j → j < r.next → lists_at edges a m w' j ≡ sheet_at (offers cs one) s n m w₀ j
      unfolding lists_at
      batch_lists j since below =
          ap (λ (i : ℕ). matches_from (bits_before edges a j) m i w') (count_same e j (omega (arith, z.most)))
          ∙ (batch_view j since below).sets
          ∙ ap (λ (H : Graph). view_sheet (view_at (offers cs one) j) H) (graph_again same s n bk.ready.edges)

    -- their sizes
    module _ {w w' : List ℕ} (same : Edges w₀ w) (q : BatchMatched r.batch s n m w w') {p sizes sizes' : List ℕ} (counts : Counts m w' p)
        (kept : SizesKept edges a r.next p sizes sizes') {cs : List ℕ} (e : read_catalogue c ≡ accepted cs) where
      pub batch_sizes : (j : ℕ) → a ≤ j → j < r.next → get_or sizes' j 0 ≡ sheet_size (sheet_at (offers cs one) s n m w₀ j)
      batch_sizes j since below =
          let l : j < k = omega (arith, z.most) in
          kept.each m w' counts j since below
          ∙ ap₂ (λ (i : ℕ) (ls : List (List ℕ)). sheet_length i (pair_count ls)) (sym (sheet_long e one j l)) (batch_lists same q e j since below)

    pub sizes_next : {w w' : List ℕ} → Edges w₀ w → BatchMatched r.batch s n m w w' → {p sizes sizes' : List ℕ} → Counts m w' p → SizesKept edges a r.next p sizes sizes' → {first : ℕ}
        → SizesFrom c one s n m w₀ first a sizes → SizesFrom c one s n m w₀ first r.next sizes'
    sizes_next same q counts kept h =
        record {
          each = λ cs e j since below.
              ⊎_elim (λ (u : j < a). kept.rest j (inl u) ∙ h.each cs e j since u) (λ (u : a ≤ j). batch_sizes same q counts kept e j u below) (lt_or_ge j a);
        }

    -- matched again, or where nothing is listed not at all
    module _ {sizes : List ℕ} {first : ℕ} {nothing : Bool} {w : List ℕ} {d : ℕ} {w' : List ℕ} (same : Edges w₀ w) (sized : SizesFrom c one s n m w₀ first k sizes) (since₀ : first ≤ a)
        (none : ListNothing sizes a r.next nothing) (q : Paired r.batch nothing s n m w d w') where
      pub paired_marked : Marked d w'
      paired_marked =
          ⊎_elim
          (λ x. subst (λ (i : ℕ). Marked i w') (sym x.1) (record {
            long = omega (arith, q.edges.long, same.long, bk.ready.long);
            most = omega arith;
            rises = λ i j e a b. absurd (omega arith);
          }))
          (λ x. subst (λ (i : ℕ). Marked i w') (sym x.0) x.1.marked)
          q.either

      pub paired_lists : {cs : List ℕ} (e : read_catalogue c ≡ accepted cs) (j : ℕ) → a ≤ j → j < r.next → lists_at edges a d w' j ≡ sheet_at (offers cs one) s n m w₀ j
      unfolding lists_at
      paired_lists {cs} e j since below =
          let l : j < k = omega (arith, z.most) in
          let ls : List (List ℕ) = sheet_at (offers cs one) s n m w₀ j in
          ⊎_elim
          (λ x.
          let size : sheet_size ls ≡ 1 = sym (sized.each cs e j (omega arith) l) ∙ none.each x.0 j since below in
          ap (λ (i : ℕ). matches_from (bits_before edges a j) i (get_or edges j 0) w') x.1
          ∙ none_matches (bits_before edges a j) (get_or edges j 0) w'
          ∙ ap (λ (i : ℕ). replicate i []) (sym (sheet_long e one j l))
          ∙ sym (none_total ls (length_one (length ls) (pair_count ls) size)))
          (λ x. ap (λ (i : ℕ). matches_from (bits_before edges a j) i (get_or edges j 0) w') x.0 ∙ batch_lists same x.1 e j since below)
          q.either

-- ---- the loop over batches: the views first up to a are past, the rest begins on a byte
pub record BatchesPast (c : List ℕ) (k : ℕ) (w₀ : List ℕ) (first byte a : ℕ) (w : List ℕ) : Type 0 where
  pub since : first ≤ a
  pub most : a ≤ k
  pub begins : BeginsAt c a byte
  pub edges : Edges w₀ w

pub past_start : {c : List ℕ} {k : ℕ} {w : List ℕ} {first byte : ℕ} → BeginsAt c first byte → first ≤ k → BatchesPast c k w first byte first w
past_start b l = record { since = omega arith; most = l; begins = b; edges = record { long = refl; same = λ i h. refl } }

pub past_next : {c : List ℕ} {k : ℕ} {w₀ : List ℕ} {first byte a : ℕ} {w w' : List ℕ} {one : ℕ} {r : Filled} → BatchesPast c k w₀ first byte a w → Fills c one k a r → Edges w w'
    → BatchesPast c k w₀ first r.byte r.next w'
past_next t z e = record { since = omega (arith, t.since, z.some); most = z.most; begins = z.ahead; edges = edges_twice t.edges e }

past_end : {c : List ℕ} {k : ℕ} {w₀ : List ℕ} {first byte a : ℕ} {w : List ℕ} → BatchesPast c k w₀ first byte a w → k ≤ a → a ≡ k
past_end t h = omega (arith, t.most)

module _ {c : List ℕ} {k : ℕ} {w₀ : List ℕ} {first byte a : ℕ} {w : List ℕ} (t : BatchesPast c k w₀ first byte a w) {edges s : List ℕ} {n m : ℕ} (bk : Bookable c k edges s n m w₀) where
  pub past_ready : Ready s n m w × Rises m w
  past_ready = (ready_again t.edges bk.ready, rises_again t.edges bk.ready.edges bk.rises)

  -- sizes
  pub sized_end : {one : ℕ} {sizes : List ℕ} → k ≤ a → length sizes ≡ 16 → SizesFrom c one s n m w₀ first a sizes → Sized c one s n m w₀ first k sizes w
  sized_end h l z = record { edges = t.edges; long = l; kept = record { each = λ cs e j since below. z.each cs e j since (omega (arith, past_end t h)) } }

  -- bytes
  module _ {one : ℕ} {sizes out₀ out : List ℕ} {start at : ℕ} (sized : SizesFrom c one s n m w₀ first k sizes) (fits : BookFits c one s n m w₀ first k start out₀)
      (z : BookWritten c one s n m w₀ first a start out₀ at out) where
    abbrev cs₀ : List ℕ
    cs₀ = bk.views.fields

    abbrev e₀ : read_catalogue c ≡ accepted cs₀
    e₀ = bk.views.is

    abbrev g₀ : ℕ → List (List ℕ)
    g₀ = sheet_at (offers cs₀ one) s n m w₀

    pub book_long : length out ≡ length out₀
    book_long = ap length (z.is cs₀ e₀).bytes ∙ length-sets out₀ start (sheets_from g₀ first a)

    module _ {r : Filled} (v : Fills c one k a r) {nothing : Bool} {d : ℕ} {w' : List ℕ} (none : ListNothing sizes a r.next nothing) (q : Paired r.batch nothing s n m w d w') where
      lists-are : {cs : List ℕ} → read_catalogue c ≡ accepted cs → (j : ℕ) → a ≤ j → j < r.next → lists_at edges a d w' j ≡ sheet_at (offers cs one) s n m w₀ j
      lists-are e j since below = paired_lists bk v t.edges sized t.since none q e j since below

      pub book_marked : Marked d w'
      book_marked = paired_marked bk v t.edges sized t.since none q

      pub book_room : Room (at + length (sheets_from (lists_at edges a d w') a r.next)) out
      book_room =
          let past = ap length (sheets_split g₀ first a k t.since (omega (arith, v.some, v.most))) ∙ length-append (sheets_from g₀ first a) (sheets_from g₀ a k) in
          let rest = ap length (sheets_split g₀ a r.next k (omega (arith, v.some)) v.most) ∙ length-append (sheets_from g₀ a r.next) (sheets_from g₀ r.next k) in
          let own = ap length (sheets_same (lists_at edges a d w') g₀ a r.next (lists-are e₀)) in
          let room = fits.room cs₀ e₀ in
          record {
            lent = omega (arith, room.lent, book_long, (z.is cs₀ e₀).number, past, rest, own);
            most = omega (arith, room.most, (z.is cs₀ e₀).number, past, rest, own);
          }

      pub book_next : {at' : ℕ} {out' : List ℕ} → SheetsWritten (lists_at edges a d w') a r.next at out at' out' → BookWritten c one s n m w₀ first r.next start out₀ at' out'
      book_next {at'} {out'} x =
          record {
            is = λ cs e.
                let i = sheets_same (lists_at edges a d w') (sheet_at (offers cs one) s n m w₀) a r.next (lists-are e) in
                written_on t.since (omega (arith, v.some)) (z.is cs e)
                (record { number = x.number ∙ ap (λ (b : List ℕ). at + length b) i; bytes = x.bytes ∙ ap (sets out at) i });
          }

  pub book_end : {one : ℕ} {out₀ out : List ℕ} {start at : ℕ} → k ≤ a → BookWritten c one s n m w₀ first a start out₀ at out → BookWritten c one s n m w₀ first k start out₀ at out
  book_end {one} {out₀} {out} {start} {at} h z = subst (λ (i : ℕ). BookWritten c one s n m w₀ first i start out₀ at out) (past_end t h) z

pub room_by : {size total : ℕ} {out : List ℕ} → size ≡ total → (size ≤ length out) × (size ≤ 65536) → Room total out
room_by e h = record { lent = omega (arith, e, h.0); most = omega (arith, e, h.1) }

-- ---- the whole book: the first batch is matched last for its size, and stands when it is written
module _ {c : List ℕ} {k : ℕ} {edges s : List ℕ} {n m : ℕ} {w₀ : List ℕ} (bk : Bookable c k edges s n m w₀) where
  pub none_book : (one : ℕ) → k ≡ 0 → {cs : List ℕ} → read_catalogue c ≡ accepted cs → book_in (offers cs one) s n m w₀ ≡ []
  none_book one h {cs} e =
      sym (book-sheets bk e one) ∙ ap (sheets_from (sheet_at (offers cs one) s n m w₀) 0) h ∙ sheets_below (sheet_at (offers cs one) s n m w₀) 0 0 (omega arith)

  pub none_given : (one : ℕ) → k ≡ 0 → (out : List ℕ) → BookGiven c one s n m w₀ (reply_told (Ok 0)) out out
  none_given one h out cs e =
      fitted_given fit_file_fits out (book_in (offers cs one) s n m w₀) refl refl (ap length (sym (none_book one h e)))
      (ap (λ (b : Bool). b || ltb 65536 0) (le-ltb (length out) 0 (omega arith))) (ap (sets out 0) (sym (none_book one h e)))

  module _ {one : ℕ} {r : Filled} (v : Fills c one k 0 r) {sizes w : List ℕ} (later : Sized c one s n m w₀ r.next k sizes w) {w' : List ℕ} (q : BatchMatched r.batch s n m w w') {p sizes' : List ℕ}
      (counts : Counts m w' p) (kept : SizesKept edges 0 r.next p sizes sizes') where
    all-sizes : (cs : List ℕ) → read_catalogue c ≡ accepted cs → (j : ℕ) → j < k → get_or sizes' j 0 ≡ sheet_size (sheet_at (offers cs one) s n m w₀ j)
    all-sizes cs e j l =
        ⊎_elim
        (λ (u : j < r.next). batch_sizes bk v later.edges q counts kept e j (omega arith) u)
        (λ (u : r.next ≤ j). kept.rest j (inr u) ∙ later.kept.each cs e j u l)
        (lt_or_ge j r.next)

    pub sizes_most : (j : ℕ) → j < k → get_or sizes' j 0 ≤ 786489
    sizes_most j l = omega (arith, all-sizes bk.views.fields bk.views.is j l, sheet-most bk bk.views.is one j l)

    pub size_is : (cs : List ℕ) → read_catalogue c ≡ accepted cs → sum_of k sizes' ≡ length (book_in (offers cs one) s n m w₀)
    size_is cs e =
        sheets_sum (sheet_at (offers cs one) s n m w₀) sizes' k (λ j l. all-sizes cs e j l ∙ sym (sheet_fields_lem bk e one j l)) ∙ ap length (book-sheets bk e one)

    -- the workspace has the same record
    both : Edges w₀ w'
    both = edges_twice later.edges q.edges

    graphs : graph_in s n m w' ≡ graph_in s n m w₀
    graphs = graph_again both s n bk.ready.edges

    pub later_sizes : SizesFrom c one s n m w' r.next k sizes'
    later_sizes = record { each = λ cs e j since l. all-sizes cs e j l ∙ ap (λ (H : Graph). sheet_size (view_sheet (view_at (offers cs one) j) H)) (sym graphs) }

    pub later_book : Bookable c k edges s n m w'
    later_book = bookable_again bk both

    module _ (out : List ℕ) (fits : Room (sum_of k sizes') out) where
      whole : {cs : List ℕ} → read_catalogue c ≡ accepted cs
          → book_in (offers cs one) s n m w₀ ≡ sheets_from (sheet_at (offers cs one) s n m w₀) 0 r.next ++ sheets_from (sheet_at (offers cs one) s n m w₀) r.next k
      whole {cs} e = sym (book-sheets bk e one) ∙ sheets_split (sheet_at (offers cs one) s n m w₀) 0 r.next k (omega arith) v.most

      first-same : {cs : List ℕ} → read_catalogue c ≡ accepted cs → sheets_from (lists_at edges 0 m w') 0 r.next ≡ sheets_from (sheet_at (offers cs one) s n m w₀) 0 r.next
      first-same {cs} e = sheets_same (lists_at edges 0 m w') (sheet_at (offers cs one) s n m w₀) 0 r.next (batch_lists bk v later.edges q e)

      lengths : {cs : List ℕ} → read_catalogue c ≡ accepted cs
          → sum_of k sizes' ≡ length (sheets_from (sheet_at (offers cs one) s n m w₀) 0 r.next) + length (sheets_from (sheet_at (offers cs one) s n m w₀) r.next k)
      lengths {cs} e =
          size_is cs e
          ∙ ap length (whole e)
          ∙ length-append (sheets_from (sheet_at (offers cs one) s n m w₀) 0 r.next) (sheets_from (sheet_at (offers cs one) s n m w₀) r.next k)

      pub first_room : Room (0 + length (sheets_from (lists_at edges 0 m w') 0 r.next)) out
      first_room =
          let own = ap length (first-same bk.views.is) in
          let all = lengths bk.views.is in
          record { lent = omega (arith, fits.lent, all, own); most = omega (arith, fits.most, all, own) }

      module _ {at : ℕ} {out₁ : List ℕ} (x : SheetsWritten (lists_at edges 0 m w') 0 r.next 0 out at out₁) where
        later_same : (cs : List ℕ) → sheets_from (sheet_at (offers cs one) s n m w') r.next k ≡ sheets_from (sheet_at (offers cs one) s n m w₀) r.next k
        later_same cs = ap (λ (H : Graph). sheets_from (λ j. view_sheet (view_at (offers cs one) j) H) r.next k) graphs

        pub later_fits : BookFits c one s n m w' r.next k at out₁
        later_fits =
            let long = ap length x.bytes ∙ length-sets out 0 (sheets_from (lists_at edges 0 m w') 0 r.next) in
            record {
              room = λ cs e.
                  let all = lengths e in
                  let own = ap length (first-same e) in
                  let rest = ap length (later_same cs) in
                  record { lent = omega (arith, fits.lent, all, own, rest, x.number, long); most = omega (arith, fits.most, all, own, rest, x.number) };
            }

        pub book_filled : {end : ℕ} {out₂ : List ℕ} → BookWritten c one s n m w' r.next k at out₁ end out₂ → {cs : List ℕ} → read_catalogue c ≡ accepted cs
            → out₂ ≡ sets out 0 (book_in (offers cs one) s n m w₀)
        book_filled y {cs} e =
            (y.is cs e).bytes
            ∙ ap (sets out₁ at) (later_same cs)
            ∙ ap₂ (λ (o : List ℕ) (i : ℕ). sets o i (sheets_from (sheet_at (offers cs one) s n m w₀) r.next k)) x.bytes x.number
            ∙ sets_append out 0 (sheets_from (lists_at edges 0 m w') 0 r.next) (sheets_from (sheet_at (offers cs one) s n m w₀) r.next k)
            ∙ ap (λ (b : List ℕ). sets out 0 (b ++ sheets_from (sheet_at (offers cs one) s n m w₀) r.next k)) (first-same e)
            ∙ ap (sets out 0) (sym (whole e))

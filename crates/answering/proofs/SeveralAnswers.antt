-- Several queries answered one by one from the pairs of a book: their answers are measured, and then written.
use Prim.Native.Nat.{ℕ, zero, suc, ◌+◌, ◌-◌, ◌*◌, ◌<◌, ◌≤◌}
use mathlib.Core.Path.{◌≡◌, refl, sym, ap, ap₂, subst, ◌∙◌}
use mathlib.Core.Bool.{Bool, true, false, ◌||◌}
use mathlib.Core.Logic.{⊎_elim}
use mathlib.Core.List.{List, [], ◌∷◌, ◌++◌, flatten, append-nil, append_assoc}
use lib.ListN.{length, take, drop, get_or, set, replicate, length-append, length-set}
use lib.Seq.{sets, length-sets, get_or-set_same, get_or-set_other}
use lib.Dec.{ltb}
use borrow.Author.Count.{below_more}
use borrow.Author.Tests.{ltb-false}
use borrow.Rule.Slice.PartMut.{put_mid}
use native.Mathlib.Omega.{arith}
use native.Mathlib.Nat.{zero-add}
use native.Mathlib.Numerals.{add-one}
use Rattle.packed.specs.Format.{pick}
use Rattle.packed.specs.Contents.{edge_counts, sheets_in, pair_count, sheet_length}
use Rattle.packed.specs.Matches.{matches_of, SheetWritten}
use Rattle.packed.specs.Reading.{Stands}
use Rattle.packed.specs.Calls.{Outcome, give, refuse, told_of, fronts, outputs_of, Fulfils, within_pairs, pairs_of}
use Rattle.packed.specs.declared.reply.Refusal.TheVariants.{NoRoom}
use Rattle.packed.specs.declared.by_value.Pattern.{Pattern as Given}
use Rattle.packed.proofs.OrderCases.{lt_or_ge}
use Rattle.packed.proofs.Sets.{sets_append, sets_front, sets_swap}
use Rattle.packed.proofs.CallLaws.{many_pairs, refusal_answered}
use Rattle.engine.specs.Lists.{up_to}
use Rattle.engine.specs.Simulation.{Pattern}
use Rattle.engine.specs.Loaded.{Fair, pattern_in, Edges}
use Rattle.engine.specs.Matched.{ViewAt}
use Rattle.engine.specs.declared.views.View.{View as Read}
use Rattle.matching.specs.Search.{sheet_bytes}
use Rattle.matching.specs.Join.{View, answer_sets}
use Rattle.matching.specs.Books.{sheet_size}
use Rattle.matching.specs.Candidates.{Pool, Booked}
use Rattle.matching.specs.Joining.{Agrees, Joined}
use Rattle.matching.specs.Offered.{view_patterns}
use Rattle.engine.proofs.UpToLaws.{length_up_to, up_to_more}
use Rattle.engine.proofs.ListLaws.{length_each}
use Rattle.engine.proofs.MatchedLaws.{edges_twice}
use Rattle.matching.proofs.JoinLaws.{answer_each}
use Rattle.matching.proofs.PatternLaws.{pattern_same}
use Rattle.matching.proofs.TakingSheets.{booked_keep}
use Rattle.matching.proofs.BookLaws.{size_at_most, made_size, made_bytes, nothing_made, rest_written}
use Rattle.containment.specs.Choice.{every_view}
use Rattle.containment.specs.Answer.{views_in, answer_bytes}
use Rattle.answering.specs.Several.{question_at, answer_at, any_long, fit_several, several_told}
use Rattle.containment.specs.Steps.{Query, offer_of}
use Rattle.answering.specs.SeveralSteps.{Answerable, answers_of, Held, Makes, Measured, Writable, Written}
use Rattle.answering.specs.Demands.{Book}
use Rattle.answering.specs.declared.several.Sizes.{Sizes}
use Rattle.containment.proofs.QueryLaws.{fair, plain}
use Rattle.answering.proofs.AnsweringLaws.{joined_marked, book_agrees}
use Rattle.answering.proofs.CoveredBytes.{answer_sheet}
use Rattle.answering.proofs.SeveralLaws.{AskedFrom, asked_start, asked_inside, asked_query, asked_more, neither}
use Rattle.std.specs.Prelude.{Ok, Err}

-- ---- outputs one after the other
flatten_last : (ls : List (List ℕ)) (l : List ℕ) → flatten (ls ++ (l ∷ [])) ≡ flatten ls ++ l
unfolding flatten
flatten_last [] l = append-nil l
flatten_last (x ∷ ls) l = ap (λ (t : List ℕ). x ++ t) (flatten_last ls l) ∙ sym (append_assoc x (flatten ls) l)

module _ (o : ℕ → List ℕ) where
  -- one output more
  outputs_next : (n : ℕ) → flatten (up_to o (suc n)) ≡ flatten (up_to o n) ++ o n
  outputs_next n = ap flatten (up_to_more o n) ∙ flatten_last (up_to o n) (o n)

  outputs_more : (n : ℕ) → flatten (up_to o (n + 1)) ≡ flatten (up_to o n) ++ o n
  outputs_more n = ap (λ (k : ℕ). flatten (up_to o k)) (add-one n) ∙ outputs_next n

  length_more : (n : ℕ) → length (flatten (up_to o (n + 1))) ≡ length (flatten (up_to o n)) + length (o n)
  length_more n = ap length (outputs_more n) ∙ length-append (flatten (up_to o n)) (o n)

  -- the first of them are not longer than all
  outputs_most : (n m : ℕ) → n ≤ m → length (flatten (up_to o n)) ≤ length (flatten (up_to o m))
  outputs_most n zero h = let e : n ≡ 0 = omega arith in omega (arith, ap (λ (k : ℕ). length (flatten (up_to o k))) e)
  outputs_most n (suc m) h =
      ⊎_elim
      (λ (l : n < suc m). omega (arith, outputs_most n m (omega arith), ap length (outputs_next m), length-append (flatten (up_to o m)) (o m)))
      (λ (l : suc m ≤ n). let e : n ≡ suc m = omega arith in omega (arith, ap (λ (k : ℕ). length (flatten (up_to o k))) e))
      (lt_or_ge n (suc m))

  long_more : (n : ℕ) → any_long o (n + 1) ≡ any_long o n || ltb 65536 (length (o n))
  unfolding any_long
  long_more n = ap (any_long o) (add-one n)

-- ---- a sheet that is held
module _ {d m : ℕ} {lists : List (List ℕ)} {w : List ℕ} (h : Held d m lists w) where
  held_most : length (sheet_bytes lists) ≤ 786489
  held_most = omega (arith, made_size m h.marked h.sets, size_at_most d m w h.marked h.few)

  -- it is written
  held_bytes : {out out' : List ℕ} {r : ℕ} (x : SheetWritten 0 d m w out r out') → x.bytes ≡ sheet_bytes lists
  held_bytes x = made_bytes m h.marked h.sets x

answer_long : (q : Given) (vs : List View) → length (answer_sets (pattern_in q) vs) ≡ q.edges
unfolding pattern_in
answer_long q vs = ap length (answer_each (pattern_in q) vs) ∙ length_each _ (pattern_in q).edges ∙ length_up_to _ q.edges

-- by the join
pub joined_held : {q : Given} {table : List ℕ} {set : ℕ} {s counts : List ℕ} {k d : ℕ} {w w' : List ℕ} → Fair q → Joined q table set s counts k d w w' → Pool d w
    → (vs : List View) → Agrees q table set s counts k vs → Held d q.edges (answer_sets (pattern_in q) vs) w'
joined_held f j p vs g = record { few = f.edges; marked = joined_marked j p; sets = j.sets vs g }

-- from no pairs, where it lists nothing
pub nothing_held : {q : Given} {d : ℕ} {w : List ℕ} → Fair q → Pool d w → (vs : List View) → sheet_size (answer_sets (pattern_in q) vs) ≡ 1 → Held 0 q.edges (answer_sets (pattern_in q) vs) w
nothing_held {q} {w = w} f p vs e =
    let x = nothing_made q.edges w (answer_sets (pattern_in q) vs) (omega (arith, p.long)) (answer_long q vs) e in
    record { few = f.edges; marked = x.0; sets = x.1 }

-- ---- the answers of the queries
few_pairs : (cs bs : List ℕ) → ((a : Outcome) → within_pairs cs bs a ≡ a) → length (pairs_of (edge_counts cs) bs) ≤ 8192
few_pairs cs bs h =
    ⊎_elim
    (λ (l : 8192 < length (pairs_of (edge_counts cs) bs)).
    absurd (let a = h (give [] []) in let b = many_pairs (edge_counts cs) bs (give [] []) l in let z : ◌≡◌ {A = ℕ} 0 1 = cc in omega arith))
    (λ l. l)
    (lt_or_ge 8192 (length (pairs_of (edge_counts cs) bs)))

-- the pairs stay
abbrev pub answerable_keep : {s : List ℕ} {number : ℕ} {tables : List (List ℕ)} {used book counts : List ℕ} {k d : ℕ} {w w' : List ℕ}
    → Answerable s number tables used book counts k d w → Edges w w' → Answerable s number tables used book counts k d w'
answerable_keep x g = record {
  asked = x.asked;
  views = x.views;
  long = x.long;
  eight = x.eight;
  table = x.table;
  used_is = x.used_is;
  loaded = record { fields = x.loaded.fields; is = x.loaded.is; few = x.loaded.few; pairs = booked_keep x.loaded.pairs g };
}

module _ {s : List ℕ} {number : ℕ} {tables : List (List ℕ)} {used book counts : List ℕ} {k d : ℕ} {w : List ℕ} (x : Answerable s number tables used book counts k d w) where
  abbrev content : List ℕ
  content = x.views.views.content

  -- the views that answer the query i, with their sheets
  abbrev pub views_for : ℕ → List View
  views_for i = views_in (get_or used i 0) (view_patterns (offer_of x.views)) (sheets_in (edge_counts x.views.views.content) x.loaded.fields)

  -- the answers of the first i were counted; the next query begins on the byte
  pub record Counted (total byte i : ℕ) (w' : List ℕ) : Type 0 where
    pub from : AskedFrom s number i byte
    pub most : i ≤ number
    pub is : total ≡ length (flatten (up_to (answers_of x) i))
    pub bound : total ≤ 786489 * i
    pub edges : Edges w w'

  counted_start : Counted 0 0 0 w
  unfolding up_to flatten
  counted_start = record { from = asked_start; most = omega arith; is = refl; bound = omega arith; edges = record { long = refl; same = λ i l. refl } }

  module _ {total byte i : ℕ} {w₁ : List ℕ} (c : Counted total byte i w₁) where
    pub counted_stands : i < number → Stands s (8 * byte) 0
    counted_stands l = record { small = x.asked.short; inside = omega (arith, asked_inside c.from l x.asked); few = omega arith }

    pub counted_booked : Booked book counts k d w₁
    counted_booked = booked_keep x.loaded.pairs c.edges

    pub counted_few : i < number → i < 8
    counted_few l = omega (arith, x.asked.few)

    -- the next query
    module _ (l : i < number) (v : Read) (at : ViewAt s byte v) where
      abbrev query : Query v.pattern
      query = asked_query c.from l v at x.asked

      pub turn_fair : Fair v.pattern
      turn_fair = fair query

      abbrev lists : List (List ℕ)
      lists = answer_sets (pattern_in v.pattern) (views_for i)

      -- what it gets, by its lists
      turn-answer : answers_of x i ≡ sheet_bytes (answer_sets (pattern_in v.pattern) (views_for i))
      unfolding answer_at answer_bytes question_at
      turn-answer =
          ap₂ (λ (P : Pattern) (set : ℕ). sheet_bytes (answer_sets P (views_in set (view_patterns (offer_of x.views)) (sheets_in (edge_counts content) x.loaded.fields))))
          (sym (pattern_same (plain query) query.holds)) (sym (x.used_is i l))

      -- and how long that is
      pub turn_size : {n : ℕ} → n ≡ length (answers_of x i) → n ≡ sheet_size (answer_sets (pattern_in v.pattern) (views_for i))
      turn_size e =
          let b : Book content book x.loaded.fields = record { read = x.loaded.is; few = few_pairs content x.loaded.fields x.loaded.few } in
          e ∙ ap length turn-answer ∙ (answer_sheet (offer_of x.views) book x.loaded.fields b (pattern_in v.pattern) (get_or used i 0)).size

      pub turn_agrees : Agrees v.pattern (get_or tables i []) (get_or used i 0) book counts k (views_for i)
      unfolding question_at
      turn_agrees =
          let t = x.table i l in
          book_agrees query x.views book every_view t (get_or used i 0) [] x.loaded refl (get_or tables i []) (λ e a _ _ _. ap (λ (r : List ℕ). get_or r (16 * e + a) 0) t)

      -- its answer is counted, from whatever pairs it is made
      counted_next : {n size : ℕ} {w₂ : List ℕ} → Held n v.pattern.edges (answer_sets (pattern_in v.pattern) (views_for i)) w₂ → Edges w₁ w₂ → size ≡ length (answers_of x i)
          → Counted (total + size) v.next (i + 1) w₂
      counted_next h g z = record {
        from = asked_more c.from l v at;
        most = omega arith;
        is = omega (arith, c.is, z, length_more (answers_of x) i);
        bound = omega (arith, c.bound, z, ap length turn-answer, held_most h);
        edges = edges_twice c.edges g;
      }

  -- ---- they are measured
  pub record Measuring (each : List ℕ) (total : ℕ) (long : Bool) (edges byte i : ℕ) (w' : List ℕ) : Type 0 where
    pub counted : Counted total byte i w'
    pub eight : length each ≡ 8
    pub sizes : (j : ℕ) → j < i → get_or each j 0 ≡ length (answers_of x j)
    pub any : long ≡ any_long (answers_of x) i
    pub last : (j : ℕ) → i ≡ j + 1 → Makes d edges (answers_of x j) w'

  pub measuring_start : {each : List ℕ} → each ≡ replicate 8 0 → Measuring each 0 false 0 0 0 w
  unfolding any_long
  measuring_start e = record { counted = counted_start; eight = ap length e; sizes = λ j l. absurd (omega arith); any = refl; last = λ j e. absurd (omega arith) }

  module _ {each : List ℕ} {total : ℕ} {long : Bool} {edges byte i : ℕ} {w₁ : List ℕ} (m : Measuring each total long edges byte i w₁) where
    module _ (l : i < number) (v : Read) (at : ViewAt s byte v) {w₂ : List ℕ}
        (j : Joined v.pattern (get_or tables i []) (get_or used i 0) book counts k d w₁ w₂) where
      pub measuring_held : Held d v.pattern.edges (answer_sets (pattern_in v.pattern) (views_for i)) w₂
      measuring_held = joined_held (turn_fair m.counted l v at) j (counted_booked m.counted).pool (views_for i) (turn_agrees m.counted l v at)

      module _ {size : ℕ} (e : size ≡ sheet_length v.pattern.edges (pair_count (matches_of d v.pattern.edges w₂))) where
        size_is : size ≡ length (answers_of x i)
        size_is = e ∙ made_size v.pattern.edges measuring_held.marked measuring_held.sets ∙ sym (ap length (turn-answer m.counted l v at))

        pub measuring_next : Measuring (set each i size) (total + size) (long || ltb 65536 size) v.pattern.edges v.next (i + 1) w₂
        measuring_next = record {
          counted = counted_next m.counted l v at measuring_held j.edges size_is;
          eight = length-set each i size ∙ m.eight;
          sizes = below_more (λ a. get_or (set each i size) a 0 ≡ length (answers_of x a)) i
              (λ a b. get_or-set_other each i a size 0 (λ p. omega arith) ∙ m.sizes a b)
              (get_or-set_same each i size 0 (omega (arith, m.eight, counted_few m.counted l)) ∙ size_is);
          any = ap₂ (λ (a : Bool) (n : ℕ). a || ltb 65536 n) m.any size_is ∙ sym (long_more (answers_of x) i);
          last = λ a p.
              let q : i ≡ a = omega arith in
              subst (λ (b : ℕ). Makes d v.pattern.edges (answers_of x b) w₂) q (record { lists = _; held = measuring_held; is = turn-answer m.counted l v at });
        }

    pub measuring_end : number ≤ i → Measured (answers_of x) number d (record { each = each; total = total; long = long; edges = edges }) w w₁
    measuring_end h =
        let e : i ≡ number = omega (arith, m.counted.most) in
        subst (λ (n : ℕ). Measured (answers_of x) n d (record { each = each; total = total; long = long; edges = edges }) w w₁) e
        (record { eight = m.eight; sizes = m.sizes; total = m.counted.is; long = m.any; edges = m.counted.edges; last = m.last })

  -- ---- they are written, the first n of them
  pub record Filling (n : ℕ) (out₀ : List ℕ) (at byte i : ℕ) (out w' : List ℕ) : Type 0 where
    pub counted : Counted at byte i w'
    pub upto : i ≤ n
    pub front : out ≡ sets out₀ 0 (flatten (up_to (answers_of x) i))

  pub filling_start : {n : ℕ} {out : List ℕ} → Filling n out 0 0 0 out w
  unfolding up_to flatten
  filling_start = record { counted = counted_start; upto = omega arith; front = refl }

  module _ {n : ℕ} {sizes out₀ : List ℕ} (y : Writable (answers_of x) n number sizes out₀) {at byte i : ℕ} {out w₁ : List ℕ} (z : Filling n out₀ at byte i out w₁) where
    abbrev done : List ℕ
    done = flatten (up_to (answers_of x) i)

    pub filling_long : length out ≡ length out₀
    filling_long = ap length z.front ∙ length-sets out₀ 0 done

    pub filling_inside : at ≤ length out
    filling_inside = omega (arith, z.counted.is, outputs_most (answers_of x) i n z.upto, y.room, filling_long)

    pub filling_some : i < n → i < number
    filling_some l = omega (arith, y.most)

    -- the next query is joined again
    pub filling_held : (l : i < n) (v : Read) (a : ViewAt s byte v) {d' : ℕ} {w₂ : List ℕ}
        → ((vs : List View) → Agrees v.pattern (get_or tables i []) (get_or used i 0) book counts k vs → get_or sizes i 0 ≡ sheet_size (answer_sets (pattern_in v.pattern) vs)
        → Held d' v.pattern.edges (answer_sets (pattern_in v.pattern) vs) w₂)
        → Held d' v.pattern.edges (answer_sets (pattern_in v.pattern) (views_for i)) w₂
    filling_held l v a f =
        let c = z.counted in
        let b = filling_some l in
        f (views_for i) (turn_agrees c b v a) (turn_size c b v a (y.each i l))

    -- and its answer written
    module _ (l : i < n) (v : Read) (a : ViewAt s byte v) {d' : ℕ} {w₂ : List ℕ} (h : Held d' v.pattern.edges (answer_sets (pattern_in v.pattern) (views_for i)) w₂)
        (g : Edges w₁ w₂) {r : ℕ} {part : List ℕ} (p : SheetWritten 0 d' v.pattern.edges w₂ (take (length out - at) (drop at out)) r part) where
      bytes_are : p.bytes ≡ answers_of x i
      bytes_are = held_bytes h p ∙ sym (turn-answer z.counted (filling_some l) v a)

      pub filling_counted : Counted (at + r) v.next (i + 1) w₂
      filling_counted = counted_next z.counted (filling_some l) v a h g (p.number ∙ ap length bytes_are)

      pub filling_next : Filling n out₀ (at + r) v.next (i + 1) (put_mid at (length out - at) out part) w₂
      filling_next = record {
        counted = filling_counted;
        upto = omega arith;
        front =
            rest_written out at part p.bytes filling_inside p.front
            ∙ ap₂ (λ (t b : List ℕ). sets t at b) z.front bytes_are
            ∙ ap (λ (j : ℕ). sets (sets out₀ 0 done) j (answers_of x i)) (z.counted.is ∙ sym (zero-add (length done)))
            ∙ sets_append out₀ 0 done (answers_of x i)
            ∙ ap (sets out₀ 0) (sym (outputs_more (answers_of x) i));
      }

-- ---- from the sizes to the bytes
module _ {o : ℕ → List ℕ} {n d : ℕ} {r : Sizes} {w w' : List ℕ} (m : Measured o n d r w w') (out : List ℕ) where
  several_fits : (b : Bool) → (ltb (length out) r.total || r.long) ≡ b → (needed : ℕ)
      → fit_several (length out) needed o n ≡ pick b (refuse 12 r.total) (give (needed ∷ []) (flatten (up_to o n) ∷ []))
  unfolding fit_several
  several_fits b e needed =
      ap (λ (k : ℕ). pick (ltb (length out) k || any_long o n) (refuse 12 k) (give (needed ∷ []) (flatten (up_to o n) ∷ []))) (sym m.total)
      ∙ ap (λ (a : Bool). pick (ltb (length out) r.total || a) (refuse 12 r.total) (give (needed ∷ []) (flatten (up_to o n) ∷ []))) (sym m.long)
      ∙ ap (λ (a : Bool). pick a (refuse 12 r.total) (give (needed ∷ []) (flatten (up_to o n) ∷ []))) e

  pub several_tight : (needed : ℕ) → (ltb (length out) r.total || r.long) ≡ true
      → Fulfils [] (fit_several (length out) needed o n) (several_told (Err (NoRoom r.total))) (out ∷ []) (out ∷ [])
  several_tight needed e = refusal_answered (out ∷ []) (several_fits true e needed) refl

  module _ (e : (ltb (length out) r.total || r.long) ≡ false) where
    several-room : r.total ≤ length out
    several-room = ltb-false (length out) r.total (neither (ltb (length out) r.total) r.long e).0

    pub several_given : (needed : ℕ) {out' : List ℕ} → out' ≡ sets out 0 (flatten (up_to o n))
        → Fulfils [] (fit_several (length out) needed o n) (several_told (Ok (r.total, needed))) (out ∷ []) (out' ∷ [])
    unfolding told_of outputs_of fronts
    several_given needed q =
        let f = several_fits false e needed in
        let t = m.total in
        record { result = rw (f, t); outputs = rw (f, q ∙ sets_front out (flatten (up_to o n)) (omega (arith, several-room, t))) }

    -- the last is written first, where it is to stand
    module _ (i : ℕ) {at : ℕ} (last : n ≡ i + 1) (place : at ≡ r.total - get_or r.each i 0) where
      abbrev before : List ℕ
      before = flatten (up_to o i)

      total-is : r.total ≡ length before + length (o i)
      total-is = m.total ∙ ap (λ (k : ℕ). length (flatten (up_to o k))) last ∙ length_more o i

      pub last_within : get_or r.each i 0 ≤ r.total
      last_within = omega (arith, total-is, m.sizes i (omega (arith, last)))

      place_is : at ≡ length before
      place_is = omega (arith, place, total-is, m.sizes i (omega (arith, last)))

      pub last_inside : at ≤ length out
      last_inside = omega (arith, place_is, total-is, several-room)

      module _ {q : ℕ} {part : List ℕ} (p : SheetWritten 0 d r.edges w' (take (length out - at) (drop at out)) q part) where
        last_written : put_mid at (length out - at) out part ≡ sets out (length before) (o i)
        last_written =
            let k = m.last i last in
            rest_written out at part p.bytes last_inside p.front
            ∙ ap₂ (λ (j : ℕ) (b : List ℕ). sets out j b) place_is (held_bytes k.held p ∙ sym k.is)

        pub rest_writable : Writable o i n r.each (put_mid at (length out - at) out part)
        rest_writable = record {
          most = omega (arith, last);
          eight = m.eight;
          each = λ j l. m.sizes j (omega (arith, last));
          room = omega (arith, total-is, several-room, ap length last_written, length-sets out (length before) (o i));
        }

        pub all_written : {out' : List ℕ} → Written o i (put_mid at (length out - at) out part) out' → out' ≡ sets out 0 (flatten (up_to o n))
        all_written h =
            h
            ∙ ap (λ (t : List ℕ). sets t 0 before) last_written
            ∙ sets_swap out 0 before (length before) (o i) (omega arith)
            ∙ ap (λ (j : ℕ). sets (sets out 0 before) j (o i)) (sym (zero-add (length before)))
            ∙ sets_append out 0 before (o i)
            ∙ ap (sets out 0) (sym (outputs_more o i) ∙ ap (λ (k : ℕ). flatten (up_to o k)) (sym last))

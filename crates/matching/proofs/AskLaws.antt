-- Asking: which views' lists an edge changes, as a set, from one match of each view on the graph with the edge.
use Prim.Native.Nat.{ℕ, zero, suc, ◌+◌, ◌/◌, ◌%◌, ◌^◌, ◌<◌, ◌≤◌}
use mathlib.Core.Path.{◌≡◌, refl, sym, ap, ap₂, subst, ◌∙◌}
use mathlib.Core.Bool.{Bool, true, false, not, ◌&&◌}
use mathlib.Core.Logic.{◌↔◌, ⊎_elim}
use mathlib.Core.List.{List, [], ◌∷◌}
use lib.ListN.{length, get_or}
use lib.Pow.{pow_pos, pow_mono}
use native.Mathlib.Nat.{pow-suc, zero-div, mod-eq_of_lt}
use borrow.Author.Tests.{le-leb, lt-leb}
use lib.Dec.{T, T_not, not_T, eqb, leb, eqb→eq, eqb_refl}
use native.Mathlib.Omega.{arith}
use Rattle.packed.specs.Format.{pick}
use Rattle.packed.specs.Formats.{record'}
use Rattle.packed.specs.Matches.{any_empty, marked_from, codes_of, masks_of, matches_from, Named}
use Rattle.packed.specs.Contents.{views_of, edge_word, word_kind}
use Rattle.packed.specs.Refusals.{told, number_of, detail_of}
use Rattle.packed.specs.Calls.{give, told_of, fronts, outputs_of, Fulfils, accepted, rejected, read_catalogue, read_record, record_bytes}
use Rattle.packed.specs.LoadedGraph.{Holds}
use Rattle.packed.specs.Entering.{PutAt}
use Rattle.packed.specs.declared.reply.Refusal.{Refusal}
use Rattle.packed.proofs.OrderCases.{lt_or_ge}
use Rattle.packed.proofs.CallLaws.{read_finds, accepted_by, answers_refused, answers_on}
use Rattle.packed.proofs.GraphLaws.{record_bounds}
use Rattle.packed.proofs.EnteredLaws.{Entered, record_enters}
use Rattle.packed.proofs.EnteredWords.{holds_entered}
use Rattle.engine.specs.Simulation.{Edge, between, Pattern, Graph, graph_of, view_sheet}
use Rattle.engine.specs.Loaded.{edge_of_word, graph_in}
use Rattle.engine.specs.Matched.{Rises}
use Rattle.engine.specs.Batches.{BatchMatched}
use Rattle.matching.specs.Batches.{Fills}
use Rattle.matching.specs.declared.batches.Filled.{Filled}
use Rattle.matching.specs.Join.{some_match, without}
use Rattle.matching.specs.Offered.{Offered, offers, view_at}
use Rattle.matching.specs.Books.{Catalogued, EdgesCounted, Bookable, bits_before, lists_at}
use Rattle.matching.specs.Enter.{judge_link}
use Rattle.matching.specs.Entering.{with_link, Enters}
use Rattle.matching.specs.Ask.{alike, all_alike, changes, changed_views, ask_values, ask_for, ask_of, ask_told}
use Rattle.matching.specs.Asking.{listed_by, listed_in, set_from, ListsBy, ChangedBy}
use Rattle.matching.specs.declared.state.State.{State}
use Rattle.matching.specs.declared.state.Link.{Link}
use Rattle.engine.proofs.ListLaws.{decide, same_test}
use Rattle.engine.proofs.MatchedLaws.{edges_twice}
use Rattle.matching.proofs.MatchSetLaws.{Narrow}
use Rattle.matching.proofs.PatternLaws.{edges_many}
use Rattle.matching.proofs.RecordLaws.{ready_by, rises_by, rises_again, graph_same}
use Rattle.matching.proofs.OfferedLaws.{view_plain}
use Rattle.matching.proofs.BatchLaws.{begins_first}
use Rattle.matching.proofs.BookLaws.{Walk, walk_bits, walk_end, ready_narrow, views_few, views_number, count_same, batch_view, batch_lists, BatchesPast, past_start, past_next}
use Rattle.matching.proofs.MarkedLaws.{listed_test}
use Rattle.matching.proofs.EnterLaws.{entered_without, unmatched_stays, matched_changes}
use Rattle.matching.proofs.EnteredGraphs.{links_before, links_after, links_split, graph_entered, link_new}
use Rattle.std.specs.Prelude.{Err}

-- ---- the same lists
both_true : (a b : Bool) → T (a && b) → T a × T b
both_true true b t = (tt, t)
both_true false b t = absurd t

alike_same : (k l : List ℕ) → T (alike k l) → k ≡ l
unfolding alike
alike_same [] [] t = refl
alike_same [] (y ∷ l) t = absurd t
alike_same (x ∷ k) [] t = absurd t
alike_same (x ∷ k) (y ∷ l) t =
    let r = both_true (eqb x y) (alike k l) t in
    ap₂ (λ (a : ℕ) (m : List ℕ). a ∷ m) (eqb→eq x y r.0) (alike_same k l r.1)

alike_self : (l : List ℕ) → T (alike l l)
unfolding alike
alike_self [] = tt
alike_self (x ∷ l) = go (eqb x x) (eqb_refl x) (alike_self l)
  where
    go : (b : Bool) → T b → T (alike l l) → T (b && alike l l)
    go true t s = s
    go false t s = absurd t

all_same : (ks ls : List (List ℕ)) → T (all_alike ks ls) → ks ≡ ls
unfolding all_alike
all_same [] [] t = refl
all_same [] (l ∷ ls) t = absurd t
all_same (k ∷ ks) [] t = absurd t
all_same (k ∷ ks) (l ∷ ls) t =
    let r = both_true (alike k l) (all_alike ks ls) t in
    ap₂ (λ (a : List ℕ) (m : List (List ℕ)). a ∷ m) (alike_same k l r.0) (all_same ks ls r.1)

all_self : (ls : List (List ℕ)) → T (all_alike ls ls)
unfolding all_alike
all_self [] = tt
all_self (l ∷ ls) = go (alike l l) (alike_self l) (all_self ls)
  where
    go : (b : Bool) → T b → T (all_alike ls ls) → T (b && all_alike ls ls)
    go true t s = s
    go false t s = absurd t

-- a view changes exactly if it has other lists
pub changes_exactly : (G H : Graph) (P : Pattern) → T (changes G H P) ↔ (view_sheet P G ≡ view_sheet P H → ⊥)
unfolding changes
changes_exactly G H P = (
  λ t q. T_not (all_alike (view_sheet P G) (view_sheet P H)) t (subst (λ l. T (all_alike (view_sheet P G) l)) q (all_self (view_sheet P G))),
  λ n. not_T (all_alike (view_sheet P G) (view_sheet P H)) (λ t. n (all_same (view_sheet P G) (view_sheet P H) t)),
)

-- and without an edge exactly if the edge matches one of its edges
changes_matched : (P : Pattern) (G : Graph) (e : Edge) → Narrow G → e.to < 4096 → changes (without e G) G P ≡ some_match e P.edges (view_sheet P G)
changes_matched P G e n h =
    same_test _ _
    (λ t. ⊎_elim (λ m. m) (λ m. absurd ((changes_exactly (without e G) G P).0 t (unmatched_stays P G e m))) (decide (some_match e P.edges (view_sheet P G))))
    (λ t. (changes_exactly (without e G) G P).1 (matched_changes P G e n h t))

-- ---- sets
set_below : (f : ℕ → Bool) (a b : ℕ) → b ≤ a → set_from f a b ≡ 0
unfolding set_from
set_below f a zero h = refl
set_below f a (suc b) h = ap (λ (t : Bool). pick t (set_from f a b + pick (f b) (2 ^ b) 0) 0) (lt-leb a b (omega arith))

set_more : (f : ℕ → Bool) (a b : ℕ) → a ≤ b → set_from f a (suc b) ≡ set_from f a b + pick (f b) (2 ^ b) 0
unfolding set_from
set_more f a b h = ap (λ (t : Bool). pick t (set_from f a b + pick (f b) (2 ^ b) 0) 0) (le-leb a b h)

set_split : (f : ℕ → Bool) (a b : ℕ) → a ≤ b → set_from f 0 b ≡ set_from f 0 a + set_from f a b
set_split f a zero h =
    let z : a ≡ 0 = omega arith in
    omega (arith, set_below f 0 0 (omega arith), set_below f a 0 (omega arith), ap (set_from f 0) z)
set_split f a (suc b) h =
    ⊎_elim
    (λ (q : a < suc b). omega (arith, set_more f 0 b (omega arith), set_more f a b (omega arith), set_split f a b (omega arith)))
    (λ (q : suc b ≤ a). let e : a ≡ suc b = omega arith in omega (arith, ap (set_from f 0) e, set_below f a (suc b) q))
    (lt_or_ge a (suc b))

set_same : (f g : ℕ → Bool) (a b : ℕ) → ((j : ℕ) → a ≤ j → j < b → f j ≡ g j) → set_from f a b ≡ set_from g a b
set_same f g a zero h = set_below f a 0 (omega arith) ∙ sym (set_below g a 0 (omega arith))
set_same f g a (suc b) h =
    ⊎_elim
    (λ (q : a < suc b).
    set_more f a b (omega arith)
    ∙ ap₂ (λ (x : ℕ) (t : Bool). x + pick t (2 ^ b) 0) (set_same f g a b (λ j l u. h j l (omega arith))) (h b (omega arith) (omega arith))
    ∙ sym (set_more g a b (omega arith)))
    (λ (q : suc b ≤ a). set_below f a (suc b) q ∙ sym (set_below g a (suc b) q))
    (lt_or_ge a (suc b))

set_none : (a b : ℕ) → set_from (λ j. false) a b ≡ 0
unfolding set_from
set_none a zero = refl
set_none a (suc b) = go (leb a b) (set_none a b)
  where
    go : (t : Bool) {x : ℕ} → x ≡ 0 → pick t (x + 0) 0 ≡ 0
    go true e = omega (arith, e)
    go false e = refl

-- one number more stays below the next power
more_lt : (j x y : ℕ) (t : Bool) → x < 2 ^ j → y ≡ pick t (2 ^ j) 0 → x + y < 2 ^ (j + 1)
more_lt j x y true l e = let i : j + 1 ≡ suc j = omega arith in omega (arith, e, pow-suc 2 j, ap (λ (k : ℕ). 2 ^ k) i)
more_lt j x y false l e = let i : j + 1 ≡ suc j = omega arith in omega (arith, e, pow-suc 2 j, ap (λ (k : ℕ). 2 ^ k) i)

set_lt : (f : ℕ → Bool) (b : ℕ) → set_from f 0 b < 2 ^ b
set_lt f zero = omega (arith, set_below f 0 0 (omega arith))
set_lt f (suc b) =
    let e : b + 1 ≡ suc b = omega arith in
    omega (arith, set_more f 0 b (omega arith), more_lt b (set_from f 0 b) (pick (f b) (2 ^ b) 0) (f b) (set_lt f b) refl, ap (λ (i : ℕ). 2 ^ i) e)

-- the views that change are such a set
changed_set : (o : Offered) (G H : Graph) (k : ℕ) → changed_views o G H k ≡ set_from (λ j. changes G H (view_at o j)) 0 k
unfolding changed_views set_from
changed_set o G H zero = refl
changed_set o G H (suc k) =
    ap (λ (x : ℕ). x + pick (changes G H (view_at o k)) (2 ^ k) 0) (changed_set o G H k) ∙ sym (set_more (λ j. changes G H (view_at o j)) 0 k (omega arith))

pub views_lt : (o : Offered) (G H : Graph) (k : ℕ) → changed_views o G H k < 2 ^ k
views_lt o G H k = omega (arith, changed_set o G H k, set_lt (λ j. changes G H (view_at o j)) k)

-- ---- the views of a batch one by one
pub lists_start : {edges : List ℕ} {a x named : ℕ} → ListsBy edges a a x named 0
lists_start {a = a} = record { small = pow_pos a; is = λ d w n. sym (set_below _ a a (omega arith)) }

pub lists_next : {edges : List ℕ} {a b o j x named set : ℕ} → Walk edges a b o j → ListsBy edges a j x named set → {own : ℕ} → own ≡ x / 2 ^ o % 2 ^ get_or edges j 0 → {full : Bool}
    → ((d : ℕ) (w : List ℕ) → Named d w named → full ≡ not (any_empty (marked_from o (get_or edges j 0) (codes_of d w) (masks_of d w))))
    → {y : ℕ} → y ≡ pick (not (eqb own 0) && full) (2 ^ j) 0 → ListsBy edges a (j + 1) x named (set + y)
unfolding listed_by
lists_next {edges} {a} {b} {o} {j} {x} {named} {set} t z {own} i {full} n {y} e =
    let m : j + 1 ≡ suc j = omega arith in
    record {
      small = more_lt j set y (not (eqb own 0) && full) z.small e;
      is = λ d w h.
          let f : ℕ → Bool = listed_in edges a d w x in
          let q : (not (eqb own 0) && full) ≡ f j =
          ap₂ (λ (u : ℕ) (v : Bool). not (eqb u 0) && v) i (n d w h)
          ∙ ap (λ (u : ℕ). not (eqb (x / 2 ^ u % 2 ^ get_or edges j 0) 0) && not (any_empty (marked_from u (get_or edges j 0) (codes_of d w) (masks_of d w)))) (walk_bits t) in
          ap₂ (λ (u v : ℕ). u + v) (z.is d w h) (e ∙ ap (λ (v : Bool). pick v (2 ^ j) 0) q) ∙ sym (set_more f a j t.since) ∙ ap (set_from f a) (sym m);
    }

pub lists_end : {edges : List ℕ} {a b o j x named set : ℕ} → Walk edges a b o j → b ≤ j → ListsBy edges a j x named set → ListsBy edges a b x named set
lists_end {edges} {a} {x = x} {named} {set} t h z = subst (λ (i : ℕ). ListsBy edges a i x named set) (walk_end t h) z

-- where the mask names nothing, none of them lists the pair
nothing_listed : (o k d : ℕ) (w : List ℕ) (x : ℕ) → x ≡ 0 → listed_by o k d w x ≡ false
unfolding listed_by
nothing_listed o k d w x z =
    ap (λ (y : ℕ). not (eqb y 0) && not (any_empty (marked_from o k (codes_of d w) (masks_of d w))))
    (ap (λ (y : ℕ). y / 2 ^ o % 2 ^ k) z ∙ ap (λ (y : ℕ). y % 2 ^ k) (zero-div (2 ^ o)) ∙ mod-eq_of_lt (pow_pos k))

pub lists_none : (edges : List ℕ) (a b d : ℕ) (w : List ℕ) (x : ℕ) → x ≡ 0 → 0 ≡ set_from (listed_in edges a d w x) a b
lists_none edges a b d w x z =
    sym (set_same (listed_in edges a d w x) (λ j. false) a b (λ j l u. nothing_listed (bits_before edges a j) (get_or edges j 0) d w x z) ∙ set_none a b)

-- ---- the loop over batches: the views up to a that the edge at a place changes
pub record Asking (c : List ℕ) (one : ℕ) (s : List ℕ) (n m : ℕ) (w₀ : List ℕ) (at k set byte a : ℕ) (w : List ℕ) : Type 0 where
  pub past : BatchesPast c k w₀ 0 byte a w
  pub is : (cs : List ℕ) → read_catalogue c ≡ accepted cs
      → set ≡ set_from (λ j. changes (without (edge_of_word (get_or w₀ at 0)) (graph_in s n m w₀)) (graph_in s n m w₀) (view_at (offers cs one) j)) 0 a

pub asking_start : {c : List ℕ} {one : ℕ} {s : List ℕ} {n m : ℕ} {w : List ℕ} {at k : ℕ} → Asking c one s n m w at k 0 1 0 w
asking_start {c} = record { past = past_start (begins_first c) (omega arith); is = λ cs e. sym (set_below _ 0 0 (omega arith)) }

module _ {c : List ℕ} {one : ℕ} {edges s : List ℕ} {n m : ℕ} {w₀ : List ℕ} {at k set byte a : ℕ} {w : List ℕ} (bk : Bookable c k edges s n m w₀) (z : Asking c one s n m w₀ at k set byte a w) where
  abbrev G : Graph
  G = graph_in s n m w₀

  abbrev e : Edge
  e = edge_of_word (get_or w₀ at 0)

  pub asking_small : set < 65536
  asking_small =
      let f : a ≤ 16 = omega (arith, z.past.most, views_few bk) in
      omega (arith, z.is bk.views.fields bk.views.is, set_lt (λ j. changes (without e G) G (view_at (offers bk.views.fields one) j)) a, pow_mono f)

  module _ (in_graph : at < m) {f : Filled} (v : Fills c one k a f) {w' : List ℕ} (q : BatchMatched f.batch s n m w w') where
    few : at < 8192
    few = omega (arith, bk.ready.edges)

    word-stays : get_or w' at 0 ≡ get_or w₀ at 0
    word-stays = q.edges.same at few ∙ z.past.edges.same at few

    now-rises : Rises m w'
    now-rises = rises_again (edges_twice z.past.edges q.edges) bk.ready.edges bk.rises

    -- a view lists the edge exactly if it changes
    module _ {cs : List ℕ} (i : read_catalogue c ≡ accepted cs) (j : ℕ) (since : a ≤ j) (below : j < f.next) where
      abbrev P : Pattern
      P = view_at (offers cs one) j

      in_all : j < k
      in_all = omega (arith, v.most)

      edges_are : length P.edges ≡ get_or edges j 0
      edges_are = edges_many (view_plain c cs i j (omega (arith, in_all, views_number bk i))).1 ∙ sym (count_same bk i j in_all)

      its-test : listed_in edges a m w' (get_or w' (8192 + at) 0) j ≡ changes (without e G) G P
      its-test =
          let o : ℕ = bits_before edges a j in
          let y = batch_view bk v z.past.edges q i j since below in
          let lists : matches_from o m (get_or edges j 0) w' ≡ view_sheet P G = unfold lists_at in batch_lists bk v z.past.edges q i j since below in
          ap (λ (l : ℕ). listed_by o l m w' (get_or w' (8192 + at) 0)) (sym edges_are)
          ∙ listed_test P.edges o q.marked now-rises
          (λ u f l h t. y.only u f l (omega (arith, edges_are, count_same bk i j in_all)) t ∙ ap word_kind (sym (q.edges.same u (omega (arith, bk.ready.edges)))))
          at in_graph
          ∙ ap₂ (λ (x : ℕ) (ls : List (List ℕ)). some_match (edge_of_word x) P.edges ls) word-stays
          (ap (λ (l : ℕ). matches_from o m l w') edges_are ∙ lists)
          ∙ sym (changes_matched P G e (ready_narrow bk.ready) (omega arith))

    pub asking_next : {x : ℕ} → x ≡ set_from (listed_in edges a m w' (get_or w' (8192 + at) 0)) a f.next → Asking c one s n m w₀ at k (set + x) f.byte f.next w'
    asking_next {x} h =
        record {
          past = past_next z.past v q.edges;
          is = λ cs i.
              let g : ℕ → Bool = λ j. changes (without e G) G (view_at (offers cs one) j) in
              ap₂ (λ (p d : ℕ). p + d) (z.is cs i) (h ∙ set_same (listed_in edges a m w' (get_or w' (8192 + at) 0)) g a f.next (its-test i))
              ∙ sym (set_split g a f.next (omega (arith, v.some)));
        }

  pub asking_end : k ≤ a → ChangedBy c one s n m w₀ at set × (set < 65536)
  asking_end h = (
    λ cs i.
        let l : a ≡ length (views_of cs) = omega (arith, z.past.most, views_number bk i) in
        z.is cs i
        ∙ ap (set_from (λ j. changes (without e G) G (view_at (offers cs one) j)) 0) l
        ∙ sym (changed_set (offers cs one) (without e G) G (length (views_of cs))),
    asking_small,
  )

values_given : (o : Offered) (rs ws : List ℕ) (st : State) (l : Link) {set : ℕ} → set ≡ changed_views o (graph_of rs) (graph_of ws) (length (views_of o.content))
    → Fulfils [] (give (ask_values o rs st l ws) []) (told 0 (set ∷ l.from ∷ l.to ∷ l.kind ∷ st.change ∷ [])) [] []
unfolding ask_values told_of outputs_of fronts
values_given o rs ws st l e = record { result = ap (λ (n : ℕ). told 0 (n ∷ l.from ∷ l.to ∷ l.kind ∷ st.change ∷ [])) e; outputs = refl }

-- ---- the record with the link
-- the nodes are by the bytes alone, and the edges by the workspace
graph_parts : (s t : List ℕ) (n m k : ℕ) (w w' : List ℕ) (H : Graph) → (graph_in s n m w).labels ≡ H.labels → (graph_in t n k w').edges ≡ H.edges → graph_in s n k w' ≡ H
unfolding graph_in
graph_parts s t n m k w w' H x y = λ i. record { labels = x i; edges = y i }

module _ {s : List ℕ} {n m : ℕ} {w : List ℕ} (h : Holds s n m w) {links : ℕ} {l : Link} {at : ℕ} (t : Enters links h.fields l at) where
  abbrev ws : List ℕ
  ws = h.fields

  abbrev after : List ℕ
  after = with_link ws l

  abbrev link : Edge
  link = between l.from l.to l.kind

  enters : Entered ws l.from l.to l.kind
  enters = record_enters s ws h.is l.from l.to l.kind t.may

  pub link_room : (at ≤ m) × (m < 8192) × (l.from < 4096) × (l.to < 4096) × (l.kind < 8)
  link_room =
      let g = t.may in
      let b = record_bounds s ws h.is in
      (omega (arith, t.behind, enters.place.0, h.edges), omega (arith, g.room, h.edges), omega (arith, g.from, b.0), omega (arith, g.to, b.0), g.is_kind)

  -- its word was put at its place
  module _ (size : length s ≤ 44036) {w' : List ℕ} (p : PutAt at m (edge_word l.from l.to l.kind) w w') where
    now-holds : Holds (record_bytes after) n (m + 1) w'
    now-holds = holds_entered h l.from l.to l.kind t.may t.behind p

    pub asking_book : {c : List ℕ} {k : ℕ} {edges : List ℕ} → Catalogued c k → EdgesCounted c k edges → Bookable c k edges s n (m + 1) w'
    asking_book v u =
        let r = ready_by h (omega arith) in
        let q = ready_by now-holds (omega (arith, enters.made.size)) in
        record {
          views = v;
          counted = u;
          ready = record {
            small = r.small;
            labels = r.labels;
            nodes = r.nodes;
            edges = q.edges;
            long = q.long;
            from = q.from;
            to = q.to;
            kind = q.kind;
          };
          rises = rises_by now-holds;
        }

    -- the graph in the workspace is that of the record with the link
    graph-after : graph_in s n (m + 1) w' ≡ graph_of after
    graph-after =
        let q : now-holds.fields ≡ after = cc (now-holds.is, enters.made.back) in
        let x : (graph_in s n m w).labels ≡ (graph_of ws).labels = ap (λ (G : Graph). G.labels) (graph_same h) in
        let y : (graph_in (record_bytes after) n (m + 1) w').edges ≡ (graph_of after).edges = ap (λ (G : Graph). G.edges) (graph_same now-holds ∙ ap graph_of q) in
        let u : (graph_of after).labels ≡ (graph_of ws).labels = ap (λ (G : Graph). G.labels) (graph_entered s ws h.is l.from l.to l.kind t.may) in
        graph_parts s (record_bytes after) n m (m + 1) w w' (graph_of after) (x ∙ sym u) y

    word_edge : edge_of_word (get_or w' at 0) ≡ link
    word_edge =
        let r = link_room in
        let x = p.here in
        let a : get_or w' at 0 / 4096 % 4096 ≡ l.from = omega (arith, x, r.2, r.3) in
        let b : get_or w' at 0 % 4096 ≡ l.to = omega (arith, x, r.3) in
        let c : get_or w' at 0 / 2 ^ 24 ≡ l.kind = omega (arith, x, r.2, r.3) in
        λ i. between (a i) (b i) (c i)

    graph-before : without link (graph_of after) ≡ graph_of ws
    graph-before =
        let may = t.may in
        ap (without link) (graph_entered s ws h.is l.from l.to l.kind may)
        ∙ entered_without (graph_of ws) (links_before s ws h.is l.from l.to l.kind may) (links_after s ws h.is l.from l.to l.kind may) link
        (links_split s ws h.is l.from l.to l.kind may) (link_new s ws h.is l.from l.to l.kind may)

    -- the set that was found is that of the views which the link changes
    pub asked_given : (c : List ℕ) (one : ℕ) {set : ℕ} (st : State) → links ≡ st.links → ChangedBy c one s n (m + 1) w' at set → (cs : List ℕ) → read_catalogue c ≡ accepted cs
        → Fulfils [] (ask_of (offers cs one) s st l) (told 0 (set ∷ l.from ∷ l.to ∷ l.kind ∷ st.change ∷ [])) [] []
    asked_given c one {set} st i f cs v =
        let o : Offered = offers cs one in
        let x : set ≡ changed_views o (graph_of ws) (graph_of after) (length (views_of cs)) =
        f cs v
        ∙ ap₂ (λ (d : Edge) (G : Graph). changed_views o (without d G) G (length (views_of cs))) word_edge graph-after
        ∙ ap (λ (G : Graph). changed_views o G (graph_of after) (length (views_of cs))) graph-before in
        answers_on (λ rs. ask_for o rs st l) (accepted_by (read_finds 44036 3 record' s size) h.is)
        (answers_on (λ us. give (ask_values o ws st l us) []) (ap (λ (j : ℕ). judge_link j ws l) (sym i) ∙ t.judged) (values_given o ws after st l x))

-- ---- refusals
pub asked_unread : (o : Offered) (s : List ℕ) (st : State) (l : Link) (x : Refusal) → read_record s ≡ rejected (number_of x) (detail_of x)
    → Fulfils [] (ask_of o s st l) (ask_told (Err x)) [] []
asked_unread o s st l x e = answers_refused (λ rs. ask_for o rs st l) [] e refl

pub asked_refused : (o : Offered) {s : List ℕ} {n m : ℕ} {w : List ℕ} (st : State) (l : Link) (h : Holds s n m w) → length s ≤ 44036 → (x : Refusal)
    → judge_link st.links h.fields l ≡ rejected (number_of x) (detail_of x) → Fulfils [] (ask_of o s st l) (ask_told (Err x)) [] []
asked_refused o {s} st l h size x e =
    answers_on (λ rs. ask_for o rs st l) (accepted_by (read_finds 44036 3 record' s size) h.is) (answers_refused (λ us. give (ask_values o h.fields st l us) []) [] e refl)

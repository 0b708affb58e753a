-- The views of an accepted catalogue in batches: which bits are whose, what filling a batch keeps, and what a view's bits say once it is matched.
use Prim.Native.Nat.{ℕ, zero, suc, ◌+◌, ◌*◌, ◌<◌, ◌≤◌}
use mathlib.Core.Path.{◌≡◌, refl, sym, ap, subst, ◌∙◌}
use mathlib.Core.Bool.{Bool, true, false, ◌||◌}
use mathlib.Core.Logic.{◌⊎◌, inl, inr, ⊎_elim}
use mathlib.Core.List.{List, []}
use lib.ListN.{length, drop, get_or, length-drop, get_or-map}
use lib.Seq.{get_or-take, drop-cons}
use lib.Dec.{ltb}
use borrow.Author.Tests.{ltb-true, ltb-false}
use native.Mathlib.Omega.{arith}
use Rattle.packed.specs.Contents.{edges_of, views_of, edge_counts}
use Rattle.packed.specs.Calls.{accepted, read_catalogue}
use Rattle.packed.specs.Accepting.{HoldsViews}
use Rattle.packed.specs.Reading.{Stands}
use Rattle.packed.specs.Matches.{matches_from, sum_of}
use Rattle.packed.specs.declared.by_value.Pattern.{Pattern as Given}
use Rattle.packed.proofs.OrderCases.{lt_or_ge}
use Rattle.packed.proofs.MatchLaws.{sum_next}
use Rattle.packed.proofs.AcceptedBounds.{catalogue_views}
use Rattle.engine.specs.Simulation.{Edge, no_edge, Rule, Pattern, ruled, Graph, match_sets}
use Rattle.engine.specs.Loaded.{pattern_in, given_edge, graph_in, Fair}
use Rattle.engine.specs.Matched.{ViewAt, Ahead}
use Rattle.engine.specs.Batches.{FairBatch, PartOf, BatchMatched}
use Rattle.engine.specs.declared.views.View.{View}
use Rattle.engine.specs.declared.batch.Batch.{Batch}
use Rattle.engine.proofs.UpToLaws.{get_d_up_to}
use Rattle.engine.proofs.ViewLaws.{Advanced, advance, all_ahead}
use Rattle.matching.specs.Offered.{Offered, offers, rule_in, view_at}
use Rattle.matching.specs.Books.{Catalogued}
use Rattle.matching.specs.Batches.{StandsAt, BeginsAt, ViewIn, Fills, ViewMatched}
use Rattle.matching.proofs.MatchSetLaws.{view_sheet_lem}
use Rattle.matching.proofs.PatternLaws.{fair_by, proper_by, pattern_same}

-- ---- which bits are whose
pub sum_grows : (a b : ℕ) (c : List ℕ) → a ≤ b → sum_of a c ≤ sum_of b c
sum_grows a zero c h = let e : a ≡ 0 = omega arith in omega (arith, ap (λ (i : ℕ). sum_of i c) e)
sum_grows a (suc b) c h =
    let n : b + 1 ≡ suc b = omega arith in
    ⊎_elim
    (λ (l : a < suc b). omega (arith, sum_grows a b c (omega arith), sum_next b c, ap (λ (i : ℕ). sum_of i c) n))
    (λ (l : suc b ≤ a). let e : a ≡ suc b = omega arith in omega (arith, ap (λ (i : ℕ). sum_of i c) e))
    (lt_or_ge a (suc b))

module _ (cs : List ℕ) where
  -- how many bits a view has
  pub count_of : (j : ℕ) → get_or (edge_counts cs) j 0 ≡ edges_of (get_or (views_of cs) j [])
  unfolding edge_counts
  count_of j = get_or-map edges_of (views_of cs) j []

  -- and by the table that was made when the catalogue was accepted
  pub table_of : {k : ℕ} {counts : List ℕ} → HoldsViews cs k counts → (j : ℕ) → j < k → get_or counts j 0 ≡ edges_of (get_or (views_of cs) j [])
  table_of {k} {counts} h j l = sym (get_or-take k counts j 0 l) ∙ ap (λ (t : List ℕ). get_or t j 0) h.are ∙ count_of j

  -- the first view's bits are the lowest, and those of each other come behind those of the one before
  pub stands_start : (a : ℕ) → StandsAt cs a a 0
  stands_start a = omega arith

  pub stands_next : (a j at : ℕ) → StandsAt cs a j at → StandsAt cs a (j + 1) (at + edges_of (get_or (views_of cs) j []))
  stands_next a j at s = omega (arith, s, sum_next j (edge_counts cs), count_of j)

  -- there are 32 bits
  pub stands_fits : (a j at next : ℕ) → StandsAt cs a j at → j < next → sum_of next (edge_counts cs) ≤ sum_of a (edge_counts cs) + 32
      → at + edges_of (get_or (views_of cs) j []) ≤ 32
  stands_fits a j at next s l few = omega (arith, s, sum_next j (edge_counts cs), sum_grows (j + 1) next (edge_counts cs) (omega arith), count_of j)

-- ---- filling a batch
-- so many edges and nodes are too many
abbrev pub over_batch : ℕ → ℕ → Bool
over_batch m n = ltb 32 m || ltb 64 n

pub over_no : (m n : ℕ) → over_batch m n ≡ false → (m ≤ 32) × (n ≤ 64)
over_no m n e = by_cases (ltb 32 m) refl e
  where
    by_cases : (s : Bool) → ltb 32 m ≡ s → s || ltb 64 n ≡ false → (m ≤ 32) × (n ≤ 64)
    by_cases true q h = absurd (let z : ◌≡◌ {A = ℕ} 0 1 = cc in omega arith)
    by_cases false q h = (ltb-false 32 m q, ltb-false 64 n h)

pub over_yes : (m n : ℕ) → over_batch m n ≡ true → (32 < m) ⊎ (64 < n)
over_yes m n e = by_cases (ltb 32 m) refl e
  where
    by_cases : (s : Bool) → ltb 32 m ≡ s → s || ltb 64 n ≡ true → (32 < m) ⊎ (64 < n)
    by_cases true q h = inl (ltb-true 32 m q)
    by_cases false q h = inr (ltb-true 64 n h)

-- the first view begins on byte 1
pub begins_first : (c : List ℕ) → BeginsAt c 0 1
begins_first c cs e = all_ahead c cs e

-- the view j stays a part of what the batch becomes
view_kept : {o : Offered} {b b' : Batch} {j at : ℕ} → ((q : Rule) (x : Given) (a o : ℕ) → PartOf b q x a o → PartOf b' q x a o)
    → ViewIn o b j at → ViewIn o b' j at
view_kept keeps v =
    record {
      given = v.given;
      holds = v.holds;
      means = v.means;
      fair = v.fair;
      proper = v.proper;
      node = v.node;
      part = keeps _ _ _ _ v.part;
    }

-- the views a .. next of the k are in the batch b, and the view `next` begins on the byte
pub record Filling (c : List ℕ) (one k a : ℕ) (b : Batch) (byte next : ℕ) : Type 0 where
  pub small : length c ≤ 65536
  pub fields : List ℕ
  pub is : read_catalogue c ≡ accepted fields
  pub number : length (views_of fields) ≡ k
  pub few : k ≤ 16
  pub begun : a < k
  pub since : a ≤ next
  pub most : next ≤ k
  pub ahead : Ahead c byte (drop next (views_of fields))
  pub fair : FairBatch b
  pub empty : next ≡ a → b.nodes ≡ 0
  pub stands : StandsAt fields a next b.edges
  pub views : (j at : ℕ) → a ≤ j → j < next → StandsAt fields a j at → ViewIn (offers fields one) b j at

pub filling_start : {c : List ℕ} {k : ℕ} (one : ℕ) {a byte : ℕ} {b : Batch} → Catalogued c k → a < k → BeginsAt c a byte
    → FairBatch b → b.nodes ≡ 0 → b.edges ≡ 0 → Filling c one k a b byte a
filling_start {c} {k} one {a} q l begins f n e =
    let v = catalogue_views c q.fields q.is in
    let i = q.number in
    record {
      small = q.small;
      fields = q.fields;
      is = q.is;
      number = v.many ∙ sym i;
      few = omega (arith, v.most);
      begun = l;
      since = omega arith;
      most = omega arith;
      ahead = begins q.fields q.is;
      fair = f;
      empty = λ _. n;
      stands = omega (arith, e);
      views = λ j at m h s. absurd (omega arith);
    }

module _ {c : List ℕ} {one k a : ℕ} {b : Batch} {byte next : ℕ} (z : Filling c one k a b byte next) where
  pub filling_stands : next < k → Stands c (8 * byte) 0
  filling_stands some =
      record { small = z.small; inside = omega (arith, z.ahead.inside (omega (arith, length-drop next (views_of z.fields), z.number))); few = omega arith }

  -- what is answered, where a view was added
  fills_by : a < next → Fills c one k a (record { batch = b; next = next; byte = byte })
  fills_by l =
      record {
        fair = z.fair;
        some = l;
        most = z.most;
        ahead = λ cs e. let i = z.is in let q : z.fields ≡ cs = cc in subst (λ (us : List ℕ). Ahead c byte (drop next (views_of us))) q z.ahead;
        few = λ cs e.
            let i = z.is in
            let q : z.fields ≡ cs = cc in
            subst (λ (us : List ℕ). sum_of next (edge_counts us) ≤ sum_of a (edge_counts us) + 32) q (omega (arith, z.stands, z.fair.edges));
        views = λ cs e j at m h s.
            let i = z.is in
            let q : z.fields ≡ cs = cc in
            subst (λ (us : List ℕ). ViewIn (offers us one) b j at) q (z.views j at m h (subst (λ (us : List ℕ). StandsAt us a j at) (sym q) s));
      }

  -- no view is left
  pub filling_end : k ≤ next → Fills c one k a (record { batch = b; next = k; byte = byte })
  filling_end l = subst (λ (n : ℕ). Fills c one k a (record { batch = b; next = n; byte = byte })) (let q : next ≡ k = omega (arith, z.most) in q) (fills_by (omega (arith, z.begun)))

  -- a batch that has edges is not without views
  pub filling_some : 0 < b.edges → Fills c one k a (record { batch = b; next = next; byte = byte })
  filling_some l = fills_by (⊎_elim (λ (h : a < next). h) (λ (h : next ≤ a). none (omega (arith, z.since))) (lt_or_ge a next))
    where
      none : next ≡ a → a < next
      none e =
          let m : b.edges ≡ 0 = omega (arith, z.stands, ap (λ (i : ℕ). sum_of i (edge_counts z.fields)) e) in
          absurd (omega arith)

  -- a view comes
  module _ (some : next < k) (v : View) (at : ViewAt c byte v) where
    abbrev content : List ℕ
    content = get_or (views_of z.fields) next []

    advanced : Advanced c content (drop (suc next) (views_of z.fields)) v
    advanced = advance (subst (λ l. Ahead c byte l) (drop-cons (views_of z.fields) next [] (omega (arith, z.number))) z.ahead) at

    pub filling_fair : Fair v.pattern
    filling_fair = fair_by advanced.plain advanced.holds

    -- it has no room, so it isn't alone
    pub filling_full : over_batch (b.edges + v.pattern.edges) (b.nodes + v.pattern.nodes) ≡ true
        → Fills c one k a (record { batch = b; next = next; byte = byte })
    filling_full full = fills_by (⊎_elim (λ (l : a < next). l) (λ (l : next ≤ a). alone (omega (arith, z.since))) (lt_or_ge a next))
      where
        alone : next ≡ a → a < next
        alone e =
            let f = filling_fair in
            let n : b.nodes ≡ 0 = z.empty e in
            let m : b.edges ≡ 0 = omega (arith, z.stands, ap (λ (i : ℕ). sum_of i (edge_counts z.fields)) e) in
            absurd
            (⊎_elim
            (λ (l : 32 < b.edges + v.pattern.edges). omega (arith, f.edges))
            (λ (l : 64 < b.nodes + v.pattern.nodes). omega (arith, f.nodes))
            (over_yes _ _ full))

    -- it is added
    module _ {u : Rule} (its : u ≡ rule_in one next) {b' : Batch} (fair : FairBatch b') (edges : b'.edges ≡ b.edges + v.pattern.edges)
        (part : PartOf b' u v.pattern b.nodes b.edges) (keeps : (q : Rule) (x : Given) (a o : ℕ) → PartOf b q x a o → PartOf b' q x a o) where
      added-in : ViewIn (offers z.fields one) b' next b.edges
      added-in =
          record {
            given = v.pattern;
            holds = advanced.holds;
            means = pattern_same advanced.plain advanced.holds;
            fair = filling_fair;
            proper = proper_by advanced.plain advanced.holds;
            node = b.nodes;
            part = subst (λ (r : Rule). PartOf b' r v.pattern b.nodes b.edges) its part;
          }

      pub filling_next : Filling c one k a b' v.next (next + 1)
      filling_next =
          record {
            small = z.small;
            fields = z.fields;
            is = z.is;
            number = z.number;
            few = z.few;
            begun = z.begun;
            since = omega (arith, z.since);
            most = omega arith;
            ahead = subst (λ (i : ℕ). Ahead c v.next (drop i (views_of z.fields))) {x = suc next} {y = next + 1} (omega arith) advanced.ahead;
            fair = fair;
            empty = λ e. absurd (omega (arith, z.since));
            stands = omega (arith, z.stands, edges, advanced.holds.edges, sum_next next (edge_counts z.fields), count_of z.fields next);
            views = λ j at m h s.
                ⊎_elim
                (λ (l : j < next). view_kept keeps (z.views j at m l s))
                (λ (l : next ≤ j).
                let e : j ≡ next = omega arith in
                let t : at ≡ b.edges = omega (arith, s, z.stands, ap (λ (i : ℕ). sum_of i (edge_counts z.fields)) e) in
                subst (λ (i : ℕ). ViewIn (offers z.fields one) b' i at) (sym e) (subst (λ (i : ℕ). ViewIn (offers z.fields one) b' next i) (sym t) added-in))
                (lt_or_ge j next);
          }

-- ---- a view of a batch that was matched
module _ {o : Offered} {b : Batch} {j at : ℕ} (v : ViewIn o b j at) where
  abbrev P : Pattern
  P = pattern_in v.given

  -- the pattern is the view
  view_means : ruled (rule_in o.one_way j) P ≡ view_at o j
  view_means = ap (ruled (rule_in o.one_way j)) v.means

  view_kind : (e : ℕ) → e < v.given.edges → (get_or (view_at o j).edges e no_edge).kind ≡ get_or v.given.kind e 0
  unfolding pattern_in
  view_kind e l =
      ap (λ (Q : Pattern). (get_or Q.edges e no_edge).kind) (sym view_means)
      ∙ ap (λ (f : Edge). f.kind) (get_d_up_to (given_edge v.given) v.given.edges e no_edge l)

  pub view_matched : {s : List ℕ} {n m : ℕ} {w w' : List ℕ} → BatchMatched b s n m w w' → ViewMatched o j at s n m w w'
  view_matched {s} {n} {m} {w} {w'} q =
      let p = q.parts _ _ _ _ v.part v.fair v.proper in
      let e = v.holds.edges in
      let G : Graph = graph_in s n m w in
      record {
        sets = ap (λ (i : ℕ). matches_from at m i w') (sym e) ∙ p.sets ∙ ap (λ (Q : Pattern). match_sets Q G) view_means ∙ sym (view_sheet_lem (view_at o j) G);
        only = λ i f l h t. let g : f < v.given.edges = omega arith in view_kind f g ∙ p.only i f l g t;
      }

-- The join is the greatest choice of pairs from the candidates that supports itself.
use Prim.Native.Nat.{ℕ, ◌%◌, ◌<◌}
use mathlib.Core.Path.{◌≡◌, refl, sym, ap, subst, ◌∙◌}
use mathlib.Core.Logic.{◌↔◌}
use mathlib.Core.List.{List, []}
use lib.ListN.{length, get_or}
use native.Mathlib.Omega.{arith}
use Rattle.packed.specs.Formats.{code}
use Rattle.packed.specs.Contents.{edge_counts, sheets_in}
use Rattle.engine.specs.Lists.{In}
use Rattle.engine.specs.Simulation.{Pair, Edge, no_edge, Pattern, pattern_of, ascending}
use Rattle.matching.specs.Join.{View, pair_of, candidates, Offer, choice, join, answer_sets}
use Rattle.engine.proofs.ListLaws.{in_cast, get_d_each}
use Rattle.engine.proofs.CodeLaws.{code_same, ascending_say, ascending_by}
use Rattle.matching.proofs.ByEdge.{answer_to}
use Rattle.matching.proofs.JoinLaws.{Supported, choice_candidate, choice_supported, choice_most, JoinedPair, join_candidate, complete_say, complete_by, answer_say, answer_by_lem, answer_each, code_pair, pair_code}
use Rattle.matching.specs.Offered.{Offered, view_patterns}
use Rattle.containment.specs.Quote.{no_pattern}
use Rattle.containment.specs.Answer.{views_in}
use Rattle.answering.specs.Demands.{Candidate, SupportsItself, GreatestChoice, Joins}
use Rattle.answering.proofs.DemandRules.{place_below, link_below}
use Rattle.answering.proofs.CandidateLaws.{Offered as OfferedPair, offered_say, offered_by}

-- the second number of the pair of a code has 12 bits
pair_narrow : {f : Pair} (c : ℕ) → f ≡ pair_of c → f.1 < 4096
unfolding pair_of
pair_narrow {f} c e = let q : f.1 ≡ c % 4096 = ap (λ (g : Pair). g.1) e in omega arith

-- ---- the greatest choice, without an algorithm
-- what supports itself is supported by the test of the join
pub supports_supported : (Q : Pattern) (L : Edge → Pair → Type 0) → SupportsItself Q L → (e : Edge) (f : Pair) → L e f → Supported Q L e f
supports_supported Q L s e f k = record {
  tail = λ g i q. let r = s.leaving_from e f.0 f.1 k g i q in ((f.0, r.0), r.1, refl);
  head = λ g i q. let r = s.leaving_to e f.0 f.1 k g i q in ((f.1, r.0), r.1, refl);
  tail_back = λ b g i q. let r = s.arriving_from b e f.0 f.1 k g i q in ((r.0, f.0), r.1, refl);
  head_back = λ b g i q. let r = s.arriving_to b e f.0 f.1 k g i q in ((r.0, f.1), r.1, refl);
}

pub choice_greatest : (L : Edge → Pair → Type 0) (Q : Pattern) (cs : Offer) → GreatestChoice L Q (λ e f. In f (cs e)) (λ e f. In (e, f) (choice Q cs))
choice_greatest L Q cs = record {
  chooses = λ e f k. choice_candidate Q cs k;
  supports = record {
    leaving_from = λ e v v' k g i q. begins ((choice_supported Q cs k).tail g i q);
    leaving_to = λ e v v' k g i q. begins ((choice_supported Q cs k).head g i q);
    arriving_from = λ b e v v' k g i q. closes ((choice_supported Q cs k).tail_back b g i q);
    arriving_to = λ b e v v' k g i q. closes ((choice_supported Q cs k).head_back b g i q);
  };
  greatest = λ c s. choice_most Q cs L c (supports_supported Q L s);
}
  where
    begins : {g : Edge} {v : ℕ} → (h : Pair) × In (g, h) (choice Q cs) × (h.0 ≡ v) → (x : ℕ) × In (g, (v, x)) (choice Q cs)
    begins {g} {v} (h, k, q) = (h.1, subst (λ z. In (g, (z, h.1)) (choice Q cs)) q k)

    closes : {g : Edge} {v : ℕ} → (h : Pair) × In (g, h) (choice Q cs) × (h.1 ≡ v) → (x : ℕ) × In (g, (x, v)) (choice Q cs)
    closes {g} {v} (h, k, q) = (h.0, subst (λ z. In (g, (h.0, z)) (choice Q cs)) q k)

-- the same of candidates and of a choice that are said in other words
module _ {Q : Pattern} {L C C' K K' : Edge → Pair → Type 0} (offers : (e : Edge) (f : Pair) → C e f → C' e f) (offered : (e : Edge) (f : Pair) → C' e f → C e f)
    (keeps : (e : Edge) (f : Pair) → K e f → K' e f) (kept : (e : Edge) (f : Pair) → K' e f → K e f) where
  pub greatest_as : GreatestChoice L Q C K → GreatestChoice L Q C' K'
  greatest_as g = record {
    chooses = λ e f k. let r = g.chooses e f (kept e f k) in (r.0, offers e f r.1);
    supports = record {
      leaving_from = λ e v v' k h i q. let r = g.supports.leaving_from e v v' (kept e (v, v') k) h i q in (r.0, keeps h (v, r.0) r.1);
      leaving_to = λ e v v' k h i q. let r = g.supports.leaving_to e v v' (kept e (v, v') k) h i q in (r.0, keeps h (v', r.0) r.1);
      arriving_from = λ b e v v' k h i q. let r = g.supports.arriving_from b e v v' (kept e (v, v') k) h i q in (r.0, keeps h (r.0, v) r.1);
      arriving_to = λ b e v v' k h i q. let r = g.supports.arriving_to b e v v' (kept e (v, v') k) h i q in (r.0, keeps h (r.0, v') r.1);
    };
    greatest = λ c s e f l. keeps e f (g.greatest (λ h x k. let r = c h x k in (r.0, offered h x r.1)) s e f l);
  }

module _ (Q : Pattern) (Ps : List Pattern) (sheets : List (List (List ℕ))) (set : ℕ) where
  abbrev views : List View
  views = views_in set Ps sheets

  -- ---- candidates
  candidate_say : {e : Edge} {f : Pair} → In f (candidates Q views e) → Candidate Q Ps sheets set e f
  candidate_say {e} {f} i =
      let r = offered_say Q set Ps sheets e i in
      let o = r.2 in
      let q : code f.0 f.1 ≡ r.0 = ap (λ (g : Pair). code g.0 g.1) r.1 ∙ pair_code r.0 in
      record {
        by = record { extract = o.view; given = o.given; in_set = o.chosen; link = o.edge; kind = o.kind; lists = o.matches };
        lists = in_cast (sym q) o.lists;
        narrow = pair_narrow r.0 r.1;
      }

  candidate_by : {e : Edge} {f : Pair} → Candidate Q Ps sheets set e f → In f (candidates Q views e)
  candidate_by {e} {f} k =
      let m = k.by in
      let P : Pattern = get_or Ps m.extract no_pattern in
      let o : OfferedPair Q set Ps sheets e (code f.0 f.1) = record {
        view = m.extract;
        given = m.given;
        chosen = m.in_set;
        edge = m.link;
        below = place_below (get_or sheets m.extract []) m.link k.lists;
        kind = m.kind;
        matches = m.lists;
        lists = k.lists;
      } in
      in_cast (code_pair k.narrow) (offered_by Q set Ps sheets e o (link_below Q P m.link m.lists))

  -- ---- the greatest choice
  abbrev Keeps : Edge → Pair → Type 0
  Keeps e f = JoinedPair Q views e f

  greatest_choice : (L : Edge → Pair → Type 0) → GreatestChoice L Q (Candidate Q Ps sheets set) Keeps
  unfolding join
  greatest_choice L = greatest_as (λ e f i. candidate_say i) (λ e f c. candidate_by c) (λ e f k. k) (λ e f k. k) (choice_greatest L Q (candidates Q views))

  -- ---- the lists of the answer
  abbrev Complete : Type 0
  Complete = (e : Edge) → In e Q.edges → (h : Pair) × Keeps e h

  answer_narrow : (e : Edge) {f : Pair} → In f (answer_to Q views e) → f.1 < 4096
  answer_narrow e i = (candidate_say (join_candidate Q views (answer_say Q views i).1).1).narrow

  answer_lists : (i : ℕ) → i < length Q.edges → (f : Pair) → f.1 < 4096
      → In (code f.0 f.1) (get_or (answer_sets Q views) i []) ↔ (Complete × Keeps (get_or Q.edges i no_edge) f)
  answer_lists i h f n =
      let e = get_or Q.edges i no_edge in
      let at : get_or (answer_sets Q views) i [] ≡ ascending (answer_to Q views e) =
      ap (λ ls. get_or ls i []) (answer_each Q views) ∙ get_d_each (λ g. ascending (answer_to Q views g)) Q.edges i no_edge [] h in (
        λ m.
            let r = ascending_say (answer_to Q views e) (subst (λ l. In (code f.0 f.1) l) at m) in
            let a = answer_say Q views (in_cast (sym (code_same n (answer_narrow e r.1) r.2)) r.1) in
            (complete_say Q views a.0, a.1),
        λ m. subst (λ l. In (code f.0 f.1) l) (sym at) (ascending_by (answer_by_lem Q views (complete_by Q views m.0) m.1)),
      )

pub answer_joins : (L : Edge → Pair → Type 0) (set : ℕ) (qs : List ℕ) (cs : Offered) (bs : List ℕ) → Joins L set qs cs bs
answer_joins L set qs cs bs = record {
  is = greatest_choice (pattern_of qs) (view_patterns cs) (sheets_in (edge_counts cs.content) bs) set L;
  lists = answer_lists (pattern_of qs) (view_patterns cs) (sheets_in (edge_counts cs.content) bs) set;
}

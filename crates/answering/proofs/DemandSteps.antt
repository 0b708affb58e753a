-- The join goes by steps, from the ends inward, and after each the settled links hold the greatest choice for them alone; then what is left is pruned both ways.
use Prim.Native.Nat.{ℕ, ◌<◌}
use mathlib.Core.Path.{◌≡◌, refl, sym, ap, subst}
use mathlib.Core.Logic.{◌↔◌, inl, inr, ⊎_elim}
use mathlib.Core.List.{List}
use lib.ListN.{length}
use lib.Dec.{T}
use Rattle.packed.specs.declared.by_value.Pattern.{Pattern as Given}
use Rattle.engine.specs.Lists.{◌or◌, In}
use Rattle.engine.specs.Simulation.{Pair, Edge, bit, one_way, Pattern, ruled, given_edge, pattern_in, sound}
use Rattle.matching.specs.Join.{Offer}
use Rattle.matching.specs.Components.{Nodes, leaving_of, join_in, state_at, reaches, together, Shut, OneStep, StepsTo, Holds, Ran, Pruned}
use Rattle.engine.proofs.ListLaws.{in_cast, keep_all}
use Rattle.engine.proofs.MatchLaws.{sound_say}
use Rattle.matching.proofs.ComponentLaws.{Ended, JoinedIn, join_in_candidate, state_say, state_candidate, state_old, state_new, choice_state, join_cut, join_grow, reaches_self, reaches_shut, reaches_least, together_say, together_by, ready_say, step_old, step_in, step_new, step_apart, ready_one, steps_shut, steps_few}
use Rattle.matching.proofs.JoinLaws.{choice_candidate, kept_in, in_kept}
use Rattle.matching.proofs.ReachLaws.{in_edges, edges_in_lem, given_rule}
use Rattle.answering.specs.Demands.{GreatestChoice, AddsOne, AfterStep, HeldFor, BySteps}
use Rattle.answering.proofs.DemandJoin.{supports_supported, choice_greatest, greatest_as}

-- ---- what is held
module _ (Q : Pattern) (S : Nodes) (cs : Offer) where
  abbrev State : Edge → Pair → Type 0
  State e f = In e Q.edges × In f (state_at S Q cs e)

  joined : {e : Edge} {f : Pair} → T (S e.from) → In f (state_at S Q cs e) → JoinedIn S Q cs e f
  joined t i = ⊎_elim (λ r. r.1) (λ r. absurd (r.0 t)) (state_say S Q cs i)

  settled : (L : Edge → Pair → Type 0) → GreatestChoice L (leaving_of S Q) (λ e f. In f (cs e)) (λ e f. T (S e.from) × State e f)
  unfolding join_in
  settled L =
      greatest_as (λ e f i. i) (λ e f i. i)
      (λ e f j. let c = join_in_candidate S Q cs j in (c.from, (c.edge, state_old S Q cs j)))
      (λ e f k. joined k.0 k.1.1)
      (choice_greatest L (leaving_of S Q) cs)

  others : (e : Edge) → In e Q.edges → (T (S e.from) → ⊥) → (f : Pair) → State e f ↔ In f (cs e)
  others e i n f = (λ k. state_candidate S Q cs k.1, λ c. (i, state_new S Q cs e f n c))

  after_step : (L : Edge → Pair → Type 0) → AfterStep L Q S cs State
  after_step L = record { settled = settled L; others = others }

  -- said in other words
  after_as : (L K : Edge → Pair → Type 0) → ((e : Edge) (f : Pair) → State e f → K e f) → ((e : Edge) (f : Pair) → K e f → State e f) → AfterStep L Q S cs K
  after_as L K to from = record {
    settled = greatest_as (λ e f i. i) (λ e f i. i) (λ e f k. (k.0, to e f k.1)) (λ e f k. (k.0, from e f k.1)) (settled L);
    others = λ e i n f. (λ k. (others e i n f).0 (from e f k), λ c. to e f ((others e i n f).1 c));
  }

-- the words hold a pair for a link if its list has it
module _ {q : Given} {d : ℕ} {w : List ℕ} {cs : Offer} (h : Holds q d w cs) where
  words_say : (e : Edge) (f : Pair) → HeldFor q d w e f → In e (pattern_in q).edges × In f (cs e)
  words_say e f k = (
    in_cast (sym k.is_link) (in_edges q k.link k.below),
    subst (λ (x : Edge). In f (cs x)) (sym k.is_link) (in_cast (sym k.is_pair) (h.listed k.place k.link k.within k.below k.held)),
  )

  words_by : (e : Edge) (f : Pair) → In e (pattern_in q).edges × In f (cs e) → HeldFor q d w e f
  words_by e f (i, c) =
      let n = edges_in_lem q i in
      let c' : In f (cs (given_edge q n.at)) = subst (λ (x : Edge). In f (cs x)) n.holds c in
      let p = h.among n.at f n.below c' in
      record {
        link = n.at;
        below = n.below;
        is_link = n.holds;
        place = p.0;
        within = p.1;
        is_pair = p.2;
        held = h.held p.0 n.at p.1 n.below (in_cast p.2 c');
      }

words : (L : Edge → Pair → Type 0) (q : Given) (d steps settled : ℕ) (w w' : List ℕ) → Ran q d steps w settled w' → (cs : Offer) → Holds q d w cs → AfterStep L (pattern_in q) (bit settled) cs (HeldFor q d w')
words L q d steps settled w w' ran cs h = let s = ran.state cs h in after_as (pattern_in q) (bit settled) cs L (HeldFor q d w') (words_by s) (words_say s)

stays : (Q : Pattern) (S S' : Nodes) → Shut Q S → ((v : ℕ) → T (S v) → T (S' v)) → (cs : Offer) (e : Edge) → T (S e.from) → (f : Pair)
    → In f (state_at S' Q cs e) ↔ In f (state_at S Q cs e)
stays Q S S' shut within cs e t f = (
  λ i. state_old S Q cs (join_cut S S' Q cs shut within (joined Q S' cs (within e.from t) i) t),
  λ i. state_old S' Q cs (join_grow S S' Q cs shut within (joined Q S cs t i)),
)

whole : (Q : Pattern) (S : Nodes) → ((e : Edge) → In e Q.edges → T (S e.from)) → leaving_of S Q ≡ ruled one_way Q
unfolding leaving_of
whole Q S all = ap (λ (es : List Edge). record { labels = Q.labels; edges = es; rule = one_way }) (keep_all (λ e. S e.from) Q.edges all)

-- ---- the pruning
prunes : (L : Edge → Pair → Type 0) (q : Given) (d : ℕ) (w w' : List ℕ) → Pruned q d w w' → (cs : Offer) → Holds q d w cs → GreatestChoice L (pattern_in q) (λ e f. In f (cs e)) (HeldFor q d w')
prunes L q d w w' p cs h =
    let s = p.state cs h in
    greatest_as (λ e f i. i) (λ e f i. i)
    (λ e f k. words_by s e f ((choice_candidate (pattern_in q) cs k).0, in_kept _ k))
    (λ e f k. kept_in _ (words_say s e f k).1)
    (choice_greatest L (pattern_in q) cs)

from_steps : (K L : Edge → Pair → Type 0) (Q : Pattern) (S : Nodes) (cs : Offer) → GreatestChoice L Q (λ e f. In f (state_at S Q cs e)) K → GreatestChoice L Q (λ e f. In f (cs e)) K
from_steps K L Q S cs g = record {
  chooses = λ e f k. let r = g.chooses e f k in (r.0, state_candidate S Q cs r.1);
  supports = g.supports;
  greatest = λ c s. g.greatest (choice_state S Q cs L c (supports_supported Q L s)) s;
}

after_both : (L : Edge → Pair → Type 0) (q : Given) (d steps settled : ℕ) (w w' w'' : List ℕ) → Ran q d steps w settled w' → Pruned q d w' w'' → (cs : Offer) → Holds q d w cs
    → GreatestChoice L (pattern_in q) (λ e f. In f (cs e)) (HeldFor q d w'')
after_both L q d steps settled w w' w'' ran pruned cs h =
    from_steps (HeldFor q d w'') L (pattern_in q) (bit settled) cs (prunes L q d w' w'' pruned (state_at (bit settled) (pattern_in q) cs) (ran.state cs h))

-- ---- the steps
module _ (Q : Pattern) (s : T (sound Q)) where
  ends : Ended Q
  ends = (sound_say Q s).ends

  inward : (k : ℕ) (S : Nodes) → StepsTo Q k S → (u v : ℕ) → v < length Q.labels → T (reaches Q u v) → T (S u) → T (S v)
  inward k S steps u v l r t = reaches_least Q ends S (steps_shut Q ends steps) u v t l r

  adds : (k : ℕ) (S S' : Nodes) → StepsTo Q k S → OneStep Q S S' → AddsOne Q S S'
  adds k S S' steps o = record {
    item = o.node;
    there = o.there;
    adds = λ v l. (
      λ t. ⊎_elim (λ x. inl x) (λ x. inr (together_say Q o.node v x)) (step_new Q ends o v l t),
      λ t. ⊎_elim (λ x. step_old Q ends o v l x) (λ x. step_in Q ends o v l (together_by Q o.node v x.0 x.1)) t,
    );
    new = λ v t. step_apart Q ends o (steps_shut Q ends steps) v (together_by Q o.node v t.0 t.1);
    after = λ e i t.
        ⊎_elim (λ x. inl x) (λ x. inr (together_say Q o.node e.to x)) (ready_say Q S o.node o.ready e i (together_by Q o.node e.from t.0 t.1));
  }

  goes_on : (S : Nodes) (u : ℕ) → u < length Q.labels → (T (S u) → ⊥) → (S' : Nodes) × OneStep Q S S'
  goes_on S u l n =
      let c = ready_one Q ends S u l n in
      (λ v. S v or together Q c.0 v, record { node = c.0; there = c.1; new = c.2; ready = c.3; adds = λ v h. refl })

pub by_steps : (K L : Edge → Pair → Type 0) → BySteps K L
by_steps K L = record {
  leads_self = reaches_self;
  leads_on = λ Q u. reaches_shut Q u;
  leads_least = λ Q s. reaches_least Q (ends Q s);
  adds = adds;
  together = λ Q s k S steps u v l t. inward Q s k S steps u v l t.0;
  inward = inward;
  goes_on = goes_on;
  few = λ Q s k S steps. steps_few Q (ends Q s) steps;
  state = λ Q S cs. after_step Q S cs L;
  words = words L;
  stays = stays;
  whole = whole;
  rule_both_ways = given_rule;
  prunes = prunes L;
  from_steps = from_steps K L;
  after_both = after_both L;
}

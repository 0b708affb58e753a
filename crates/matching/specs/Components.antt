-- The join by steps, from the ends inward: the greatest choice for the edges that leave a set of nodes, the components that the steps add one by one, and what the
-- program's words hold after each step, and after the pruning that follows the last.
use Rattle.std.specs.Prelude.{◌≡◌, Bool, cond, false, not, List, ℕ, suc, ◌+◌, ◌<◌, ◌≤◌, length, get_or, T, eqb}
use Rattle.packed.specs.declared.by_value.Pattern.{Pattern as Given}
use Rattle.engine.specs.Lists.{◌and◌, ◌or◌, ◌implies◌, In, every, some, keep, below}
use Rattle.engine.specs.Greatest.{greatest}
use Rattle.engine.specs.Simulation.{Pair, Edge, bit, one_way, Pattern, given_edge, pattern_in}
use Rattle.matching.specs.Join.{pair_of, Kept, Offer, choice, kept_for}

-- ---- components
-- all that leads to v in one step is listed
unfoldable pub apart : Pattern → List ℕ → ℕ → Bool
apart Q l v = every (λ e. eqb e.to v implies some (eqb e.from) l) Q.edges

-- the nodes ("items") that u does not lead to: the greatest set without u that nothing outside it leads to
unfoldable pub unreached : Pattern → ℕ → List ℕ
unreached Q u = greatest (apart Q) (keep (λ v. not (eqb u v)) (below (length Q.labels)))

-- u leads to v, directly, through others, or in no step
unfoldable pub reaches : Pattern → ℕ → ℕ → Bool
reaches Q u v = not (some (eqb v) (unreached Q u))

-- u and v lead to each other: the component of u has v
unfoldable pub together : Pattern → ℕ → ℕ → Bool
together Q u v = reaches Q u v and reaches Q v u

-- ---- the edges that leave a set
abbrev pub Nodes : Type 0
Nodes = ℕ → Bool

-- the pattern with those of its edges alone that leave S, matched one-way: the steps ask for the edges that leave
unfoldable pub leaving_of : Nodes → Pattern → Pattern
leaving_of S Q = record { labels = Q.labels; edges = keep (λ e. S e.from) Q.edges; rule = one_way }

-- the greatest choice for the edges that leave S alone: the join's support, asked for these edges alone
unfoldable pub join_in : Nodes → Pattern → Offer → List Kept
join_in S Q cs = choice (leaving_of S Q) cs

-- between steps ("after each step"): the edges that leave S hold the greatest choice for them alone, and all others still their candidates
unfoldable pub state_at : Nodes → Pattern → Offer → Edge → List Pair
state_at S Q cs e = cond (S e.from) (kept_for (join_in S Q cs) e) (cs e)

-- ---- steps
-- S has all that its nodes lead to
abbrev pub Shut : Pattern → Nodes → Type 0
Shut Q S = (e : Edge) → In e Q.edges → T (S e.from) → T (S e.to)

-- the component of c may be settled after S: what its nodes lead to directly is in S or in it
unfoldable pub ready : Pattern → Nodes → ℕ → Bool
ready Q S c = every (λ e. together Q c e.from implies (S e.to or together Q c e.to)) Q.edges

-- one step from S: exactly one component, which was not settled and is ready
pub record OneStep (Q : Pattern) (S S' : Nodes) : Type 0 where
  pub node : ℕ
  pub there : node < length Q.labels
  pub new : T (S node) → ⊥
  pub ready : T (ready Q S node)
  pub adds : (v : ℕ) → v < length Q.labels → S' v ≡ (S v or together Q node v)

-- so many steps one after the other, from no node
pub data StepsTo (Q : Pattern) : ℕ → Nodes → Type 0 where
  start : {S : Nodes} → ((v : ℕ) → v < length Q.labels → S v ≡ false) → StepsTo Q 0 S
  step : {k : ℕ} {S S' : Nodes} → StepsTo Q k S → OneStep Q S S' → StepsTo Q (suc k) S'

-- ---- what the program holds between steps. Words of the workspace: from word 0 on the codes of d pairs, and from word 8192 on for each of them a mask of the
-- query's edges. The query is given by value; its edges have the numbers below q.edges.
-- the pair number i
abbrev pub pair_at : List ℕ → ℕ → Pair
pair_at w i = pair_of (get_or w i 0)

-- it is held for the edge number e
abbrev pub IsHeld : List ℕ → ℕ → ℕ → Type 0
IsHeld w i e = T (bit (get_or w (8192 + i) 0) e)

-- for each edge of the query the words hold just the pairs that it has by the lists cs
pub record Holds (q : Given) (d : ℕ) (w : List ℕ) (cs : Offer) : Type 0 where
  pub listed : (i e : ℕ) → i < d → e < q.edges → IsHeld w i e → In (pair_at w i) (cs (given_edge q e))
  pub held : (i e : ℕ) → i < d → e < q.edges → In (pair_at w i) (cs (given_edge q e)) → IsHeld w i e
  pub among : (e : ℕ) (f : Pair) → e < q.edges → In f (cs (given_edge q e)) → (i : ℕ) × (i < d) × (f ≡ pair_at w i)

-- whatever candidates the words w held, the words w' hold for the edges ("links") that leave the settled nodes "the greatest choice for them alone", "and all
-- others still their candidates"; the mask settled says which nodes these are
abbrev pub HoldsState : Given → ℕ → List ℕ → ℕ → List ℕ → Type 0
HoldsState q d w settled w' = (cs : Offer) → Holds q d w cs → Holds q d w' (state_at (bit settled) (pattern_in q) cs)

-- "after each step": at most so many steps one after the other, from no node, and fewer only where all nodes are settled; the words w are those before the
-- first step, w' those after the last, and the pairs stay where they are
pub record Ran (q : Given) (d steps : ℕ) (w : List ℕ) (settled : ℕ) (w' : List ℕ) : Type 0 where
  pub number : ℕ
  pub most : number ≤ steps
  pub last : number < steps → (u : ℕ) → u < q.nodes → T (bit settled u)
  pub sequence : StepsTo (pattern_in q) number (bit settled)
  pub state : HoldsState q d w settled w'
  pub long : length w' ≡ length w
  pub pairs : (i : ℕ) → i < 8192 → get_or w' i 0 ≡ get_or w i 0

-- "pruning both ways starts from what they leave": whatever candidates the words w held, the words w' hold the greatest choice from them by the rule of the query,
-- and the pairs stay where they are
pub record Pruned (q : Given) (d : ℕ) (w w' : List ℕ) : Type 0 where
  pub state : (cs : Offer) → Holds q d w cs → Holds q d w' (kept_for (choice (pattern_in q) cs))
  pub long : length w' ≡ length w
  pub pairs : (i : ℕ) → i < 8192 → get_or w' i 0 ≡ get_or w i 0

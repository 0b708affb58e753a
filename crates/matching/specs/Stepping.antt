-- inner: what the join's steps need and keep: sets of the query's nodes and links as masks, and the masks of the nodes beside the pairs held between steps.
use Rattle.std.specs.Prelude.{ℕ, ◌+◌, ◌^◌, ◌<◌, ◌≤◌, ◌≡◌, List, Bool, true, false, ◌⊎◌, length, get_or, take, replicate, T}
use Rattle.std.specs.Int.Bits.{bit_and, bit_or, bit_xor}
use Rattle.packed.specs.Limits.{pair_width}
use Rattle.packed.specs.ByValue.{HoldsPattern}
use Rattle.packed.specs.Calls.{accepted, rejected, read_pattern}
use Rattle.packed.specs.declared.by_value.Pattern.{Pattern as Given}
use Rattle.engine.specs.Simulation.{bit}
use Rattle.engine.specs.Loaded.{pattern_in, Edges}
use Rattle.engine.specs.Masks.{Has, Mask, OneOf}
use Rattle.engine.specs.Sweeping.{from_of, to_of, Ends, held_at, Tabled}
use Rattle.engine.specs.Rounds.{Supports, Safe, Shape, Falls, Prepared}
use Rattle.matching.specs.Components.{reaches, Shut, HoldsState, Ran, Pruned}
use Rattle.matching.specs.Candidates.{Pool}
use Rattle.matching.specs.declared.steps.Place.{Place}

-- ---- components
-- r has x, and lies in every set that has x and the ends of links that begin in it; where it is x, x is such a set
pub record Spread (from to : List ℕ) (m x r : ℕ) : Type 0 where
  pub more : (k : ℕ) → Has x k → Has r k
  pub least : (P : ℕ → Bool) → ((k : ℕ) → Has x k → T (P k)) → ((e : ℕ) → e < m → T (P (get_or from e 0)) → T (P (get_or to e 0))) → (k : ℕ) → Has r k → T (P k)
  pub shut : r ≡ x → (e : ℕ) → e < m → Has x (get_or from e 0) → Has x (get_or to e 0)

abbrev pub ReachedFrom : Given → ℕ → ℕ → Type 0
ReachedFrom q u r = Mask (λ v. (v < q.nodes) × T (reaches (pattern_in q) u v)) r

abbrev pub AllReached : Given → List ℕ → Type 0
AllReached q t = (u : ℕ) → u < q.nodes → ReachedFrom q u (get_or t u 0)

-- for each node those that it leads to and that lead to it
abbrev pub AllComponents : List ℕ → ℕ → List ℕ → Type 0
AllComponents t n c = (u : ℕ) → u < n → Mask (λ v. Has (get_or t u 0) v × (v < n) × Has (get_or t v 0) u) (get_or c u 0)

-- no node of u's component is settled, and u leads to it and to settled nodes alone
abbrev pub IsNext : List ℕ → List ℕ → ℕ → ℕ → Type 0
IsNext t c settled u = bit_or (bit_and (get_or c u 0) settled) (bit_xor (get_or t u 0) (bit_and (get_or t u 0) (bit_or settled (get_or c u 0)))) ≡ 0

-- such a component, whichever, or 0 if there is none
pub record NextOf (t c : List ℕ) (n settled r : ℕ) : Type 0 where
  pub one : (r ≡ 0 → ⊥) → OneOf n (λ u. IsNext t c settled u × (r ≡ get_or c u 0))
  pub none : ((u : ℕ) → u < n → get_or c u 0 ≡ 0 → ⊥) → r ≡ 0 → (u : ℕ) → u < n → IsNext t c settled u → ⊥

-- the links that leave the nodes x
abbrev pub LeavingLinks : List ℕ → ℕ → ℕ → ℕ → Type 0
LeavingLinks from m x r = Mask (λ k. OneOf m (λ e. (e ≡ k) × Has x (get_or from e 0))) r

-- ---- what is held between steps
-- r has every link for which a pair is held that its ends don't allow
abbrev pub Loose : ℕ → List ℕ → List ℕ → List ℕ → ℕ → Type 0
Loose d w leave arrive r = (i e : ℕ) → i < d → Has (held_at w i) e → Has r e ⊎ (Has (get_or leave (from_of w i) 0) e × Has (get_or arrive (to_of w i) 0) e)

-- r has those links alone
abbrev pub LooseLinks : ℕ → List ℕ → List ℕ → List ℕ → ℕ → Type 0
LooseLinks d w leave arrive r = Mask (λ e. OneOf d (λ i. Has (held_at w i) e × (Has (get_or leave (from_of w i) 0) e × Has (get_or arrive (to_of w i) 0) e → ⊥))) r

-- the masks of the nodes beside what is held: w are the first words, and s the place of the steps
pub record Between (q : Given) (n d : ℕ) (w : List ℕ) (s : Place) (w' leave arrive : List ℕ) : Type 0 where
  pub small : (i : ℕ) → i < d → get_or w i 0 < 2 ^ pair_width
  pub shut : Shut (pattern_in q) (bit s.settled)
  pub free : Mask (λ e. (e < q.edges) × (Has s.settled (get_or q.from e 0) → ⊥)) s.free
  pub loose : (e : ℕ) → e < q.edges → Has s.loose e → Has s.free e
  pub falls : Falls s.free d w w'
  pub shape : Shape q.from q.to q.edges leave arrive
  pub within : Loose d w' leave arrive s.loose
  pub offered : (v e : ℕ) → v < n → e < q.edges → Has (get_or leave v 0) e → OneOf d (λ i. (from_of w' i ≡ v) × Has (held_at w' i) e)
  pub safe : (R : ℕ → ℕ → Bool) → Supports q.from q.to q.edges (λ e. Unit {0}) d w (λ u v. T (R u v)) → ((u v : ℕ) → T (R u v) → v < 4096)
      → Safe q.from q.to q.edges 0 0 d w' leave arrive (λ u v. T (R u v))
  pub stays : (R : ℕ → ℕ → Bool) → Supports q.from q.to q.edges (λ e. Unit {0}) d w (λ u v. T (R u v)) → ((u v : ℕ) → T (R u v) → v < 4096) → (i e : ℕ) → i < d → e < q.edges
      → T (R (get_or q.from e 0) (from_of w i)) → T (R (get_or q.to e 0) (to_of w i)) → Has (held_at w i) e → Has (held_at w' i) e

-- between steps
pub record At (q : Given) (n d : ℕ) (w : List ℕ) (s : Place) (w' leave arrive : List ℕ) : Type 0 where
  pub state : HoldsState q d w s.settled w'
  pub edges : Edges w w'
  pub between : Between q n d w s w' leave arrive

-- a step from the set of the place s to that of s', which is s with the component c: whatever the candidates w were, from their state at the one it comes to
-- their state at the other
pub record Stepped (q : Given) (n d c : ℕ) (s : Place) (w leave arrive out : List ℕ) (s' : Place) (w' leave' arrive' out' : List ℕ) : Type 0 where
  pub settled : s'.settled ≡ bit_or s.settled c
  pub leave_long : length leave' ≡ length leave
  pub arrive_long : length arrive' ≡ length arrive
  pub out_long : length out' ≡ length out
  pub prepared : Prepared n d w' leave' arrive' out'
  pub at : (w₀ : List ℕ) → At q n d w₀ s w leave arrive → At q n d w₀ s' w' leave' arrive'

-- every item may stand at every node, and the tables are those of the query
pub record Fresh (q : Given) (n d all : ℕ) (w leave arrive out leaving arriving : List ℕ) : Type 0 where
  pub few : n ≤ 4096
  pub ends : Ends n d w
  pub links : Mask (λ e. e < q.edges) all
  pub leaves : leave ≡ replicate 4096 all
  pub arrives : arrive ≡ replicate 4096 all
  pub outs : out ≡ replicate 4096 0
  pub by_from : Tabled q.from q.from q.edges leaving
  pub by_to : Tabled q.from q.to q.edges arriving

-- the state at no node
pub record Started (q : Given) (n d : ℕ) (w : List ℕ) (s : Place) (w' leave arrive out : List ℕ) : Type 0 where
  pub settled : s.settled ≡ 0
  pub prepared : Prepared n d w' leave arrive out
  pub at : At q n d w s w' leave arrive

-- at most so many steps, from the state at no node
abbrev pub Going : Given → ℕ → ℕ → ℕ → Place → List ℕ → List ℕ → List ℕ → ℕ → List ℕ → Type 0
Going q n d steps s w leave arrive settled w' = (w₀ : List ℕ) → At q n d w₀ s w leave arrive → Ran q d steps w₀ settled w'

-- at most so many steps, and then the pruning if it is asked for
pub record RanPruned (q : Given) (d steps : ℕ) (pruned : Bool) (w : List ℕ) (settled : ℕ) (w' : List ℕ) : Type 0 where
  pub middle : List ℕ
  pub ran : Ran q d steps w settled middle
  pub steps_alone : pruned ≡ false → w' ≡ middle
  pub then_pruned : pruned ≡ true → Pruned q d middle w'
  pub long : length w' ≡ length w

-- as many of the first d words as are pairs in order
pub record PairsTaken (d : ℕ) (w : List ℕ) (r : ℕ) : Type 0 where
  pub pool : Pool r w
  pub upto : r ≤ d
  pub most : r < d → Pool (r + 1) w → ⊥

-- the steps of the question with the content ws, and the pruning if it is asked for, from the first of the lent words
pub record TriedFor (ws : List ℕ) (d steps : ℕ) (pruned : Bool) (w : List ℕ) (r : ℕ) (w' : List ℕ) : Type 0 where
  pub given : Given
  pub holds : HoldsPattern ws given
  pub pairs : ℕ
  pub taken : PairsTaken d (take 16384 w) pairs
  pub ran : RanPruned given pairs steps pruned (take 16384 w) r (take 16384 w')

-- nothing happens where the question s is refused or the words are too few
pub record Tried (s : List ℕ) (d steps : ℕ) (pruned : Bool) (w : List ℕ) (r : ℕ) (w' : List ℕ) : Type 0 where
  pub short : length w < 16384 → (r ≡ 0) × (w' ≡ w)
  pub refused : (number detail : ℕ) → read_pattern s ≡ rejected number detail → (r ≡ 0) × (w' ≡ w)
  pub ran : 16384 ≤ length w → (ws : List ℕ) → read_pattern s ≡ accepted ws → TriedFor ws d steps pruned w r w'

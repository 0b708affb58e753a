-- The cheapest set of views that covers a query. Each view of a catalogue has a charge; a set has the bit worth 2 ^ a for the view a.
use Rattle.std.specs.Prelude.{ℕ, zero, suc, ◌+◌, ◌-◌, ◌^◌, ◌<◌, ◌≡◌, ◌⊎◌, Bool, true, false, ◌&&◌, ◌||◌, List, [], ◌∷◌, length, get_or, eqb, ltb, Result, Ok, Err}
use Rattle.packed.specs.declared.reply.Refusal.{Refusal}
use Rattle.packed.specs.Format.{pick}
use Rattle.packed.specs.Contents.{edges_of}
use Rattle.packed.specs.Calls.{Outcome, give, refuse}
use Rattle.packed.specs.Refusals.{Told, told, number_of, detail_of}
use Rattle.engine.specs.Simulation.{bit}
use Rattle.matching.specs.Offered.{Brought, view_patterns}
use Rattle.containment.specs.Choice.{covers_in, columns_in, lowest_unmatched, chosen}
use Rattle.containment.specs.Quote.{Quoted, quoted, table_of}

-- ---- what is asked

-- the sum of the weights of those of k views that are in the set
unfoldable pub weigh : (ℕ → ℕ) → ℕ → ℕ → ℕ
weigh w set zero = 0
weigh w set (suc k) = weigh w set k + pick (bit set k) (w k) 0

-- the sum of their charges
abbrev pub cost : List ℕ → ℕ → ℕ → ℕ
cost charges set k = weigh (λ a. get_or charges a 0) set k

-- how many they are
abbrev pub size : ℕ → ℕ → ℕ
size set k = weigh (λ _. 1) set k

-- "the set that comes first when its numbers are read upward": the lowest view in which a and b differ, of k, belongs to a
pub record Sooner (a b k : ℕ) : Type 0 where
  pub at : ℕ
  pub below : at < k
  pub mine : bit a at ≡ true
  pub other : bit b at ≡ false
  pub lower : (i : ℕ) → i < at → bit a i ≡ bit b i

-- x is smaller than y, or they are equal and R decides
abbrev pub Less : ℕ → ℕ → Type 0 → Type 0
Less x y R = (x < y) ⊎ ((x ≡ y) × R)

-- a is better than b: "charges sum to the least. Ties go to fewer extracts, then to the set that comes first .."
abbrev pub Better : List ℕ → ℕ → ℕ → ℕ → Type 0
Better charges k a b = Less (cost charges a k) (cost charges b k) (Less (size a k) (size b k) (Sooner a b k))

-- "the covering set whose charges sum to the least": of k views, it covers m edges, and no other set that covers them is better
pub record IsCheapest (t : List ℕ) (m : ℕ) (charges : List ℕ) (k set : ℕ) : Type 0 where
  pub small : set < 2 ^ k
  pub covers : covers_in t set k m ≡ true
  pub least : (other : ℕ) → other < 2 ^ k → covers_in t other k m ≡ true → Better charges k other set → ⊥

-- ---- how it is found

-- the set with its bits turned round: of two sets of at most 16 views, the one that comes first has the greater
abbrev pub turned : ℕ → ℕ → ℕ
turned set k = weigh (λ a. 2 ^ (15 - a)) set k

-- x is smaller than y, or they are equal and the test decides
unfoldable pub lesser : ℕ → ℕ → Bool → Bool
lesser x y r = ltb x y || (eqb x y && r)

-- the same as Better, as a test
unfoldable pub better : List ℕ → ℕ → ℕ → ℕ → Bool
better charges k a b = lesser (cost charges a k) (cost charges b k) (lesser (size a k) (size b k) (ltb (turned b k) (turned a k)))

-- 0 for a set that covers, 1 for one that doesn't
unfoldable pub misses : List ℕ → ℕ → ℕ → ℕ → ℕ
misses t m k set = pick (covers_in t set k m) 0 1

-- a set that covers goes before one that doesn't; else the better one does
unfoldable pub ahead : List ℕ → ℕ → List ℕ → ℕ → ℕ → ℕ → Bool
ahead t m charges k a b = lesser (misses t m k a) (misses t m k b) (better charges k a b)

module _ (first : ℕ → ℕ → Bool) where
  -- "settles the highest extract first, taken or left, then the same for those below it": the foremost of the sets that have the members of `set`
  -- and any of the u views still undecided
  unfoldable pub foremost : ℕ → ℕ → ℕ
  foremost zero set = set
  foremost (suc u) set = pick (first (foremost u (set + 2 ^ u)) (foremost u set)) (foremost u (set + 2 ^ u)) (foremost u set)

unfoldable pub cheapest : List ℕ → ℕ → List ℕ → ℕ → ℕ
cheapest t m charges k = foremost (ahead t m charges k) k 0

-- ---- what the call answers

-- from the table of a quote: the cheapest set of those that may be used, its sum, and "the chosen set of the ordinary quote stays beside it"; "an uncovered question gets 11"
unfoldable pub cheapest_from : List ℕ → ℕ → ℕ → List ℕ → ℕ → Outcome
cheapest_from t usable m charges k =
    pick (covers_in t usable k m)
    (give (cheapest (columns_in usable t) m charges k ∷ cost charges (cheapest (columns_in usable t) m charges k) k ∷ chosen t usable m k ∷ []) [])
    (refuse 11 (lowest_unmatched t usable k m))

-- "15 when the number of charges differs from the number of extracts, after all papers are read and before 11, detail the number of charges"
unfoldable pub cheapest_for : List ℕ → Quoted → Outcome
cheapest_for charges x =
    pick (eqb (length charges) (length (view_patterns x.offer))) (cheapest_from (table_of x) x.usable (edges_of x.content) charges (length (view_patterns x.offer)))
    (refuse 15 (length charges))

unfoldable pub cheapest_outcome : List ℕ → Brought → List ℕ → Outcome
cheapest_outcome q c charges = quoted q c (cheapest_for charges)

-- the set, the sum of its charges and the chosen views, or the refusal
abbrev pub Cheapest : Type 0
Cheapest = Result (ℕ × ℕ × ℕ) Refusal

-- what its result tells
abbrev pub cheapest_told : Cheapest → Told
cheapest_told (Ok (set, sum, chosen)) = told 0 (set ∷ sum ∷ chosen ∷ [])
cheapest_told (Err x) = told (number_of x) (detail_of x ∷ [])

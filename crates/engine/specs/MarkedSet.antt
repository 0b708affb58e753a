-- inner: the set of the nodes that are marked, as bits: small nodes, and large ones, which wait.
use Rattle.std.specs.Prelude.{ℕ, ◌+◌, ◌/◌, ◌%◌, ◌<◌, ◌≤◌, min, ◌≡◌, List, ◌⊎◌, length, get_or}
use Rattle.engine.specs.Masks.{Has, OneOf}
use Rattle.engine.specs.Sweeping.{sum_to, held_at}
use Rattle.engine.specs.Rounds.{End}

-- ---- sets of numbers below 8192, 32 to a word; behind the words stands the cursor
abbrev pub Member : List ℕ → ℕ → Type 0
Member s x = (x < 8192) × Has (get_or s (x / 32) 0) (x % 32)

abbrev pub cursor : List ℕ → ℕ
cursor s = get_or s 256 0

-- no number stands in a word before the cursor, so the lowest is found from there on
pub record IsSet (s : List ℕ) : Type 0 where
  pub long : length s ≡ 257
  pub upto : cursor s ≤ 256
  pub passed : (k : ℕ) → k < cursor s → get_or s k 0 ≡ 0

pub record NumberAdded (v : ℕ) (s s' : List ℕ) : Type 0 where
  pub long : length s' ≡ length s
  pub is_set : IsSet s → IsSet s'
  pub moved : cursor s' ≡ min (cursor s) (v / 32)
  pub hit : Member s' v
  pub keeps : (x : ℕ) → Member s x → Member s' x
  pub why : (x : ℕ) → Member s' x → Member s x ⊎ (x ≡ v)

pub record FirstWord (s : List ℕ) (r : ℕ) : Type 0 where
  pub upto : r ≤ 256
  pub passed : (k : ℕ) → k < r → get_or s k 0 ≡ 0
  pub here : r < 256 → get_or s r 0 ≡ 0 → ⊥

-- r is the lowest number of s, and is taken out, and the cursor stands at its word; 8192 if there is none, and all stays
pub record Drawn (s : List ℕ) (r : ℕ) (s' : List ℕ) : Type 0 where
  pub long : length s' ≡ length s
  pub is_set : IsSet s → IsSet s'
  pub moved : r < 8192 → cursor s' ≡ r / 32
  pub none : 8192 ≤ r → s' ≡ s
  pub upto : r ≤ 8192
  pub lowest : (x : ℕ) → x < r → Member s x → ⊥
  pub was : r < 8192 → Member s r
  pub keeps : (x : ℕ) → (x ≡ r → ⊥) → Member s x → Member s' x
  pub why : (x : ℕ) → Member s' x → Member s x × (r < 8192 → x ≡ r → ⊥)
  pub fell : r < 8192 → sum_to 256 s' < sum_to 256 s

-- ---- marked nodes: a node has two numbers, the greater for one that is to wait
abbrev pub IsMarked : List ℕ → ℕ → Type 0
IsMarked s v = Member s v ⊎ Member s (4096 + v)

-- the node v is marked, to wait if 16 or more pairs begin or end there, and no other is more than before
pub record Marks (first back : List ℕ) (v : ℕ) (s s' : List ℕ) : Type 0 where
  pub long : length s' ≡ length s
  pub is_set : IsSet s → IsSet s'
  pub hit : IsMarked s' v
  pub keeps : (x : ℕ) → IsMarked s x → IsMarked s' x
  pub why : (x : ℕ) → x < 4096 → IsMarked s' x → IsMarked s x ⊎ (x ≡ v)
  pub few : get_or first (v + 1) 0 + get_or back (v + 1) 0 < get_or first v 0 + get_or back v 0 + 16 → NumberAdded v s s'
  pub many : get_or first v 0 + get_or back v 0 + 16 ≤ get_or first (v + 1) 0 + get_or back (v + 1) 0 → NumberAdded (4096 + v) s s'

-- r was marked, and one of its two numbers is taken out, the lesser if any node has that; 4096 if no node is marked
pub record TakenOut (s : List ℕ) (r : ℕ) (s' : List ℕ) : Type 0 where
  pub long : length s' ≡ length s
  pub is_set : IsSet s → IsSet s'
  pub upto : r ≤ 4096
  pub none : 4096 ≤ r → (x : ℕ) → x < 4096 → IsMarked s x → ⊥
  pub was : r < 4096 → IsMarked s r
  pub lesser : (x : ℕ) → x < 4096 → Member s x → Member s r
  pub gone : r < 4096 → (Member s' r → ⊥) × (Member s' (4096 + r) → Member s r)
  pub keeps : (x : ℕ) → x < 4096 → (x ≡ r → ⊥) → IsMarked s x → IsMarked s' x
  pub why : (x : ℕ) → IsMarked s' x → IsMarked s x
  pub fell : r < 4096 → sum_to 256 s' < sum_to 256 s

-- the first n nodes are marked, and no other
pub record AllMarked (n : ℕ) (s : List ℕ) : Type 0 where
  pub is_set : IsSet s
  pub each : (x : ℕ) → x < n → IsMarked s x
  pub why : (x : ℕ) → x < 4096 → IsMarked s x → x < n

-- a link of lost is held for the pair i and is in the masks at its near end
abbrev pub Relies : End → List ℕ → ℕ → List ℕ → ℕ → Type 0
Relies near w lost masks i = OneOf 32 (λ e. Has (held_at w i) e × Has (get_or masks (near (get_or w i 0)) 0) e × Has lost e)

-- the near end of the pair i is marked, if it relies on a link of lost, and only then
pub record MarkedEnd (near : End) (w : List ℕ) (lost : ℕ) (masks : List ℕ) (i : ℕ) (s s' : List ℕ) : Type 0 where
  pub long : length s' ≡ length s
  pub is_set : IsSet s → IsSet s'
  pub keeps : (x : ℕ) → IsMarked s x → IsMarked s' x
  pub hit : (e : ℕ) → Has (held_at w i) e → Has (get_or masks (near (get_or w i 0)) 0) e → Has lost e → IsMarked s' (near (get_or w i 0))
  pub why : (x : ℕ) → x < 4096 → IsMarked s' x → IsMarked s x ⊎ ((near (get_or w i 0) ≡ x) × Relies near w lost masks i)

-- the near ends of the pairs whose far end is v are marked, where they rely on a link of lost, and only there
pub record MarkedBy (near far : End) (d : ℕ) (w : List ℕ) (v lost : ℕ) (masks s s' : List ℕ) : Type 0 where
  pub long : length s' ≡ length s
  pub is_set : IsSet s → IsSet s'
  pub keeps : (x : ℕ) → IsMarked s x → IsMarked s' x
  pub hit : (i e : ℕ) → i < d → far (get_or w i 0) ≡ v → Has (held_at w i) e → Has (get_or masks (near (get_or w i 0)) 0) e → Has lost e → IsMarked s' (near (get_or w i 0))
  pub why : (x : ℕ) → x < 4096 → IsMarked s' x → IsMarked s x ⊎ OneOf d (λ i. (near (get_or w i 0) ≡ x) × (far (get_or w i 0) ≡ v) × Relies near w lost masks i)

-- inner: what a sweep over the pairs and the settling of the nodes do to the words, bit by bit.
use Rattle.std.specs.Prelude.{ℕ, zero, suc, ◌+◌, ◌-◌, ◌^◌, ◌<◌, ◌≤◌, ◌≡◌, List, ◌⊎◌, length, get_or}
use Rattle.std.specs.Int.Bits.{bit_and, bit_or}
use Rattle.packed.specs.Contents.{word_from, word_to, word_kind}
use Rattle.packed.specs.Order.{Outside}
use Rattle.engine.specs.Masks.{Has, Mask, OneOf, Names}

-- the ends and the kind of the pair i
abbrev pub from_of : List ℕ → ℕ → ℕ
from_of w i = word_from (get_or w i 0)

abbrev pub to_of : List ℕ → ℕ → ℕ
to_of w i = word_to (get_or w i 0)

abbrev pub kind_of : List ℕ → ℕ → ℕ
kind_of w i = word_kind (get_or w i 0)

-- the workspace has room for d pairs, whose ends are below n
pub record Ends (n d : ℕ) (w : List ℕ) : Type 0 where
  pub most : d ≤ 8192
  pub long : length w ≡ 16384
  pub from : (i : ℕ) → i < d → from_of w i < n
  pub to : (i : ℕ) → i < d → to_of w i < n

-- the links that the pair i is held for
abbrev pub held_at : List ℕ → ℕ → ℕ
held_at w i = get_or w (8192 + i) 0

-- ---- the sweep
-- what a sweep leaves of it
unfoldable pub held_after : List ℕ → List ℕ → ℕ → List ℕ → ℕ → ℕ
held_after leave arrive free w i = bit_and (held_at w i) (bit_or free (bit_and (get_or leave (from_of w i) 0) (get_or arrive (to_of w i) 0)))

-- each pair has kept that, and what is held at a node has also what the pairs that begin there have kept
pub record Swept (d : ℕ) (leave arrive : List ℕ) (free : ℕ) (w out w' out' : List ℕ) : Type 0 where
  pub around : Outside 8192 d w w'
  pub held : (i : ℕ) → i < d → held_at w' i ≡ held_after leave arrive free w i
  pub long : length out' ≡ length out
  pub each : (v : ℕ) → v < length out → Mask (λ k. Has (get_or out v 0) k ⊎ OneOf d (λ i. (from_of w i ≡ v) × Has (held_after leave arrive free w i) k)) (get_or out' v 0)

-- what is held at a node has also what the pairs that end there are held for
pub record Arrived (d : ℕ) (w out out' : List ℕ) : Type 0 where
  pub long : length out' ≡ length out
  pub each : (v : ℕ) → v < length out → Mask (λ k. Has (get_or out v 0) k ⊎ OneOf d (λ i. (to_of w i ≡ v) × Has (held_at w i) k)) (get_or out' v 0)

-- the pairs stand in the order of the nodes where they begin, and nothing is held there yet
pub record Starts (d : ℕ) (w out : List ℕ) : Type 0 where
  pub order : (i j : ℕ) → i < j → j < d → from_of w i ≤ from_of w j
  pub clear : (i : ℕ) → i < d → get_or out (from_of w i) 0 ≡ 0

pub record Carried (f last run r : ℕ) : Type 0 where
  pub same : f ≡ last → r ≡ run
  pub other : (f ≡ last → ⊥) → r ≡ 0

-- ---- tables by groups of four links
-- k is one of m links, and b at k is a at one of those of the set
abbrev pub Meets : List ℕ → List ℕ → ℕ → (ℕ → Type 0) → ℕ → Type 0
Meets a b m S k = (k < m) × OneOf m (λ e. S e × (get_or a e 0 ≡ get_or b k 0))

-- the word i of the table has the links that meet the set that i names
pub record Tabled (a b : List ℕ) (m : ℕ) (t : List ℕ) : Type 0 where
  pub few : m ≤ 32
  pub each : (i : ℕ) → i < 128 → Mask (Meets a b m (Names i)) (get_or t i 0)

-- r has the links that meet x
pub record LookedUp (t : List ℕ) (x r : ℕ) : Type 0 where
  pub is : (a b : List ℕ) (m : ℕ) → Tabled a b m t → Mask (Meets a b m (Has x)) r

-- r is x without the links that meet miss
pub record Left (t : List ℕ) (miss x r : ℕ) : Type 0 where
  pub stays : miss ≡ 0 → r ≡ x
  pub is : (a b : List ℕ) (m : ℕ) → Tabled a b m t → Mask (λ k. Has x k × (Meets a b m (Has miss) k → ⊥)) r

-- ---- settling
-- the due links that may leave v and that no pair at v is held for
unfoldable pub missing : ℕ → List ℕ → List ℕ → ℕ → ℕ
missing due leave out v = bit_and (bit_and (get_or leave v 0) due) ((2 ^ 32 - 1) - get_or out v 0)

pub record NodesSettled (n due : ℕ) (leaving arriving leave arrive out : List ℕ) (r : ℕ) (leave' arrive' out' : List ℕ) : Type 0 where
  pub leaves : Outside 0 n leave leave'
  pub arrives : Outside 0 n arrive arrive'
  pub outs : Outside 0 n out out'
  pub leave_left : (v : ℕ) → v < n → Left leaving (missing due leave out v) (get_or leave v 0) (get_or leave' v 0)
  pub arrive_left : (v : ℕ) → v < n → Left arriving (missing due leave out v) (get_or arrive v 0) (get_or arrive' v 0)
  pub clear : (v : ℕ) → v < n → get_or out' v 0 ≡ 0
  pub short : (v : ℕ) → v < n → get_or out v 0 < 2 ^ 32
  pub lost : Mask (λ e. OneOf n (λ v. Has (missing due leave out v) e)) r

-- the sum of the words of n nodes
unfoldable pub sum_to : ℕ → List ℕ → ℕ
sum_to zero l = 0
sum_to (suc n) l = sum_to n l + get_or l n 0

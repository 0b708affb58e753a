-- inner: the late part of the engine: what the pairs are held for stays, and the nodes are looked at one by one until none is marked.
use Rattle.std.specs.Prelude.{ℕ, zero, suc, ◌+◌, ◌<◌, ◌≡◌, List, ◌⊎◌, length, get_or}
use Rattle.std.specs.Int.Bits.{bit_and, bit_xor}
use Rattle.engine.specs.Masks.{Has, OneOf}
use Rattle.engine.specs.Sweeping.{sum_to, held_at, Tabled}
use Rattle.packed.specs.Contents.{word_from, word_to}
use Rattle.engine.specs.Rounds.{End, TabledBack, Sound, Loses}
use Rattle.engine.specs.MarkedSet.{IsSet, IsMarked}

-- ---- what pairs offer
-- the links of want that none of k pairs offers, whose numbers are num a and those after it: each offers those that it is held for and that are in the
-- masks at its far end
unfoldable pub missed_by : End → (ℕ → ℕ) → List ℕ → List ℕ → ℕ → ℕ → ℕ → ℕ
missed_by far num w masks want a zero = want
missed_by far num w masks want a (suc k) =
    let miss = missed_by far num w masks want a k in
    bit_xor miss (bit_and miss (bit_and (held_at w (num (a + k))) (get_or masks (far (get_or w (num (a + k)) 0)) 0)))

-- ---- the nodes one by one
-- the links of due that are in the masks at x are offered by the pairs whose near end is x: they are in the other masks at the far end
abbrev pub FineBy : End → End → ℕ → ℕ → List ℕ → List ℕ → List ℕ → ℕ → Type 0
FineBy near far due d w masks others x = (e : ℕ) → Has (get_or masks x 0) e → Has due e
    → OneOf d (λ i. (near (get_or w i 0) ≡ x) × Has (held_at w i) e × Has (get_or others (far (get_or w i 0)) 0) e)

-- the due links that may leave x are offered by its pairs, and those that are asked as they arrive
pub record Fine (due asked d : ℕ) (w leave arrive : List ℕ) (x : ℕ) : Type 0 where
  pub out : FineBy word_from word_to due d w leave arrive x
  pub into : FineBy word_to word_from asked d w arrive leave x

-- every node that is not marked is fine
abbrev pub Rest : ℕ → ℕ → ℕ → ℕ → List ℕ → List ℕ → List ℕ → List ℕ → Type 0
Rest n due asked d w leave arrive s = (x : ℕ) → x < n → (IsMarked s x → ⊥) → Fine due asked d w leave arrive x

-- what is kept while what the pairs are held for stays
abbrev pub Keeps : ℕ → ℕ → ℕ → List ℕ → List ℕ → List ℕ → List ℕ → List ℕ → List ℕ → List ℕ → List ℕ → List ℕ → Type 0
Keeps due asked d leaving arriving ending starting w leave arrive leave' arrive' =
    (free : ℕ) (from to : List ℕ) (m : ℕ) → Tabled from from m leaving → Tabled from to m arriving → TabledBack asked from to m ending starting
    → ((e : ℕ) → Has due e → Has free e → ⊥) → (more : ℕ) → ((e : ℕ) → Has asked e → Has more e) → Sound from to m free due more d w leave arrive w leave' arrive'

-- one side of a node that was taken: it lost the items at whose near side a due link is that no pair offers; the near ends of pairs that relied on what
-- it lost at the far side are marked, and the far ends of those that relied on what it lost at the near side, for the links that are asked there
pub record Half (near far : End) (n due asked d v : ℕ) (here there w masks others s masks' others' s' : List ℕ) : Type 0 where
  pub long : length masks' ≡ length masks
  pub others_long : length others' ≡ length others
  pub set_long : length s' ≡ length s
  pub is_set : IsSet s → IsSet s'
  pub loses : (x : ℕ) → Loses near far due d here there w masks others masks' others' x
  pub which : ((masks' ≡ masks) × (others' ≡ others)) ⊎ OneOf 32 (λ e. Has due e)
  pub falls : ((sum_to n masks' ≡ sum_to n masks) × (sum_to n others' ≡ sum_to n others) × (sum_to 256 s' ≡ sum_to 256 s)) ⊎ (sum_to n masks' + sum_to n others' < sum_to n masks + sum_to n others)
  pub keeps : (x : ℕ) → IsMarked s x → IsMarked s' x
  pub why : (x : ℕ) → x < 4096 → IsMarked s' x → IsMarked s x ⊎ (x < n)
  pub here_fine : (x : ℕ) → x < n → (IsMarked s' x → ⊥) → ((x ≡ v → ⊥) → FineBy near far due d w masks others x) → FineBy near far due d w masks' others' x
  pub there_fine : (x : ℕ) → x < n → (IsMarked s' x → ⊥) → FineBy far near asked d w others masks x → FineBy far near asked d w others' masks' x

-- what a node that was taken lost: nothing, or the masks fell
pub record Turned (n due asked d v : ℕ) (leaving arriving ending starting w leave arrive s leave' arrive' s' : List ℕ) : Type 0 where
  pub leave_long : length leave' ≡ length leave
  pub arrive_long : length arrive' ≡ length arrive
  pub long : length s' ≡ length s
  pub is_set : IsSet s → IsSet s'
  pub keeps : Keeps due asked d leaving arriving ending starting w leave arrive leave' arrive'
  pub falls : ((sum_to n leave' ≡ sum_to n leave) × (sum_to n arrive' ≡ sum_to n arrive) × (sum_to 256 s' ≡ sum_to 256 s)) ⊎ (sum_to n leave' + sum_to n arrive' < sum_to n leave + sum_to n arrive)
  pub why : (x : ℕ) → x < 4096 → IsMarked s' x → IsMarked s x ⊎ (x < n)
  pub rest : ((x : ℕ) → x < n → (x ≡ v → ⊥) → (IsMarked s x → ⊥) → Fine due asked d w leave arrive x) → Rest n due asked d w leave' arrive' s'

-- the end: every node is fine
pub record Late (n due asked d : ℕ) (leaving arriving ending starting w leave arrive leave' arrive' : List ℕ) : Type 0 where
  pub leave_long : length leave' ≡ length leave
  pub arrive_long : length arrive' ≡ length arrive
  pub keeps : Keeps due asked d leaving arriving ending starting w leave arrive leave' arrive'
  pub fine : (x : ℕ) → x < n → Fine due asked d w leave' arrive' x

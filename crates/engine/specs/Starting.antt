-- inner: what a search starts with: every pair is held for all links of its kind, and each node has the links whose end has one of its labels.
use Rattle.std.specs.Prelude.{ℕ, ◌+◌, ◌*◌, ◌<◌, ◌≤◌, ◌≡◌, List, length, get_or}
use Rattle.packed.specs.Bits.{field}
use Rattle.packed.specs.Order.{Outside}
use Rattle.engine.specs.Masks.{Has, Mask, OneOf}
use Rattle.engine.specs.Sweeping.{kind_of, held_at}
use Rattle.engine.specs.declared.batch.Batch.{Batch}

-- the lent arrays have room for n nodes, and nothing from n on
pub record NodeRoom (n : ℕ) (leave arrive out : List ℕ) : Type 0 where
  pub nodes : n ≤ length out
  pub leave_long : length leave ≡ length out
  pub arrive_long : length arrive ≡ length out
  pub leave_clear : (v : ℕ) → n ≤ v → get_or leave v 0 ≡ 0
  pub arrive_clear : (v : ℕ) → n ≤ v → get_or arrive v 0 ≡ 0

-- e is one of m links, and its kind is k
abbrev pub OfKind : List ℕ → ℕ → ℕ → ℕ → Type 0
OfKind kinds m k e = (e < m) × (get_or kinds e 0 ≡ k)

-- for each kind those of m links that have it
pub record ByKind (kinds : List ℕ) (m : ℕ) (t : List ℕ) : Type 0 where
  pub long : length t ≡ 8
  pub each : (k : ℕ) → k < 8 → Mask (OfKind kinds m k) (get_or t k 0)

-- each of d pairs is held for those of m links that have its kind
pub record KindsHeld (kinds : List ℕ) (m d : ℕ) (w w' : List ℕ) : Type 0 where
  pub around : Outside 8192 d w w'
  pub each : (i : ℕ) → i < d → Mask (OfKind kinds m (kind_of w i)) (held_at w' i)

-- for each label those of m links at whose end it stands: at each link's start, or at each link's end
pub record ByLabel (labels ends : List ℕ) (m : ℕ) (t : List ℕ) : Type 0 where
  pub long : length t ≡ 32
  pub each : (l : ℕ) → l < 32 → Mask (λ e. (e < m) × (get_or labels (get_or ends e 0) 0 ≡ l)) (get_or t l 0)

-- r has what the table has for the labels x
abbrev pub OfLabels : List ℕ → ℕ → ℕ → Type 0
OfLabels t x r = Mask (λ e. OneOf 32 (λ l. Has x l × Has (get_or t l 0) e)) r

-- e is one of m links, and the label at its end is one of the labels x
abbrev pub Allowed : List ℕ → List ℕ → ℕ → ℕ → ℕ → Type 0
Allowed labels ends m x e = (e < m) × Has x (get_or labels (get_or ends e 0) 0)

-- each of n nodes of the record s has the links of the batch that its labels allow to leave it and to arrive at it
pub record LinksSpread (b : Batch) (s : List ℕ) (n : ℕ) (leave arrive out leave' arrive' out' : List ℕ) : Type 0 where
  pub leaves : Outside 0 n leave leave'
  pub arrives : Outside 0 n arrive arrive'
  pub outs : Outside 0 n out out'
  pub leave_each : (v : ℕ) → v < n → Mask (Allowed b.labels b.from b.edges (field s (27 + 32 * v) 32)) (get_or leave' v 0)
  pub arrive_each : (v : ℕ) → v < n → Mask (Allowed b.labels b.to b.edges (field s (27 + 32 * v) 32)) (get_or arrive' v 0)
  pub clear : (v : ℕ) → v < n → get_or out' v 0 ≡ 0

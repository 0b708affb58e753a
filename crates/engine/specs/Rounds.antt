-- inner: what rounds of sweeping and settling keep, and what holds when they lose nothing more: for any items S at nodes, so that the greatest
-- simulation of a search and the greatest choice of a join both follow.
use Rattle.std.specs.Prelude.{ℕ, ◌<◌, ◌≤◌, ◌≡◌, List, Bool, ◌⊎◌, length, get_or, T}
use Rattle.packed.specs.Contents.{word_from, word_to}
use Rattle.engine.specs.Masks.{Has, Mask, OneOf}
use Rattle.engine.specs.Sweeping.{from_of, to_of, Ends, held_at, Meets, Tabled}

-- an end of a pair, read from its word: what is said of the links that leave is said of those that arrive with the two ends changed for each other
abbrev pub End : Type 0
End = ℕ → ℕ

-- a pair whose near end is v is held for the link e, and at its far end stands the link's: `there` are the ends of links on that side
abbrev pub OffersBy : End → End → List ℕ → ℕ → List ℕ → (ℕ → ℕ → Type 0) → ℕ → ℕ → Type 0
OffersBy near far there d w S v e = OneOf d (λ i. (near (get_or w i 0) ≡ v) × Has (held_at w i) e × S (get_or there e 0) (far (get_or w i 0)))

-- a pair that begins at v is held for the link e, and at its end stands the link's
abbrev pub Offers : List ℕ → ℕ → List ℕ → (ℕ → ℕ → Type 0) → ℕ → ℕ → Type 0
Offers to d w S v e = OffersBy word_from word_to to d w S v e

-- S supports itself on one side for the links with L: each such link at an item's near side is offered wherever the item stands
abbrev pub SupportsBy : End → End → List ℕ → List ℕ → ℕ → (ℕ → Type 0) → ℕ → List ℕ → (ℕ → ℕ → Type 0) → Type 0
SupportsBy near far here there m L d w S = (u v : ℕ) → S u v → (e : ℕ) → e < m → L e → get_or here e 0 ≡ u → OffersBy near far there d w S v e

-- m links by their ends; S u v: the item u stands at the node v
module _ (from to : List ℕ) (m : ℕ) where
  -- S supports itself for the links with L: each such link that leaves an item is offered wherever the item stands. This is the one test of
  -- support: what rounds keep, and what a search and a join are left with, is said by it
  abbrev pub Supports : (ℕ → Type 0) → ℕ → List ℕ → (ℕ → ℕ → Type 0) → Type 0
  Supports L d w S = SupportsBy word_from word_to from to m L d w S

  -- the same of the links that arrive
  abbrev pub SupportsBack : (ℕ → Type 0) → ℕ → List ℕ → (ℕ → ℕ → Type 0) → Type 0
  SupportsBack L d w S = SupportsBy word_to word_from to from m L d w S

  -- S supports itself for the links that are not free, and for those of back as they arrive, and lies in the masks: the one definition of what may
  -- not be lost
  pub record Safe (free back d : ℕ) (w leave arrive : List ℕ) (S : ℕ → ℕ → Type 0) : Type 0 where
    pub supports : Supports (λ e. Has free e → ⊥) d w S
    pub backs : SupportsBack (Has back) d w S
    pub leaves : (u v e : ℕ) → S u v → e < m → get_or from e 0 ≡ u → Has (get_or leave v 0) e
    pub arrives : (u v e : ℕ) → S u v → e < m → get_or to e 0 ≡ u → Has (get_or arrive v 0) e

  -- the two masks of each node are those of one set of items
  pub record Shape (leave arrive : List ℕ) : Type 0 where
    pub out_out : (v e k : ℕ) → e < m → k < m → get_or from e 0 ≡ get_or from k 0 → Has (get_or leave v 0) e → Has (get_or leave v 0) k
    pub out_in : (v e k : ℕ) → e < m → k < m → get_or from e 0 ≡ get_or to k 0 → Has (get_or leave v 0) e → Has (get_or arrive v 0) k
    pub in_out : (v e k : ℕ) → e < m → k < m → get_or to e 0 ≡ get_or from k 0 → Has (get_or arrive v 0) e → Has (get_or leave v 0) k
    pub in_in : (v e k : ℕ) → e < m → k < m → get_or to e 0 ≡ get_or to k 0 → Has (get_or arrive v 0) e → Has (get_or arrive v 0) k

  -- u may stand at v: its links are in the masks
  pub record May (leave arrive : List ℕ) (u v : ℕ) : Type 0 where
    pub leaves : (e : ℕ) → e < m → get_or from e 0 ≡ u → Has (get_or leave v 0) e
    pub arrives : (e : ℕ) → e < m → get_or to e 0 ≡ u → Has (get_or arrive v 0) e

  -- a link stays where the masks have it
  pub record Stays (d : ℕ) (w leave arrive w' leave' arrive' : List ℕ) (e : ℕ) : Type 0 where
    pub leaves : (v : ℕ) → Has (get_or leave v 0) e → Has (get_or leave' v 0) e
    pub arrives : (v : ℕ) → Has (get_or arrive v 0) e → Has (get_or arrive' v 0) e
    pub held : (i : ℕ) → i < d → Has (get_or leave (from_of w i) 0) e → Has (get_or arrive (to_of w i) 0) e → Has (held_at w i) e → Has (held_at w' i) e

  -- no due link leaves an end of the link e, and none of back arrives at one
  pub record Aside (due back e : ℕ) : Type 0 where
    pub start : (k : ℕ) → k < m → Has due k → get_or from k 0 ≡ get_or from e 0 → ⊥
    pub end : (k : ℕ) → k < m → Has due k → get_or from k 0 ≡ get_or to e 0 → ⊥
    pub start_back : (k : ℕ) → k < m → Has back k → get_or to k 0 ≡ get_or from e 0 → ⊥
    pub end_back : (k : ℕ) → k < m → Has back k → get_or to k 0 ≡ get_or to e 0 → ⊥

  -- what is safe stays safe, and keeps the pairs between what stands; the shape is kept; what is settled stays, and nothing is added
  pub record Sound (free due back d : ℕ) (w leave arrive w' leave' arrive' : List ℕ) : Type 0 where
    pub safe : (S : ℕ → ℕ → Bool) → Safe free back d w leave arrive (λ u v. T (S u v)) → Safe free back d w' leave' arrive' (λ u v. T (S u v))
    pub stays : (S : ℕ → ℕ → Bool) → Safe free back d w leave arrive (λ u v. T (S u v)) → (i e : ℕ) → i < d → e < m
        → T (S (get_or from e 0) (from_of w i)) → T (S (get_or to e 0) (to_of w i)) → Has (held_at w i) e → Has (held_at w' i) e
    pub shape : Shape leave arrive → Shape leave' arrive'
    pub aside : (e : ℕ) → e < m → Aside due back e → Stays d w leave arrive w' leave' arrive' e
    pub leave_part : (v e : ℕ) → Has (get_or leave' v 0) e → Has (get_or leave v 0) e
    pub arrive_part : (v e : ℕ) → Has (get_or arrive' v 0) e → Has (get_or arrive v 0) e

-- r is x without the links that meet miss, but for links that the table does not know
pub record Lost (a b : List ℕ) (m miss x r : ℕ) : Type 0 where
  pub part : (k : ℕ) → Has r k → Has x k
  pub gone : (k : ℕ) → Has r k → Meets a b m (Has miss) k → ⊥
  pub stays : (k : ℕ) → k < m → Has x k → (Meets a b m (Has miss) k → ⊥) → Has r k

-- the node v loses the items at whose near side a due link is that no pair there offers. Said of the links that leave, the near end of a pair is its
-- start; of those that arrive it is its end, and leave and arrive change places
pub record Loses (near far : End) (due d : ℕ) (leaving arriving w leave arrive leave' arrive' : List ℕ) (v : ℕ) : Type 0 where
  pub miss : ℕ
  pub in_due : (e : ℕ) → e < 32 → Has miss e → Has due e
  pub unmet : (e : ℕ) → e < 32 → Has miss e → OneOf d (λ i. (near (get_or w i 0) ≡ v) × Has (held_at w i) e × Has (get_or arrive (far (get_or w i 0)) 0) e) → ⊥
  pub leave_lost : (a : List ℕ) (m : ℕ) → Tabled a a m leaving → Lost a a m miss (get_or leave v 0) (get_or leave' v 0)
  pub arrive_lost : (a b : List ℕ) (m : ℕ) → Tabled a b m arriving → Lost a b m miss (get_or arrive v 0) (get_or arrive' v 0)

-- the pairs stay, what they are held for falls, but not for the free links
pub record Falls (free d : ℕ) (w w' : List ℕ) : Type 0 where
  pub long : length w' ≡ length w
  pub low : (k : ℕ) → k < 8192 → get_or w' k 0 ≡ get_or w k 0
  pub same : (i : ℕ) → i < d → get_or w' i 0 ≡ get_or w i 0
  pub part : (i e : ℕ) → i < d → Has (held_at w' i) e → Has (held_at w i) e
  pub untouched : (i e : ℕ) → i < d → Has free e → Has (held_at w i) e → Has (held_at w' i) e

-- nothing is lost any more: what is held but not free lies in the masks, each due link that may leave a node is held there, and so is each link of back
-- that may arrive at one
pub record Rests (n free due back d : ℕ) (w leave arrive : List ℕ) : Type 0 where
  pub within : (i e : ℕ) → i < d → Has (held_at w i) e → Has free e ⊎ (Has (get_or leave (from_of w i) 0) e × Has (get_or arrive (to_of w i) 0) e)
  pub held : (v e : ℕ) → v < n → Has due e → e < 32 → Has (get_or leave v 0) e → OneOf d (λ i. (from_of w i ≡ v) × Has (held_at w i) e)
  pub arrived : (v e : ℕ) → v < n → Has back e → e < 32 → Has (get_or arrive v 0) e → OneOf d (λ i. (to_of w i ≡ v) × Has (held_at w i) e)

-- the pairs stand in the workspace, the masks have room for n nodes, and nothing is gathered yet
pub record Prepared (n d : ℕ) (w leave arrive out : List ℕ) : Type 0 where
  pub ends : Ends n d w
  pub order : (i j : ℕ) → i < j → j < d → from_of w i ≤ from_of w j
  pub nodes : n ≤ length out
  pub leave_long : length leave ≡ length out
  pub arrive_long : length arrive ≡ length out
  pub clear : (v : ℕ) → v < n → get_or out v 0 ≡ 0

-- the tables for links that arrive, where any are asked
abbrev pub TabledBack : ℕ → List ℕ → List ℕ → ℕ → List ℕ → List ℕ → Type 0
TabledBack back from to m ending starting = (e : ℕ) → Has back e → Tabled to to m ending × Tabled to from m starting

-- some rounds; where r is 0 the last lost nothing. What supports itself for the links of back as they arrive, or for more, may not be lost
pub record Fixed (n free due back d : ℕ) (leaving arriving ending starting w leave arrive out : List ℕ) (r : ℕ) (w' leave' arrive' out' : List ℕ) : Type 0 where
  pub falls : Falls free d w w'
  pub leave_long : length leave' ≡ length leave
  pub arrive_long : length arrive' ≡ length arrive
  pub out_long : length out' ≡ length out
  pub clear : (v : ℕ) → v < n → get_or out' v 0 ≡ 0
  pub sound : (from to : List ℕ) (m : ℕ) → Tabled from from m leaving → Tabled from to m arriving → TabledBack back from to m ending starting
      → ((e : ℕ) → Has due e → Has free e → ⊥) → (asked : ℕ) → ((e : ℕ) → Has back e → Has asked e) → Sound from to m free due asked d w leave arrive w' leave' arrive'
  pub rests : r ≡ 0 → Rests n free due back d w' leave' arrive'

-- the nodes lose the items at which a link of back arrives that no pair there is held for; where r is 0, none did
pub record BackSettled (n back d : ℕ) (ending starting w leave arrive out : List ℕ) (r : ℕ) (leave' arrive' out' : List ℕ) : Type 0 where
  pub leave_long : length leave' ≡ length leave
  pub arrive_long : length arrive' ≡ length arrive
  pub out_long : length out' ≡ length out
  pub clear : (v : ℕ) → v < n → get_or out' v 0 ≡ 0
  pub sound : (from to : List ℕ) (m : ℕ) → Tabled to to m ending → Tabled to from m starting → (free due asked : ℕ) → ((e : ℕ) → Has back e → Has asked e)
      → Sound from to m free due asked d w leave arrive w leave' arrive'
  pub rests : r ≡ 0 → (free due : ℕ) → Rests n free due 0 d w leave arrive → Rests n free due back d w leave' arrive'

-- what one round keeps of the pairs that their ends allow, that each link that may leave a node is held there, and that r has the links that might leave one and weren't
pub record Round (n due d : ℕ) (leaving w leave arrive : List ℕ) (r : ℕ) (w' leave' : List ℕ) : Type 0 where
  pub spares : (i e : ℕ) → i < d → Has (get_or leave (from_of w i) 0) e → Has (get_or arrive (to_of w i) 0) e → Has (held_at w i) e → Has (held_at w' i) e
  pub offers : (from : List ℕ) (m : ℕ) → Tabled from from m leaving → (v e : ℕ) → v < n → e < m → Has due e → Has (get_or leave' v 0) e → OneOf d (λ i. (from_of w' i ≡ v) × Has (held_at w' i) e)
  pub lost : Mask (λ e. OneOf n (λ v. Has (get_or leave v 0) e × Has due e × (OneOf d (λ i. (from_of w' i ≡ v) × Has (held_at w' i) e) → ⊥))) r

-- inner: the sets that the search for the cheapest tries, with what it carries of each.
use Rattle.std.specs.Prelude.{ℕ, zero, suc, ◌+◌, ◌-◌, ◌*◌, ◌^◌, ◌≤◌, ◌≡◌, Bool, not, ◌&&◌, ◌||◌, List, get_or, eqb, leb, ltb}
use Rattle.std.specs.Int.Bits.{bit_or}
use Rattle.packed.specs.Format.{pick}
use Rattle.engine.specs.Masks.{Has, Mask}
use Rattle.containment.specs.Masked.{EdgeMatchedIn}
use Rattle.containment.specs.Cheapest.{cost, size, turned, lesser}
use Rattle.containment.specs.declared.costing.Tried.{Tried}

-- u more views can be taken
pub record TriedRoom (u : ℕ) (x : Tried) : Type 0 where
  pub set : x.set + 65536 * u ≤ 4294967295
  pub sum : x.sum + 4294967296 * u ≤ 18446744073709551615
  pub number : x.number + u ≤ 4294967295
  pub turned : x.turned + 65536 * u ≤ 4294967295

-- the set with the view a, which has this charge and matches these edges
unfoldable pub taking : ℕ → ℕ → ℕ → Tried → Tried
taking a charge mask x =
    record {
      set = x.set + 2 ^ a;
      sum = x.sum + charge;
      number = x.number + 1;
      turned = x.turned + 2 ^ (15 - a);
      matched = bit_or x.matched mask;
    }

-- whether x goes before y: it alone matches all edges, or both do or neither, and it is the better one
unfoldable pub is_first : ℕ → Tried → Tried → Bool
is_first all x y =
    (eqb x.matched all && not (eqb y.matched all))
    || ((eqb x.matched all || not (eqb y.matched all))
    && lesser x.sum y.sum (lesser x.number y.number (ltb y.turned x.turned)))

unfoldable pub foremost_tried : ℕ → Tried → Tried → Tried
foremost_tried all x y = pick (is_first all x y) x y

-- the first of the sets that have the views taken and any of the u views still undecided
unfoldable pub settled : List ℕ → List ℕ → ℕ → ℕ → Tried → Tried
settled masks charges all zero x = x
settled masks charges all (suc a) x =
    foremost_tried all (settled masks charges all a (taking a (get_or charges a 0) (get_or masks a 0) x)) (settled masks charges all a x)

-- the first of best and x, where x matches all edges; else best
unfoldable pub best_of : ℕ → Tried → Tried → Tried
best_of all best x = pick (eqb x.matched all) (foremost_tried all best x) best

-- whether no set beyond x can be the first, where x doesn't match all edges and the views still undecided match those of `reach`: these are too few, or the
-- best costs less than x, or as much with no more views
unfoldable pub is_behind : ℕ → ℕ → Tried → Tried → Bool
is_behind all reach x best =
    not (eqb (bit_or x.matched reach) all) || (eqb best.matched all && lesser best.sum x.sum (leb best.number x.number))

-- the edges that the views below u match
unfoldable pub reached : List ℕ → ℕ → ℕ
reached masks zero = 0
reached masks (suc a) = bit_or (reached masks a) (get_or masks a 0)

-- the words of `reach` up to the word u are these, and no view below u matches another edge than those of `all`
pub record Reaches (masks : List ℕ) (all u : ℕ) (reach : List ℕ) : Type 0 where
  pub is : (a : ℕ) → a ≤ u → get_or reach a 0 ≡ reached masks a
  pub within : (e : ℕ) → Has (reached masks u) e → Has all e

-- x is what is carried of a set of k views
pub record Tries (t : List ℕ) (m : ℕ) (charges : List ℕ) (k set : ℕ) (x : Tried) : Type 0 where
  pub is : x.set ≡ set
  pub costs : x.sum ≡ cost charges set k
  pub counts : x.number ≡ size set k
  pub turns : x.turned ≡ turned set k
  pub edges : Mask (EdgeMatchedIn t m set k) x.matched

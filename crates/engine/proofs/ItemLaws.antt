-- Links by the item that they have.
use mathlib.Core.Path.{◌≡◌, refl, ap, sym, ◌∙◌}
use mathlib.Core.List.{List}
use Prim.Native.Nat.{ℕ, ◌<◌}
use native.Mathlib.Omega.{arith}
use lib.ListN.{get_or}
use Rattle.engine.specs.Rows.{ByItem}
use Rattle.engine.proofs.MaskBits.{mask_cast}
use Rattle.engine.proofs.StartLaws.{Grouped, group_end}

-- the links below m, by what they have in b
pub item_end : (b : List ℕ) (m : ℕ) {t : List ℕ} {e : ℕ} → Grouped 64 (λ k. get_or b k 0) e t → e ≡ m → ByItem b m t
item_end b m B q =
    let g = group_end 64 (λ k. get_or b k 0) m B q in
    record {
      long = g.long;
      each = λ x h. mask_cast
          (λ k p. record { at = k; below = p.0; holds = (refl, sym p.1) })
          (λ k o. let z = o.holds.0 in let l = o.below in ((let y : k < m = omega arith in y), sym (o.holds.1 ∙ ap (λ (y : ℕ). get_or b y 0) z)))
          (g.each x h);
    }

-- Taking the lists of a sheet, and the sheets of a book, for the edges that they match: one list or one sheet at a time.
use mathlib.Core.Path.{◌≡◌, refl, ap, ap₂, ◌∙◌, sym, subst}
use mathlib.Core.Logic.{◌⊎◌, inl, inr, ⊎_elim}
use mathlib.Core.List.{List, [], ◌∷◌}
use Prim.Native.Nat.{ℕ, zero, suc, ◌≤◌, ◌<◌, ◌+◌, ◌*◌, zero-le}
use native.Mathlib.Numerals.{add-one}
use native.Mathlib.Omega.{arith}
use lib.ListN.{length, get_or, take}
use lib.Seq.{get_or-take, length-take-le}
use Rattle.packed.specs.Bits.{gap}
use Rattle.engine.specs.Loaded.{Edges}
use Rattle.packed.specs.Walks.{codes_at, pair_place, list_first, list_count, list_end, Spans, lists_end, lists_first, lists_count, sheet_end}
use Rattle.packed.specs.BookSheets.{list_at, sheet_at}
use Rattle.packed.specs.declared.cursor.Extent.{Extent}
use Rattle.engine.specs.Lists.{In}
use Rattle.engine.specs.Masks.{Has, Mask, OneOf}
use Rattle.matching.specs.Candidates.{Walkable, Sheeted, SheetedAt, Booked, Taken, Listing, SheetListing, SheetListingAt, BookListing}
use Rattle.engine.proofs.MaskBits.{mask_cast, mask_self, none_has, one_none, one_last, one_more, one_cases}
use Rattle.matching.proofs.Taking.{edges_around, pool_keep, walkable_keep}

-- the numbers below n with Q
pub union_own : (Q : ℕ → Type 0) (j n : ℕ) {r : ℕ} → Mask (λ k. OneOf j (λ e. (e ≡ k) × Q e)) r → j ≡ n → Mask (λ k. (k < n) × Q k) r
union_own Q j n {r} m e =
    subst (λ (x : ℕ). Mask (λ k. (k < x) × Q k) r) e
    (mask_cast
    (λ k o. (subst (λ (x : ℕ). x < j) o.holds.0 o.below, subst Q o.holds.0 o.holds.1))
    (λ k p. record { at = k; below = p.0; holds = (refl, p.1) })
    m)

-- ---- the codes stay, whatever becomes of the masks
module _ {d : ℕ} {w w' : List ℕ} where
  pub sheeted_keep : {s : List ℕ} {start lists : ℕ} → Sheeted s start lists d w → Edges w w' → Sheeted s start lists d w'
  sheeted_keep t o =
      record { pool = pool_keep t.pool o; short = t.short; few = t.few; begins = t.begins; each = λ f l. walkable_keep (t.each f l) o }

  pub booked_keep : {s counts : List ℕ} {k : ℕ} → Booked s counts k d w → Edges w w' → Booked s counts k d w'
  booked_keep t o =
      record { pool = pool_keep t.pool o; short = t.short; few = t.few; small = t.small; each = λ a l. sheeted_keep (t.each a l) o }

-- ---- taking for nothing, and for one thing after another
module _ {d : ℕ} {Q : ℕ → ℕ → Type 0} where
  pub taken_none : (w : List ℕ) → ((c e : ℕ) → Q c e → ⊥) → Taken d Q w w
  taken_none w n =
      record {
        around = record { long = refl; low = λ k l. refl; high = λ k l. refl };
        each = λ i l. mask_cast (λ e h. inl h) (λ e. ⊎_elim (λ h. h) (λ q. absurd (n _ e q))) (mask_self (get_or w (8192 + i) 0));
      }

  module _ {R : ℕ → ℕ → Type 0} where
    pub taken_cast : {w w' : List ℕ} → ((c e : ℕ) → Q c e → R c e) → ((c e : ℕ) → R c e → Q c e) → Taken d Q w w' → Taken d R w w'
    taken_cast f g t =
        record {
          around = t.around;
          each = λ i l. mask_cast (λ e. ⊎_elim inl (λ q. inr (f _ e q))) (λ e. ⊎_elim inl (λ r. inr (g _ e r))) (t.each i l);
        }

    pub taken_then : {w w' w'' : List ℕ} → d ≤ 8192 → Taken d Q w w' → Taken d R w' w'' → Taken d (λ c e. Q c e ⊎ R c e) w w''
    taken_then {w} {w'} {w''} h t u =
        record {
          around = record {
            long = u.around.long ∙ t.around.long;
            low = λ k l. u.around.low k l ∙ t.around.low k l;
            high = λ k l. u.around.high k l ∙ t.around.high k l;
          };
          each = λ i l.
              let same : get_or w' i 0 ≡ get_or w i 0 = t.around.low i (omega arith) in
              let first = t.each i l in
              mask_cast
              (λ e. ⊎_elim (λ p. ⊎_elim inl (λ q. inr (inl q)) (first.why e p)) (λ r. inr (inr (subst (λ (c : ℕ). R c e) same r))))
              (λ e. ⊎_elim (λ p. inl (first.hit e (inl p))) (⊎_elim (λ q. inl (first.hit e (inr q))) (λ r. inr (subst (λ (c : ℕ). R c e) (sym same) r))))
              (u.each i l);
        }

-- a list is taken for no edges
pub taken_zero : {s : List ℕ} {start n x d : ℕ} (w : List ℕ) → x ≡ 0 → Taken d (Listing s start n x) w w
taken_zero w z = taken_none w (λ c e q. none_has e (subst (λ (y : ℕ). Has y e) z q.asked))

-- ---- the lists of a sheet
lists_more : (s : List ℕ) (at m : ℕ) → lists_end s at (suc m) ≡ list_end s (lists_end s at m)
unfolding lists_end
lists_more s at zero = refl
lists_more s at (suc m) = lists_more s (list_end s at) m

-- a list ends where its pairs do
list_within : {s : List ℕ} {at : ℕ} {l : Extent} → Spans s at l → pair_place l.first l.count ≤ 8 * length s → l.next ≤ 8 * length s
unfolding list_end
list_within p h = omega (arith, p.first, p.count, p.next)

-- the lists below f have been taken
pub record TakingSheet (s : List ℕ) (start lists : ℕ) (t : List ℕ) (a m d : ℕ) (w₀ w : List ℕ) (at f : ℕ) : Type 0 where
  pub upto : f ≤ lists
  pub ends : at ≡ lists_end s start f
  pub fits : at ≤ 8 * length s
  pub taken : Taken d (SheetListing s start f t a m) w₀ w

pub sheet_start : (s : List ℕ) (start lists : ℕ) (t : List ℕ) (a m d : ℕ) (w : List ℕ) → start ≤ 8 * length s → TakingSheet s start lists t a m d w w start 0
unfolding lists_end
sheet_start s start lists t a m d w h = record { upto = zero-le; ends = refl; fits = h; taken = taken_none w (λ c e q. one_none q.under) }

module _ {s : List ℕ} {start lists : ℕ} {t : List ℕ} {a m d : ℕ} {w₀ w : List ℕ} {at f : ℕ} (g : TakingSheet s start lists t a m d w₀ w at f) where
  module _ (p : Sheeted s start lists d w₀) (h : f < lists) {l : Extent} (list : Spans s at l) where
    -- the list f can be walked
    pub sheet_list : Walkable s l.first l.count d w
    sheet_list =
        let here : Walkable s (list_first at) (list_count s at) d w₀ =
        subst (λ (x : ℕ). Walkable s (list_first x) (list_count s x) d w₀) (sym g.ends) (p.each f h) in
        let there : Walkable s l.first l.count d w₀ = rw (list.first, list.count) here in
        walkable_keep there (edges_around g.taken.around)

    pub sheet_more : {x : ℕ} {w' : List ℕ} → Mask (λ e. (e < m) × Has (get_or t (16 * e + a) 0) f) x → Taken d (Listing s l.first l.count x) w w'
        → TakingSheet s start lists t a m d w₀ w' l.next (f + 1)
    unfolding list_at
    sheet_more mask u =
        let here : codes_at s l.first l.count ≡ list_at s start f =
        ap₂ (codes_at s) list.first list.count ∙ ap (λ (x : ℕ). codes_at s (list_first x) (list_count s x)) g.ends in
        record {
          upto = omega arith;
          ends = list.next ∙ ap (list_end s) g.ends ∙ sym (lists_more s start f) ∙ ap (lists_end s start) (sym (add-one f));
          fits = list_within list sheet_list.fits;
          taken = taken_cast
              (λ c e. ⊎_elim
              (λ q. record { edge = q.edge; under = one_more f q.under })
              (λ q. let y = mask.why e q.asked in record { edge = y.0; under = one_last f (subst (In c) here q.listed, y.1) }))
              (λ c e q. ⊎_elim
              (λ o. inl (record { edge = q.edge; under = o }))
              (λ y. inr (record { listed = subst (In c) (sym here) y.0; asked = mask.hit e (q.edge, y.1) }))
              (one_cases f q.under))
              (taken_then p.pool.most g.taken u);
        }

  pub lists_done : lists ≤ f → (at ≡ lists_end s start lists) × (at ≤ 8 * length s) × Taken d (SheetListing s start lists t a m) w₀ w
  lists_done h =
      let e : f ≡ lists = let z = g.upto in omega arith in
      (g.ends ∙ ap (lists_end s start) e, g.fits, subst (λ (x : ℕ). Taken d (SheetListing s start x t a m) w₀ w) e g.taken)

-- ---- a sheet: of its lists k stand
module _ (s : List ℕ) (at edges k : ℕ) (e : k ≡ lists_count s at edges) where
  pub sheet_lists : {d : ℕ} {w : List ℕ} → SheetedAt s at edges d w → Sheeted s (lists_first at) k d w
  sheet_lists p = rw e p

  pub sheet_end_lem : {t : List ℕ} {a m d end next : ℕ} {w w' : List ℕ} → end ≡ lists_end s (lists_first at) k → next ≡ end + gap end
      → Taken d (SheetListing s (lists_first at) k t a m) w w' → (next ≡ sheet_end s at edges) × Taken d (SheetListingAt s at edges t a m) w w'
  sheet_end_lem {t} {a} {m} {d} {w = w} {w'} p n u = (n ∙ ap (λ (x : ℕ). x + gap x) (p ∙ ap (lists_end s (lists_first at)) e), subst (λ (x : ℕ). Taken d (SheetListing s (lists_first at) x t a m) w w') e u)

-- ---- the sheets of a book
sheet_next : (s : List ℕ) (at : ℕ) (ms : List ℕ) (a : ℕ) → a < length ms → sheet_at s at ms (suc a) ≡ sheet_end s (sheet_at s at ms a) (get_or ms a 0)
unfolding sheet_at
sheet_next s at [] a h = absurd (omega arith)
sheet_next s at (m ∷ ms) zero h = refl
sheet_next s at (m ∷ ms) (suc a) h = sheet_next s (sheet_end s at m) ms a (omega arith)

-- the sheets below a have been taken
pub record TakingBook (s counts : List ℕ) (k : ℕ) (t : List ℕ) (set m d : ℕ) (w₀ w : List ℕ) (at a : ℕ) : Type 0 where
  pub upto : a ≤ k
  pub begins : at ≡ sheet_at s 0 (take k counts) a
  pub taken : Taken d (λ c e. OneOf a (λ j. Has set j × SheetListingAt s (sheet_at s 0 (take k counts) j) (get_or counts j 0) t j m c e)) w₀ w

pub book_start : (s counts : List ℕ) (k : ℕ) (t : List ℕ) (set m d : ℕ) (w : List ℕ) → TakingBook s counts k t set m d w w 0 0
unfolding sheet_at
book_start s counts k t set m d w = record { upto = zero-le; begins = refl; taken = taken_none w (λ c e q. one_none q) }

module _ {s counts : List ℕ} {k : ℕ} {t : List ℕ} {set m d : ℕ} {w₀ w : List ℕ} {at a : ℕ} (g : TakingBook s counts k t set m d w₀ w at a) where
  module _ (p : Booked s counts k d w₀) (l : a < k) where
    pub book_more : {r next : ℕ} {w' : List ℕ} → k ≤ length counts → ((e : ℕ) → e < r → (e < m) × Has set a) → ((e : ℕ) → e < m → Has set a → e < r)
        → next ≡ sheet_end s at (get_or counts a 0) → Taken d (SheetListingAt s at (get_or counts a 0) t a r) w w'
        → TakingBook s counts k t set m d w₀ w' next (a + 1)
    book_more {r} {next} {w'} h within has ends u =
        let there : sheet_end s at (get_or counts a 0) ≡ sheet_at s 0 (take k counts) (a + 1) =
        ap₂ (sheet_end s) g.begins (sym (get_or-take k counts a 0 l))
        ∙ sym (sheet_next s 0 (take k counts) a (omega (arith, length-take-le k counts h)))
        ∙ ap (sheet_at s 0 (take k counts)) (sym (add-one a)) in
        record {
          upto = omega arith;
          begins = ends ∙ there;
          taken = taken_cast
              (λ c e. ⊎_elim
              (λ o. one_more a o)
              (λ q. let y = within e q.edge in one_last a (y.1, record { edge = y.0; under = q.under })))
              (λ c e o. ⊎_elim
              (λ q. inl q)
              (λ q. inr (record { edge = has e q.1.edge q.0; under = q.1.under }))
              (one_cases a o))
              (taken_then p.pool.most g.taken
              (subst (λ (x : ℕ). Taken d (SheetListingAt s x (get_or counts a 0) t a r) w w') g.begins u));
        }

  pub book_end : k ≤ a → Taken d (BookListing s counts k t set m) w₀ w
  book_end h =
      let e : a ≡ k = let z = g.upto in omega arith in
      subst (λ (x : ℕ). Taken d (λ c y. OneOf x (λ j. Has set j × SheetListingAt s (sheet_at s 0 (take k counts) j) (get_or counts j 0) t j m c y)) w₀ w) e g.taken

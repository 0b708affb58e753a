-- From rows to a table.
use mathlib.Core.Path.{◌≡◌, refl, ap, subst, ◌∙◌, sym}
use mathlib.Core.Logic.{◌⊎◌, inl, inr, ⊎_elim}
use mathlib.Core.List.{List}
use Prim.Native.Nat.{ℕ, ◌<◌, ◌≤◌, ◌+◌, ◌-◌, ◌*◌, ◌/◌, ◌%◌, ◌^◌}
use native.Mathlib.Omega.{arith}
use lib.ListN.{length, get_or, replicate, length-replicate}
use Rattle.engine.proofs.Filling.{Filling, filling_front}
use lib.Bits.{bit_and, bit_or, bit_xor}
use Rattle.packed.proofs.OrderCases.{lt_or_ge, eq_or_ne}
use Rattle.packed.proofs.ByValueLaws.{nothing_at}
use Rattle.engine.specs.Masks.{Has, Mask, OneOf, Names}
use Rattle.engine.proofs.MaskBits.{has_lt, none_has, not_by, above_say, above_by, minus_say, minus_by, mask_or, mask_cast, mask_self, mask_none}
use Rattle.engine.proofs.Masks.{bit_self, bit_one}
use Rattle.engine.proofs.SetLaws.{minus_lt}
use Rattle.engine.specs.Sweeping.{Tabled}
use Rattle.engine.specs.Rows.{RowOf, RowsOf, WordOf}

pub blank_long : (n : ℕ) {t : List ℕ} → t ≡ replicate n 0 → length t ≡ n
blank_long n e = ap length e ∙ length-replicate n 0

pub rows_of : (a b : List ℕ) (m : ℕ) {t₀ t : List ℕ} {e : ℕ} → t₀ ≡ replicate 32 0 → Filling 0 m (λ j x. RowOf b m (get_or a j 0) x) t₀ t e → m ≤ e → RowsOf a b m t
rows_of a b m z f l =
    record {
      each = filling_front m _ f l;
      rest = λ e p. f.later e (let u = f.upto in omega arith) ∙ ap (λ (y : List ℕ). get_or y e 0) z ∙ nothing_at 32 e;
    }

-- a word that names no link
pub word_none : (t : List ℕ) (i : ℕ) → i % 16 ≡ 0 → WordOf t i 0
word_none t i z = mask_none (λ k o. none_has (o.at % 4) (subst (λ (y : ℕ). Has y (o.at % 4)) z o.holds.0.member))

-- a word from one before it, which names all links that this one names but the link j of the group
module _ (t : List ℕ) (i : ℕ) (li : i < 128) (j named : ℕ) (en : named ≡ 2 ^ j) (hj : Has (i % 16) j) where
  abbrev Rest : ℕ
  Rest = bit_xor (i % 16) (bit_and (i % 16) named)

  pub link_few : j < 4
  link_few = has_lt 4 (i % 16) j (omega arith) hj

  pub rest_lt : Rest < i % 16
  rest_lt = minus_lt (i % 16) named j hj (subst (λ (y : ℕ). Has y j) (sym en) (bit_self j))

  abbrev At : ℕ → ℕ → Type 0
  At i' k = OneOf 32 (λ e. Names i' e × Has (get_or t e 0) k)

  grown : (i' k : ℕ) → i' ≡ i / 16 * 16 + Rest → At i' k → At i k
  grown i' k q o =
      let g = o.holds.0.group in
      let l = rest_lt in
      let m : i' % 16 ≡ Rest = omega arith in
      let h = (minus_say (i % 16) named (o.at % 4) (subst (λ (y : ℕ). Has y (o.at % 4)) m o.holds.0.member)).0 in
      record { at = o.at; below = o.below; holds = (record { group = omega arith; member = h }, o.holds.1) }

  last : (e k : ℕ) → e ≡ i / 16 * 4 + j → Has (get_or t e 0) k → At i k
  last e k q h =
      let l = link_few in
      let m : j ≡ e % 4 = omega arith in
      record { at = e; below = omega arith; holds = (record { group = omega arith; member = subst (Has (i % 16)) m hj }, h) }

  cases : (i' e k : ℕ) → i' ≡ i / 16 * 16 + Rest → e ≡ i / 16 * 4 + j → At i k → At i' k ⊎ Has (get_or t e 0) k
  cases i' e k q p o =
      let g = o.holds.0.group in
      let l = rest_lt in
      let m : Rest ≡ i' % 16 = omega arith in
      ⊎_elim
      (λ (z : o.at % 4 ≡ j). let y : o.at ≡ e = omega arith in inr (subst (λ (x : ℕ). Has (get_or t x 0) k) y o.holds.1))
      (λ (z : o.at % 4 ≡ j → ⊥).
      let h = minus_by (i % 16) named (o.at % 4) o.holds.0.member (λ y. z (bit_one j (o.at % 4) (subst (λ (x : ℕ). Has x (o.at % 4)) en y))) in
      inl (record { at = o.at; below = o.below; holds = (record { group = omega arith; member = subst (λ (x : ℕ). Has x (o.at % 4)) m h }, o.holds.1) }))
      (eq_or_ne (o.at % 4) j)

  pub word_more : (i' e w : ℕ) → i' ≡ i / 16 * 16 + Rest → e ≡ i / 16 * 4 + j → WordOf t i' w → WordOf t i (bit_or w (get_or t e 0))
  word_more i' e w q p W = mask_cast (λ k. ⊎_elim (grown i' k q) (last e k p)) (λ k. cases i' e k q p) (mask_or W (mask_self (get_or t e 0)))

-- the words of the groups that have links were made, and the others are zero
pub words_of : (a b : List ℕ) (m most : ℕ) {t u₀ u : List ℕ} {i : ℕ} → most ≡ (m + 3) / 4 * 16 → RowsOf a b m t → u₀ ≡ replicate 128 0
    → Filling 0 most (λ j x. WordOf t j x) u₀ u i → most ≤ i → (j : ℕ) → WordOf t j (get_or u j 0)
words_of a b m most {t} {u₀} {u} {i} e R z f l j =
    ⊎_elim
    (λ (p : j < most). filling_front most _ f l j p)
    (λ (p : most ≤ j). subst (WordOf t j) (sym (f.later j (let y = f.upto in omega arith) ∙ ap (λ (y : List ℕ). get_or y j 0) z ∙ nothing_at 128 j))
    (mask_none (λ k o. let g = o.holds.0.group in none_has k (subst (λ (y : ℕ). Has y k) (R.rest o.at (omega arith)) o.holds.1))))
    (lt_or_ge j most)

-- the words make a table
pub tabled : (a b : List ℕ) (m : ℕ) (t u : List ℕ) → m ≤ 32 → RowsOf a b m t → ((i : ℕ) → i < 128 → WordOf t i (get_or u i 0)) → Tabled a b m u
tabled a b m t u few R h =
    record {
      few = few;
      each = λ i l. mask_cast
          (λ k o. ⊎_elim
          (λ (z : o.at < m).
          let p = (R.each o.at z).why k o.holds.1 in
          let e = p.holds.0 in
          let q = p.below in
          ((let y : k < m = omega arith in y), record { at = o.at; below = z; holds = (o.holds.0, p.holds.1 ∙ ap (λ (y : ℕ). get_or b y 0) e) }))
          (λ (z : m ≤ o.at). absurd (none_has k (subst (λ (y : ℕ). Has y k) (R.rest o.at z) o.holds.1)))
          (lt_or_ge o.at m))
          (λ k p. (let o = p.1 in let y = o.below in record {
            at = o.at;
            below = omega arith;
            holds = (o.holds.0, (R.each o.at y).hit k (record { at = k; below = p.0; holds = (refl, o.holds.1) }));
          }))
          (h i l);
    }

-- the m links, as the low bits of a word of 32
pub all_links : (m : ℕ) → m ≤ 32 → Mask (λ e. e < m) (4294967295 / 2 ^ (32 - m))
all_links m l =
    let a = 32 - m in
    let ones : (2 ^ 32 - 1) - 0 ≡ 4294967295 = refl in
    record {
      hit = λ e h. above_by 4294967295 a e (subst (λ (x : ℕ). Has x (a + e)) ones (not_by 32 0 (a + e) (omega arith) (omega arith) (none_has (a + e))));
      why = λ e h. (let b = has_lt 32 4294967295 (a + e) (omega arith) (above_say 4294967295 a e h) in omega arith);
    }

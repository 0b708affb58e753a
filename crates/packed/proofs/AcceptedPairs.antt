-- What rows of pairs accept.
use Prim.Native.Nat.{ℕ, zero, suc, ◌+◌, ◌*◌, ◌≤◌, ◌<◌}
use mathlib.Core.Path.{◌≡◌, refl, ap, ap₂, sym, ◌∙◌, subst}
use mathlib.Core.List.{List, [], ◌∷◌, ◌++◌}
use mathlib.Core.Bool.{Bool}
use mathlib.Core.Logic.{◌⊎◌, inl, inr, ⊎_elim, ◌↔◌}
use lib.ListN.{length, get_or}
use lib.Dec.{leb}
use native.Mathlib.Omega.{arith}
use borrow.Author.Tests.{leb-true, le-leb}
use Rattle.packed.specs.Bits.{bits_of}
use Rattle.packed.specs.Formats.{code, pairs}
use Rattle.packed.specs.Plain.{Laid, Below, field_bits, Before, PlainPairs}
use Rattle.packed.proofs.OrderCases.{lt_or_ge}
use Rattle.packed.proofs.AcceptedLaws.{Accepts, accepts_same, Nothing, accepts_done, Asked, accepts_ask, Tested, accepts_test}
use Rattle.packed.proofs.AcceptedEdges.{below_cons}

-- ---- pairs by their codes

abbrev code_from : List ℕ → ℕ → ℕ
code_from ends i = code (get_or ends (2 * i) 0) (get_or ends (2 * i + 1) 0)

code_cons : (a b : ℕ) (l : List ℕ) (i : ℕ) → code_from (a ∷ b ∷ l) (suc i) ≡ code_from l i
code_cons a b l i =
    let p : 2 * suc i ≡ suc (suc (2 * i)) = omega arith in
    let q : 2 * suc i + 1 ≡ suc (suc (2 * i + 1)) = omega arith in
    ap₂ (λ (m n : ℕ). code (get_or (a ∷ b ∷ l) m 0) (get_or (a ∷ b ∷ l) n 0)) p q

-- by the first number, then the other
code_order : (a b c d : ℕ) → b < 4096 → d < 4096 → code a b < code c d ↔ (a < c) ⊎ ((a ≡ c) × (b < d))
code_order a b c d h g = (
  λ l. ⊎_elim (λ (x : a < c). inl x) (λ (x : c ≤ a). inr (omega arith)) (lt_or_ge a c),
  ⊎_elim (λ x. omega arith) (λ x. omega arith),
)

-- so many pairs, the first with a code of at least least
record Pairs (k least : ℕ) (ws : List ℕ) (bs : List Bool) : Type 0 where
  two_each : length ws ≡ 2 * k
  small : Below 4096 ws
  layout : bs ≡ field_bits 12 ws
  first : 0 < k → least ≤ code_from ws 0
  ascend : (i : ℕ) → suc i < k → code_from ws i < code_from ws (suc i)

no_pairs : (least : ℕ) (ws : List ℕ) (bs : List Bool) → Nothing ws bs ↔ Pairs 0 least ws bs
unfolding field_bits
no_pairs least [] bs = (
  λ q. record { two_each = refl; small = λ i h. absurd (omega arith); layout = q.1; first = λ h. absurd (omega arith); ascend = λ i h. absurd (omega arith) },
  λ q. (refl, q.layout),
)
no_pairs least (v ∷ ws) bs = (λ q. absurd (let z = ap length q.0 in omega arith), λ q. absurd (let z = q.two_each in omega arith))

abbrev PairLaid : ℕ → ℕ → Laid
PairLaid k least = Asked 12 0 4096 (λ a. Asked 12 0 4096 (λ b. Tested (leb least (code a b)) (Pairs k (suc (code a b)))))

pair_to : (k least : ℕ) (ws : List ℕ) (bs : List Bool) → PairLaid k least ws bs → Pairs (suc k) least ws bs
unfolding field_bits
pair_to k least ws bs q =
    let a : ℕ = q.value in
    let b : ℕ = q.after.value in
    let l : List ℕ = q.after.rest in
    let r = q.after.after.1 in
    let all : ws ≡ a ∷ b ∷ l = q.content ∙ ap (λ (t : List ℕ). a ∷ t) q.after.content in
    let laid : bs ≡ bits_of 12 a ++ (bits_of 12 b ++ q.after.body) = q.layout ∙ ap (λ (t : List Bool). bits_of 12 a ++ t) q.after.layout in
    rw (all, laid) (record {
      two_each = let z = r.two_each in omega arith;
      small = below_cons (b ∷ l) q.most (below_cons l q.after.most r.small);
      layout = ap (λ (t : List Bool). bits_of 12 a ++ (bits_of 12 b ++ t)) r.layout;
      first = λ h. leb-true least (code a b) q.after.after.0;
      ascend = order a b l r;
    })
  where
    order : (a b : ℕ) (l : List ℕ) {cs : List Bool} → Pairs k (suc (code a b)) l cs → (i : ℕ) → suc i < suc k → code_from (a ∷ b ∷ l) i < code_from (a ∷ b ∷ l) (suc i)
    order a b l r zero h = rw (code_cons a b l 0) (r.first (omega arith))
    order a b l r (suc i) h = rw (code_cons a b l i, code_cons a b l (suc i)) (r.ascend i (omega arith))

pair_by : (k least : ℕ) (ws : List ℕ) (bs : List Bool) → Pairs (suc k) least ws bs → PairLaid k least ws bs
unfolding field_bits
pair_by k least [] bs q = absurd (let z = q.two_each in omega arith)
pair_by k least (a ∷ []) bs q = absurd (let z = q.two_each in omega arith)
pair_by k least (a ∷ b ∷ l) bs q =
    let x : a < 4096 = q.small 0 (omega arith) in
    let y : b < 4096 = q.small 1 (omega arith) in
    record {
      value = a;
      rest = b ∷ l;
      body = bits_of 12 b ++ field_bits 12 l;
      content = refl;
      layout = q.layout;
      least = omega arith;
      most = x;
      fits = x;
      after = record {
        value = b;
        rest = l;
        body = field_bits 12 l;
        content = refl;
        layout = refl;
        least = omega arith;
        most = y;
        fits = y;
        after = (
          le-leb least (code a b) (q.first (omega arith)),
          record {
            two_each = let z = q.two_each in omega arith;
            small = λ i h. q.small (suc (suc i)) (omega arith);
            layout = refl;
            first = λ h. subst (λ (n : ℕ). code a b < n) (code_cons a b l 0) (q.ascend 0 (omega arith));
            ascend = λ i h. rw (sym (code_cons a b l i), sym (code_cons a b l (suc i))) (q.ascend (suc i) (omega arith));
          },
        );
      };
    }

accepts_from : (k least at : ℕ) → Accepts (pairs k least) at (Pairs k least)
unfolding pairs
accepts_from zero least at = accepts_same (no_pairs least) (accepts_done at)
accepts_from (suc k) least at =
    accepts_same (λ ws bs. (pair_to k least ws bs, pair_by k least ws bs))
    (accepts_ask 12 0 4096 3 _ at _ (λ a l m.
    accepts_ask 12 0 4096 3 _ (at + 12) _ (λ b l' m'.
    accepts_test (leb least (code a b)) 6 (accepts_from k (suc (code a b)) (at + 12 + 12)))))

-- from the lowest code on
plain_pairs : (k : ℕ) (ws : List ℕ) (bs : List Bool) → Pairs k 0 ws bs ↔ (PlainPairs k ws × (bs ≡ field_bits 12 ws))
plain_pairs k ws bs = (
  λ q. (
    record {
      two_each = q.two_each;
      small = q.small;
      ascend = λ i h. (in_order i h q.two_each q.small).0 (q.ascend i h);
    },
    q.layout,
  ),
  λ q. record {
    two_each = q.0.two_each;
    small = q.0.small;
    layout = q.1;
    first = λ h. omega arith;
    ascend = λ i h. (in_order i h q.0.two_each q.0.small).1 (q.0.ascend i h);
  },
)
  where
    in_order : (i : ℕ) → suc i < k → length ws ≡ 2 * k → Below 4096 ws → code_from ws i < code_from ws (suc i) ↔ Before ws i (suc i)
    in_order i h t small =
        code_order (get_or ws (2 * i) 0) (get_or ws (2 * i + 1) 0) (get_or ws (2 * suc i) 0) (get_or ws (2 * suc i + 1) 0)
        (small (2 * i + 1) (omega arith)) (small (2 * suc i + 1) (omega arith))

pub accepts_pairs : (k at : ℕ) → Accepts (pairs k 0) at (λ ws bs. PlainPairs k ws × (bs ≡ field_bits 12 ws))
accepts_pairs k at = accepts_same (plain_pairs k) (accepts_from k 0 at)

-- What the edges of a record accept.
use Prim.Native.Nat.{ℕ, zero, suc, ◌+◌, ◌^◌, ◌≤◌, ◌<◌}
use mathlib.Core.Path.{◌≡◌, refl, ap, sym, ◌∙◌, subst}
use mathlib.Core.List.{List, [], ◌∷◌, ◌++◌}
use mathlib.Core.Bool.{Bool}
use mathlib.Core.Logic.{◌⊎◌, inl, inr, ⊎_elim, ◌↔◌}
use lib.ListN.{length}
use lib.Dec.{leb}
use native.Mathlib.Omega.{arith}
use native.Mathlib.Nat.{lt_of_lt_of_le}
use borrow.Author.Tests.{leb-true, le-leb}
use Rattle.packed.specs.Bits.{bits_of}
use Rattle.packed.specs.Formats.{rank, rising}
use Rattle.packed.specs.Plain.{Laid, from_at, to_at, kind_at, edge_bits, EdgesAmong, EdgeBefore, PlainRising}
use Rattle.packed.proofs.OrderCases.{lt_or_ge}
use Rattle.packed.proofs.AcceptedLaws.{Accepts, accepts_same, Nothing, accepts_done, Asked, accepts_ask, Tested, accepts_test}
use Rattle.packed.proofs.EdgePlaces.{from_cons, to_cons, kind_cons, among_cons, among_tail}

-- ---- edges by their ranks

abbrev pub rank_from : List ℕ → ℕ → ℕ
rank_from es i = rank (from_at es i) (to_at es i) (kind_at es i)

rank_cons : (a b k : ℕ) (l : List ℕ) (i : ℕ) → rank_from (a ∷ b ∷ k ∷ l) (suc i) ≡ rank_from l i
rank_cons a b k l i = rw (from_cons a b k l i, to_cons a b k l i, kind_cons a b k l i)

-- by from, then to, then kind
pub rank_order : (a b k c d l : ℕ) → b < 4096 → k < 8 → d < 4096 → l < 8
    → rank a b k < rank c d l ↔ (a < c) ⊎ ((a ≡ c) × ((b < d) ⊎ ((b ≡ d) × (k < l))))
rank_order a b k c d l hb hk hd hl = (
  λ r. ⊎_elim
      (λ (x : a < c). inl x)
      (λ (x : c ≤ a). inr (omega arith, ⊎_elim (λ (y : b < d). inl y) (λ (y : d ≤ b). inr (omega arith, omega arith)) (lt_or_ge b d)))
      (lt_or_ge a c),
  ⊎_elim (λ x. omega arith) (λ x. ⊎_elim (λ (y : b < d). omega (arith, x.0)) (λ y. omega (arith, x.0, y.0, y.1)) x.1),
)

-- so many edges, the first of at least the rank least
record Rising (nodes number least : ℕ) (ws : List ℕ) (bs : List Bool) : Type 0 where
  among : EdgesAmong nodes 8 number ws
  layout : bs ≡ edge_bits 12 3 ws
  first : 0 < number → least ≤ rank_from ws 0
  ascend : (i : ℕ) → suc i < number → rank_from ws i < rank_from ws (suc i)

module _ (nodes : ℕ) (fits : nodes ≤ 2 ^ 12) where
  no_edges : (least : ℕ) (ws : List ℕ) (bs : List Bool) → Nothing ws bs ↔ Rising nodes 0 least ws bs
  unfolding edge_bits
  no_edges least [] bs = (
    λ q. record {
      among = record { three_each = refl; from_node = λ i h. absurd (omega arith); to_node = λ i h. absurd (omega arith); is_kind = λ i h. absurd (omega arith) };
      layout = q.1;
      first = λ h. absurd (omega arith);
      ascend = λ i h. absurd (omega arith);
    },
    λ q. (refl, q.layout),
  )
  no_edges least (v ∷ ws) bs = (λ q. absurd (let z = ap length q.0 in omega arith), λ q. absurd (let z = q.among.three_each in omega arith))

  abbrev EdgeLaid : ℕ → ℕ → Laid
  EdgeLaid n least = Asked 12 0 nodes (λ a. Asked 12 0 nodes (λ b. Asked 3 0 8 (λ k. Tested (leb least (rank a b k)) (Rising nodes n (suc (rank a b k))))))

  edge_to : (n least : ℕ) (ws : List ℕ) (bs : List Bool) → EdgeLaid n least ws bs → Rising nodes (suc n) least ws bs
  unfolding edge_bits
  edge_to n least ws bs q =
      let a : ℕ = q.value in
      let b : ℕ = q.after.value in
      let k : ℕ = q.after.after.value in
      let l : List ℕ = q.after.after.rest in
      let t = q.after.after.after in
      let r = t.1 in
      let all : ws ≡ a ∷ b ∷ k ∷ l = q.content ∙ ap (λ (v : List ℕ). a ∷ v) (q.after.content ∙ ap (λ (v : List ℕ). b ∷ v) q.after.after.content) in
      let laid : bs ≡ bits_of 12 a ++ (bits_of 12 b ++ (bits_of 3 k ++ q.after.after.body)) =
      q.layout ∙ ap (λ (v : List Bool). bits_of 12 a ++ v) (q.after.layout ∙ ap (λ (v : List Bool). bits_of 12 b ++ v) q.after.after.layout) in
      rw (all, laid) (record {
        among = among_cons q.most q.after.most q.after.after.most r.among;
        layout = ap (λ (v : List Bool). bits_of 12 a ++ (bits_of 12 b ++ (bits_of 3 k ++ v))) r.layout;
        first = λ h. leb-true least (rank a b k) t.0;
        ascend = order a b k l r;
      })
    where
      order : (a b k : ℕ) (l : List ℕ) {cs : List Bool} → Rising nodes n (suc (rank a b k)) l cs
          → (i : ℕ) → suc i < suc n → rank_from (a ∷ b ∷ k ∷ l) i < rank_from (a ∷ b ∷ k ∷ l) (suc i)
      order a b k l r zero h = rw (rank_cons a b k l 0) (r.first (omega arith))
      order a b k l r (suc i) h = rw (rank_cons a b k l i, rank_cons a b k l (suc i)) (r.ascend i (omega arith))

  edge_by : (n least : ℕ) (ws : List ℕ) (bs : List Bool) → Rising nodes (suc n) least ws bs → EdgeLaid n least ws bs
  unfolding edge_bits
  edge_by n least [] bs q = absurd (let z = q.among.three_each in omega arith)
  edge_by n least (a ∷ []) bs q = absurd (let z = q.among.three_each in omega arith)
  edge_by n least (a ∷ b ∷ []) bs q = absurd (let z = q.among.three_each in omega arith)
  edge_by n least (a ∷ b ∷ k ∷ l) bs q =
      let x : a < nodes = q.among.from_node 0 (omega arith) in
      let y : b < nodes = q.among.to_node 0 (omega arith) in
      let z : k < 8 = q.among.is_kind 0 (omega arith) in
      record {
        value = a;
        rest = b ∷ k ∷ l;
        body = bits_of 12 b ++ (bits_of 3 k ++ edge_bits 12 3 l);
        content = refl;
        layout = q.layout;
        least = omega arith;
        most = x;
        fits = lt_of_lt_of_le x fits;
        after = record {
          value = b;
          rest = k ∷ l;
          body = bits_of 3 k ++ edge_bits 12 3 l;
          content = refl;
          layout = refl;
          least = omega arith;
          most = y;
          fits = lt_of_lt_of_le y fits;
          after = record {
            value = k;
            rest = l;
            body = edge_bits 12 3 l;
            content = refl;
            layout = refl;
            least = omega arith;
            most = z;
            fits = z;
            after = (
              le-leb least (rank a b k) (q.first (omega arith)),
              record {
                among = among_tail q.among;
                layout = refl;
                first = λ h. subst (λ (v : ℕ). rank a b k < v) (rank_cons a b k l 0) (q.ascend 0 (omega arith));
                ascend = λ i h. rw (sym (rank_cons a b k l i), sym (rank_cons a b k l (suc i))) (q.ascend (suc i) (omega arith));
              },
            );
          };
        };
      }

  accepts_from : (n least at : ℕ) → Accepts (rising nodes n least) at (Rising nodes n least)
  unfolding rising
  accepts_from zero least at = accepts_same (no_edges least) (accepts_done at)
  accepts_from (suc n) least at =
      accepts_same (λ ws bs. (edge_to n least ws bs, edge_by n least ws bs))
      (accepts_ask 12 0 nodes 4 _ at _ (λ a l m.
      accepts_ask 12 0 nodes 4 _ (at + 12) _ (λ b l' m'.
      accepts_ask 3 0 8 3 _ (at + 12 + 12) _ (λ k l'' m''.
      accepts_test (leb least (rank a b k)) 6 (accepts_from n (suc (rank a b k)) (at + 12 + 12 + 3))))))

  in_order : {number : ℕ} {es : List ℕ} → EdgesAmong nodes 8 number es → (i j : ℕ) → i < number → j < number → rank_from es i < rank_from es j ↔ EdgeBefore es i j
  in_order {es = es} g i j h k =
      rank_order (from_at es i) (to_at es i) (kind_at es i) (from_at es j) (to_at es j) (kind_at es j)
      (lt_of_lt_of_le (g.to_node i h) fits) (g.is_kind i h) (lt_of_lt_of_le (g.to_node j k) fits) (g.is_kind j k)

  -- from the lowest rank on
  plain_rising : (number : ℕ) (ws : List ℕ) (bs : List Bool) → Rising nodes number 0 ws bs ↔ (PlainRising 8 nodes number ws × (bs ≡ edge_bits 12 3 ws))
  plain_rising number ws bs = (
    λ q. (
      record { among = q.among; ascend = λ i h. (in_order q.among i (suc i) (omega arith) h).0 (q.ascend i h) },
      q.layout,
    ),
    λ q. record {
      among = q.0.among;
      layout = q.1;
      first = λ h. omega arith;
      ascend = λ i h. (in_order q.0.among i (suc i) (omega arith) h).1 (q.0.ascend i h);
    },
  )

  pub accepts_rising : (number at : ℕ) → Accepts (rising nodes number 0) at (λ ws bs. PlainRising 8 nodes number ws × (bs ≡ edge_bits 12 3 ws))
  accepts_rising number at = accepts_same (plain_rising number) (accepts_from number 0 at)

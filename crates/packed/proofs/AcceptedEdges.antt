-- What rows of fields and of edges accept.
use Prim.Native.Nat.{ℕ, zero, suc, ◌+◌, ◌*◌, ◌^◌, ◌≤◌, ◌<◌}
use mathlib.Core.Path.{◌≡◌, refl, ap, sym, ◌∙◌, subst}
use mathlib.Core.List.{List, [], ◌∷◌, ◌++◌, append_assoc, append-nil}
use mathlib.Core.Bool.{Bool, true, false, not, ◌&&◌, ◌||◌}
use mathlib.Core.Logic.{◌⊎◌, inl, inr, ⊎_elim, ◌↔◌}
use lib.ListN.{length, get_or, length-append, get_or-append}
use lib.Seq.{get_or_at, get_or-append-add}
use lib.Dec.{eqb}
use native.Mathlib.Omega.{arith}
use native.Mathlib.Nat.{eq-or-lt_of_le, lt_of_lt_of_le}
use borrow.Author.Tests.{eq-eqb, eqb-true}
use Rattle.packed.specs.Bits.{bits_of}
use Rattle.packed.specs.Format.{Format, done, ask, then, times}
use Rattle.packed.specs.Formats.{linked, edges, is_end, all_ends}
use Rattle.packed.specs.Plain.{Laid, Below, field_bits, from_at, to_at, kind_at, edge_bits, EdgesAmong, Same}
use Rattle.packed.proofs.RoundTrip.{and_yes}
use Rattle.packed.proofs.OrderCases.{or_cases}
use Rattle.packed.proofs.EdgePlaces.{from_cons, to_cons, kind_cons, among_cons, among_tail}
use Rattle.packed.proofs.AcceptedLaws.{Accepts, accepts_same, Nothing, accepts_done, Asked, accepts_ask, Tested, accepts_test}

-- ---- tests

or_left : (a b : Bool) → a ≡ true → (a || b) ≡ true
or_left true b e = refl
or_left false b e = absurd (let z : ◌≡◌ {A = ℕ} 0 1 = cc in omega arith)

or_right : (a b : Bool) → b ≡ true → (a || b) ≡ true
or_right true b e = refl
or_right false b e = e

not_by : (b : Bool) → (b ≡ true → ⊥) → not b ≡ true
not_by true h = absurd (h refl)
not_by false h = refl

not_both : (b : Bool) → not b ≡ true → b ≡ true → ⊥
not_both true h e = let z : ◌≡◌ {A = ℕ} 0 1 = cc in omega arith
not_both false h e = let z : ◌≡◌ {A = ℕ} 0 1 = cc in omega arith

-- ---- lists of numbers below a bound

pub below_cons : {bound v : ℕ} (l : List ℕ) → v < bound → Below bound l → Below bound (v ∷ l)
below_cons l h g zero i = h
below_cons l h g (suc j) i = g j (omega arith)

-- ---- so many fields of one kind

pub record Fields (w bound n : ℕ) (ws : List ℕ) (bs : List Bool) : Type 0 where
  pub many : length ws ≡ n
  pub small : Below bound ws
  pub layout : bs ≡ field_bits w ws

module _ (w bound e : ℕ) (fits : bound ≤ 2 ^ w) where
  no_fields : (ws : List ℕ) (bs : List Bool) → Nothing ws bs ↔ Fields w bound 0 ws bs
  unfolding field_bits
  no_fields [] bs = (λ q. record { many = refl; small = λ i h. absurd (omega arith); layout = q.1 }, λ q. (refl, q.layout))
  no_fields (v ∷ ws) bs = (λ q. absurd (let z = ap length q.0 in omega arith), λ q. absurd (let z = q.many in omega arith))

  more_fields : (n : ℕ) (ws : List ℕ) (bs : List Bool) → Asked w 0 bound (λ v. Fields w bound n) ws bs ↔ Fields w bound (suc n) ws bs
  unfolding field_bits
  more_fields n ws bs = (
    λ q.
        let r = q.after in
        rw (q.content, q.layout) (record {
          many = ap suc r.many;
          small = below_cons q.rest q.most r.small;
          layout = ap (λ (l : List Bool). bits_of w q.value ++ l) r.layout;
        }),
    back ws,
  )
    where
      back : (zs : List ℕ) → Fields w bound (suc n) zs bs → Asked w 0 bound (λ v. Fields w bound n) zs bs
      back [] q = absurd (let z = q.many in omega arith)
      back (v ∷ zs) q =
          record {
            value = v;
            rest = zs;
            body = field_bits w zs;
            content = refl;
            layout = q.layout;
            least = omega arith;
            most = q.small 0 (omega arith);
            fits = lt_of_lt_of_le (q.small 0 (omega arith)) fits;
            after = record { many = let z = q.many in omega arith; small = λ i h. q.small (suc i) (omega arith); layout = refl };
          }

  pub accepts_fields : (n at : ℕ) → Accepts (times n (ask w 0 bound e (λ v. done))) at (Fields w bound n)
  unfolding times then
  accepts_fields zero at = accepts_same no_fields (accepts_done at)
  accepts_fields (suc n) at =
      accepts_same (more_fields n)
      (accepts_ask w 0 bound e (λ v. times n (ask w 0 bound e (λ u. done))) at (λ v. Fields w bound n) (λ v l m. accepts_fields n (at + w)))

-- ---- edges by their places

linked_at : (a b k : ℕ) (es : List ℕ) (i : ℕ) → 3 * i + 2 < length es → from_at es i ≡ a → to_at es i ≡ b → kind_at es i ≡ k → linked a b k es ≡ true
unfolding linked
linked_at a b k [] i h p q r = absurd (omega arith)
linked_at a b k (x ∷ []) i h p q r = absurd (omega arith)
linked_at a b k (x ∷ y ∷ []) i h p q r = absurd (omega arith)
linked_at a b k (x ∷ y ∷ z ∷ es) zero h p q r = rw (eq-eqb x a p, eq-eqb y b q, eq-eqb z k r)
linked_at a b k (x ∷ y ∷ z ∷ es) (suc i) h p q r =
    or_right (eqb x a && (eqb y b && eqb z k)) (linked a b k es)
    (linked_at a b k es i (omega arith) (sym (from_cons x y z es i) ∙ p) (sym (to_cons x y z es i) ∙ q) (sym (kind_cons x y z es i) ∙ r))

linked_found : (a b k : ℕ) (es : List ℕ) → linked a b k es ≡ true
    → (i : ℕ) × (3 * i + 2 < length es) × (from_at es i ≡ a) × (to_at es i ≡ b) × (kind_at es i ≡ k)
unfolding linked
linked_found a b k [] h = absurd (let z : ◌≡◌ {A = ℕ} 0 1 = cc in omega arith)
linked_found a b k (x ∷ []) h = absurd (let z : ◌≡◌ {A = ℕ} 0 1 = cc in omega arith)
linked_found a b k (x ∷ y ∷ []) h = absurd (let z : ◌≡◌ {A = ℕ} 0 1 = cc in omega arith)
linked_found a b k (x ∷ y ∷ z ∷ es) h =
    ⊎_elim
    (λ e.
    let q = and_yes (eqb x a) (eqb y b && eqb z k) e in
    let r = and_yes (eqb y b) (eqb z k) q.1 in
    (0, omega arith, eqb-true x a q.0, eqb-true y b r.0, eqb-true z k r.1))
    (λ e.
    let q = linked_found a b k es e in
    (suc q.0, let l = q.1 in omega arith, from_cons x y z es q.0 ∙ q.2, to_cons x y z es q.0 ∙ q.3, kind_cons x y z es q.0 ∙ q.4))
    (or_cases (eqb x a && (eqb y b && eqb z k)) (linked a b k es) h)

-- the edge from a to b of the kind k after n edges
module _ (es : List ℕ) (n : ℕ) (long : length es ≡ 3 * n) (a b k : ℕ) (rest : List ℕ) where
  from_here : from_at (es ++ (a ∷ b ∷ k ∷ rest)) n ≡ a
  from_here = get_or_at es a (b ∷ k ∷ rest) 0 (3 * n) long

  to_here : to_at (es ++ (a ∷ b ∷ k ∷ rest)) n ≡ b
  to_here = ap (λ (m : ℕ). get_or (es ++ (a ∷ b ∷ k ∷ rest)) (m + 1) 0) (sym long) ∙ get_or-append-add es (a ∷ b ∷ k ∷ rest) 1 0

  kind_here : kind_at (es ++ (a ∷ b ∷ k ∷ rest)) n ≡ k
  kind_here = ap (λ (m : ℕ). get_or (es ++ (a ∷ b ∷ k ∷ rest)) (m + 2) 0) (sym long) ∙ get_or-append-add es (a ∷ b ∷ k ∷ rest) 2 0

  from_before : (i : ℕ) → i < n → from_at (es ++ (a ∷ b ∷ k ∷ rest)) i ≡ from_at es i
  from_before i h = get_or-append es (a ∷ b ∷ k ∷ rest) 0 (3 * i) (omega arith)

  to_before : (i : ℕ) → i < n → to_at (es ++ (a ∷ b ∷ k ∷ rest)) i ≡ to_at es i
  to_before i h = get_or-append es (a ∷ b ∷ k ∷ rest) 0 (3 * i + 1) (omega arith)

  kind_before : (i : ℕ) → i < n → kind_at (es ++ (a ∷ b ∷ k ∷ rest)) i ≡ kind_at es i
  kind_before i h = get_or-append es (a ∷ b ∷ k ∷ rest) 0 (3 * i + 2) (omega arith)

  -- it repeats none of them
  new_differs : not (linked a b k es) ≡ true → (i : ℕ) → i < n → Same (es ++ (a ∷ b ∷ k ∷ rest)) i n → ⊥
  new_differs c i h s =
      not_both (linked a b k es) c
      (linked_at a b k es i (omega arith) (sym (from_before i h) ∙ s.0 ∙ from_here) (sym (to_before i h) ∙ s.1 ∙ to_here) (sym (kind_before i h) ∙ s.2 ∙ kind_here))

  differs_new : ((i : ℕ) → i < n → Same (es ++ (a ∷ b ∷ k ∷ rest)) i n → ⊥) → not (linked a b k es) ≡ true
  differs_new d =
      not_by (linked a b k es) (λ e.
      let q = linked_found a b k es e in
      let i : ℕ = q.0 in
      let l : i < n = let m = q.1 in omega arith in
      d i l (from_before i l ∙ q.2 ∙ sym from_here, to_before i l ∙ q.3 ∙ sym to_here, kind_before i l ∙ q.4 ∙ sym kind_here))

-- ---- so many edges more, after the n edges with the fields es; at the end Last holds of all fields

pub record EdgesLaid (w wide nodes : ℕ) (Last : List ℕ → Type 0) (more n : ℕ) (es ws : List ℕ) (bs : List Bool) : Type 0 where
  pub among : EdgesAmong nodes (2 ^ wide) more ws
  pub layout : bs ≡ edge_bits w wide ws
  pub differ : (i j : ℕ) → i < j → n ≤ j → j < n + more → Same (es ++ ws) i j → ⊥
  pub last : Last (es ++ ws)

module _ (w wide nodes : ℕ) (fits : nodes ≤ 2 ^ w) (last : List ℕ → Format) (Last : List ℕ → Type 0)
    (accepts_last : (es : List ℕ) (at : ℕ) → Accepts (last es) at (λ ws bs. Last es × Nothing ws bs)) where
  no_edges : (n : ℕ) (es ws : List ℕ) (bs : List Bool) → (Last es × Nothing ws bs) ↔ EdgesLaid w wide nodes Last 0 n es ws bs
  unfolding edge_bits
  no_edges n es [] bs = (
    λ q. record {
      among = record { three_each = refl; from_node = λ i h. absurd (omega arith); to_node = λ i h. absurd (omega arith); is_kind = λ i h. absurd (omega arith) };
      layout = q.1.1;
      differ = λ i j h g l s. omega arith;
      last = subst Last (sym (append-nil es)) q.0;
    },
    λ q. (subst Last (append-nil es) q.last, (refl, q.layout)),
  )
  no_edges n es (v ∷ ws) bs = (λ q. absurd (let z = ap length q.1.0 in omega arith), λ q. absurd (let z = q.among.three_each in omega arith))

  -- one edge, and the others
  abbrev One : ℕ → ℕ → List ℕ → Laid
  One more n es =
      Asked w 0 nodes (λ a. Asked w 0 nodes (λ b. Asked wide 0 (2 ^ wide) (λ k.
      Tested (not (linked a b k es)) (EdgesLaid w wide nodes Last more (suc n) (es ++ (a ∷ b ∷ k ∷ []))))))

  edge_to : (more n : ℕ) (es : List ℕ) → length es ≡ 3 * n → (ws : List ℕ) (bs : List Bool) → One more n es ws bs → EdgesLaid w wide nodes Last (suc more) n es ws bs
  unfolding edge_bits
  edge_to more n es long ws bs q =
      let a : ℕ = q.value in
      let b : ℕ = q.after.value in
      let k : ℕ = q.after.after.value in
      let l : List ℕ = q.after.after.rest in
      let r = q.after.after.after.1 in
      let shift : (es ++ (a ∷ b ∷ k ∷ [])) ++ l ≡ es ++ (a ∷ b ∷ k ∷ l) = append_assoc es (a ∷ b ∷ k ∷ []) l in
      let all : ws ≡ a ∷ b ∷ k ∷ l =
      q.content ∙ ap (λ (t : List ℕ). a ∷ t) q.after.content ∙ ap (λ (t : List ℕ). a ∷ b ∷ t) q.after.after.content in
      let laid : bs ≡ bits_of w a ++ (bits_of w b ++ (bits_of wide k ++ q.after.after.body)) =
      q.layout
      ∙ ap (λ (t : List Bool). bits_of w a ++ t) q.after.layout
      ∙ ap (λ (t : List Bool). bits_of w a ++ (bits_of w b ++ t)) q.after.after.layout in
      rw (all, laid) (record {
        among = among_cons q.most q.after.most q.after.after.most r.among;
        layout = ap (λ (t : List Bool). bits_of w a ++ (bits_of w b ++ (bits_of wide k ++ t))) r.layout;
        differ = λ i j h g m s. ⊎_elim
            (λ (e : n ≡ j). new_differs es n long a b k l q.after.after.after.0 i (omega arith) (rw e s))
            (λ (e : n < j). r.differ i j h e (omega arith) (rw shift s))
            (eq-or-lt_of_le g);
        last = subst Last shift r.last;
      })

  edge_by : (more n : ℕ) (es : List ℕ) → length es ≡ 3 * n → (ws : List ℕ) (bs : List Bool) → EdgesLaid w wide nodes Last (suc more) n es ws bs → One more n es ws bs
  unfolding edge_bits
  edge_by more n es long [] bs q = absurd (let z = q.among.three_each in omega arith)
  edge_by more n es long (a ∷ []) bs q = absurd (let z = q.among.three_each in omega arith)
  edge_by more n es long (a ∷ b ∷ []) bs q = absurd (let z = q.among.three_each in omega arith)
  edge_by more n es long (a ∷ b ∷ k ∷ l) bs q =
      let shift : (es ++ (a ∷ b ∷ k ∷ [])) ++ l ≡ es ++ (a ∷ b ∷ k ∷ l) = append_assoc es (a ∷ b ∷ k ∷ []) l in
      let x : a < nodes = q.among.from_node 0 (omega arith) in
      let y : b < nodes = q.among.to_node 0 (omega arith) in
      let z : k < 2 ^ wide = q.among.is_kind 0 (omega arith) in
      record {
        value = a;
        rest = b ∷ k ∷ l;
        body = bits_of w b ++ (bits_of wide k ++ edge_bits w wide l);
        content = refl;
        layout = q.layout;
        least = omega arith;
        most = x;
        fits = lt_of_lt_of_le x fits;
        after = record {
          value = b;
          rest = k ∷ l;
          body = bits_of wide k ++ edge_bits w wide l;
          content = refl;
          layout = refl;
          least = omega arith;
          most = y;
          fits = lt_of_lt_of_le y fits;
          after = record {
            value = k;
            rest = l;
            body = edge_bits w wide l;
            content = refl;
            layout = refl;
            least = omega arith;
            most = z;
            fits = z;
            after = (
              differs_new es n long a b k l (λ i h s. q.differ i n h (omega arith) (omega arith) s),
              record {
                among = among_tail q.among;
                layout = refl;
                differ = λ i j h g m s. q.differ i j h (omega arith) (omega arith) (rw (sym shift) s);
                last = subst Last (sym shift) q.last;
              },
            );
          };
        };
      }

  pub accepts_edges : (more n at : ℕ) (es : List ℕ) → length es ≡ 3 * n → Accepts (edges w wide nodes last more es) at (EdgesLaid w wide nodes Last more n es)
  unfolding edges
  accepts_edges zero n at es long = accepts_same (no_edges n es) (accepts_last es at)
  accepts_edges (suc more) n at es long =
      accepts_same (λ ws bs. (edge_to more n es long ws bs, edge_by more n es long ws bs))
      (accepts_ask w 0 nodes 4 _ at _ (λ a l m.
      accepts_ask w 0 nodes 4 _ (at + w) _ (λ b l' m'.
      accepts_ask wide 0 (2 ^ wide) 3 _ (at + w + w) _ (λ k l'' m''.
      accepts_test (not (linked a b k es)) 5
      (accepts_edges more (suc n) (at + w + w + wide) (es ++ (a ∷ b ∷ k ∷ [])) (omega (arith, length-append es (a ∷ b ∷ k ∷ []))))))))

-- ---- each node is an end

abbrev EndOf : ℕ → List ℕ → ℕ → Type 0
EndOf x es i = (from_at es i ≡ x) ⊎ (to_at es i ≡ x)

end_at : (x : ℕ) (es : List ℕ) (i : ℕ) → 3 * i + 2 < length es → EndOf x es i → is_end x es ≡ true
unfolding is_end
end_at x [] i h p = absurd (omega arith)
end_at x (a ∷ []) i h p = absurd (omega arith)
end_at x (a ∷ b ∷ []) i h p = absurd (omega arith)
end_at x (a ∷ b ∷ k ∷ es) zero h p =
    or_left (eqb a x || eqb b x) (is_end x es)
    (⊎_elim (λ (e : a ≡ x). or_left (eqb a x) (eqb b x) (eq-eqb a x e)) (λ (e : b ≡ x). or_right (eqb a x) (eqb b x) (eq-eqb b x e)) p)
end_at x (a ∷ b ∷ k ∷ es) (suc i) h p =
    or_right (eqb a x || eqb b x) (is_end x es)
    (end_at x es i (omega arith) (⊎_elim (λ e. inl (sym (from_cons a b k es i) ∙ e)) (λ e. inr (sym (to_cons a b k es i) ∙ e)) p))

end_found : (x : ℕ) (es : List ℕ) → is_end x es ≡ true → (i : ℕ) × (3 * i + 2 < length es) × EndOf x es i
unfolding is_end
end_found x [] h = absurd (let z : ◌≡◌ {A = ℕ} 0 1 = cc in omega arith)
end_found x (a ∷ []) h = absurd (let z : ◌≡◌ {A = ℕ} 0 1 = cc in omega arith)
end_found x (a ∷ b ∷ []) h = absurd (let z : ◌≡◌ {A = ℕ} 0 1 = cc in omega arith)
end_found x (a ∷ b ∷ k ∷ es) h =
    ⊎_elim
    (λ e. (0, omega arith, ⊎_elim (λ d. inl (eqb-true a x d)) (λ d. inr (eqb-true b x d)) (or_cases (eqb a x) (eqb b x) e)))
    (λ e.
    let q = end_found x es e in
    (suc q.0, let l = q.1 in omega arith, ⊎_elim (λ d. inl (from_cons a b k es q.0 ∙ d)) (λ d. inr (to_cons a b k es q.0 ∙ d)) q.2))
    (or_cases (eqb a x || eqb b x) (is_end x es) h)

abbrev pub Met : ℕ → List ℕ → Type 0
Met nodes es = (x : ℕ) → x < nodes → (i : ℕ) × (3 * i + 2 < length es) × EndOf x es i

pub all_met : (nodes : ℕ) (es : List ℕ) → all_ends nodes es ≡ true → Met nodes es
unfolding all_ends
all_met zero es h x l = absurd (omega arith)
all_met (suc n) es h x l =
    let q = and_yes (all_ends n es) (is_end n es) h in
    ⊎_elim
    (λ (e : x ≡ n). end_found x es (ap (λ (y : ℕ). is_end y es) e ∙ q.1))
    (λ (g : x < n). all_met n es q.0 x g)
    (eq-or-lt_of_le (let g : x ≤ n = omega arith in g))

pub met_all : (nodes : ℕ) (es : List ℕ) → Met nodes es → all_ends nodes es ≡ true
unfolding all_ends
met_all zero es h = refl
met_all (suc n) es h =
    let q = h n (omega arith) in
    rw (met_all n es (λ x l. h x (omega arith)), end_at n es q.0 q.1 q.2)

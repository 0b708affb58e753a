-- An edge that enters a record: the record with it is accepted, has its items, its edges and this one, which stands behind the edges of lower rank.
use Prim.Native.Nat.{ℕ, zero, suc, ◌+◌, ◌*◌, ◌/◌, ◌%◌, ◌^◌, ◌≤◌, ◌<◌}
use mathlib.Core.Path.{◌≡◌, refl, sym, ap, ap₂, ◌∙◌, subst}
use mathlib.Core.List.{List, [], ◌∷◌, ◌++◌}
use mathlib.Core.Bool.{Bool, true, false, ◌&&◌, ◌||◌, or_self_left}
use mathlib.Core.Logic.{⊎_elim}
use lib.ListN.{length, take, drop, get_or}
use lib.Seq.{drop_at, take_at}
use lib.Dec.{eqb, ltb}
use native.Mathlib.Omega.{arith}
use borrow.Author.Tests.{eqb-false, eq-eqb, ne_eqb}
use Rattle.packed.specs.Bits.{one}
use Rattle.packed.specs.Format.{ok, decode}
use Rattle.packed.specs.Formats.{record', rank, linked}
use Rattle.packed.specs.Contents.{nodes_of, edges_of, member, insert, distinct, each_edge, ranks, from_ranks, sorted_edges}
use Rattle.packed.specs.Plain.{from_at, to_at, kind_at, Same, Below, PlainEdges, PlainRising}
use Rattle.packed.specs.Distinct.{BelowHead, Increasing}
use Rattle.packed.specs.Calls.{record_bytes}
use Rattle.packed.specs.Entered.{edges_in, entered_edges, entered, MayEnter, record_length, lower}
use Rattle.packed.proofs.OrderCases.{eq_or_ne, or_neither, trichotomy, one_lt, one_ge}
use Rattle.packed.proofs.DistinctLaws.{insert_lt, insert_eq, insert_gt, distinct_own, member_at}
use Rattle.packed.proofs.DistinctMerge.{increasing_at}
use Rattle.packed.proofs.Accepted.{record_accepted}
use Rattle.packed.proofs.MadeRecords.{Made, made_within, record_length_lem, record_made}
use Rattle.packed.proofs.EdgePlaces.{from_cons, to_cons, kind_cons, among_cons, each_length, each_at}
use Rattle.packed.proofs.AcceptedRising.{rank_from}
use Rattle.packed.proofs.SortedEdges.{ranks_back, ranks_rise, sorted_plain}

-- ---- a number inserted among numbers that ascend stands behind the lower ones
below_lower : (x y : ℕ) (l : List ℕ) → x < y → BelowHead y l → BelowHead x l
unfolding BelowHead
below_lower x y [] h b = tt
below_lower x y (z ∷ l) h b = omega arith

lower_none : (x : ℕ) (l : List ℕ) → Increasing l → BelowHead x l → lower x l ≡ 0
unfolding lower Increasing
lower_none x [] i b = refl
lower_none x (y ∷ l) i b =
    let h : x < y = (unfold BelowHead in b) in
    let p = one_ge y x (omega arith) in
    let q = lower_none x l i.1 (below_lower x y l h i.0) in
    omega arith

pub lower_most : (x : ℕ) (l : List ℕ) → lower x l ≤ length l
unfolding lower
lower_most x [] = omega arith
lower_most x (y ∷ l) = let q = lower_most x l in let p = one_most (ltb y x) in omega arith
  where
    one_most : (b : Bool) → one b ≤ 1
    one_most true = omega arith
    one_most false = omega arith

pub insert_place : (x : ℕ) (l : List ℕ) → Increasing l → member x l ≡ false → insert x l ≡ take (lower x l) l ++ (x ∷ drop (lower x l) l)
unfolding Increasing member
insert_place x [] i m = unfold insert lower in refl
insert_place x (y ∷ l) i m =
    let n = or_neither (eqb y x) (member x l) m in
    trichotomy x y
    (λ h.
    let z : lower x (y ∷ l) ≡ 0 = lower_none x (y ∷ l) i (unfold BelowHead in h) in
    insert_lt x y l h ∙ ap (λ (j : ℕ). take j (y ∷ l) ++ (x ∷ drop j (y ∷ l))) (sym z))
    (λ h. absurd (eqb-false y x n.0 (sym h)))
    (λ h.
    let z : lower x (y ∷ l) ≡ suc (lower x l) = (unfold lower in let p = one_lt y x h in omega arith) in
    insert_gt x y l h
    ∙ ap (λ (t : List ℕ). y ∷ t) (insert_place x l i.1 n.1)
    ∙ ap (λ (j : ℕ). take j (y ∷ l) ++ (x ∷ drop j (y ∷ l))) (sym z))

-- ---- ranks and fields
ranks_append : (p q : List ℕ) → from_ranks (p ++ q) ≡ from_ranks p ++ from_ranks q
unfolding from_ranks
ranks_append [] q = refl
ranks_append (r ∷ p) q = ap (λ (t : List ℕ). r / 8 / 4096 ∷ r / 8 % 4096 ∷ r % 8 ∷ t) (ranks_append p q)

ranks_take : (j : ℕ) (l : List ℕ) → from_ranks (take j l) ≡ take (3 * j) (from_ranks l)
unfolding from_ranks
ranks_take zero l = refl
ranks_take (suc j) [] = let z : 3 * suc j ≡ suc (suc (suc (3 * j))) = omega arith in ap (λ (i : ℕ). take i []) (sym z)
ranks_take (suc j) (r ∷ l) =
    let z : 3 * suc j ≡ suc (suc (suc (3 * j))) = omega arith in
    ap (λ (t : List ℕ). r / 8 / 4096 ∷ r / 8 % 4096 ∷ r % 8 ∷ t) (ranks_take j l)
    ∙ ap (λ (i : ℕ). take i (r / 8 / 4096 ∷ r / 8 % 4096 ∷ r % 8 ∷ from_ranks l)) (sym z)

ranks_drop : (j : ℕ) (l : List ℕ) → from_ranks (drop j l) ≡ drop (3 * j) (from_ranks l)
unfolding from_ranks
ranks_drop zero l = refl
ranks_drop (suc j) [] = let z : 3 * suc j ≡ suc (suc (suc (3 * j))) = omega arith in ap (λ (i : ℕ). drop i []) (sym z)
ranks_drop (suc j) (r ∷ l) =
    let z : 3 * suc j ≡ suc (suc (suc (3 * j))) = omega arith in
    ranks_drop j l ∙ ap (λ (i : ℕ). drop i (r / 8 / 4096 ∷ r / 8 % 4096 ∷ r % 8 ∷ from_ranks l)) (sym z)

-- the fields of a rank
fields_back : (a b k : ℕ) (l : List ℕ) → b < 4096 → k < 8 → from_ranks (rank a b k ∷ l) ≡ a ∷ b ∷ k ∷ from_ranks l
unfolding from_ranks
fields_back a b k l h g =
    let p : rank a b k / 8 / 4096 ≡ a = omega arith in
    let q : rank a b k / 8 % 4096 ≡ b = omega arith in
    let t : rank a b k % 8 ≡ k = omega arith in
    ap (λ (v : ℕ). v ∷ rank a b k / 8 % 4096 ∷ rank a b k % 8 ∷ from_ranks l) p
    ∙ ap (λ (v : ℕ). a ∷ v ∷ rank a b k % 8 ∷ from_ranks l) q
    ∙ ap (λ (v : ℕ). a ∷ b ∷ v ∷ from_ranks l) t

-- ---- which edges are there
or_swap : (a b c : Bool) → (a || (b || c)) ≡ (b || (a || c))
or_swap true true c = refl
or_swap true false c = refl
or_swap false b c = refl

module _ (x y z : ℕ) where
  abbrev is_edge : ℕ → ℕ → ℕ → Bool
  is_edge a b k = eqb a x && (eqb b y && eqb k z)

  abbrev is_rank : ℕ → Bool
  is_rank r = is_edge (r / 8 / 4096) (r / 8 % 4096) (r % 8)

  linked_cons : (r : ℕ) (l : List ℕ) → linked x y z (from_ranks (r ∷ l)) ≡ (is_rank r || linked x y z (from_ranks l))
  unfolding linked from_ranks
  linked_cons r l = refl

  linked_insert : (r : ℕ) (l : List ℕ) → linked x y z (from_ranks (insert r l)) ≡ (is_rank r || linked x y z (from_ranks l))
  linked_insert r [] = unfold insert in linked_cons r []
  linked_insert r (s ∷ l) =
      trichotomy r s
      (λ h. ap (λ (t : List ℕ). linked x y z (from_ranks t)) (insert_lt r s l h) ∙ linked_cons r (s ∷ l))
      (λ h.
      ap (λ (t : List ℕ). linked x y z (from_ranks t)) (insert_eq r s l h)
      ∙ linked_cons s l
      ∙ sym (or_self_left (is_rank s) (linked x y z (from_ranks l)))
      ∙ ap₂ (λ (q : ℕ) (t : Bool). is_rank q || t) (sym h) (sym (linked_cons s l)))
      (λ h.
      ap (λ (t : List ℕ). linked x y z (from_ranks t)) (insert_gt r s l h)
      ∙ linked_cons s (insert r l)
      ∙ ap (λ (t : Bool). is_rank s || t) (linked_insert r l)
      ∙ or_swap (is_rank s) (is_rank r) (linked x y z (from_ranks l))
      ∙ ap (λ (t : Bool). is_rank r || t) (sym (linked_cons s l)))

  -- an edge whose rank is there is there
  member_linked : (r : ℕ) (l : List ℕ) → r / 8 / 4096 ≡ x → r / 8 % 4096 ≡ y → r % 8 ≡ z → linked x y z (from_ranks l) ≡ false → member r l ≡ false
  unfolding member
  member_linked r [] p q t h = refl
  member_linked r (s ∷ l) p q t h =
      let n = or_neither (is_rank s) (linked x y z (from_ranks l)) (sym (linked_cons s l) ∙ h) in
      ⊎_elim
      (λ (e : s ≡ r). absurd (
      let u : is_rank s ≡ true =
      rw (eq-eqb (s / 8 / 4096) x (ap (λ (v : ℕ). v / 8 / 4096) e ∙ p), eq-eqb (s / 8 % 4096) y (ap (λ (v : ℕ). v / 8 % 4096) e ∙ q), eq-eqb (s % 8) z (ap (λ (v : ℕ). v % 8) e ∙ t)) in
      let w : ◌≡◌ {A = Bool} true false = sym u ∙ n.0 in
      let o : ◌≡◌ {A = ℕ} 0 1 = cc in
      omega arith))
      (λ (e : s ≡ r → ⊥). rw (ne_eqb s r e) (member_linked r l p q t n.1))
      (eq_or_ne s r)

-- ---- an edge that is not among edges that ascend
module _ {nodes number : ℕ} {es : List ℕ} (few : nodes ≤ 4096) (p : PlainRising 8 nodes number es) (a b k : ℕ) (from : a < nodes) (to : b < nodes) (small : k < 8)
    (new : linked a b k es ≡ false) where
  rise : Increasing (ranks es)
  rise = ranks_rise few p

  back : from_ranks (ranks es) ≡ es
  back = ranks_back number es few p.among

  new_rank : member (rank a b k) (ranks es) ≡ false
  new_rank =
      member_linked a b k (rank a b k) (ranks es) (omega arith) (omega arith) (omega arith)
      (ap (linked a b k) back ∙ new)

  -- at its place
  pub edges_place : let j = lower (rank a b k) (ranks es) in entered_edges es a b k ≡ take (3 * j) es ++ (a ∷ b ∷ k ∷ drop (3 * j) es)
  unfolding entered_edges
  edges_place =
      let l : List ℕ = ranks es in
      let j : ℕ = lower (rank a b k) l in
      ap from_ranks (insert_place (rank a b k) l rise new_rank)
      ∙ ranks_append (take j l) (rank a b k ∷ drop j l)
      ∙ ap₂ (λ (u v : List ℕ). u ++ v)
      (ranks_take j l ∙ ap (take (3 * j)) back)
      (fields_back a b k (drop j l) (omega arith) small ∙ ap (λ (t : List ℕ). a ∷ b ∷ k ∷ t) (ranks_drop j l ∙ ap (drop (3 * j)) back))

  -- those edges and this one, each once
  pub edges_plain : PlainEdges 8 nodes (suc number) (a ∷ b ∷ k ∷ es)
  edges_plain = record { among = among_cons from to small p.among; differ = differ }
    where
      many : length (ranks es) ≡ number
      many = each_length rank number es p.among.three_each

      differ : (i j : ℕ) → i < j → j < suc number → Same (a ∷ b ∷ k ∷ es) i j → ⊥
      differ i zero h g q = omega arith
      differ zero (suc j) h g q =
          let n : j < length (ranks es) = omega (arith, many) in
          let u : a ≡ from_at es j = q.0 ∙ from_cons a b k es j in
          let v : b ≡ to_at es j = q.1 ∙ to_cons a b k es j in
          let w : k ≡ kind_at es j = q.2 ∙ kind_cons a b k es j in
          let x : get_or (ranks es) j 0 ≡ rank a b k = each_at rank es j n ∙ (let y : rank_from es j ≡ rank a b k = omega arith in y) in
          let y : ◌≡◌ {A = Bool} true false = sym (member_at (ranks es) j n) ∙ ap (λ (c : ℕ). member c (ranks es)) x ∙ new_rank in
          let o : ◌≡◌ {A = ℕ} 0 1 = cc in
          omega arith
      differ (suc i) (suc j) h g q =
          let m : i < length (ranks es) = omega (arith, many) in
          let n : j < length (ranks es) = omega (arith, many) in
          let u : from_at es i ≡ from_at es j = sym (from_cons a b k es i) ∙ q.0 ∙ from_cons a b k es j in
          let v : to_at es i ≡ to_at es j = sym (to_cons a b k es i) ∙ q.1 ∙ to_cons a b k es j in
          let w : kind_at es i ≡ kind_at es j = sym (kind_cons a b k es i) ∙ q.2 ∙ kind_cons a b k es j in
          let x = increasing_at (ranks es) rise i j (omega arith) n in
          omega (arith, each_at rank es i m, each_at rank es j n)

  pub edges_sorted : entered_edges es a b k ≡ sorted_edges (a ∷ b ∷ k ∷ es)
  unfolding entered_edges sorted_edges distinct each_edge
  edges_sorted = ap (λ (l : List ℕ). from_ranks (insert (rank a b k) l)) (sym (distinct_own (ranks es) rise))

  pub edges_rise : PlainRising 8 nodes (suc number) (entered_edges es a b k)
  edges_rise = subst (λ (l : List ℕ). PlainRising 8 nodes (suc number) l) (sym edges_sorted) (sorted_plain (omega arith) few edges_plain)

  -- the old edges and the new one
  pub edges_linked : (x y z : ℕ) → linked x y z (entered_edges es a b k) ≡ ((eqb a x && (eqb b y && eqb k z)) || linked x y z es)
  unfolding entered_edges
  edges_linked x y z =
      let u : rank a b k / 8 / 4096 ≡ a = omega arith in
      let v : rank a b k / 8 % 4096 ≡ b = omega arith in
      let w : rank a b k % 8 ≡ k = omega arith in
      linked_insert x y z (rank a b k) (ranks es)
      ∙ ap (λ (l : List ℕ). is_rank x y z (rank a b k) || linked x y z l) back
      ∙ ap (λ (t : Bool). t || linked x y z es)
      (ap (λ (c : ℕ). eqb c x && (eqb (rank a b k / 8 % 4096) y && eqb (rank a b k % 8) z)) u
      ∙ ap (λ (c : ℕ). eqb a x && (eqb c y && eqb (rank a b k % 8) z)) v
      ∙ ap (λ (c : ℕ). eqb a x && (eqb b y && eqb c z)) w)

-- ---- a record
pub record Entered (ws : List ℕ) (a b k : ℕ) : Type 0 where
  -- it is accepted, and takes so many bytes
  pub made : Made 44036 (entered ws a b k)
  pub size : length (record_bytes (entered ws a b k)) ≡ record_length (nodes_of ws) (suc (edges_of ws))
  -- the same items, with the same labels
  pub nodes : nodes_of (entered ws a b k) ≡ nodes_of ws
  pub labels : take (nodes_of ws) (drop 2 (entered ws a b k)) ≡ take (nodes_of ws) (drop 2 ws)
  -- one edge more, at its place
  pub number : edges_of (entered ws a b k) ≡ suc (edges_of ws)
  pub edges : edges_in (entered ws a b k) ≡ entered_edges (edges_in ws) a b k
  pub place : let j = lower (rank a b k) (ranks (edges_in ws)) in
      (j ≤ edges_of ws) × (edges_in (entered ws a b k) ≡ take (3 * j) (edges_in ws) ++ (a ∷ b ∷ k ∷ drop (3 * j) (edges_in ws)))
  -- its edges are the old ones and this one
  pub among : (x y z : ℕ) → linked x y z (edges_in (entered ws a b k)) ≡ ((eqb a x && (eqb b y && eqb k z)) || linked x y z (edges_in ws))

module _ (nodes number : ℕ) (labels es : List ℕ) (each : length labels ≡ nodes) where
  pub parts_edges : edges_in (nodes ∷ number ∷ (labels ++ es)) ≡ es
  parts_edges =
      let z : 2 + nodes ≡ suc (suc nodes) = omega arith in
      ap (λ (i : ℕ). drop i (nodes ∷ number ∷ (labels ++ es))) z ∙ drop_at labels es nodes each

  parts_labels : take nodes (drop 2 (nodes ∷ number ∷ (labels ++ es))) ≡ labels
  parts_labels = take_at labels es nodes each

  pub parts_entered : (a b k : ℕ) → entered (nodes ∷ number ∷ (labels ++ es)) a b k ≡ nodes ∷ suc number ∷ (labels ++ entered_edges es a b k)
  unfolding entered
  parts_entered a b k =
      ap₂ (λ (u v : List ℕ). nodes ∷ suc number ∷ (u ++ v)) parts_labels (ap (λ (l : List ℕ). entered_edges l a b k) parts_edges)

plain_enters : (nodes number : ℕ) (labels es : List ℕ) → nodes ≤ 4096 → length labels ≡ nodes → Below (2 ^ 32) labels → PlainRising 8 nodes number es
    → (a b k : ℕ) → MayEnter (nodes ∷ number ∷ (labels ++ es)) a b k → Entered (nodes ∷ number ∷ (labels ++ es)) a b k
plain_enters nodes number labels es few each are p a b k g =
    let ws : List ℕ = nodes ∷ number ∷ (labels ++ es) in
    let is : edges_in ws ≡ es = parts_edges nodes number labels es each in
    let new : linked a b k es ≡ false = ap (linked a b k) (sym is) ∙ g.new in
    let fs : List ℕ = entered_edges es a b k in
    let q : entered ws a b k ≡ nodes ∷ suc number ∷ (labels ++ fs) = parts_entered nodes number labels es each a b k in
    let up : PlainRising 8 nodes (suc number) fs = edges_rise few p a b k g.from g.to g.is_kind new in
    let room : suc number ≤ 8192 = (let r = g.room in omega arith) in
    let es' : edges_in (entered ws a b k) ≡ fs = ap edges_in q ∙ parts_edges nodes (suc number) labels fs each in
    let j : ℕ = lower (rank a b k) (ranks es) in
    record {
      made = subst (Made 44036) (sym q) (made_within (omega arith) (record_made nodes (suc number) labels fs few room each are up));
      size = ap (λ (l : List ℕ). length (record_bytes l)) q ∙ record_length_lem nodes (suc number) labels fs few room each are up ∙ (unfold record_length in refl);
      nodes = ap nodes_of q;
      labels = ap (λ (l : List ℕ). take nodes (drop 2 l)) q ∙ parts_labels nodes (suc number) labels fs each ∙ sym (parts_labels nodes number labels es each);
      number = ap edges_of q;
      edges = es' ∙ ap (λ (l : List ℕ). entered_edges l a b k) (sym is);
      place = subst
          (λ (l : List ℕ). (lower (rank a b k) (ranks l) ≤ number) × (edges_in (entered ws a b k) ≡ take (3 * lower (rank a b k) (ranks l)) l ++ (a ∷ b ∷ k ∷ drop (3 * lower (rank a b k) (ranks l)) l)))
          (sym is)
          (omega (arith, lower_most (rank a b k) (ranks es), each_length rank number es p.among.three_each), es' ∙ edges_place few p a b k g.from g.to g.is_kind new);
      among = λ x y z.
          ap (linked x y z) es'
          ∙ edges_linked few p a b k g.from g.to g.is_kind new x y z
          ∙ ap (λ (l : List ℕ). (eqb a x && (eqb b y && eqb k z)) || linked x y z l) (sym is);
    }

pub record_enters : (s ws : List ℕ) → decode record' s ≡ ok ws → (a b k : ℕ) → MayEnter ws a b k → Entered ws a b k
record_enters s ws e a b k g =
    let q = ((record_accepted s ws).0 e).laid in
    subst (λ (l : List ℕ). Entered l a b k) (sym q.content)
    (plain_enters q.nodes q.number q.labels q.es q.most_nodes q.labels_each q.are_labels q.edges a b k
    (subst (λ (l : List ℕ). MayEnter l a b k) q.content g))

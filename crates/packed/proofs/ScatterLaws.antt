-- Lists that are filled side by side, each from its place on.
use Prim.Native.Nat.{ℕ, zero, suc, ◌+◌, ◌-◌, ◌*◌, ◌/◌, ◌%◌, ◌^◌, ◌<◌, ◌≤◌}
use mathlib.Core.Path.{◌≡◌, refl, ap, ap₂, sym, ◌∙◌}
use mathlib.Core.Logic.{⊎_elim}
use mathlib.Core.List.{List, [], ◌++◌, append_assoc, append-nil}
use mathlib.Core.Bool.{Bool, true, false}
use lib.ListN.{length, get_or, set, replicate, length-append, length-set, length-replicate}
use lib.Seq.{sets, get_or-set_same, get_or-set_other}
use native.Mathlib.Omega.{arith}
use native.Mathlib.Nat.{add-zero, add-suc, div-one}
use native.Mathlib.Numerals.{add-one}
use borrow.Author.Count.{below_more}
use Rattle.packed.specs.Bits.{bits, bits_of}
use Rattle.packed.specs.Format.{pick}
use Rattle.packed.specs.Matches.{marks, marked, marked_from, pair_in, Marked, CountsFrom, pair_bits, coded_list, list_start, laid, scatter, scatters, CountsWritten, PairPut, PairsWritten, ListsWritten}
use Rattle.packed.proofs.BitsLaws.{length_bits_of}
use Rattle.packed.proofs.SetBits.{Next, no_bits, bit_low, bit_high}
use Rattle.packed.proofs.OrderCases.{lt_or_ge, eq_or_ne}
use Rattle.packed.proofs.Sets.{sets_append, sets_swap}
use Rattle.packed.proofs.ByValueLaws.{nothing_at}
use Rattle.packed.proofs.SheetLaws.{length-pair_bits}
use Rattle.packed.proofs.MatchLaws.{under as listed, lists_from, pick_one, under_more_from, length_more, length_more_from, lists_next, bits_next, pairs_next, names, names_not}

-- ---- one pair

scatter_set : (k : ℕ) (to : ℕ → ℕ) (x v : ℕ) (b : List Bool) → x / 2 ^ k % 2 ≡ 1 → scatter (k + 1) to x v b ≡ sets (scatter k to x v b) (to k) (bits_of 24 v)
unfolding scatter
scatter_set k to x v b h = rw (add-one, names k x h)

scatter_skip : (k d : ℕ) (to : ℕ → ℕ) (x v : ℕ) (b : List Bool) → ((j : ℕ) → k ≤ j → j < k + d → x / 2 ^ j % 2 ≡ 0) → scatter (k + d) to x v b ≡ scatter k to x v b
unfolding scatter
scatter_skip k zero to x v b h = rw add-zero
scatter_skip k (suc d) to x v b h =
    let n : marks (k + d) x ≡ false = names_not (k + d) x (λ y. omega (arith, h (k + d) (omega arith) (omega arith))) in
    rw (add-suc, n) (scatter_skip k d to x v b (λ j a l. h j a (omega arith)))

scatter_same : (m : ℕ) (to to' : ℕ → ℕ) (x x' v : ℕ) (b : List Bool) → ((e : ℕ) → e < m → to e ≡ to' e) → ((e : ℕ) → e < m → marks e x ≡ marks e x')
    → scatter m to x v b ≡ scatter m to' x' v b
unfolding scatter
scatter_same zero to to' x x' v b f g = refl
scatter_same (suc m) to to' x x' v b f g =
    rw (f m (omega arith), g m (omega arith), scatter_same m to to' x x' v b (λ e l. f e (omega arith)) (λ e l. g e (omega arith)))

-- the first k bits of x were looked at
pub record Putting (x v : ℕ) (ps₀ b₀ ps b : List ℕ) (k left : ℕ) : Type 0 where
  pub upto : k ≤ 32
  pub rest : left ≡ x / 2 ^ k
  pub long : length ps ≡ length ps₀
  pub size : length b ≡ length b₀
  pub done : (e : ℕ) → e < k → get_or ps e 0 ≡ get_or ps₀ e 0 + 24 * (x / 2 ^ e % 2)
  pub ahead : (e : ℕ) → k ≤ e → get_or ps e 0 ≡ get_or ps₀ e 0
  pub holds : bits b ≡ scatter k (λ e. get_or ps₀ e 0) x v (bits b₀)

pub putting_start : (x v : ℕ) (ps b : List ℕ) → Putting x v ps b ps b 0 x
unfolding scatter
putting_start x v ps b = record { upto = omega arith; rest = sym (div-one x); long = refl; size = refl; done = λ e l. absurd (omega arith); ahead = λ e l. refl; holds = refl }

putting_skip : {x v : ℕ} {ps₀ b₀ ps b : List ℕ} {k left : ℕ} (d : ℕ) → Putting x v ps₀ b₀ ps b k left → k + d ≤ 32 → ((j : ℕ) → k ≤ j → j < k + d → x / 2 ^ j % 2 ≡ 0)
    → Putting x v ps₀ b₀ ps b (k + d) (x / 2 ^ (k + d))
putting_skip {x} {v} {ps₀} {b₀} {ps} {b} {k} {left} d t h y =
    record {
      upto = h;
      rest = refl;
      long = t.long;
      size = t.size;
      done = λ e l. ⊎_elim (λ (q : e < k). t.done e q) (λ (q : k ≤ e). omega (arith, t.ahead e q, y e q l)) (lt_or_ge e k);
      ahead = λ e l. t.ahead e (omega arith);
      holds = t.holds ∙ sym (scatter_skip k d (λ e. get_or ps₀ e 0) x v (bits b₀) y);
    }

putting_set : {x v : ℕ} {ps₀ b₀ ps b : List ℕ} {e left : ℕ} (b' : List ℕ) → Putting x v ps₀ b₀ ps b e left → e < 32 → length ps₀ ≡ 32 → x / 2 ^ e % 2 ≡ 1
    → length b' ≡ length b → bits b' ≡ sets (bits b) (get_or ps e 0) (bits_of 24 v) → Putting x v ps₀ b₀ (set ps e (get_or ps e 0 + 24)) b' (e + 1) (x / 2 ^ (e + 1))
putting_set {x} {v} {ps₀} {b₀} {ps} {b} {e} {left} b' t h n y s q =
    let p : ℕ = get_or ps e 0 + 24 in
    let f : get_or ps e 0 ≡ get_or ps₀ e 0 = t.ahead e (omega arith) in
    record {
      upto = omega arith;
      rest = refl;
      long = length-set ps e p ∙ t.long;
      size = s ∙ t.size;
      done = below_more (λ j. get_or (set ps e p) j 0 ≡ get_or ps₀ j 0 + 24 * (x / 2 ^ j % 2)) e
          (λ j l. get_or-set_other ps e j p 0 (λ r. omega arith) ∙ t.done j l)
          (get_or-set_same ps e p 0 (omega (arith, t.long)) ∙ omega arith);
      ahead = λ j l. get_or-set_other ps e j p 0 (λ r. omega arith) ∙ t.ahead j (omega arith);
      holds = q ∙ ap₂ (λ (l : List Bool) (i : ℕ). sets l i (bits_of 24 v)) t.holds f ∙ sym (scatter_set e (λ j. get_or ps₀ j 0) x v (bits b₀) y);
    }

pub putting_next : {x v : ℕ} {ps₀ b₀ ps b : List ℕ} {k left : ℕ} (z : ℕ) (b' : List ℕ) → Putting x v ps₀ b₀ ps b k left → length ps₀ ≡ 32 → Next x k left z
    → length b' ≡ length b → bits b' ≡ sets (bits b) (get_or ps (k + z) 0) (bits_of 24 v)
    → Putting x v ps₀ b₀ (set ps (k + z) (get_or ps (k + z) 0 + 24)) b' (k + z + 1) (left / 2 ^ z / 2)
putting_next z b' t n s l q = rw s.rest (putting_set b' (putting_skip z t (omega (arith, s.inside)) s.below) s.inside n s.here l q)

pub putting_end : {x v : ℕ} {ps₀ b₀ ps b : List ℕ} {k left : ℕ} → Putting x v ps₀ b₀ ps b k left → left ≡ 0 → PairPut x v ps₀ b₀ ps b
putting_end {x} {v} {ps₀} {b₀} {ps} {b} {k} {left} t z =
    let f : k + (32 - k) ≡ 32 = omega (arith, t.upto) in
    let u : Putting x v ps₀ b₀ ps b (k + (32 - k)) (x / 2 ^ (k + (32 - k))) = putting_skip (32 - k) t (omega arith) (λ j a l. no_bits x k left t.rest z j a) in
    record {
      long = u.long;
      moved = λ e l. u.done e (omega arith);
      holds = u.holds ∙ ap (λ (i : ℕ). scatter i (λ e. get_or ps₀ e 0) x v (bits b₀)) f;
    }

-- ---- all pairs

-- the pairs before i stand in the lists of the m edges from o on
pub record Scattering (o i m : ℕ) (w ps₀ b₀ ps b : List ℕ) : Type 0 where
  pub size : length b ≡ length b₀
  pub most : (e : ℕ) → e < 32 → get_or ps e 0 ≤ 2 ^ 39 + 24 * i
  pub written : PairsWritten o i m w ps₀ b₀ ps b

pub scattering_start : (o m : ℕ) (w ps b : List ℕ) → length ps ≡ 32 → ((e : ℕ) → e < 32 → get_or ps e 0 ≤ 2 ^ 39) → Scattering o 0 m w ps b ps b
unfolding scatters marked
scattering_start o m w ps b l h = record { size = refl; most = λ e q. omega (arith, h e q); written = record { long = l; moved = λ e q. omega arith; rest = λ e q z. refl; holds = refl } }

marks_low : (x m e : ℕ) → e < m → marks e (x % 2 ^ m) ≡ marks e x
unfolding marks
marks_low x m e q = rw (bit_low x m e q)

-- a pair that is put for the low m bits of its mask is put in the first m lists
scatter_low : (m : ℕ) (to : ℕ → ℕ) (x v : ℕ) (b : List Bool) → m ≤ 32 → x % 2 ^ m < 2 ^ m → scatter 32 to (x % 2 ^ m) v b ≡ scatter m to x v b
scatter_low m to x v b h l =
    let f : m + (32 - m) ≡ 32 = omega arith in
    ap (λ (k : ℕ). scatter k to (x % 2 ^ m) v b) (sym f)
    ∙ scatter_skip m (32 - m) to (x % 2 ^ m) v b (λ j a q. bit_high (x % 2 ^ m) m j l a)
    ∙ scatter_same m to to (x % 2 ^ m) x v b (λ e q. refl) (λ e q. marks_low x m e q)

pub scattering_next : {o i m : ℕ} {w ps₀ b₀ ps b ps' b' : List ℕ} → Scattering o i m w ps₀ b₀ ps b → m ≤ 32 → 8192 + i < length w → length b' ≡ length b
    → get_or w (8192 + i) 0 / 2 ^ o % 2 ^ m < 2 ^ m → PairPut (get_or w (8192 + i) 0 / 2 ^ o % 2 ^ m) (pair_in (get_or w i 0)) ps b ps' b'
    → Scattering o (i + 1) m w ps₀ b₀ ps' b'
unfolding scatters
scattering_next {o} {i} {m} {w} {ps₀} {b₀} {ps} {b} {ps'} {b'} t h l s r p =
    let x : ℕ = get_or w (8192 + i) 0 / 2 ^ o in
    let v : ℕ = pair_in (get_or w i 0) in
    let u = t.written in
    record {
      size = s ∙ t.size;
      most = λ e q. omega (arith, p.moved e q, t.most e q);
      written = record {
        long = p.long ∙ u.long;
        moved = λ e q. omega (arith, p.moved e (omega arith), u.moved e q, length_more_from o e i w l, bit_low x m e q);
        rest = λ e q z. omega (arith, p.moved e z, u.rest e q z, bit_high (x % 2 ^ m) m e r q);
        holds =
            p.holds
            ∙ scatter_low m (λ e. get_or ps e 0) x v (bits b) h r
            ∙ scatter_same m (λ e. get_or ps e 0) (λ e. get_or ps₀ e 0 + 24 * length (listed (o + e) i w)) x x v (bits b) u.moved (λ e q. refl)
            ∙ ap (scatter m (λ e. get_or ps₀ e 0 + 24 * length (listed (o + e) i w)) x v) u.holds
            ∙ ap (λ (k : ℕ). scatters o k m w (λ e. get_or ps₀ e 0) (bits b₀)) (sym (add-one i));
      };
    }

-- ---- the counts

start_most : (e : ℕ) (c : List ℕ) → ((j : ℕ) → get_or c j 0 ≤ 8192) → list_start e c ≤ 1 + 196622 * e
unfolding list_start
start_most zero c h = omega arith
start_most (suc e) c h = omega (arith, start_most e c h, h e)

pub counts_begin : (c b ps : List ℕ) → ps ≡ replicate 32 0 → CountsWritten 0 c b ps 1 b
unfolding list_start laid
counts_begin c b ps h =
    let z : (e : ℕ) → get_or ps e 0 ≡ 0 = λ e. ap (λ (x : List ℕ). get_or x e 0) h ∙ nothing_at 32 e in
    record {
      long = ap length h ∙ length-replicate {A = ℕ} 32 0;
      most = λ e l. omega (arith, z e);
      places = λ e l. absurd (omega arith);
      rest = λ e l. z e;
      holds = refl;
      next = refl;
    }

pub counts_bound : {e : ℕ} {c b₀ ps : List ℕ} {at : ℕ} {b : List ℕ} → CountsWritten e c b₀ ps at b → ((j : ℕ) → get_or c j 0 ≤ 8192) → at ≤ 1 + 196622 * e
counts_bound {e} {c} t h = omega (arith, t.next, start_most e c h)

start_next : (e : ℕ) (c : List ℕ) → list_start (e + 1) c ≡ list_start e c + (14 + 24 * get_or c e 0)
unfolding list_start
start_next e c = rw add-one

laid_next : (e : ℕ) (c : List ℕ) (b : List Bool) → laid (e + 1) (λ j. []) c b ≡ sets (laid e (λ j. []) c b) (list_start e c) (bits_of 14 (get_or c e 0))
unfolding laid pair_bits
laid_next e c b = rw (add-one, append-nil)

pub counts_put : {e : ℕ} {c b₀ ps : List ℕ} {at : ℕ} {b : List ℕ} (b' : List ℕ) → CountsWritten e c b₀ ps at b → e < 32 → ((j : ℕ) → get_or c j 0 ≤ 8192)
    → bits b' ≡ sets (bits b) at (bits_of 14 (get_or c e 0)) → CountsWritten (e + 1) c b₀ (set ps e (at + 14)) (at + (14 + 24 * get_or c e 0)) b'
counts_put {e} {c} {b₀} {ps} {at} {b} b' t l h q =
    let a : at ≤ 1 + 196622 * e = counts_bound t h in
    record {
      long = length-set ps e (at + 14) ∙ t.long;
      most = λ j r. ⊎_elim
          (λ (u : j ≡ e). omega (arith, ap (λ (k : ℕ). get_or (set ps e (at + 14)) k 0) u ∙ get_or-set_same ps e (at + 14) 0 (omega (arith, t.long))))
          (λ (u : j ≡ e → ⊥). omega (arith, get_or-set_other ps e j (at + 14) 0 u, t.most j r))
          (eq_or_ne j e);
      places = below_more (λ j. get_or (set ps e (at + 14)) j 0 ≡ list_start j c + 14) e
          (λ j r. get_or-set_other ps e j (at + 14) 0 (λ u. omega arith) ∙ t.places j r)
          (get_or-set_same ps e (at + 14) 0 (omega (arith, t.long)) ∙ omega (arith, t.next));
      rest = λ j r. get_or-set_other ps e j (at + 14) 0 (λ u. omega arith) ∙ t.rest j (omega arith);
      holds =
          q
          ∙ ap₂ (λ (x : List Bool) (k : ℕ). sets x k (bits_of 14 (get_or c e 0))) t.holds t.next
          ∙ sym (laid_next e c (bits b₀));
      next = omega (arith, t.next, start_next e c);
    }

-- ---- lists side by side

laid_same : (m : ℕ) (has has' : ℕ → List ℕ) (c : List ℕ) (b : List Bool) → ((e : ℕ) → has e ≡ has' e) → laid m has c b ≡ laid m has' c b
unfolding laid
laid_same zero has has' c b h = refl
laid_same (suc m) has has' c b h = rw (h m, laid_same m has has' c b h)

start_up : (i j : ℕ) (c : List ℕ) → i ≤ j → list_start i c ≤ list_start j c
unfolding list_start
start_up i zero c h = let e : i ≡ 0 = omega arith in rw e (omega arith)
start_up i (suc j) c h =
    ⊎_elim (λ (l : i < suc j). omega (arith, start_up i j c (omega arith))) (λ (l : suc j ≤ i). (let e : i ≡ suc j = omega arith in rw e (omega arith))) (lt_or_ge i (suc j))

-- a list's end is no further than the next one's start
start_room : (j e : ℕ) (c : List ℕ) → j < e → list_start j c + (14 + 24 * get_or c j 0) ≤ list_start e c
unfolding list_start
start_room j e c h = start_up (suc j) e c (omega arith)

grows : (e i n : ℕ) (w : List ℕ) → i ≤ n → 8192 + n ≤ length w → length (listed e i w) ≤ length (listed e n w)
grows e i zero w h l = let f : i ≡ 0 = omega arith in rw f (omega arith)
grows e i (suc n) w h l =
    ⊎_elim
    (λ (q : i < suc n). omega (arith, grows e i n w (omega arith) (omega arith), length_more e n w (omega arith), ap (λ (k : ℕ). length (listed e k w)) (add-one n)))
    (λ (q : suc n ≤ i). (let f : i ≡ suc n = omega arith in rw f (omega arith)))
    (lt_or_ge i (suc n))

-- a code's bits, where its mask names the edge
length_put : (e x v : ℕ) → length (pick (marks e x) (bits_of 24 v) []) ≡ 24 * (x / 2 ^ e % 2)
length_put e x v =
    ⊎_elim
    (λ (y : x / 2 ^ e % 2 ≡ 1). rw (names e x y) (omega (arith, length_bits_of 24 v)))
    (λ (y : x / 2 ^ e % 2 ≡ 1 → ⊥). rw (names_not e x y) (omega arith))
    (eq_or_ne (x / 2 ^ e % 2) 1)

pairs_one : (u : List ℕ) (b : Bool) (p : ℕ) → pair_bits (u ++ pick_one b p) ≡ pair_bits u ++ pick b (bits_of 24 p) []
pairs_one u true p = pairs_next u p
pairs_one u false p = ap pair_bits (append-nil u) ∙ sym (append-nil (pair_bits u))

-- what is scattered before s does not meet what stands from s on
scatter_front : (e : ℕ) (to : ℕ → ℕ) (x v : ℕ) (b : List Bool) (s : ℕ) (l : List Bool) → ((j : ℕ) → j < e → to j + 24 * (x / 2 ^ j % 2) ≤ s)
    → scatter e to x v (sets b s l) ≡ sets (scatter e to x v b) s l
unfolding scatter
scatter_front zero to x v b s l h = refl
scatter_front (suc e) to x v b s l h =
    rw (scatter_front e to x v b s l (λ j q. h j (omega arith)))
    (sets_swap (scatter e to x v b) (to e) (pick (marks e x) (bits_of 24 v) []) s l (omega (arith, length_put e x v, h e (omega arith))))

listed_none : (e : ℕ) (w : List ℕ) → [] ≡ listed e 0 w
unfolding marked
listed_none e w = refl

module _ (o n M : ℕ) (w c : List ℕ) (t : CountsFrom o n M w c) (k : Marked n w) where
  -- one pair more in each list that its mask names
  scatter_laid : (m i : ℕ) (to : ℕ → ℕ) (b : List Bool) → m ≤ M → i < n → ((e : ℕ) → e < m → to e ≡ list_start e c + 14 + 24 * length (listed (o + e) i w))
      → scatter m to (get_or w (8192 + i) 0 / 2 ^ o) (pair_in (get_or w i 0)) (laid m (λ e. listed (o + e) i w) c b) ≡ laid m (λ e. listed (o + e) (i + 1) w) c b
  unfolding scatter laid
  scatter_laid zero i to b h l f = refl
  scatter_laid (suc e) i to b h l f =
      let x : ℕ = get_or w (8192 + i) 0 / 2 ^ o in
      let v : ℕ = pair_in (get_or w i 0) in
      let u : List ℕ = listed (o + e) i w in
      let q : 8192 + i < length w = omega (arith, k.long, k.most) in
      let p : List Bool = bits_of 14 (get_or c e 0) ++ pair_bits u in
      let y : List Bool = pick (marks e x) (bits_of 24 v) [] in
      let g : to e ≡ list_start e c + length p =
      omega (arith, f e (omega arith), length-append (bits_of 14 (get_or c e 0)) (pair_bits u), length_bits_of 14 (get_or c e 0), length-pair_bits u) in
      let r : p ++ y ≡ bits_of 14 (get_or c e 0) ++ pair_bits (listed (o + e) (i + 1) w) =
      append_assoc (bits_of 14 (get_or c e 0)) (pair_bits u) y
      ∙ ap (λ (z : List Bool). bits_of 14 (get_or c e 0) ++ z) (sym (ap pair_bits (under_more_from o e i w q) ∙ pairs_one u (marks e x) v)) in
      ap (λ (z : List Bool). sets z (to e) y)
      (scatter_front e to x v (laid e (λ j. listed (o + j) i w) c b) (list_start e c) p
      (λ j z. omega (
        arith,
        f j (omega arith),
        length_more_from o j i w q,
        grows (o + j) (i + 1) n w (omega arith) (omega (arith, k.long, k.most)),
        t.each j (omega arith),
        start_room j e c z,
      ))
      ∙ ap (λ (z : List Bool). sets z (list_start e c) p) (scatter_laid e i to b (omega arith) l (λ j z. f j (omega arith))))
      ∙ ap (λ (z : ℕ). sets (sets (laid e (λ j. listed (o + j) (i + 1) w) c b) (list_start e c) p) z y) g
      ∙ sets_append (laid e (λ j. listed (o + j) (i + 1) w) c b) (list_start e c) p y
      ∙ ap (sets (laid e (λ j. listed (o + j) (i + 1) w) c b) (list_start e c)) r

  scatters_laid : (i : ℕ) (to : ℕ → ℕ) (b : List Bool) → i ≤ n → ((e : ℕ) → e < M → to e ≡ list_start e c + 14)
      → scatters o i M w to (laid M (λ e. []) c b) ≡ laid M (λ e. listed (o + e) i w) c b
  unfolding scatters
  scatters_laid zero to b l f = laid_same M (λ e. []) (λ e. listed (o + e) 0 w) c b (λ e. listed_none (o + e) w)
  scatters_laid (suc i) to b l f =
      ap (scatter M (λ e. to e + 24 * length (listed (o + e) i w)) (get_or w (8192 + i) 0 / 2 ^ o) (pair_in (get_or w i 0))) (scatters_laid i to b (omega arith) f)
      ∙ scatter_laid M i (λ e. to e + 24 * length (listed (o + e) i w)) b (omega arith) l (λ e q. omega (arith, f e q))
      ∙ laid_same M (λ e. listed (o + e) (i + 1) w) (λ e. listed (o + e) (suc i) w) c b (λ e. ap (λ (z : ℕ). listed (o + e) z w) (add-one i))

  lists_more : (e : ℕ) → coded_list (lists_from o (suc e) n w) ≡ coded_list (lists_from o e n w) ++ (bits_of 14 (length (listed (o + e) n w)) ++ pair_bits (listed (o + e) n w))
  lists_more e = ap coded_list (lists_next o e n w) ∙ bits_next (lists_from o e n w) (listed (o + e) n w)

  start_is : (m : ℕ) → m ≤ M → list_start m c ≡ 1 + length (coded_list (lists_from o m n w))
  unfolding list_start
  start_is zero h = unfold coded_list marked_from in refl
  start_is (suc e) h =
      let u : List ℕ = listed (o + e) n w in
      let ls : List Bool = coded_list (lists_from o e n w) in
      omega (
        arith,
        start_is e (omega arith),
        t.each e (omega arith),
        ap length (lists_more e),
        length-append ls (bits_of 14 (length u) ++ pair_bits u),
        length-append (bits_of 14 (length u)) (pair_bits u),
        length_bits_of 14 (length u),
        length-pair_bits u,
      )

  laid_end : (m : ℕ) (b : List Bool) → m ≤ M → laid m (λ e. listed (o + e) n w) c b ≡ sets b 1 (coded_list (lists_from o m n w))
  unfolding laid
  laid_end zero b h = unfold coded_list marked_from in refl
  laid_end (suc e) b h =
      let u : List ℕ = listed (o + e) n w in
      let ls : List Bool = coded_list (lists_from o e n w) in
      let p : List Bool = bits_of 14 (length u) ++ pair_bits u in
      ap (λ (z : ℕ). sets (laid e (λ j. listed (o + j) n w) c b) (list_start e c) (bits_of 14 z ++ pair_bits u)) (t.each e (omega arith))
      ∙ ap₂ (λ (l : List Bool) (z : ℕ). sets l z p) (laid_end e b (omega arith)) (start_is e (omega arith))
      ∙ sets_append b 1 ls p
      ∙ ap (sets b 1) (sym (lists_more e))

  pub lists_written : {b₀ ps : List ℕ} {r : ℕ} {b b' : List ℕ} → ((e : ℕ) → get_or c e 0 ≤ 8192) → CountsWritten M c b₀ ps r b
      → bits b' ≡ scatters o n M w (λ e. get_or ps e 0) (bits b) → ListsWritten o n M w b₀ r b'
  lists_written {b₀} {ps} {r} {b} {b'} h s q =
      record {
        holds =
            q
            ∙ ap (scatters o n M w (λ e. get_or ps e 0)) s.holds
            ∙ scatters_laid n (λ e. get_or ps e 0) (bits b₀) (omega arith) s.places
            ∙ laid_end M (bits b₀) (omega arith);
        next = s.next ∙ start_is M (omega arith);
        most = counts_bound s h;
      }

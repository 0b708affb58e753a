-- What one format reads, it writes, and the other way round.
use Prim.Native.Nat.{ℕ, zero, suc, ◌+◌, ◌-◌, ◌*◌, ◌/◌, ◌%◌, ◌^◌, ◌<◌, ◌≤◌}
use mathlib.Core.Path.{◌≡◌, refl, ap, sym, ◌∙◌}
use mathlib.Core.List.{List, [], ◌∷◌, ◌++◌, append_assoc, append-nil}
use mathlib.Core.Bool.{Bool, true, false, ◌&&◌}
use lib.ListN.{length, take, drop, get_or, replicate, length-append, length-drop, take-append-drop, length-replicate}
use lib.Seq.{take_at, drop_at, length-take-le}
use lib.Dec.{leb, ltb}
use native.Mathlib.Omega.{arith}
use native.Mathlib.Nat.{add-zero}
use borrow.Author.Tests.{leb-true, ltb-true, le-leb, lt-leb, lt-ltb}
use Rattle.packed.specs.Bits.{bits_of, num, bits, zeros, gap}
use Rattle.packed.specs.Format.{Format, done, ask, test, pad, then, times, whole, Got, got, fault, pick, push, within, scan, lay, Result, ok, bad, ended, bytes_of, in_bytes, decode, encode}
use Rattle.packed.proofs.BitsLaws.{gap_fills, length_bits_of, length-bits, bits_of_num, num_bits_of_lt, num-take_lt, zeros_replicate, replicate_zeros, first_byte, drop_bits}

-- ---- results

pub push_got : {A B : Type 0} (xs : List A) (r : Got A B) (zs : List A) (t : List B) → push xs r ≡ got zs t → (ys : List A) × (r ≡ got ys t) × (zs ≡ xs ++ ys)
push_got xs (got ys u) zs t e = let q : u ≡ t = cc in (ys, ap (got ys) q, cc)
push_got xs (fault n) zs t e = absurd (let z : ◌≡◌ {A = ℕ} 0 1 = cc in omega arith)

pub pick_got : {A B : Type 0} (b : Bool) (r : Got A B) (n : ℕ) (zs : List A) (t : List B) → pick b r (fault n) ≡ got zs t → (b ≡ true) × (r ≡ got zs t)
pick_got true r n zs t e = (refl, e)
pick_got false r n zs t e = absurd (let q : ◌≡◌ {A = ℕ} 0 1 = cc in omega arith)

pub ended_ok : {A B : Type 0} (r : Got A B) (xs : List A) → ended r ≡ ok xs → r ≡ got xs []
ended_ok (got ys []) xs e = let q : ys ≡ xs = cc in cc
ended_ok (got ys (z ∷ zs)) xs e = absurd (let q : ◌≡◌ {A = ℕ} 0 1 = cc in omega arith)
ended_ok (fault n) xs e = absurd (let q : ◌≡◌ {A = ℕ} 0 1 = cc in omega arith)

pub pick_yes : {A : Type 0} (b : Bool) (x y : A) → b ≡ true → pick b x y ≡ x
pick_yes b x y e = rw e

pub pick_no : {A : Type 0} (b : Bool) (x y : A) → b ≡ false → pick b x y ≡ y
pick_no b x y e = rw e

pub and_yes : (a b : Bool) → a && b ≡ true → (a ≡ true) × (b ≡ true)
and_yes true b e = (refl, e)
and_yes false b e = absurd (let z : ◌≡◌ {A = ℕ} 0 1 = cc in omega arith)

pub below_bound : (low bound v : ℕ) → within low bound v ≡ true → v < bound
unfolding within
below_bound low bound v e = ltb-true v bound (and_yes (leb low v) (ltb v bound) e).1

pub and_no : (b : Bool) → b && false ≡ false
and_no true = refl
and_no false = refl

-- whole bytes: what is left says how far it is to the next
gap_left : (at n : ℕ) → (at + n) % 8 ≡ 0 → gap at ≡ n % 8
unfolding gap
gap_left at n h = omega arith

gap_rest : (at n : ℕ) → (at + n) % 8 ≡ 0 → (at + n % 8 + (n - n % 8)) % 8 ≡ 0
gap_rest at n h = let e : at + n % 8 + (n - n % 8) ≡ at + n = omega arith in rw e h

gap_ahead : (at n : ℕ) → (at + (gap at + n)) % 8 ≡ 0 → (gap at + n) % 8 ≡ gap at
unfolding gap
gap_ahead at n h = omega arith

-- ---- the parts of a format

pub times_zero : (f : Format) → times 0 f ≡ done
unfolding times
times_zero f = refl

pub times_suc : (n : ℕ) (f : Format) → times (suc n) f ≡ then f (times n f)
unfolding times
times_suc n f = refl

pub whole_is : (f : Format) → whole f ≡ then f (pad done)
unfolding whole
whole_is f = refl

-- ---- one step

pub scan_done : (bs : List Bool) → scan done bs ≡ got [] bs
unfolding scan
scan_done bs = refl

pub scan_ask : (w low bound n : ℕ) (f : ℕ → Format) (bs : List Bool) (v : ℕ) → w ≤ length bs → num (take w bs) ≡ v → within low bound v ≡ true
    → scan (ask w low bound n f) bs ≡ push (v ∷ []) (scan (f v) (drop w bs))
unfolding scan
scan_ask w low bound n f bs v l e g = rw (le-leb w (length bs) l, e, g)

pub scan_short : (w low bound n : ℕ) (f : ℕ → Format) (bs : List Bool) → length bs < w → scan (ask w low bound n f) bs ≡ fault 2
unfolding scan
scan_short w low bound n f bs l = rw (lt-leb w (length bs) l)

pub scan_wrong : (w low bound n : ℕ) (f : ℕ → Format) (bs : List Bool) (v : ℕ) → w ≤ length bs → num (take w bs) ≡ v → within low bound v ≡ false
    → scan (ask w low bound n f) bs ≡ fault n
unfolding scan
scan_wrong w low bound n f bs v l e g = rw (le-leb w (length bs) l, e, g)

pub scan_test : (b : Bool) (n : ℕ) (f : Format) (bs : List Bool) → scan (test b n f) bs ≡ pick b (scan f bs) (fault n)
unfolding scan
scan_test b n f bs = refl

pub scan_pad : (f : Format) (bs : List Bool) (k : ℕ) → length bs % 8 ≡ k → zeros (take k bs) ≡ true → scan (pad f) bs ≡ scan f (drop k bs)
unfolding scan
scan_pad f bs k e z = rw (e, z)

pub scan_tail : (f : Format) (bs : List Bool) (k : ℕ) → length bs % 8 ≡ k → zeros (take k bs) ≡ false → scan (pad f) bs ≡ fault 9
unfolding scan
scan_tail f bs k e z = rw (e, z)

pub lay_done : (at : ℕ) (ws : List ℕ) → lay done at ws ≡ got [] ws
unfolding lay
lay_done at ws = refl

pub lay_ask : (w low bound n : ℕ) (f : ℕ → Format) (at v : ℕ) (ws : List ℕ) → within low bound v ≡ true → v < 2 ^ w
    → lay (ask w low bound n f) at (v ∷ ws) ≡ push (bits_of w v) (lay (f v) (at + w) ws)
unfolding lay
lay_ask w low bound n f at v ws g l = rw (g, lt-ltb v (2 ^ w) l)

pub lay_none : (w low bound n : ℕ) (f : ℕ → Format) (at : ℕ) → lay (ask w low bound n f) at [] ≡ fault 2
unfolding lay
lay_none w low bound n f at = refl

pub lay_wrong : (w low bound n : ℕ) (f : ℕ → Format) (at v : ℕ) (ws : List ℕ) → within low bound v && ltb v (2 ^ w) ≡ false
    → lay (ask w low bound n f) at (v ∷ ws) ≡ fault n
unfolding lay
lay_wrong w low bound n f at v ws g = rw g

pub lay_test : (b : Bool) (n : ℕ) (f : Format) (at : ℕ) (ws : List ℕ) → lay (test b n f) at ws ≡ pick b (lay f at ws) (fault n)
unfolding lay
lay_test b n f at ws = refl

pub lay_pad : (f : Format) (at : ℕ) (ws : List ℕ) → lay (pad f) at ws ≡ push (replicate (gap at) false) (lay f (at + gap at) ws)
unfolding lay
lay_pad f at ws = refl

-- ---- bits

pub record Written (f : Format) (at : ℕ) (ws tail : List ℕ) (bs rest : List Bool) : Type 0 where
  pub body : List Bool
  pub writes : lay f at (ws ++ tail) ≡ got body tail
  pub splits : bs ≡ body ++ rest

pub scan_lay : (f : Format) (at : ℕ) (bs rest : List Bool) (ws tail : List ℕ) → (at + length bs) % 8 ≡ 0 → scan f bs ≡ got ws rest → Written f at ws tail bs rest
unfolding scan lay
scan_lay done at bs rest ws tail h e =
    let p : [] ≡ ws = cc in
    let q : bs ≡ rest = cc in
    record { body = []; writes = ap (λ (l : List ℕ). lay done at (l ++ tail)) (sym p); splits = q }
scan_lay (ask w low bound n f) at bs rest ws tail h e =
    let v : ℕ = num (take w bs) in
    let p = pick_got (leb w (length bs)) _ 2 ws rest e in
    let le : w ≤ length bs = leb-true w (length bs) p.0 in
    let g = pick_got (within low bound v) _ n ws rest p.1 in
    let q = push_got (v ∷ []) (scan (f v) (drop w bs)) ws rest g.1 in
    let r = scan_lay (f v) (at + w) (drop w bs) rest q.0 tail (omega (arith, length-drop w bs)) q.1 in
    record {
      body = bits_of w v ++ r.body;
      writes =
          ap (λ (l : List ℕ). lay (ask w low bound n f) at (l ++ tail)) q.2
          ∙ lay_ask w low bound n f at v (q.0 ++ tail) g.0 (num-take_lt w bs)
          ∙ ap (push (bits_of w v)) r.writes;
      splits =
          sym (take-append-drop w bs)
          ∙ rw (bits_of_num w (take w bs) (length-take-le w bs le), append_assoc, ← r.splits);
    }
scan_lay (test b n f) at bs rest ws tail h e =
    let p = pick_got b (scan f bs) n ws rest e in
    let r = scan_lay f at bs rest ws tail h p.1 in
    record { body = r.body; writes = pick_yes b (lay f at (ws ++ tail)) (fault n) p.0 ∙ r.writes; splits = r.splits }
scan_lay (pad f) at bs rest ws tail h e =
    let k : ℕ = length bs % 8 in
    let p = pick_got (zeros (take k bs)) (scan f (drop k bs)) 9 ws rest e in
    let l : length (take k bs) ≡ k = length-take-le k bs (omega arith) in
    let z : take k bs ≡ replicate k false = replicate_zeros (take k bs) p.0 ∙ ap (λ (j : ℕ). replicate j false) l in
    let g : gap at ≡ k = gap_left at (length bs) h in
    let r = scan_lay f (at + k) (drop k bs) rest ws tail (rw (length-drop k bs) (gap_rest at (length bs) h)) p.1 in
    record {
      body = replicate k false ++ r.body;
      writes = rw (g, r.writes);
      splits = sym (take-append-drop k bs) ∙ rw (append_assoc, ← z, ← r.splits);
    }

pub record Scanned (f : Format) (ws tail : List ℕ) (bs rest : List Bool) : Type 0 where
  pub words : List ℕ
  pub reads : scan f (bs ++ rest) ≡ got words rest
  pub splits : ws ≡ words ++ tail

pub lay_scan : (f : Format) (at : ℕ) (ws tail : List ℕ) (bs rest : List Bool) → (at + length bs + length rest) % 8 ≡ 0 → lay f at ws ≡ got bs tail → Scanned f ws tail bs rest
unfolding scan lay
lay_scan done at ws tail bs rest h e =
    let p : [] ≡ bs = cc in
    let q : ws ≡ tail = cc in
    record { words = []; reads = ap (λ (l : List Bool). got [] (l ++ rest)) (sym p); splits = q }
lay_scan (ask w low bound n f) at [] tail bs rest h e = absurd (let z : ◌≡◌ {A = ℕ} 0 1 = cc in omega arith)
lay_scan (ask w low bound n f) at (v ∷ ws) tail bs rest h e =
    let p = pick_got (within low bound v && ltb v (2 ^ w)) _ n bs tail e in
    let g = and_yes (within low bound v) (ltb v (2 ^ w)) p.0 in
    let q = push_got (bits_of w v) (lay (f v) (at + w) ws) bs tail p.1 in
    let l : length (bits_of w v) ≡ w = length_bits_of w v in
    let m : length bs ≡ w + length q.0 = ap length q.2 ∙ length-append (bits_of w v) q.0 ∙ ap (λ (k : ℕ). k + length q.0) l in
    let r = lay_scan (f v) (at + w) ws tail q.0 rest (omega arith) q.1 in
    record {
      words = v ∷ r.words;
      reads =
          ap (λ (x : List Bool). scan (ask w low bound n f) (x ++ rest)) q.2
          ∙ ap (scan (ask w low bound n f)) (append_assoc (bits_of w v) q.0 rest)
          ∙ scan_ask w low bound n f (bits_of w v ++ (q.0 ++ rest)) v
          (omega (arith, length-append (bits_of w v) (q.0 ++ rest), l))
          (ap num (take_at (bits_of w v) (q.0 ++ rest) w l) ∙ num_bits_of_lt w v (ltb-true v (2 ^ w) g.1))
          g.0
          ∙ ap (λ (x : List Bool). push (v ∷ []) (scan (f v) x)) (drop_at (bits_of w v) (q.0 ++ rest) w l)
          ∙ ap (push (v ∷ [])) r.reads;
      splits = ap (λ (t : List ℕ). v ∷ t) r.splits;
    }
lay_scan (test b n f) at ws tail bs rest h e =
    let p = pick_got b (lay f at ws) n bs tail e in
    let r = lay_scan f at ws tail bs rest h p.1 in
    record { words = r.words; reads = pick_yes b (scan f (bs ++ rest)) (fault n) p.0 ∙ r.reads; splits = r.splits }
lay_scan (pad f) at ws tail bs rest h e =
    let k : ℕ = gap at in
    let z : List Bool = replicate k false in
    let q = push_got z (lay f (at + k) ws) bs tail e in
    let l : length z ≡ k = length-replicate k false in
    let m : length bs ≡ k + length q.0 = ap length q.2 ∙ length-append z q.0 ∙ ap (λ (j : ℕ). j + length q.0) l in
    let r = lay_scan f (at + k) ws tail q.0 rest (omega arith) q.1 in
    let y : length (z ++ (q.0 ++ rest)) ≡ k + (length q.0 + length rest) =
    length-append z (q.0 ++ rest) ∙ rw (l, length-append q.0 rest) in
    record {
      words = r.words;
      reads =
          ap (λ (x : List Bool). scan (pad f) (x ++ rest)) q.2
          ∙ ap (scan (pad f)) (append_assoc z q.0 rest)
          ∙ scan_pad f (z ++ (q.0 ++ rest)) k (ap (λ (j : ℕ). j % 8) y ∙ gap_ahead at (length q.0 + length rest) (omega arith)) (ap zeros (take_at z (q.0 ++ rest) k l) ∙ zeros_replicate k)
          ∙ ap (scan f) (drop_at z (q.0 ++ rest) k l)
          ∙ r.reads;
      splits = r.splits;
    }

-- ---- one format after another

abbrev pub onward : {A B : Type 0} → Got A B → (List A → List B → Got A B) → Got A B
onward (got xs r) k = push xs (k xs r)
onward (fault e) k = fault e

pub push_push : {A B : Type 0} (xs ys : List A) (r : Got A B) → push xs (push ys r) ≡ push (xs ++ ys) r
push_push xs ys (got zs t) = rw append_assoc
push_push xs ys (fault e) = refl

pub push_nil : {A B : Type 0} (r : Got A B) → push [] r ≡ r
push_nil (got zs t) = refl
push_nil (fault e) = refl

push_onward : {A B : Type 0} (xs : List A) (r : Got A B) (k : List A → List B → Got A B) (k' : List A → List B → Got A B)
    → ((ys : List A) (t : List B) → k (xs ++ ys) t ≡ k' ys t) → onward (push xs r) k ≡ push xs (onward r k')
push_onward xs (got ys t) k k' h = rw h (sym (push_push xs ys (k' ys t)))
push_onward xs (fault e) k k' h = refl

pick_onward : {A B : Type 0} (b : Bool) (r : Got A B) (n : ℕ) (k : List A → List B → Got A B) → onward (pick b r (fault n)) k ≡ pick b (onward r k) (fault n)
pick_onward true r n k = refl
pick_onward false r n k = refl

pub scan_then : (f g : Format) (bs : List Bool) → scan (then f g) bs ≡ onward (scan f bs) (λ ws t. scan g t)
unfolding then scan
scan_then done g bs = sym (push_nil (scan g bs))
scan_then (ask w low bound n f) g bs =
    let v : ℕ = num (take w bs) in
    let k : List ℕ → List Bool → Got ℕ Bool = λ ws t. scan g t in
    rw (
      pick_onward (leb w (length bs)) (pick (within low bound v) (push (v ∷ []) (scan (f v) (drop w bs))) (fault n)) 2 k,
      pick_onward (within low bound v) (push (v ∷ []) (scan (f v) (drop w bs))) n k,
      push_onward (v ∷ []) (scan (f v) (drop w bs)) k k (λ ys t. refl),
      scan_then (f v) g (drop w bs),
    )
scan_then (test b n f) g bs = rw (pick_onward b (scan f bs) n (λ ws t. scan g t), scan_then f g bs)
scan_then (pad f) g bs =
    let k : ℕ = length bs % 8 in
    rw (pick_onward (zeros (take k bs)) (scan f (drop k bs)) 9 (λ ws t. scan g t), scan_then f g (drop k bs))

-- the bits of f, and then those of g where f ends
pub lay_then : (f g : Format) (at : ℕ) (ws : List ℕ) → lay (then f g) at ws ≡ onward (lay f at ws) (λ bs t. lay g (at + length bs) t)
unfolding then lay
lay_then done g at ws = rw add-zero (sym (push_nil (lay g at ws)))
lay_then (ask w low bound n f) g at [] = refl
lay_then (ask w low bound n f) g at (v ∷ ws) =
    let k : List Bool → List ℕ → Got Bool ℕ = λ bs t. lay g (at + length bs) t in
    let k' : List Bool → List ℕ → Got Bool ℕ = λ bs t. lay g (at + w + length bs) t in
    rw (
      pick_onward (within low bound v && ltb v (2 ^ w)) (push (bits_of w v) (lay (f v) (at + w) ws)) n k,
      push_onward (bits_of w v) (lay (f v) (at + w) ws) k k'
          (λ ys t. ap (λ (j : ℕ). lay g j t) (omega (arith, length-append (bits_of w v) ys, length_bits_of w v))),
      lay_then (f v) g (at + w) ws,
    )
lay_then (test b n f) g at ws = rw (pick_onward b (lay f at ws) n (λ bs t. lay g (at + length bs) t), lay_then f g at ws)
lay_then (pad f) g at ws =
    let z : List Bool = replicate (gap at) false in
    rw (
      push_onward z (lay f (at + gap at) ws) (λ bs t. lay g (at + length bs) t) (λ bs t. lay g (at + gap at + length bs) t)
          (λ ys t. ap (λ (j : ℕ). lay g j t) (omega (arith, length-append z ys, length-replicate (gap at) false))),
      lay_then f g (at + gap at) ws,
    )

-- ---- files

abbrev pub Bytes : List ℕ → Type 0
Bytes s = (i : ℕ) → get_or s i 0 < 256

pub bits_bytes_of : (k : ℕ) (bs : List Bool) → length bs ≡ 8 * k → bits (bytes_of k bs) ≡ bs
unfolding bits bytes_of
bits_bytes_of zero [] e = refl
bits_bytes_of zero (b ∷ bs) e = absurd (omega arith)
bits_bytes_of (suc k) bs e =
    ap (λ (l : List Bool). l ++ bits (bytes_of k (drop 8 bs))) (bits_of_num 8 (take 8 bs) (length-take-le 8 bs (omega arith)))
    ∙ ap (λ (l : List Bool). take 8 bs ++ l) (bits_bytes_of k (drop 8 bs) (omega (arith, length-drop 8 bs)))
    ∙ take-append-drop 8 bs

pub bytes_of_bits : (s : List ℕ) → Bytes s → bytes_of (length s) (bits s) ≡ s
unfolding bytes_of
bytes_of_bits [] h = refl
bytes_of_bits (x ∷ xs) h = rw (first_byte x xs (h 0), drop_bits (x ∷ xs) 1, bytes_of_bits xs (λ i. h (suc i)))

pub decode_encode : (f : Format) (s ws : List ℕ) → Bytes s → decode f s ≡ ok ws → encode f ws ≡ ok s
unfolding decode encode
decode_encode f s ws y e =
    let l : length (bits s) ≡ 8 * length s = length-bits s in
    let r = scan_lay (whole f) 0 (bits s) [] ws [] (omega arith) (ended_ok (scan (whole f) (bits s)) ws e) in
    let b : bits s ≡ r.body = r.splits ∙ append-nil r.body in
    let k : length r.body / 8 ≡ length s = omega (arith, ap length b) in
    let p : lay (whole f) 0 ws ≡ got r.body [] = ap (lay (whole f) 0) (sym (append-nil ws)) ∙ r.writes in
    ap (λ (g : Got Bool ℕ). in_bytes (ended g)) p
    ∙ ap ok (ap (λ (j : ℕ). bytes_of j r.body) k ∙ ap (bytes_of (length s)) (sym b) ∙ bytes_of_bits s y)

pub in_bytes_ok : (r : Result Bool) (s : List ℕ) → in_bytes r ≡ ok s → (bs : List Bool) × (r ≡ ok bs) × (s ≡ bytes_of (length bs / 8) bs)
in_bytes_ok (ok bs) s e = (bs, refl, cc)
in_bytes_ok (bad n) s e = absurd (let z : ◌≡◌ {A = ℕ} 0 1 = cc in omega arith)

-- what is written whole is whole bytes
aligned_after : (r : Got Bool ℕ) (at : ℕ) (bs : List Bool) (tail : List ℕ) → onward r (λ xs t. lay (pad done) (at + length xs) t) ≡ got bs tail → (at + length bs) % 8 ≡ 0
unfolding lay
aligned_after (got xs t) at bs tail e =
    let q : xs ++ (replicate (gap (at + length xs)) false ++ []) ≡ bs = cc in
    let l : length bs ≡ length xs + gap (at + length xs) =
    ap length (sym q) ∙ simp (append-nil, length-append, length-replicate) in
    omega (arith, gap_fills (at + length xs))
aligned_after (fault n) at bs tail e = absurd (let z : ◌≡◌ {A = ℕ} 0 1 = cc in omega arith)

pub aligned : (f : Format) (at : ℕ) (ws tail : List ℕ) (bs : List Bool) → lay (whole f) at ws ≡ got bs tail → (at + length bs) % 8 ≡ 0
unfolding whole
aligned f at ws tail bs e = aligned_after (lay f at ws) at bs tail (sym (lay_then f (pad done) at ws) ∙ e)

pub encode_decode : (f : Format) (ws s : List ℕ) → encode f ws ≡ ok s → decode f s ≡ ok ws
unfolding decode encode
encode_decode f ws s e =
    let r = in_bytes_ok (ended (lay (whole f) 0 ws)) s e in
    let bs : List Bool = r.0 in
    let p : lay (whole f) 0 ws ≡ got bs [] = ended_ok (lay (whole f) 0 ws) bs r.1 in
    let a = aligned f 0 ws [] bs p in
    let q = lay_scan (whole f) 0 ws [] bs [] (omega arith) p in
    ap (λ (x : List ℕ). ended (scan (whole f) (bits x))) r.2
    ∙ ap (λ (x : List Bool). ended (scan (whole f) x)) (bits_bytes_of (length bs / 8) bs (omega arith) ∙ sym (append-nil bs))
    ∙ ap ended q.reads
    ∙ ap ok (sym (append-nil q.words) ∙ sym q.splits)

-- What a format accepts, as a relation of contents and bits: a law for each way of making a format.
use Prim.Native.Nat.{ℕ, ◌+◌, ◌%◌, ◌^◌, ◌≤◌, ◌<◌}
use mathlib.Core.Path.{◌≡◌, refl, ap, sym, ◌∙◌, subst}
use mathlib.Core.List.{List, [], ◌∷◌, ◌++◌, append_assoc, append-nil}
use mathlib.Core.Bool.{Bool, true, false, ◌&&◌}
use mathlib.Core.Logic.{◌↔◌}
use lib.ListN.{length, replicate, length-append, length-replicate}
use lib.Dec.{leb, ltb}
use native.Mathlib.Omega.{arith}
use borrow.Author.Tests.{leb-true, ltb-true}
use Rattle.packed.specs.Bits.{bits_of, bits, gap}
use Rattle.packed.specs.Format.{Format, done, ask, test, pad, then, whole, Got, got, fault, push, within, scan, lay, ok, ended, decode}
use Rattle.packed.specs.Plain.{Laid, Whole}
use Rattle.packed.proofs.BitsLaws.{gap_none, gap_fills, length-bits}
use Rattle.packed.proofs.RoundTrip.{push_got, pick_got, ended_ok, pick_yes, and_yes, whole_is, lay_done, lay_ask, lay_test, lay_pad, lay_then, onward, scan_lay, lay_scan}
use Rattle.packed.proofs.ReadingLaws.{in_range}

-- F, laid from the bit offset at on, takes just the contents that R holds of, and gives their bits
pub record Accepts (F : Format) (at : ℕ) (R : Laid) : Type 0 where
  pub by : (ws tail : List ℕ) (bs : List Bool) → R ws bs → lay F at (ws ++ tail) ≡ got bs tail
  pub to : (zs tail : List ℕ) (bs : List Bool) → lay F at zs ≡ got bs tail → (ws : List ℕ) × (zs ≡ ws ++ tail) × R ws bs

-- a relation that holds of the same
pub accepts_same : {F : Format} {at : ℕ} {R S : Laid} → ((ws : List ℕ) (bs : List Bool) → R ws bs ↔ S ws bs) → Accepts F at R → Accepts F at S
accepts_same h a =
    record {
      by = λ ws tail bs s. a.by ws tail bs ((h ws bs).1 s);
      to = λ zs tail bs e. let q = a.to zs tail bs e in (q.0, q.1, (h q.0 bs).0 q.2);
    }

-- ---- the end

abbrev pub Nothing : Laid
Nothing ws bs = (ws ≡ []) × (bs ≡ [])

pub accepts_done : (at : ℕ) → Accepts done at Nothing
accepts_done at =
    record {
      by = λ ws tail bs q. lay_done at (ws ++ tail) ∙ rw (q.0, q.1);
      to = λ zs tail bs e. let d = lay_done at zs in ([], (cc), (refl, (cc)));
    }

-- ---- one field

pub record Asked (w low bound : ℕ) (S : ℕ → Laid) (ws : List ℕ) (bs : List Bool) : Type 0 where
  pub value : ℕ
  pub rest : List ℕ
  pub body : List Bool
  pub content : ws ≡ value ∷ rest
  pub layout : bs ≡ bits_of w value ++ body
  pub least : low ≤ value
  pub most : value < bound
  pub fits : value < 2 ^ w
  pub after : S value rest body

in_bounds : (low bound v : ℕ) → within low bound v ≡ true → (low ≤ v) × (v < bound)
unfolding within
in_bounds low bound v e = let q = and_yes (leb low v) (ltb v bound) e in (leb-true low v q.0, ltb-true v bound q.1)

module _ (w low bound n : ℕ) (f : ℕ → Format) (at : ℕ) (S : ℕ → Laid) (a : (v : ℕ) → low ≤ v → v < bound → Accepts (f v) (at + w) (S v)) where
  ask_by : (ws tail : List ℕ) (bs : List Bool) → Asked w low bound S ws bs → lay (ask w low bound n f) at (ws ++ tail) ≡ got bs tail
  ask_by ws tail bs q =
      let v : ℕ = q.value in
      ap (λ (l : List ℕ). lay (ask w low bound n f) at (l ++ tail)) q.content
      ∙ lay_ask w low bound n f at v (q.rest ++ tail) (in_range low bound v q.least q.most) q.fits
      ∙ ap (push (bits_of w v)) ((a v q.least q.most).by q.rest tail q.body q.after)
      ∙ ap (λ (l : List Bool). got l tail) (sym q.layout)

  ask_to : (zs tail : List ℕ) (bs : List Bool) → lay (ask w low bound n f) at zs ≡ got bs tail
      → (ws : List ℕ) × (zs ≡ ws ++ tail) × Asked w low bound S ws bs
  unfolding lay
  ask_to [] tail bs e = absurd (let z : ◌≡◌ {A = ℕ} 0 1 = cc in omega arith)
  ask_to (v ∷ zs) tail bs e =
      let p = pick_got (within low bound v && ltb v (2 ^ w)) (push (bits_of w v) (lay (f v) (at + w) zs)) n bs tail e in
      let g = and_yes (within low bound v) (ltb v (2 ^ w)) p.0 in
      let b = in_bounds low bound v g.0 in
      let q = push_got (bits_of w v) (lay (f v) (at + w) zs) bs tail p.1 in
      let r = (a v b.0 b.1).to zs tail q.0 q.1 in (
        v ∷ r.0,
        ap (λ (l : List ℕ). v ∷ l) r.1,
        record {
          value = v;
          rest = r.0;
          body = q.0;
          content = refl;
          layout = q.2;
          least = b.0;
          most = b.1;
          fits = ltb-true v (2 ^ w) g.1;
          after = r.2;
        },
      )

  pub accepts_ask : Accepts (ask w low bound n f) at (Asked w low bound S)
  accepts_ask = record { by = ask_by; to = ask_to }

-- ---- a test

abbrev pub Tested : Bool → Laid → Laid
Tested b R ws bs = (b ≡ true) × R ws bs

pub accepts_test : (b : Bool) (n : ℕ) {F : Format} {at : ℕ} {R : Laid} → Accepts F at R → Accepts (test b n F) at (Tested b R)
accepts_test b n {F} {at} a =
    record {
      by = λ ws tail bs q. lay_test b n F at (ws ++ tail) ∙ pick_yes b (lay F at (ws ++ tail)) (fault n) q.0 ∙ a.by ws tail bs q.1;
      to = λ zs tail bs e.
          let p = pick_got b (lay F at zs) n bs tail (sym (lay_test b n F at zs) ∙ e) in
          let q = a.to zs tail bs p.1 in
          (q.0, q.1, (p.0, q.2));
    }

-- ---- one format after another; what follows may depend on how many bits went before

pub record Then (R : Laid) (S : List Bool → Laid) (ws : List ℕ) (bs : List Bool) : Type 0 where
  pub first : List ℕ
  pub second : List ℕ
  pub front : List Bool
  pub back : List Bool
  pub content : ws ≡ first ++ second
  pub layout : bs ≡ front ++ back
  pub before : R first front
  pub after : S front second back

onward_got : {A B : Type 0} (r : Got A B) (k : List A → List B → Got A B) (zs : List A) (t : List B) → onward r k ≡ got zs t
    → (xs : List A) × (u : List B) × (ys : List A) × (r ≡ got xs u) × (k xs u ≡ got ys t) × (zs ≡ xs ++ ys)
onward_got (got xs u) k zs t e = let q = push_got xs (k xs u) zs t e in (xs, u, q.0, refl, q.1, q.2)
onward_got (fault n) k zs t e = absurd (let z : ◌≡◌ {A = ℕ} 0 1 = cc in omega arith)

module _ (F G : Format) (at : ℕ) {R : Laid} {S : List Bool → Laid} (a : Accepts F at R)
    (b : (ws : List ℕ) (bs : List Bool) → R ws bs → Accepts G (at + length bs) (S bs)) where
  then_by : (ws tail : List ℕ) (bs : List Bool) → Then R S ws bs → lay (then F G) at (ws ++ tail) ≡ got bs tail
  then_by ws tail bs q =
      let k : List Bool → List ℕ → Got Bool ℕ = λ xs t. lay G (at + length xs) t in
      ap (λ (l : List ℕ). lay (then F G) at (l ++ tail)) q.content
      ∙ ap (lay (then F G) at) (append_assoc q.first q.second tail)
      ∙ lay_then F G at (q.first ++ (q.second ++ tail))
      ∙ ap (λ (g : Got Bool ℕ). onward g k) (a.by q.first (q.second ++ tail) q.front q.before)
      ∙ ap (push q.front) ((b q.first q.front q.before).by q.second tail q.back q.after)
      ∙ ap (λ (l : List Bool). got l tail) (sym q.layout)

  then_to : (zs tail : List ℕ) (bs : List Bool) → lay (then F G) at zs ≡ got bs tail → (ws : List ℕ) × (zs ≡ ws ++ tail) × Then R S ws bs
  then_to zs tail bs e =
      let p = onward_got (lay F at zs) (λ xs t. lay G (at + length xs) t) bs tail (sym (lay_then F G at zs) ∙ e) in
      let q = a.to zs p.1 p.0 p.3 in
      let r = (b q.0 p.0 q.2).to p.1 tail p.2 p.4 in (
        q.0 ++ r.0,
        q.1 ∙ ap (λ (l : List ℕ). q.0 ++ l) r.1 ∙ sym (append_assoc q.0 r.0 tail),
        record {
          first = q.0;
          second = r.0;
          front = p.0;
          back = p.2;
          content = refl;
          layout = p.5;
          before = q.2;
          after = r.2;
        },
      )

  pub accepts_then : Accepts (then F G) at (Then R S)
  accepts_then = record { by = then_by; to = then_to }

-- ---- zero bits up to a whole byte

pub record Padded (k : ℕ) (R : Laid) (ws : List ℕ) (bs : List Bool) : Type 0 where
  pub body : List Bool
  pub layout : bs ≡ replicate k false ++ body
  pub after : R ws body

pub accepts_pad : (F : Format) (at : ℕ) {R : Laid} → Accepts F (at + gap at) R → Accepts (pad F) at (Padded (gap at) R)
accepts_pad F at a =
    record {
      by = λ ws tail bs q.
          lay_pad F at (ws ++ tail)
          ∙ ap (push (replicate (gap at) false)) (a.by ws tail q.body q.after)
          ∙ ap (λ (l : List Bool). got l tail) (sym q.layout);
      to = λ zs tail bs e.
          let p = push_got (replicate (gap at) false) (lay F (at + gap at) zs) bs tail (sym (lay_pad F at zs) ∙ e) in
          let q = a.to zs tail p.0 p.1 in
          (q.0, q.1, record { body = p.0; layout = p.2; after = q.2 });
    }

-- from a whole byte on, only the length counts
gap_from : (at n : ℕ) → at % 8 ≡ 0 → gap (at + n) ≡ gap n
unfolding gap
gap_from at n h = omega arith

pub accepts_whole : (F : Format) (at : ℕ) {R : Laid} → at % 8 ≡ 0 → Accepts F at R → Accepts (whole F) at (Whole R)
accepts_whole F at {R} h a =
    subst (λ (G : Format). Accepts G at (Whole R)) (sym (whole_is F))
    (accepts_same same (accepts_then F (pad done) at a (λ ws bs r. accepts_pad done (at + length bs) (accepts_done (at + length bs + gap (at + length bs))))))
  where
    same : (ws : List ℕ) (bs : List Bool) → Then R (λ front. Padded (gap (at + length front)) Nothing) ws bs ↔ Whole R ws bs
    same ws bs = (
      λ q. record {
        body = q.front;
        laid = subst (λ (l : List ℕ). R l q.front) (sym (q.content ∙ ap (λ (l : List ℕ). q.first ++ l) q.after.after.0 ∙ append-nil q.first)) q.before;
        fills =
            q.layout
            ∙ ap (λ (l : List Bool). q.front ++ l) (
            q.after.layout
            ∙ ap (λ (l : List Bool). replicate (gap (at + length q.front)) false ++ l) q.after.after.1
            ∙ append-nil (replicate (gap (at + length q.front)) false)
            ∙ ap (λ (k : ℕ). replicate k false) (gap_from at (length q.front) h)
            );
      },
      λ q. record {
        first = ws;
        second = [];
        front = q.body;
        back = replicate (gap (length q.body)) false;
        content = sym (append-nil ws);
        layout = q.fills;
        before = q.laid;
        after = record {
          body = [];
          layout = ap (λ (k : ℕ). replicate k false) (sym (gap_from at (length q.body) h)) ∙ sym (append-nil (replicate (gap (at + length q.body)) false));
          after = (refl, refl);
        };
      },
    )

-- what is whole is whole bytes
pub whole_length : {R : Laid} {ws : List ℕ} {bs : List Bool} → Whole R ws bs → length bs % 8 ≡ 0
whole_length q =
    let n : ℕ = length q.body in
    let e = ap length q.fills ∙ length-append q.body (replicate (gap n) false) ∙ ap (λ (k : ℕ). n + k) (length-replicate (gap n) false) in
    ap (λ (k : ℕ). k % 8) e ∙ gap_fills n

-- and whole bytes are whole
pub whole_same : {R : Laid} → ((ws : List ℕ) (bs : List Bool) → R ws bs → length bs % 8 ≡ 0) → (ws : List ℕ) (bs : List Bool) → Whole R ws bs ↔ R ws bs
whole_same {R} h ws bs = (
  λ q. subst (λ (l : List Bool). R ws l) (sym (q.fills ∙ none q.body (h ws q.body q.laid))) q.laid,
  λ r. record { body = bs; laid = r; fills = sym (none bs (h ws bs r)) },
)
  where
    none : (b : List Bool) → length b % 8 ≡ 0 → b ++ replicate (gap (length b)) false ≡ b
    none b e = ap (λ (k : ℕ). b ++ replicate k false) (gap_none (length b) e) ∙ append-nil b

-- ---- files

pub decode_lay : (F : Format) (s ws : List ℕ) → decode F s ≡ ok ws ↔ lay (whole F) 0 ws ≡ got (bits s) []
unfolding decode
decode_lay F s ws = (
  λ e.
      let r = scan_lay (whole F) 0 (bits s) [] ws [] (omega (arith, length-bits s)) (ended_ok (scan (whole F) (bits s)) ws e) in
      let b : bits s ≡ r.body = r.splits ∙ append-nil r.body in
      ap (lay (whole F) 0) (sym (append-nil ws)) ∙ r.writes ∙ ap (λ (l : List Bool). got l []) (sym b),
  λ e.
      let q = lay_scan (whole F) 0 ws [] (bits s) [] (omega (arith, length-bits s)) e in
      ap (λ (l : List Bool). ended (scan (whole F) l)) (sym (append-nil (bits s)))
      ∙ ap ended q.reads
      ∙ ap ok (sym (append-nil q.words) ∙ sym q.splits),
)

pub accepts_file : (F : Format) {R : Laid} → Accepts F 0 R → (s ws : List ℕ) → decode F s ≡ ok ws ↔ Whole R ws (bits s)
accepts_file F {R} a s ws = (
  λ e.
      let q = w.to ws [] (bits s) ((decode_lay F s ws).0 e) in
      subst (λ (l : List ℕ). Whole R l (bits s)) (sym (q.1 ∙ append-nil q.0)) q.2,
  λ q. (decode_lay F s ws).1 (ap (lay (whole F) 0) (sym (append-nil ws)) ∙ w.by ws [] (bits s) q),
)
  where
    w : Accepts (whole F) 0 (Whole R)
    w = accepts_whole F 0 refl a

-- The moves of a reader: each takes a Reading to the next.
use Prim.Native.Nat.{ℕ, ◌+◌, ◌-◌, ◌*◌, ◌%◌, ◌<◌, ◌≤◌}
use mathlib.Core.Path.{◌≡◌, refl, ap, sym, ◌∙◌}
use mathlib.Core.List.{List, [], ◌∷◌, ◌++◌, append-nil}
use mathlib.Core.Bool.{Bool, true, false}
use lib.ListN.{length, take, drop, length-append, length-drop, set}
use lib.Seq.{sets, drop-drop}
use lib.Dec.{leb}
use native.Mathlib.Omega.{arith}
use borrow.Author.Tests.{le-leb, lt-leb, lt-ltb, le-ltb}
use Rattle.packed.specs.Bits.{num, num_from, bits, field, zeros, gap}
use Rattle.packed.specs.Format.{Format, done, ask, test, pad, then, Got, got, fault, push, within, scan}
use Rattle.packed.specs.Refusals.{number_of, detail_of}
use Rattle.packed.specs.Reading.{from, Reading, Refuses, Value}
use Rattle.packed.specs.declared.reply.Refusal.{Refusal}
use Rattle.packed.proofs.BitsLaws.{length-bits}
use Rattle.packed.proofs.Sets.{sets_append}
use Rattle.packed.proofs.RoundTrip.{and_no, scan_done, scan_ask, scan_short, scan_wrong, scan_test, scan_pad, scan_tail, scan_then, push_push, push_nil, pick_yes, pick_no, onward}

-- ---- the range of a field
pub in_range : (low bound v : ℕ) → low ≤ v → v < bound → within low bound v ≡ true
unfolding within
in_range low bound v h g = rw (le-leb low v h, lt-ltb v bound g)

pub too_low : (low bound v : ℕ) → v < low → within low bound v ≡ false
unfolding within
too_low low bound v h = rw (lt-leb low v h)

pub too_high : (low bound v : ℕ) → bound ≤ v → within low bound v ≡ false
unfolding within
too_high low bound v h = rw (le-ltb v bound h) (and_no (leb low v))

-- ---- one field
module _ (s : List ℕ) (at : ℕ) where
  length_rest : length (drop at (bits s)) ≡ 8 * length s - at
  length_rest = length-drop at (bits s) ∙ ap (λ (n : ℕ). n - at) (length-bits s)

  pub field_short : (wide low bound e : ℕ) (f : ℕ → Format) → at ≤ 8 * length s → 8 * length s < at + wide → from (ask wide low bound e f) s at ≡ fault 2
  unfolding from
  field_short wide low bound e f l h = scan_short wide low bound e f (drop at (bits s)) (omega (arith, length_rest))

  pub field_wrong : (wide low bound e : ℕ) (f : ℕ → Format) (v : ℕ) → at + wide ≤ 8 * length s → v ≡ field s at wide → within low bound v ≡ false
      → from (ask wide low bound e f) s at ≡ fault e
  unfolding from field
  field_wrong wide low bound e f v h q g = scan_wrong wide low bound e f (drop at (bits s)) v (omega (arith, length_rest)) (sym q) g

-- ---- the gap, counted from the front and from the end of whole bytes
pub gap_of : (at n : ℕ) → at ≤ 8 * n → (8 * n - at) % 8 ≡ gap at
unfolding gap
gap_of at n h = omega arith

pub gap_in : (at n : ℕ) → at ≤ 8 * n → at + gap at ≤ 8 * n
unfolding gap
gap_in at n h = omega arith

-- ---- the moves
module _ {F : Format} {s : List ℕ} {at₀ : ℕ} {w₀ : List ℕ} {i₀ : ℕ} where
  pub starts : at₀ ≤ 8 * length s → Reading F s at₀ w₀ i₀ F at₀ w₀ i₀
  starts h =
      record {
        read = [];
        comes = sym (push_nil (from F s at₀));
        holds = refl;
        next = omega arith;
        inside = h;
        paced = omega arith;
      }

  -- the same place, or the same format left to read, said otherwise
  pub same_at : {G : Format} {at at' : ℕ} {w : List ℕ} {i i' : ℕ} → at ≡ at' → i ≡ i' → Reading F s at₀ w₀ i₀ G at w i → Reading F s at₀ w₀ i₀ G at' w i'
  same_at {G} {at} {at'} {w} {i} {i'} e d r = rw (← e, ← d) r

  pub left_is : {G G' : Format} {at : ℕ} {w : List ℕ} {i : ℕ} → G ≡ G' → Reading F s at₀ w₀ i₀ G at w i → Reading F s at₀ w₀ i₀ G' at w i
  left_is e r = rw (← e) r

  -- one reading goes on from where another stopped
  pub goes_on : {f G : Format} {at : ℕ} {w : List ℕ} {i at' : ℕ} {w' : List ℕ} {i' : ℕ}
      → Reading F s at₀ w₀ i₀ f at w i → Reading f s at w i G at' w' i' → Reading F s at₀ w₀ i₀ G at' w' i'
  goes_on {f} {G} {at} {w} {i} {at'} {w'} {i'} r p =
      let a : List ℕ = r.read in
      let b : List ℕ = p.read in
      let n : i ≡ i₀ + length a = r.next in
      let m : i' ≡ i + length b = p.next in
      record {
        read = a ++ b;
        comes = r.comes ∙ ap (push a) p.comes ∙ push_push a b (from G s at');
        holds =
            p.holds
            ∙ ap (λ (x : List ℕ). sets x i b) r.holds
            ∙ ap (λ (k : ℕ). sets (sets w₀ i₀ a) k b) n
            ∙ sets_append w₀ i₀ a b;
        next = omega (arith, length-append a b);
        inside = p.inside;
        paced = omega (arith, r.paced, p.paced);
      }

  -- a part was read by its own reader
  pub calls : (f G : Format) {at : ℕ} {w : List ℕ} {i at' : ℕ} {w' : List ℕ} {i' : ℕ}
      → Reading F s at₀ w₀ i₀ (then f G) at w i → Reading f s at w i done at' w' i' → Reading F s at₀ w₀ i₀ G at' w' i'
  unfolding from
  calls f G {at} {w} {i} {at'} {w'} {i'} r p =
      let b : List ℕ = p.read in
      let q : scan f (drop at (bits s)) ≡ got b (drop at' (bits s)) =
      p.comes ∙ ap (push b) (scan_done (drop at' (bits s))) ∙ ap (λ (x : List ℕ). got x (drop at' (bits s))) (append-nil b) in
      goes_on r
      (record {
        read = b;
        comes = scan_then f G (drop at (bits s)) ∙ ap (λ (g : Got ℕ Bool). onward g (λ ws t. scan G t)) q;
        holds = p.holds;
        next = p.next;
        inside = p.inside;
        paced = p.paced;
      })

  pub calls_refused : (f G : Format) {at : ℕ} {w : List ℕ} {i file : ℕ} {x : Refusal}
      → Reading F s at₀ w₀ i₀ (then f G) at w i → Refuses f s at file x → Refuses F s at₀ file x
  unfolding from
  calls_refused f G {at} r p =
      record {
        number =
            r.comes
            ∙ ap (push r.read) (scan_then f G (drop at (bits s)) ∙ ap (λ (g : Got ℕ Bool). onward g (λ ws t. scan G t)) p.number);
        detail = p.detail;
      }

  pub refused : {G : Format} {at : ℕ} {w : List ℕ} {i file : ℕ} {x : Refusal}
      → Reading F s at₀ w₀ i₀ G at w i → Refuses G s at file x → Refuses F s at₀ file x
  refused r p = record { number = r.comes ∙ ap (push r.read) p.number; detail = p.detail }

  -- a field was read
  pub reads : {wide low bound e : ℕ} {f : ℕ → Format} {at : ℕ} {w : List ℕ} {i v : ℕ} {w' : List ℕ}
      → Reading F s at₀ w₀ i₀ (ask wide low bound e f) at w i → Value wide low bound s at w i v w'
      → Reading F s at₀ w₀ i₀ (f v) (at + wide) w' (i + 1)
  unfolding from field
  reads {wide} {low} {bound} {e} {f} {at} {w} {i} {v} {w'} r p =
      goes_on r
      (record {
        read = v ∷ [];
        comes =
            scan_ask wide low bound e f (drop at (bits s)) v (omega (arith, length_rest s at, p.fits)) (sym p.is) (in_range low bound v p.least p.most)
            ∙ ap (λ (x : List Bool). push (v ∷ []) (scan (f v) x)) (drop-drop wide at (bits s));
        holds = p.stored;
        next = omega arith;
        inside = p.fits;
        paced = omega (arith, p.some);
      })

  -- a field of no bits is 0
  pub reads_none : {e : ℕ} {f : ℕ → Format} {at : ℕ} {w : List ℕ} {i : ℕ} → i + 1 + at₀ ≤ i₀ + at
      → Reading F s at₀ w₀ i₀ (ask 0 0 1 e f) at w i → Reading F s at₀ w₀ i₀ (f 0) at (set w i 0) (i + 1)
  unfolding from num num_from
  reads_none {e} {f} {at} {w} {i} h r =
      let b : List ℕ = r.read in
      record {
        read = b ++ (0 ∷ []);
        comes =
            r.comes
            ∙ ap (push b) (scan_ask 0 0 1 e f (drop at (bits s)) 0 (omega arith) refl (in_range 0 1 0 (omega arith) (omega arith)))
            ∙ push_push b (0 ∷ []) (scan (f 0) (drop at (bits s)));
        holds =
            ap (λ (x : List ℕ). sets x i (0 ∷ [])) r.holds
            ∙ ap (λ (k : ℕ). sets (sets w₀ i₀ b) k (0 ∷ [])) r.next
            ∙ sets_append w₀ i₀ b (0 ∷ []);
        next = omega (arith, r.next, length-append b (0 ∷ []));
        inside = r.inside;
        paced = h;
      }

  -- a test
  pub passes : {b : Bool} {e : ℕ} {G : Format} {at : ℕ} {w : List ℕ} {i : ℕ} → b ≡ true → Reading F s at₀ w₀ i₀ (test b e G) at w i → Reading F s at₀ w₀ i₀ G at w i
  unfolding from
  passes {b} {e} {G} {at} h r =
      record {
        read = r.read;
        comes = r.comes ∙ ap (push r.read) (scan_test b e G (drop at (bits s)) ∙ pick_yes b (from G s at) (fault e) h);
        holds = r.holds;
        next = r.next;
        inside = r.inside;
        paced = r.paced;
      }

  pub fails : {b : Bool} {e : ℕ} {G : Format} {at : ℕ} {w : List ℕ} {i : ℕ} (x : Refusal) → b ≡ false → number_of x ≡ e
      → Reading F s at₀ w₀ i₀ (test b e G) at w i → Refuses F s at₀ (detail_of x) x
  unfolding from
  fails {b} {e} {G} {at} x h n r =
      record {
        number = r.comes ∙ ap (push r.read) (scan_test b e G (drop at (bits s)) ∙ pick_no b (from G s at) (fault e) h) ∙ ap fault (sym n);
        detail = refl;
      }

  -- the bits up to a whole byte
  length_left : {G : Format} {at : ℕ} {w : List ℕ} {i : ℕ} → Reading F s at₀ w₀ i₀ G at w i → length (drop at (bits s)) % 8 ≡ gap at
  length_left {G} {at} r = ap (λ (n : ℕ). n % 8) (length_rest s at) ∙ gap_of at (length s) r.inside

  pub pads : {G : Format} {at : ℕ} {w : List ℕ} {i : ℕ} → zeros (take (gap at) (drop at (bits s))) ≡ true
      → Reading F s at₀ w₀ i₀ (pad G) at w i → Reading F s at₀ w₀ i₀ G (at + gap at) w i
  unfolding from
  pads {G} {at} {w} {i} h r =
      record {
        read = r.read;
        comes = r.comes ∙ ap (push r.read) (scan_pad G (drop at (bits s)) (gap at) (length_left r) h ∙ ap (scan G) (drop-drop (gap at) at (bits s)));
        holds = r.holds;
        next = r.next;
        inside = gap_in at (length s) r.inside;
        paced = omega (arith, r.paced);
      }

  pub ends_dirty : {G : Format} {at : ℕ} {w : List ℕ} {i : ℕ} (x : Refusal) → zeros (take (gap at) (drop at (bits s))) ≡ false → number_of x ≡ 9
      → Reading F s at₀ w₀ i₀ (pad G) at w i → Refuses F s at₀ (detail_of x) x
  unfolding from
  ends_dirty {G} {at} x h n r =
      record {
        number = r.comes ∙ ap (push r.read) (scan_tail G (drop at (bits s)) (gap at) (length_left r) h) ∙ ap fault (sym n);
        detail = refl;
      }

-- The moves of a writer: each takes a Writing to the next.
use Prim.Native.Nat.{ℕ, suc, ◌+◌, ◌*◌, ◌^◌, ◌<◌, ◌≤◌}
use mathlib.Core.Path.{◌≡◌, refl, ap, sym, ◌∙◌}
use mathlib.Core.List.{List, [], ◌∷◌, ◌++◌, append-nil}
use mathlib.Core.Bool.{Bool, true, false, ◌&&◌}
use lib.ListN.{length, drop, get_or, replicate, length-append, length-replicate, drop_of_length-le}
use lib.Seq.{sets, drop-cons}
use lib.Dec.{ltb}
use native.Mathlib.Omega.{arith}
use native.Mathlib.Numerals.{add-one}
use Rattle.packed.specs.Bits.{bits, bits_of, gap}
use Rattle.packed.specs.Format.{Format, done, ask, test, pad, then, Got, got, fault, push, within, lay}
use Rattle.packed.specs.Refusals.{number_of, detail_of}
use Rattle.packed.specs.Writing.{Writing, Rejects, WritesPart, WritesBytes, Put}
use Rattle.packed.specs.declared.reply.Refusal.{Refusal}
use Rattle.packed.proofs.BitsLaws.{length_bits_of, bits_of_zero}
use Rattle.packed.proofs.Sets.{sets_append}
use Rattle.packed.proofs.RoundTrip.{lay_done, lay_ask, lay_none, lay_wrong, lay_test, lay_pad, lay_then, push_push, push_nil, pick_yes, pick_no, onward}
use Rattle.packed.proofs.ReadingLaws.{in_range}
use Rattle.packed.specs.Parts.{Part}
use Rattle.std.specs.Prelude.{Ok, Err}

-- ---- one field
module _ (ws : List ℕ) (i at : ℕ) where
  pub field_none : (wide low bound e : ℕ) (f : ℕ → Format) → length ws ≤ i → lay (ask wide low bound e f) at (drop i ws) ≡ fault 2
  field_none wide low bound e f h = ap (lay (ask wide low bound e f) at) (drop_of_length-le ws h) ∙ lay_none wide low bound e f at

  refuses : (wide low bound e : ℕ) (f : ℕ → Format) → i < length ws → within low bound (get_or ws i 0) && ltb (get_or ws i 0) (2 ^ wide) ≡ false
      → lay (ask wide low bound e f) at (drop i ws) ≡ fault e
  refuses wide low bound e f h g = ap (lay (ask wide low bound e f) at) (drop-cons ws i 0 h) ∙ lay_wrong wide low bound e f at (get_or ws i 0) (drop (suc i) ws) g

  -- a value outside its range
  pub field_bad : (wide low bound e : ℕ) (f : ℕ → Format) → i < length ws → within low bound (get_or ws i 0) ≡ false
      → lay (ask wide low bound e f) at (drop i ws) ≡ fault e
  field_bad wide low bound e f h g = refuses wide low bound e f h (rw g)

-- ---- the moves
module _ {F : Format} {ws : List ℕ} {i₀ : ℕ} {b₀ : List ℕ} {at₀ : ℕ} where
  pub begins : i₀ ≤ length ws → Writing F ws i₀ b₀ at₀ F i₀ b₀ at₀
  begins h =
      record {
        laid = [];
        comes = sym (push_nil (lay F at₀ (drop i₀ ws)));
        holds = refl;
        next = omega arith;
        inside = h;
      }

  -- the same place, or the same format left to write, said otherwise
  pub same_to : {G : Format} {i i' : ℕ} {b : List ℕ} {at at' : ℕ} → i ≡ i' → at ≡ at' → Writing F ws i₀ b₀ at₀ G i b at → Writing F ws i₀ b₀ at₀ G i' b at'
  same_to {G} {i} {i'} {b} {at} {at'} e d r = rw (← e, ← d) r

  pub left_to : {G G' : Format} {i : ℕ} {b : List ℕ} {at : ℕ} → G ≡ G' → Writing F ws i₀ b₀ at₀ G i b at → Writing F ws i₀ b₀ at₀ G' i b at
  left_to e r = rw (← e) r

  -- one writing goes on from where another stopped
  pub follows : {f G : Format} {i : ℕ} {b : List ℕ} {at i' : ℕ} {b' : List ℕ} {at' : ℕ}
      → Writing F ws i₀ b₀ at₀ f i b at → Writing f ws i b at G i' b' at' → Writing F ws i₀ b₀ at₀ G i' b' at'
  follows {f} {G} {i} {b} {at} {i'} {b'} {at'} r p =
      let a : List Bool = r.laid in
      let c : List Bool = p.laid in
      let n : at ≡ at₀ + length a = r.next in
      let m : at' ≡ at + length c = p.next in
      record {
        laid = a ++ c;
        comes = r.comes ∙ ap (push a) p.comes ∙ push_push a c (lay G at' (drop i' ws));
        holds =
            p.holds
            ∙ ap (λ (x : List Bool). sets x at c) r.holds
            ∙ ap (λ (k : ℕ). sets (sets (bits b₀) at₀ a) k c) n
            ∙ sets_append (bits b₀) at₀ a c;
        next = omega (arith, length-append a c);
        inside = p.inside;
      }

  -- a part was written by its own writer
  pub parts : (f G : Format) {i : ℕ} {b : List ℕ} {at i' : ℕ} {b' : List ℕ} {at' : ℕ}
      → Writing F ws i₀ b₀ at₀ (then f G) i b at → Writing f ws i b at done i' b' at' → Writing F ws i₀ b₀ at₀ G i' b' at'
  parts f G {i} {b} {at} {i'} {b'} {at'} r p =
      let c : List Bool = p.laid in
      let q : lay f at (drop i ws) ≡ got c (drop i' ws) =
      p.comes ∙ ap (push c) (lay_done at' (drop i' ws)) ∙ ap (λ (x : List Bool). got x (drop i' ws)) (append-nil c) in
      follows r
      (record {
        laid = c;
        comes =
            lay_then f G at (drop i ws)
            ∙ ap (λ (g : Got Bool ℕ). onward g (λ bs t. lay G (at + length bs) t)) q
            ∙ ap (λ (k : ℕ). push c (lay G k (drop i' ws))) (sym p.next);
        holds = p.holds;
        next = p.next;
        inside = p.inside;
      })

  pub parts_rejected : (f G : Format) {i : ℕ} {b : List ℕ} {at file : ℕ} {x : Refusal}
      → Writing F ws i₀ b₀ at₀ (then f G) i b at → Rejects f ws i at file x → Rejects F ws i₀ at₀ file x
  parts_rejected f G {i} {b} {at} r p =
      record {
        number =
            r.comes
            ∙ ap (push r.laid) (lay_then f G at (drop i ws) ∙ ap (λ (g : Got Bool ℕ). onward g (λ bs t. lay G (at + length bs) t)) p.number);
        detail = p.detail;
      }

  pub rejected : {G : Format} {i : ℕ} {b : List ℕ} {at file : ℕ} {x : Refusal}
      → Writing F ws i₀ b₀ at₀ G i b at → Rejects G ws i at file x → Rejects F ws i₀ at₀ file x
  rejected r p = record { number = r.comes ∙ ap (push r.laid) p.number; detail = p.detail }

  -- the last part of F was written, or refused, by its own writer
  pub closes : {f : Format} {i : ℕ} {b : List ℕ} {at : ℕ} (j k file : ℕ) (p : Part) (b' : List ℕ)
      → Writing F ws i₀ b₀ at₀ f i b at → WritesPart f ws i b at j file p b' → at + j ≤ at₀ + k → WritesPart F ws i₀ b₀ at₀ k file p b'
  closes j k file (Ok (at, i)) b' r q h = (follows r q.0, omega arith)
  closes j k file (Err x) b' r q h = rejected r q

  pub closes_bytes : {f : Format} (byte₀ byte : ℕ) {i : ℕ} {b : List ℕ} (j k file : ℕ) (p : Part) (b' : List ℕ) → at₀ ≡ 8 * byte₀
      → Writing F ws i₀ b₀ at₀ f i b (8 * byte) → WritesBytes f ws i b byte j file p b' → byte + j ≤ byte₀ + k
      → WritesBytes F ws i₀ b₀ byte₀ k file p b'
  closes_bytes byte₀ byte j k file (Ok (at, i)) b' e r q h = rw (← e) (follows r q.0, omega arith)
  closes_bytes byte₀ byte j k file (Err x) b' e r q h = rw (← e) (rejected r q)

  -- a field was written
  pub writes : {wide low bound e : ℕ} {f : ℕ → Format} {i : ℕ} {b : List ℕ} {at v : ℕ} {b' : List ℕ}
      → Writing F ws i₀ b₀ at₀ (ask wide low bound e f) i b at → Put wide low bound ws i b at v b'
      → Writing F ws i₀ b₀ at₀ (f v) (i + 1) b' (at + wide)
  writes {wide} {low} {bound} {e} {f} {i} {b} {at} {v} {b'} r p =
      let c : drop i ws ≡ v ∷ drop (i + 1) ws =
      drop-cons ws i 0 p.there ∙ ap (λ (k : ℕ). get_or ws i 0 ∷ drop k ws) (sym (add-one i)) ∙ ap (λ (x : ℕ). x ∷ drop (i + 1) ws) (sym p.is) in
      follows r
      (record {
        laid = bits_of wide v;
        comes = ap (lay (ask wide low bound e f) at) c ∙ lay_ask wide low bound e f at v (drop (i + 1) ws) (in_range low bound v p.least p.most) p.narrow;
        holds = p.stored;
        next = ap (λ (k : ℕ). at + k) (sym (length_bits_of wide v));
        inside = omega (arith, p.there);
      })

  -- a test
  pub accepts : {t : Bool} {e : ℕ} {G : Format} {i : ℕ} {b : List ℕ} {at : ℕ} → t ≡ true → Writing F ws i₀ b₀ at₀ (test t e G) i b at → Writing F ws i₀ b₀ at₀ G i b at
  accepts {t} {e} {G} {i} {b} {at} h r =
      record {
        laid = r.laid;
        comes = r.comes ∙ ap (push r.laid) (lay_test t e G at (drop i ws) ∙ pick_yes t (lay G at (drop i ws)) (fault e) h);
        holds = r.holds;
        next = r.next;
        inside = r.inside;
      }

  pub denies : {t : Bool} {e : ℕ} {G : Format} {i : ℕ} {b : List ℕ} {at : ℕ} (x : Refusal) → t ≡ false → number_of x ≡ e
      → Writing F ws i₀ b₀ at₀ (test t e G) i b at → Rejects F ws i₀ at₀ (detail_of x) x
  denies {t} {e} {G} {i} {b} {at} x h n r =
      record {
        number = r.comes ∙ ap (push r.laid) (lay_test t e G at (drop i ws) ∙ pick_no t (lay G at (drop i ws)) (fault e) h) ∙ ap fault (sym n);
        detail = refl;
      }

  -- zero bits up to a whole byte
  pub fills : {G : Format} {i : ℕ} {b : List ℕ} {at : ℕ} {b' : List ℕ} → bits b' ≡ sets (bits b) at (bits_of (gap at) 0)
      → Writing F ws i₀ b₀ at₀ (pad G) i b at → Writing F ws i₀ b₀ at₀ G i b' (at + gap at)
  fills {G} {i} {b} {at} {b'} h r =
      follows r
      (record {
        laid = replicate (gap at) false;
        comes = lay_pad G at (drop i ws);
        holds = h ∙ ap (sets (bits b) at) (bits_of_zero (gap at));
        next = ap (λ (k : ℕ). at + k) (sym (length-replicate (gap at) false));
        inside = r.inside;
      })

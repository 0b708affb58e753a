-- Laws of a line buffer: texts written one after the other, numbers from their last digit to their first, the end of a line, the whole line.
use Prim.Native.Nat.{ℕ, suc, ◌+◌, ◌-◌, ◌/◌, ◌%◌, ◌^◌, ◌≤◌, ◌<◌}
use mathlib.Core.Path.{◌≡◌, refl, ap, sym, ◌∙◌}
use mathlib.Core.List.{List, [], ◌∷◌, ◌++◌, append_assoc}
use lib.ListN.{length, get_or, take, drop, set, length-append}
use lib.Seq.{sets, take-suc, take_at, set_comm}
use lib.Dec.{eqb}
use native.Mathlib.Omega.{arith}
use native.Mathlib.Nat.{add-zero, zero-add}
use native.Mathlib.Numerals.{add-one}
use borrow.Author.Tests.{lt-ltb, le-ltb, eq-eqb, ne_eqb}
use Rattle.packed.specs.Calls.{told_of, fronts, outputs_of, fit, FulfilsOne}
use Rattle.packed.specs.Format.{pick}
use Rattle.packed.specs.Refusals.{told, number_of, detail_of}
use Rattle.packed.specs.declared.reply.Refusal.{Refusal}
use Rattle.packed.proofs.Sets.{sets_append, sets_front}
use Rattle.containment.specs.Listing.{decimal, concat, or_none, bytes, line_of, line_outcome}
use Rattle.containment.specs.declared.quote_type.Quote.{Quote}
use Rattle.containment.proofs.ListingLaws.{decimal_one, decimal_more}
use Rattle.answering.proofs.Listings.{listings}
use Rattle.packed.proofs.RefusalNumbers.{refusal_numbered}
use Rattle.listing.specs.Written.{TextWritten}

-- ---- texts written one after the other
pub written_none : (l : List ℕ) (at : ℕ) → TextWritten [] l at l at
written_none l at = record { is = refl; end = sym (add-zero at) }

pub written_then : {a b l m n : List ℕ} {at i j : ℕ} → TextWritten a l at m i → TextWritten b m i n j → TextWritten (a ++ b) l at n j
written_then {a} {b} {l} {m} {n} {at} {i} {j} v w =
    record {
      is = w.is ∙ rw (v.is, v.end) (sets_append l at a b);
      end = omega (arith, v.end, w.end, length-append a b);
    }

-- byte by byte: the first i bytes of the text stand
pub text_more : (text : List ℕ) (i : ℕ) {l m : List ℕ} {at : ℕ} → TextWritten (take i text) l at m (at + i) → i < length text
    → TextWritten (take (i + 1) text) l at (set m (at + i) (get_or text i 0)) (at + (i + 1))
text_more text i w h = rw (add-one i, take-suc text i 0 h) (written_then w (record { is = refl; end = omega arith }))

-- part by part: the first n parts stand
pub concat_more : (f : ℕ → List ℕ) (n : ℕ) {l m o : List ℕ} {at i j : ℕ} → TextWritten (concat f n) l at m i → TextWritten (f n) m i o j → TextWritten (concat f (n + 1)) l at o j
unfolding concat
concat_more f n v w = rw (add-one n) (written_then v w)

pub concat_none : (f : ℕ → List ℕ) (l : List ℕ) (at : ℕ) → TextWritten (concat f 0) l at l at
unfolding concat
concat_none f l at = written_none l at

pub concat_end : (f : ℕ → List ℕ) (k n : ℕ) {l m : List ℕ} {at i : ℕ} → TextWritten (concat f k) l at m i → k ≡ n → TextWritten (concat f n) l at m i
concat_end f k n w e = rw e at w

-- ---- numbers in decimal
-- counting the digits: w - 1 of them are taken off n, and m is left
pub record DigitsCounted (n m w : ℕ) : Type 0 where
  pub small : m < 2 ^ 64
  pub count : w + length (decimal m) ≡ length (decimal n) + 1

pub count_more : {n m w : ℕ} → DigitsCounted n m w → 10 ≤ m → DigitsCounted n (m / 10) (w + 1)
count_more {n} {m} {w} c h =
    let e = decimal_more m h c.small in
    record {
      small = omega arith;
      count = omega (arith, c.count, ap length e, length-append (decimal (m / 10)) ((48 + m % 10) ∷ []));
    }

pub count_end : {n m w : ℕ} → DigitsCounted n m w → m < 10 → w ≡ length (decimal n)
count_end {n} {m} {w} c h = omega (arith, c.count, ap length (decimal_one m h))

-- a store before a run of stores
set_sets : (l : List ℕ) (i j : ℕ) (v : ℕ) (vs : List ℕ) → j < i → set (sets l i vs) j v ≡ sets (set l j v) i vs
set_sets l i j v [] h = refl
set_sets l i j v (x ∷ vs) h =
    set_sets (set l i x) (suc i) j v vs (omega arith) ∙ ap (λ (t : List ℕ). sets t (suc i) vs) (set_comm l i j x v (λ e. omega arith))

-- from the last digit to the first: the digits that follow those of m stand from i on
pub record NumberWritten (n m : ℕ) (l : List ℕ) (at : ℕ) (now : List ℕ) (i : ℕ) : Type 0 where
  pub done : List ℕ
  pub small : m < 2 ^ 64
  pub split : decimal n ≡ decimal m ++ done
  pub is : now ≡ sets l i done
  pub place : i ≡ at + length (decimal m)

number_put : {n m : ℕ} {l : List ℕ} {at : ℕ} {now : List ℕ} {i : ℕ} (j : ℕ) (c : NumberWritten n m l at now i) → i ≡ j + 1 → (v : ℕ) → set now j v ≡ sets l j (v ∷ c.done)
number_put {n} {m} {l} {at} {now} {i} j c e v =
    rw (c.is, e, add-one j) (set_sets l (suc j) j v c.done (omega arith))

pub number_within : {n m : ℕ} {l : List ℕ} {at : ℕ} {now : List ℕ} {i : ℕ} → NumberWritten n m l at now i → 10 ≤ m → 1 ≤ i
number_within {n} {m} c h = omega (arith, c.place, ap length (decimal_more m h c.small), length-append (decimal (m / 10)) ((48 + m % 10) ∷ []))

pub number_more : {n m : ℕ} {l : List ℕ} {at : ℕ} {now : List ℕ} {i : ℕ} → NumberWritten n m l at now i → 10 ≤ m
    → NumberWritten n (m / 10) l at (set now (i - 1) (48 + m % 10)) (i - 1)
number_more {n} {m} {l} {at} {now} {i} c h =
    let d = decimal_more m h c.small in
    let p : i ≡ at + length (decimal (m / 10)) + 1 = omega (arith, c.place, ap length d, length-append (decimal (m / 10)) ((48 + m % 10) ∷ [])) in
    record {
      done = (48 + m % 10) ∷ c.done;
      small = omega arith;
      split = c.split ∙ ap (λ (t : List ℕ). t ++ c.done) d ∙ append_assoc (decimal (m / 10)) ((48 + m % 10) ∷ []) c.done;
      is = number_put (i - 1) c (omega arith) (48 + m % 10);
      place = omega arith;
    }

pub number_end : {n m : ℕ} {l : List ℕ} {at : ℕ} {now : List ℕ} {i r : ℕ} → NumberWritten n m l at now i → m < 10 → r ≡ at + length (decimal n)
    → TextWritten (decimal n) l at (set now at (48 + m % 10)) r
number_end {n} {m} {l} {at} {now} {i} c h e =
    let d = decimal_one m h in
    record {
      is =
          number_put at c (omega (arith, c.place, ap length d)) (48 + m % 10) ∙ ap (sets l at) (sym (c.split ∙ ap (λ (t : List ℕ). t ++ c.done) d));
      end = e;
    }

-- ---- the end of a line of parts
pub or_none_lem : (t : List ℕ) (i j : ℕ) → j ≡ i + length t → or_none t ≡ t ++ pick (eqb i j) (bytes " none\n") (bytes "\n")
unfolding or_none
or_none_lem [] i j e = rw (eq-eqb i j (omega arith))
or_none_lem (x ∷ t) i j e = rw (ne_eqb i j (λ f. omega arith))

-- a text that is the line
pub is_line : (line : List ℕ) {text l m : List ℕ} {at r : ℕ} → line ≡ text → TextWritten text l at m r → TextWritten line l at m r
is_line line e w = rw e w

-- ---- the call: the whole line, or 12 and its length
module _ (out text : List ℕ) {n : ℕ} (long : n ≡ 0 + length text) where
  pub line_tight : length out < n → FulfilsOne (fit (length out) text) (told 12 (n ∷ [])) out out
  unfolding fit told_of outputs_of
  line_tight h = let e = lt-ltb (length out) (length text) (omega (arith, long)) in record { result = rw (e, long, zero-add (length text)); outputs = rw e }

  pub line_given : {out' : List ℕ} → n ≤ length out → out' ≡ sets out 0 text → FulfilsOne (fit (length out) text) (told 0 (n ∷ [])) out out'
  unfolding fit told_of outputs_of fronts
  line_given h p =
      let e = le-ltb (length out) (length text) (omega (arith, long)) in
      record { result = rw (e, long, zero-add (length text)); outputs = rw (e, p, sets_front out text (omega (arith, long))) }

-- 4,096 bytes take every line, which then stands at the front
module _ (q : Quote) (k : ℕ) (out : List ℕ) (room : 4096 ≤ length out) where
  fits : length (line_of q k) ≤ length out
  fits = omega (arith, listings.longest q k)

  pub line_whole : {n : ℕ} {out' : List ℕ} → FulfilsOne (line_outcome q k (length out)) (told 0 (n ∷ [])) out out' → (take n out' ≡ line_of q k) × (n ≤ 4096)
  line_whole {n} {out'} a =
      let w = listings.writes q k (told 0 (n ∷ [])) out out' a fits in
      let e : n ≡ length (line_of q k) = cc w.0 in
      (ap (take n) w.1 ∙ take_at (line_of q k) (drop (length (line_of q k)) out) n (sym e), omega (arith, listings.longest q k))

  pub line_never_refused : (x : Refusal) {out' : List ℕ} → FulfilsOne (line_outcome q k (length out)) (told (number_of x) (detail_of x ∷ [])) out out' → ⊥
  line_never_refused x {out'} a =
      let w = listings.writes q k (told (number_of x) (detail_of x ∷ [])) out out' a fits in
      let z : number_of x ≡ 0 = cc w.0 in
      omega (arith, (refusal_numbered x).least)

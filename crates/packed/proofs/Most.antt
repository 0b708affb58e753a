-- How many bits a format takes at most, and so how many bytes a file has.
use Prim.Native.Nat.{ℕ, zero, suc, ◌+◌, ◌*◌, ◌/◌, ◌%◌, ◌^◌, ◌<◌, ◌≤◌}
use mathlib.Core.Path.{◌≡◌, refl, ap, sym, ◌∙◌}
use mathlib.Core.List.{List, [], ◌∷◌, ◌++◌}
use mathlib.Core.Bool.{Bool, false, ◌&&◌}
use lib.ListN.{length, replicate, length-append, length-replicate}
use lib.Dec.{ltb}
use native.Mathlib.Omega.{arith}
use native.Mathlib.Nat.{suc-mul}
use Rattle.packed.specs.Bits.{bits_of, gap}
use Rattle.packed.specs.Format.{Format, done, ask, test, pad, then, times, whole, Got, got, fault, push, within, lay, ok, ended, encode}
use Rattle.packed.specs.Formats.{edges, label, joined, pattern, catalogue, labels, rank, rising, record'}
use Rattle.packed.proofs.BitsLaws.{gap_small, gap_none, length_bits_of}
use Rattle.packed.proofs.RoundTrip.{push_got, pick_got, and_yes, below_bound, ended_ok, in_bytes_ok, aligned, onward, lay_test, lay_pad, lay_then, whole_is, times_zero, times_suc}
use Rattle.packed.proofs.Files.{length_bytes_of}

-- ---- what a step was laid from

-- a field
record Field (w bound : ℕ) (f : ℕ → Format) (at : ℕ) (rest : List ℕ) (bs : List Bool) : Type 0 where
  v : ℕ
  ws : List ℕ
  tail : List Bool
  most : v < bound
  after : lay (f v) (at + w) ws ≡ got tail rest
  long : length bs ≡ w + length tail

field_laid : (w low bound e : ℕ) (f : ℕ → Format) (at : ℕ) (ws rest : List ℕ) (bs : List Bool) → lay (ask w low bound e f) at ws ≡ got bs rest → Field w bound f at rest bs
unfolding lay
field_laid w low bound e f at [] rest bs q = absurd (let z : ◌≡◌ {A = ℕ} 0 1 = cc in omega arith)
field_laid w low bound e f at (v ∷ ws) rest bs q =
    let p = pick_got (within low bound v && ltb v (2 ^ w)) (push (bits_of w v) (lay (f v) (at + w) ws)) e bs rest q in
    let r = push_got (bits_of w v) (lay (f v) (at + w) ws) bs rest p.1 in
    record {
      v = v;
      ws = ws;
      tail = r.0;
      most = below_bound low bound v (and_yes (within low bound v) (ltb v (2 ^ w)) p.0).0;
      after = r.1;
      long = ap length r.2 ∙ length-append (bits_of w v) r.0 ∙ ap (λ (n : ℕ). n + length r.0) (length_bits_of w v);
    }

-- zero bits up to a whole byte
record MostFilled (f : Format) (at : ℕ) (ws rest : List ℕ) (bs : List Bool) : Type 0 where
  tail : List Bool
  after : lay f (at + gap at) ws ≡ got tail rest
  long : length bs ≡ gap at + length tail

pad_laid : (f : Format) (at : ℕ) (ws rest : List ℕ) (bs : List Bool) → lay (pad f) at ws ≡ got bs rest → MostFilled f at ws rest bs
pad_laid f at ws rest bs q =
    let z : List Bool = replicate (gap at) false in
    let r = push_got z (lay f (at + gap at) ws) bs rest (sym (lay_pad f at ws) ∙ q) in
    record {
      tail = r.0;
      after = r.1;
      long = ap length r.2 ∙ length-append z r.0 ∙ ap (λ (n : ℕ). n + length r.0) (length-replicate (gap at) false);
    }

-- one format and then another
record Two (r : Got Bool ℕ) (k : List Bool → List ℕ → Got Bool ℕ) (rest : List ℕ) (bs : List Bool) : Type 0 where
  front : List Bool
  mid : List ℕ
  tail : List Bool
  before : r ≡ got front mid
  after : k front mid ≡ got tail rest
  long : length bs ≡ length front + length tail

two : (r : Got Bool ℕ) (k : List Bool → List ℕ → Got Bool ℕ) (rest : List ℕ) (bs : List Bool) → onward r k ≡ got bs rest → Two r k rest bs
two (got xs t) k rest bs q =
    let p = push_got xs (k xs t) bs rest q in
    record { front = xs; mid = t; tail = p.0; before = refl; after = p.1; long = ap length p.2 ∙ length-append xs p.0 }
two (fault n) k rest bs q = absurd (let z : ◌≡◌ {A = ℕ} 0 1 = cc in omega arith)

then_laid : (f g : Format) (at : ℕ) (ws rest : List ℕ) (bs : List Bool) → lay (then f g) at ws ≡ got bs rest → Two (lay f at ws) (λ xs t. lay g (at + length xs) t) rest bs
then_laid f g at ws rest bs q = two (lay f at ws) (λ xs t. lay g (at + length xs) t) rest bs (sym (lay_then f g at ws) ∙ q)

done_laid : (at : ℕ) (ws rest : List ℕ) (bs : List Bool) → lay done at ws ≡ got bs rest → length bs ≡ 0
unfolding lay
done_laid at ws rest bs q = let e : [] ≡ bs = cc in ap length (sym e)

-- ---- bits

-- F takes at most k bits
pub record Most (k : ℕ) (F : Format) : Type 0 where
  pub takes : (at : ℕ) (ws rest : List ℕ) (bs : List Bool) → lay F at ws ≡ got bs rest → length bs ≤ k

pub most_more : {j : ℕ} (k : ℕ) {F : Format} → j ≤ k → Most j F → Most k F
most_more k h m = record { takes = λ at ws rest bs q. omega (arith, m.takes at ws rest bs q) }

pub most_done : Most 0 done
most_done = record { takes = λ at ws rest bs q. omega (arith, done_laid at ws rest bs q) }

pub most_ask : {w low bound e k : ℕ} {f : ℕ → Format} → ((v : ℕ) → v < bound → Most k (f v)) → Most (w + k) (ask w low bound e f)
most_ask {w} {low} {bound} {e} {k} {f} m =
    record {
      takes = λ at ws rest bs q.
          let r = field_laid w low bound e f at ws rest bs q in
          omega (arith, r.long, (m r.v r.most).takes (at + w) r.ws rest r.tail r.after);
    }

pub most_test : {b : Bool} {e k : ℕ} {F : Format} → Most k F → Most k (test b e F)
most_test {b} {e} {k} {F} m =
    record { takes = λ at ws rest bs q. m.takes at ws rest bs (pick_got b (lay F at ws) e bs rest (sym (lay_test b e F at ws) ∙ q)).1 }

pub most_pad : {k : ℕ} {F : Format} → Most k F → Most (7 + k) (pad F)
most_pad {k} {F} m =
    record {
      takes = λ at ws rest bs q.
          let r = pad_laid F at ws rest bs q in
          omega (arith, r.long, gap_small at, m.takes (at + gap at) ws rest r.tail r.after);
    }

pub most_then : (f g : Format) {j k : ℕ} → Most j f → Most k g → Most (j + k) (then f g)
most_then f g {j} {k} m n =
    record {
      takes = λ at ws rest bs q.
          let r = then_laid f g at ws rest bs q in
          omega (
            arith,
            r.long,
            m.takes at ws r.mid r.front r.before,
            n.takes (at + length r.front) r.mid rest r.tail r.after,
          );
    }

pub most_times : (n : ℕ) (f : Format) {k : ℕ} → Most k f → Most (n * k) (times n f)
most_times zero f {k} m = rw (times_zero f) (most_more (0 * k) (omega arith) most_done)
most_times (suc n) f {k} m = rw (times_suc n f) (most_more (suc n * k) (omega (arith, suc-mul n k)) (most_then f (times n f) m (most_times n f m)))

pub most_edges : (w wide nodes : ℕ) (last : List ℕ → Format) {j : ℕ} → ((es : List ℕ) → Most j (last es)) → (more : ℕ) (es : List ℕ)
    → Most (more * (w + w + wide) + j) (edges w wide nodes last more es)
unfolding edges
most_edges w wide nodes last {j} m zero es = most_more (0 * (w + w + wide) + j) (omega arith) (m es)
most_edges w wide nodes last {j} m (suc more) es =
    most_more (suc more * (w + w + wide) + j) (omega (arith, suc-mul more (w + w + wide)))
    (most_ask (λ a f. most_ask (λ b g. most_ask (λ k h. most_test (most_edges w wide nodes last m more (es ++ (a ∷ b ∷ k ∷ [])))))))

-- ---- bytes

-- F takes whole bytes, at most k, where it starts on a byte
pub record MostBytes (k : ℕ) (F : Format) : Type 0 where
  pub takes : (at : ℕ) (ws rest : List ℕ) (bs : List Bool) → at % 8 ≡ 0 → lay F at ws ≡ got bs rest → (length bs % 8 ≡ 0) × (length bs ≤ 8 * k)

pub bytes_more : {j : ℕ} (k : ℕ) {F : Format} → j ≤ k → MostBytes j F → MostBytes k F
bytes_more k h m = record { takes = λ at ws rest bs z q. let r = m.takes at ws rest bs z q in (r.0, omega arith) }

pub bytes_whole : (F : Format) {k : ℕ} → Most k F → MostBytes ((k + 7) / 8) (whole F)
bytes_whole F {k} m =
    record {
      takes = λ at ws rest bs z q.
          let a = aligned F at ws rest bs q in
          let p : lay (then F (pad done)) at ws ≡ got bs rest = ap (λ (G : Format). lay G at ws) (sym (whole_is F)) ∙ q in
          let n = (most_then F (pad done) m (most_pad most_done)).takes at ws rest bs p in
          let e : length bs % 8 ≡ 0 = omega arith in
          (e, omega arith);
    }

pub bytes_done : MostBytes 0 done
bytes_done = record { takes = λ at ws rest bs z q. let e = done_laid at ws rest bs q in (omega arith, omega arith) }

pub bytes_then : (f g : Format) {j k : ℕ} → MostBytes j f → MostBytes k g → MostBytes (j + k) (then f g)
bytes_then f g {j} {k} m n =
    record {
      takes = λ at ws rest bs z q.
          let r = then_laid f g at ws rest bs q in
          let a = m.takes at ws r.mid r.front z r.before in
          let b = n.takes (at + length r.front) r.mid rest r.tail (omega (arith, a.0)) r.after in
          (omega (arith, r.long, a.0, b.0), omega (arith, r.long, a.1, b.1));
    }

pub bytes_times : (n : ℕ) (f : Format) {k : ℕ} → MostBytes k f → MostBytes (n * k) (times n f)
bytes_times zero f {k} m = rw (times_zero f) (bytes_more (0 * k) (omega arith) bytes_done)
bytes_times (suc n) f {k} m = rw (times_suc n f) (bytes_more (suc n * k) (omega (arith, suc-mul n k)) (bytes_then f (times n f) m (bytes_times n f m)))

pub bytes_pad : {k : ℕ} {F : Format} → MostBytes k F → MostBytes k (pad F)
bytes_pad {k} {F} m =
    record {
      takes = λ at ws rest bs z q.
          let r = pad_laid F at ws rest bs q in
          let g = gap_none at z in
          let a = m.takes (at + gap at) ws rest r.tail (omega arith) r.after in
          (omega (arith, r.long, a.0), omega (arith, r.long, a.1));
    }

gap_after : (at w : ℕ) → at % 8 ≡ 0 → w + gap (at + w) ≡ 8 * ((w + 7) / 8)
unfolding gap
gap_after at w h = omega arith

-- a field that is filled up to a byte
pub bytes_ask : {w low bound e k : ℕ} {f : ℕ → Format} → ((v : ℕ) → v < bound → MostBytes k (f v)) → MostBytes ((w + 7) / 8 + k) (ask w low bound e (λ v. pad (f v)))
bytes_ask {w} {low} {bound} {e} {k} {f} m =
    record {
      takes = λ at ws rest bs z q.
          let r = field_laid w low bound e (λ v. pad (f v)) at ws rest bs q in
          let p = pad_laid (f r.v) (at + w) r.ws rest r.tail r.after in
          let g = gap_after at w z in
          let a = (m r.v r.most).takes (at + w + gap (at + w)) r.ws rest p.tail (omega arith) p.after in
          (omega (arith, r.long, p.long, a.0), omega (arith, r.long, p.long, a.1));
    }

-- ---- files

pub most_encode : (F : Format) (k : ℕ) (ws s : List ℕ) → MostBytes k (whole F) → encode F ws ≡ ok s → length s ≤ k
unfolding encode
most_encode F k ws s m e =
    let r = in_bytes_ok (ended (lay (whole F) 0 ws)) s e in
    let bs : List Bool = r.0 in
    let n = (m.takes 0 ws [] bs (omega arith) (ended_ok (lay (whole F) 0 ws) bs r.1)).1 in
    omega (arith, ap length r.2, length_bytes_of (length bs / 8) bs)

most_label : Most 5 label
unfolding label
most_label = most_ask (λ v h. most_done)

most_joined : (nodes : ℕ) (es : List ℕ) → Most 0 (joined nodes es)
unfolding joined
most_joined nodes es = most_test most_done

pub most_pattern : Most 443 pattern
unfolding pattern
most_pattern =
    most_ask {w = 5} {k = 438} (λ nodes h. most_ask {w = 6} {k = 432} (λ number g.
    most_more 432 (omega arith)
    (most_then (times nodes label) (edges 4 3 nodes (joined nodes) number []) (most_times nodes label most_label) (most_edges 4 3 nodes (joined nodes) (most_joined nodes) number []))))

pub most_catalogue : MostBytes 897 catalogue
unfolding catalogue
most_catalogue =
    bytes_ask {w = 5} {k = 896} (λ number h. bytes_more 896 (omega arith) (bytes_times number (whole pattern) (bytes_whole pattern most_pattern)))

most_labels : Most 32 labels
unfolding labels
most_labels = most_ask (λ v h. most_done)

most_rising : (nodes n least : ℕ) → Most (n * 27) (rising nodes n least)
unfolding rising
most_rising nodes zero least = most_more (0 * 27) (omega arith) most_done
most_rising nodes (suc n) least =
    most_more (suc n * 27) (omega arith)
    (most_ask {w = 12} (λ a f. most_ask {w = 12} (λ b g. most_ask {w = 3} (λ k h. most_test (most_rising nodes n (suc (rank a b k)))))))

pub most_record : Most 352283 record'
unfolding record'
most_record =
    most_ask {w = 13} {k = 352270} (λ nodes h. most_ask {w = 14} {k = 352256} (λ number g.
    most_more 352256 (omega arith)
    (most_then (times nodes labels) (rising nodes number 0) (most_times nodes labels most_labels) (most_rising nodes number 0))))

pub pattern_bytes_lem : (ws s : List ℕ) → encode pattern ws ≡ ok s → length s ≤ 56
pattern_bytes_lem ws s e = most_encode pattern 56 ws s (bytes_whole pattern most_pattern) e

pub catalogue_bytes : (ws s : List ℕ) → encode catalogue ws ≡ ok s → length s ≤ 897
catalogue_bytes ws s e =
    most_encode catalogue 897 ws s (rw (whole_is catalogue) (bytes_then catalogue (pad done) {k = 0} most_catalogue (bytes_pad bytes_done))) e

pub record_bytes : (ws s : List ℕ) → encode record' ws ≡ ok s → length s ≤ 44036
record_bytes ws s e = most_encode record' 44036 ws s (bytes_whole record' most_record) e

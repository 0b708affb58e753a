-- The moves of a reader and of a writer of a record: its counts, its labels and its edges.
use Prim.Native.Nat.{ℕ, zero, suc, ◌+◌, ◌-◌, ◌*◌, ◌/◌, ◌%◌, ◌^◌, ◌<◌, ◌≤◌}
use mathlib.Core.Path.{◌≡◌, refl, ap, ap₂, sym, ◌∙◌}
use mathlib.Core.List.{List, []}
use mathlib.Core.Bool.{Bool, true, false, ◌||◌}
use mathlib.Core.Logic.{◌⊎◌, inl, inr, ⊎_elim}
use lib.ListN.{length, set, length-set}
use lib.Seq.{sets, length-sets, get_or-set_other}
use lib.Dec.{leb, ltb}
use native.Mathlib.Omega.{arith}
use native.Mathlib.Nat.{sub-zero}
use native.Mathlib.Numerals.{add-one}
use borrow.Author.Tests.{leb-true, leb-false, le-leb, lt-leb, ltb-true, ltb-false}
use Rattle.packed.specs.Bits.{bits, bits_of, field, gap}
use Rattle.packed.specs.Format.{Format, done, ask, test, pad, then, times, whole, bad, encode}
use Rattle.packed.specs.Formats.{count_field, rank, rising, labels, record'}
use Rattle.packed.specs.Reading.{from, Reading, Refuses, Value, EdgeValues, Content}
use Rattle.packed.specs.Writing.{Writing, Rejects, Put, EdgePut}
use Rattle.packed.specs.Accepting.{reply_of}
use Rattle.packed.specs.LoadedGraph.{Cut, WordsAt, EdgesJudged, MoreJudged, MoreRefused, LoadsWords, WordsLoaded}
use Rattle.packed.specs.declared.reply.Refusal.{Refusal}
use Rattle.packed.specs.Refusals.{file_number}
use Rattle.packed.specs.declared.reply.File.{File}
use Rattle.packed.specs.declared.reply.File.TheVariants.{Record}
use Rattle.packed.specs.declared.reply.Refusal.TheVariants.{Truncated, NoSuchNode, NotAscending}
use Rattle.packed.proofs.BitsLaws.{length-bits, field_lt, field_add}
use Rattle.packed.specs.Order.{Outside}
use Rattle.packed.proofs.OrderCases.{lt_or_ge, or_cases, or_neither}
use Rattle.packed.proofs.Sets.{sets_beyond}
use Rattle.packed.proofs.RoundTrip.{Bytes, bits_bytes_of, whole_is}
use Rattle.packed.proofs.ReadingLaws.{starts, same_at, left_is, goes_on, calls, calls_refused, refused, reads, passes, fails, too_high, field_short, field_wrong}
use Rattle.packed.proofs.WritingLaws.{begins, same_to, left_to, parts, writes, accepts, denies, rejected, fills}
use Rattle.packed.proofs.Files.{written_whole_tail, written_whole_ok}
use Rattle.packed.proofs.GraphLaws.{words_start, words_more}
use Rattle.packed.specs.Parts.{Part}
use Rattle.std.specs.Prelude.{Ok, Err}

-- ---- what comes next
pub labels_next : (left : ℕ) → 0 < left → times left labels ≡ ask 32 0 (2 ^ 32) 3 (λ v. times (left - 1) labels)
unfolding times labels then
labels_next left h = let q : left ≡ suc (left - 1) = omega arith in ap (λ (n : ℕ). times n labels) q

pub labels_none : (left : ℕ) → left ≤ 0 → times left labels ≡ done
unfolding times
labels_none left h = let q : left ≡ 0 = omega arith in ap (λ (n : ℕ). times n labels) q

labels_suc : (n : ℕ) → times (suc n) labels ≡ ask 32 0 (2 ^ 32) 3 (λ v. times n labels)
unfolding times labels then
labels_suc n = refl

pub record_is : record' ≡ count_field 13 0 4096 (λ nodes. count_field 14 0 8192 (λ number. then (times nodes labels) (rising nodes number 0)))
unfolding record'
record_is = refl

-- after the edge from a to b of the kind k
abbrev after_edge : ℕ → ℕ → ℕ → ℕ → ℕ → ℕ → Format
after_edge nodes left least a b k = test (leb least (rank a b k)) 6 (rising nodes (left - 1) (suc (rank a b k)))

abbrev next_edge : ℕ → (ℕ → ℕ → ℕ → Format) → Format
next_edge nodes f = ask 12 0 nodes 4 (λ a. ask 12 0 nodes 4 (λ b. ask 3 0 8 3 (λ k. f a b k)))

rising_more : (nodes left least : ℕ) → 0 < left → rising nodes left least ≡ next_edge nodes (after_edge nodes left least)
unfolding rising
rising_more nodes left least h = let q : left ≡ suc (left - 1) = omega arith in ap (λ (n : ℕ). rising nodes n least) q

pub rising_end : (nodes left least : ℕ) → left ≤ 0 → rising nodes left least ≡ done
unfolding rising
rising_end nodes zero least h = refl
rising_end nodes (suc n) least h = absurd (omega arith)

-- ---- reading
-- one edge more
module _ {F : Format} {s : List ℕ} {at₀ : ℕ} {w₀ : List ℕ} {i₀ : ℕ} (nodes left least : ℕ) {at : ℕ} {w : List ℕ} {i : ℕ} (h : 0 < left)
    (r : Reading F s at₀ w₀ i₀ (rising nodes left least) at w i) where
  edge_read : {a b k : ℕ} {w' : List ℕ} → EdgeValues 12 nodes s at w i a b k w' → Reading F s at₀ w₀ i₀ (after_edge nodes left least a b k) (at + 27) w' (i + 3)
  edge_read p =
      same_at (omega arith) (omega arith)
      (reads (same_at (omega arith) (omega arith) (reads (reads (left_is (rising_more nodes left least h) r) p.ends.first) p.ends.second)) p.kind)

  edge_passes : {a b k : ℕ} {w' : List ℕ} → EdgeValues 12 nodes s at w i a b k w' → least ≤ rank a b k
      → Reading F s at₀ w₀ i₀ (rising nodes (left - 1) (rank a b k + 1)) (at + 27) w' (i + 3)
  edge_passes {a} {b} {k} p g = left_is (ap (rising nodes (left - 1)) (sym (add-one (rank a b k)))) (passes (le-leb least (rank a b k) g) (edge_read p))

  -- it doesn't exceed the one before
  edge_falls : {file : File} {a b k : ℕ} {w' : List ℕ} → EdgeValues 12 nodes s at w i a b k w' → rank a b k < least → Refuses F s at₀ (file_number file) (NotAscending file)
  edge_falls {file} {a} {b} {k} p g = fails (NotAscending file) (lt-leb least (rank a b k) g) refl (edge_read p)

  edge_refused : {file : ℕ} {x : Refusal} → ((f : ℕ → ℕ → ℕ → Format) → Refuses (next_edge nodes f) s at file x) → Refuses F s at₀ file x
  edge_refused p = refused (left_is (rising_more nodes left least h) r) (p (after_edge nodes left least))

-- any 32 bits are right for the labels of a node
labels_value : (s : List ℕ) (at i : ℕ) → at + 32 ≤ 8 * length s → Value 32 0 (2 ^ 32) s at [] i (field s at 32) []
labels_value s at i h = record { some = omega arith; fits = h; is = refl; least = omega arith; most = field_lt s at 32 32 (omega arith); stored = refl }

-- so that those of n nodes are read where they are there
pub labels_there : (n : ℕ) {F : Format} {s : List ℕ} {at₀ i₀ at i : ℕ} → Reading F s at₀ [] i₀ (times n labels) at [] i → at + 32 * n ≤ 8 * length s
    → Reading F s at₀ [] i₀ done (at + 32 * n) [] (i + n)
labels_there zero r h = same_at (omega arith) (omega arith) (left_is (labels_none 0 (omega arith)) r)
labels_there (suc n) {s = s} {at = at} {i} r h =
    same_at (omega arith) (omega arith)
    (labels_there n (reads (left_is (labels_suc n) r) (labels_value s at i (omega arith))) (omega arith))

-- and refused where they are not
pub labels_short : (n : ℕ) {s : List ℕ} {at : ℕ} → at ≤ 8 * length s → 8 * length s < at + 32 * n → Refuses (times n labels) s at 3 (Truncated Record)
labels_short zero l h = absurd (omega arith)
labels_short (suc n) {s} {at} l h =
    ⊎_elim
    (λ (g : 8 * length s < at + 32).
    record {
      number = ap (λ (F : Format). from F s at) (labels_suc n) ∙ field_short s at 32 0 (2 ^ 32) 3 (λ v. times n labels) l g;
      detail = refl;
    })
    (λ (g : at + 32 ≤ 8 * length s).
    refused (reads (left_is (labels_suc n) (starts {w₀ = []} {i₀ = 0} l)) (labels_value s at 0 g)) (labels_short n (omega arith) (omega arith)))
    (lt_or_ge (8 * length s) (at + 32))

-- ---- a record up to its edges; no words are stored, so that it does not matter where they would go
pub value_none : {wide low bound : ℕ} {s : List ℕ} {at : ℕ} {w : List ℕ} {i v : ℕ} {w' : List ℕ} → Value wide low bound s at w i v w' → Value wide low bound s at [] i v []
value_none p = record { some = p.some; fits = p.fits; is = p.is; least = p.least; most = p.most; stored = refl }

reading_from : (k : ℕ) {F G : Format} {s : List ℕ} {at₀ at i : ℕ} → Reading F s at₀ [] 0 G at [] i → Reading F s at₀ [] k G at [] (k + i)
reading_from k r =
    record {
      read = r.read;
      comes = r.comes;
      holds = sym (sets_beyond [] k r.read (omega arith));
      next = omega (arith, r.next);
      inside = r.inside;
      paced = omega (arith, r.paced);
    }

module _ {s : List ℕ} {nodes : ℕ} (p : Value 13 0 4097 s 0 [] 0 nodes []) where
  pub record_nodes : Reading record' s 0 [] 0 (count_field 14 0 8192 (λ number. then (times nodes labels) (rising nodes number 0))) 13 [] 1
  record_nodes = reads (left_is record_is (starts (omega arith))) p

  module _ {number : ℕ} (q : Value 14 0 8193 s 13 [] 1 number []) where
    record-number : Reading record' s 0 [] 0 (then (times nodes labels) (rising nodes number 0)) 27 [] 2
    record-number = reads record_nodes q

    pub record_short : 8 * length s < 27 + 32 * nodes → Refuses record' s 0 3 (Truncated Record)
    record_short h = calls_refused (times nodes labels) (rising nodes number 0) record-number (labels_short nodes record-number.inside h)

    record-labels : 27 + 32 * nodes ≤ 8 * length s → Reading record' s 0 [] 0 (rising nodes number 0) (27 + 32 * nodes) [] (2 + nodes)
    record-labels h = calls (times nodes labels) (rising nodes number 0) record-number (labels_there nodes (starts record-number.inside) h)

    pub record_read_lem : {at i : ℕ} → 27 + 32 * nodes ≤ 8 * length s → Reading (rising nodes number 0) s (27 + 32 * nodes) [] 0 done at [] i
        → Reading record' s 0 [] 0 done at [] (2 + nodes + i)
    record_read_lem h r = goes_on (record-labels h) (reading_from (2 + nodes) r)

    pub record_refused : {x : Refusal} → 27 + 32 * nodes ≤ 8 * length s → Refuses (rising nodes number 0) s (27 + 32 * nodes) 3 x → Refuses record' s 0 3 x
    record_refused h r = refused (record-labels h) r

-- ---- the edges, by their ranks
-- the fields of an edge whose bits are all there, from its rank
module _ (s : List ℕ) (at r : ℕ) (there : at + 27 ≤ 8 * length s) (is : r ≡ field s at 27) where
  fields : r ≡ (field s at 12 * 4096 + field s (at + 12) 12) * 8 + field s (at + 24) 3
  fields =
      is
      ∙ field_add s at 24 3 (omega arith)
      ∙ ap (λ (c : ℕ). c * 8 + field s (at + 24) 3) (field_add s at 12 12 (omega arith))

  from_is : r / 8 / 4096 ≡ field s at 12
  from_is = omega (arith, fields, field_lt s (at + 12) 12 12 (omega arith), field_lt s (at + 24) 3 3 (omega arith))

  to_is : r / 8 % 4096 ≡ field s (at + 12) 12
  to_is = omega (arith, fields, field_lt s (at + 12) 12 12 (omega arith), field_lt s (at + 24) 3 3 (omega arith))

  kind_is : r % 8 ≡ field s (at + 24) 3
  kind_is = omega (arith, fields, field_lt s (at + 24) 3 3 (omega arith))

  word_is : r % 8 * 2 ^ 24 + r / 8 ≡ field s (at + 24) 3 * 2 ^ 24 + (field s at 12 * 4096 + field s (at + 12) 12)
  word_is = omega (arith, fields, field_lt s (at + 24) 3 3 (omega arith))

  module _ (nodes : ℕ) where
    from-value : (i : ℕ) → r / 8 / 4096 < nodes → Value 12 0 nodes s at [] i (r / 8 / 4096) []
    from-value i h = record { some = omega arith; fits = omega arith; is = from_is; least = omega arith; most = h; stored = refl }

    edge-values : (i : ℕ) → r / 8 / 4096 < nodes → r / 8 % 4096 < nodes → EdgeValues 12 nodes s at [] i (r / 8 / 4096) (r / 8 % 4096) (r % 8) []
    edge-values i h g =
        record {
          between = [];
          ends = record {
            between = [];
            first = from-value i h;
            second = record { some = omega arith; fits = omega arith; is = to_is; least = omega arith; most = g; stored = refl };
          };
          kind = record { some = omega arith; fits = omega arith; is = kind_is; least = omega arith; most = omega arith; stored = refl };
        }

    -- an end that is no node
    from-stray : (f : ℕ → Format) → nodes ≤ r / 8 / 4096 → Refuses (ask 12 0 nodes 4 f) s at 3 (NoSuchNode Record)
    from-stray f h = record { number = field_wrong s at 12 0 nodes 4 f (r / 8 / 4096) (omega arith) from_is (too_high 0 nodes (r / 8 / 4096) h); detail = refl }

    to-stray : (f : ℕ → Format) → nodes ≤ r / 8 % 4096 → Refuses (ask 12 0 nodes 4 f) s (at + 12) 3 (NoSuchNode Record)
    to-stray f h = record { number = field_wrong s (at + 12) 12 0 nodes 4 f (r / 8 % 4096) (omega arith) to_is (too_high 0 nodes (r / 8 % 4096) h); detail = refl }

    edge-stray : (nodes ≤ r / 8 / 4096) ⊎ (nodes ≤ r / 8 % 4096) → (f : ℕ → ℕ → ℕ → Format) → Refuses (next_edge nodes f) s at 3 (NoSuchNode Record)
    edge-stray t f =
        ⊎_elim
        (λ (h : r / 8 / 4096 < nodes).
        refused (reads (starts {w₀ = []} {i₀ = 0} (omega arith)) (from-value 0 h))
        (to-stray (λ b. ask 3 0 8 3 (λ k. f (r / 8 / 4096) b k)) (⊎_elim (λ (g : nodes ≤ r / 8 / 4096). absurd (omega arith)) (λ g. g) t)))
        (λ (h : nodes ≤ r / 8 / 4096). from-stray (λ a. ask 12 0 nodes 4 (λ b. ask 3 0 8 3 (λ k. f a b k))) h)
        (lt_or_ge (r / 8 / 4096) nodes)

pub rank_lt : (s : List ℕ) (at r : ℕ) → r ≡ field s at 27 → r < 2 ^ 27
rank_lt s at r e = omega (arith, e, field_lt s at 27 27 (omega arith))

-- whether an end of the edge with this code is no node
abbrev strays : ℕ → ℕ → Bool
strays nodes code = leb nodes (code / 4096) || leb nodes (code % 4096)

strays_no : (nodes code : ℕ) → strays nodes code ≡ false → (code / 4096 < nodes) × (code % 4096 < nodes)
strays_no nodes code e =
    let q = or_neither (leb nodes (code / 4096)) (leb nodes (code % 4096)) e in
    (leb-false nodes (code / 4096) q.0, leb-false nodes (code % 4096) q.1)

same_count : {s : List ℕ} {start nodes number : ℕ} {w₀ w : List ℕ} {least k k' : ℕ} → k ≡ k' → EdgesJudged s start nodes number w₀ w least k
    → EdgesJudged s start nodes number w₀ w least k'
same_count e j = rw e at j

pub judged_start : (s : List ℕ) (start nodes number : ℕ) (w : List ℕ) → start ≤ 8 * length s → EdgesJudged s start nodes number w w 0 0
judged_start s start nodes number w h =
    record {
      reading = same_at (omega arith) refl (left_is (ap (λ (k : ℕ). rising nodes k 0) (sym (sub-zero number))) (starts h));
      words = words_start s start number w;
    }

module _ {s : List ℕ} {start nodes number : ℕ} {w₀ w : List ℕ} {least k : ℕ} (j : EdgesJudged s start nodes number w₀ w least k) where
  pub judged_end : (at : ℕ) → at ≡ start + 27 * k → k ≡ number → LoadsWords s start nodes number w₀ (Ok (at, (3 * number))) w
  judged_end at place e =
      (same_at (sym place) (ap (λ (i : ℕ). 3 * i) e) (left_is (rising_end nodes (number - k) least (omega arith)) j.reading), rw e at j.words)

  pub judged_cut : (at : ℕ) {x : Refusal} → at ≡ start + 27 * k → k < number → Cut s at nodes x → Refuses (rising nodes number 0) s start 3 x
  judged_cut at place h c = edge_refused nodes (number - k) least (omega arith) j.reading (rw (← place) c)

  -- one edge more, whose bits are all there
  module _ (at r : ℕ) (h : k < number) (place : at ≡ start + 27 * k) (there : start + 27 * k + 27 ≤ 8 * length s) (read : r ≡ field s at 27) where
    is : r ≡ field s (start + 27 * k) 27
    is = read ∙ ap (λ (i : ℕ). field s i 27) place

    pub judged_stray : strays nodes (r / 8) ≡ true → Refuses (rising nodes number 0) s start 3 (NoSuchNode Record)
    judged_stray t =
        edge_refused nodes (number - k) least (omega arith) j.reading
        (edge-stray s (start + 27 * k) r there is nodes
        (⊎_elim (λ e. inl (leb-true nodes (r / 8 / 4096) e)) (λ e. inr (leb-true nodes (r / 8 % 4096) e)) (or_cases (leb nodes (r / 8 / 4096)) (leb nodes (r / 8 % 4096)) t)))

    module _ (fine : strays nodes (r / 8) ≡ false) where
      values : EdgeValues 12 nodes s (start + 27 * k) [] (3 * k) (r / 8 / 4096) (r / 8 % 4096) (r % 8) []
      values = let f = strays_no nodes (r / 8) fine in edge-values s (start + 27 * k) r there is nodes (3 * k) f.0 f.1

      again : rank (r / 8 / 4096) (r / 8 % 4096) (r % 8) ≡ r
      again = omega arith

      pub judged_falls : r < least → Refuses (rising nodes number 0) s start 3 (NotAscending Record)
      judged_falls l = edge_falls nodes (number - k) least (omega arith) j.reading values (omega (arith, again))

      pub judged_more : {c : ℕ} → least ≤ r → k < length w → c ≡ r % 8 * 2 ^ 24 + r / 8 → EdgesJudged s start nodes number w₀ (set w k c) (r + 1) (k + 1)
      judged_more l m e =
          record {
            reading =
                same_at (omega arith) (omega arith)
                (left_is (ap₂ (rising nodes) (let z : number - k - 1 ≡ number - (k + 1) = omega arith in z) (ap (λ (c : ℕ). c + 1) again))
                (edge_passes nodes (number - k) least (omega arith) j.reading values (omega (arith, again))));
            words = words_more j.words h m (e ∙ word_is s (start + 27 * k) r there is);
          }

-- ---- several edges more
module _ (s : List ℕ) (at nodes least : ℕ) (w : List ℕ) (k : ℕ) where
  pub more_refused : (r : ℕ) → at + 27 ≤ 8 * length s → r ≡ field s at 27 → (strays nodes (r / 8) || ltb r least) ≡ true → MoreRefused s at nodes 1 least w k w
  more_refused r there read wrong =
      record {
        around = record { long = refl; low = λ j h. refl; high = λ j h. refl };
        refused = λ start number w₀ place n j. why start number w₀ place n j (strays nodes (r / 8)) refl wrong;
      }
    where
      why : (start number : ℕ) (w₀ : List ℕ) → at ≡ start + 27 * k → k + 1 ≤ number → EdgesJudged s start nodes number w₀ w least k
          → (b : Bool) → strays nodes (r / 8) ≡ b → (b || ltb r least) ≡ true → (x : Refusal) × Refuses (rising nodes number 0) s start 3 x
      why start number w₀ place n j true e t = (NoSuchNode Record, judged_stray j at r (omega arith) place (omega arith) read e)
      why start number w₀ place n j false e t = (NotAscending Record, judged_falls j at r (omega arith) place (omega arith) read e (ltb-true r least t))

  pub more_one : (c r : ℕ) → at + 27 ≤ 8 * length s → k < length w → r ≡ field s at 27 → c ≡ r % 8 * 2 ^ 24 + r / 8 → (strays nodes (r / 8) || ltb r least) ≡ false
      → MoreJudged s at nodes 1 least w k (r + 1) (set w k c)
  more_one c r there m read e fine = record {
    around = record {
      long = length-set w k c;
      low = λ j h. get_or-set_other w k j c 0 (λ e. omega arith);
      high = λ j h. get_or-set_other w k j c 0 (λ e. omega arith);
    };
    judged =
        λ start number w₀ place n j.
        let q = or_neither (strays nodes (r / 8)) (ltb r least) fine in
        judged_more j at r (omega arith) place (omega arith) read q.0 (ltb-false r least q.1) m e;
  }

module _ {s : List ℕ} {at nodes n least : ℕ} {w : List ℕ} {k a : ℕ} {w' : List ℕ} (p : MoreJudged s at nodes n least w k a w') {w'' : List ℕ} where
  both : Outside (k + n) 1 w' w'' → Outside k (n + 1) w w''
  both q =
      record {
        long = q.long ∙ p.around.long;
        low = λ j h. q.low j (omega arith) ∙ p.around.low j h;
        high = λ j h. q.high j (omega arith) ∙ p.around.high j (omega arith);
      }

  pub more_next : {r : ℕ} → MoreJudged s (at + 27 * n) nodes 1 a w' (k + n) r w'' → MoreJudged s at nodes (n + 1) least w k r w''
  more_next q =
      record {
        around = both q.around;
        judged = λ start number w₀ place m j. same_count (omega arith) (q.judged start number w₀ (omega arith) (omega arith) (p.judged start number w₀ place (omega arith) j));
      }

  pub more_stopped : MoreRefused s (at + 27 * n) nodes 1 a w' (k + n) w'' → (m : ℕ) → n < m → MoreRefused s at nodes m least w k w''
  more_stopped q m l =
      let o = both q.around in
      record {
        around = record { long = o.long; low = o.low; high = λ j h. o.high j (omega arith) };
        refused = λ start number w₀ place d j. q.refused start number w₀ (omega arith) (omega arith) (p.judged start number w₀ place (omega arith) j);
      }

-- the edges before them stay
pub judged_kept : {s : List ℕ} {at nodes n least : ℕ} {w : List ℕ} {k : ℕ} {w' : List ℕ} → MoreRefused s at nodes n least w k w'
    → {start number : ℕ} {w₀ : List ℕ} {l : ℕ} → k + n ≤ number → EdgesJudged s start nodes number w₀ w l k → EdgesJudged s start nodes number w₀ w' l k
judged_kept p m j =
    record {
      reading = j.reading;
      words = record {
        long = p.around.long ∙ j.words.long;
        rest = λ i h. p.around.high i (omega arith) ∙ j.words.rest i h;
        each = λ i h. p.around.low i h ∙ j.words.each i h;
      };
    }

-- of a record that is not refused
pub words_loaded : {s w w' : List ℕ} {nodes number : ℕ} (r : Part) → nodes ≡ field s 0 13 → number ≡ field s 13 14 → WordsAt s (27 + 32 * nodes) number number w w'
    → WordsLoaded s w (reply_of r) w'
words_loaded (Ok (at, i)) e d c = rw (e, d) at c
words_loaded (Err x) e d c = tt

-- ---- writing
-- one edge more
module _ {F : Format} {ws : List ℕ} {i₀ : ℕ} {b₀ : List ℕ} {at₀ : ℕ} (nodes left least : ℕ) {i : ℕ} {b : List ℕ} {at : ℕ} (h : 0 < left)
    (r : Writing F ws i₀ b₀ at₀ (rising nodes left least) i b at) where
  edge_put : {x y z : ℕ} {b' : List ℕ} → EdgePut 12 nodes ws i b at x y z b' → Writing F ws i₀ b₀ at₀ (after_edge nodes left least x y z) (i + 3) b' (at + 27)
  edge_put p =
      same_to (omega arith) (omega arith)
      (writes (same_to (omega arith) (omega arith) (writes (writes (left_to (rising_more nodes left least h) r) p.ends.first) p.ends.second)) p.kind)

  pub edge_accepted : {x y z : ℕ} {b' : List ℕ} → EdgePut 12 nodes ws i b at x y z b' → least ≤ rank x y z
      → Writing F ws i₀ b₀ at₀ (rising nodes (left - 1) (rank x y z + 1)) (i + 3) b' (at + 27)
  edge_accepted {x} {y} {z} p g = left_to (ap (rising nodes (left - 1)) (sym (add-one (rank x y z)))) (accepts (le-leb least (rank x y z) g) (edge_put p))

  -- it doesn't exceed the one before
  pub edge_denied : {file : File} {x y z : ℕ} {b' : List ℕ} → EdgePut 12 nodes ws i b at x y z b' → rank x y z < least → Rejects F ws i₀ at₀ (file_number file) (NotAscending file)
  edge_denied {file} {x} {y} {z} p g = denies (NotAscending file) (lt-leb least (rank x y z) g) refl (edge_put p)

  pub edge_rejected : {file : ℕ} {x : Refusal} → ((f : ℕ → ℕ → ℕ → Format) → Rejects (next_edge nodes f) ws i at file x) → Rejects F ws i₀ at₀ file x
  edge_rejected p = rejected (left_to (rising_more nodes left least h) r) (p (after_edge nodes left least))

-- a record up to its edges
module _ {ws b b₁ : List ℕ} {nodes : ℕ} (p : Put 13 0 4097 ws 0 b 0 nodes b₁) where
  pub nodes_written : Writing record' ws 0 b 0 (count_field 14 0 8192 (λ number. then (times nodes labels) (rising nodes number 0))) 1 b₁ 13
  nodes_written = writes (left_to record_is (begins (omega arith))) p

  module _ {b₂ : List ℕ} {number : ℕ} (q : Put 14 0 8193 ws 1 b₁ 13 number b₂) where
    pub number_written : Writing record' ws 0 b 0 (then (times nodes labels) (rising nodes number 0)) 2 b₂ 27
    number_written = writes nodes_written q

    pub labels_written : {i : ℕ} {b₃ : List ℕ} {at : ℕ} → Writing (times nodes labels) ws 2 b₂ 27 done i b₃ at
        → Writing record' ws 0 b 0 (rising nodes number 0) i b₃ at
    labels_written r = parts (times nodes labels) (rising nodes number 0) number_written r

-- ---- the end of a content
module _ {F : Format} {ws b₀ : List ℕ} {i : ℕ} {b : List ℕ} {at : ℕ} (byte : ℕ) (fits : 8 * byte ≡ at + gap at) (r : Writing F ws 0 b₀ 0 done i b at) where
  filled : {b' : List ℕ} → bits b' ≡ sets (bits b) at (bits_of (gap at) 0) → Writing (whole F) ws 0 b₀ 0 done i b' (8 * byte)
  filled z =
      same_to refl (sym fits)
      (fills z (parts F (pad done) (left_to (whole_is F) (begins {F = whole F} {ws = ws} {i₀ = 0} {b₀ = b₀} {at₀ = 0} (omega arith))) r))

  pub filled_ok : {b' : List ℕ} → bits b' ≡ sets (bits b) at (bits_of (gap at) 0) → length ws ≤ i → Bytes b₀ → Bytes b' → Content (encode F ws) byte b₀ b'
  filled_ok z h y₀ y = written_whole_ok F byte (filled z) h y₀ y

  -- fields are left over, whether or not the zero bits are written
  pub filled_tail : i < length ws → encode F ws ≡ bad 9
  filled_tail h =
      let t : List Bool = sets (bits b) at (bits_of (gap at) 0) in
      let n : length t ≡ 8 * length b = length-sets (bits b) at (bits_of (gap at) 0) ∙ length-bits b in
      written_whole_tail F byte (filled (bits_bytes_of (length b) t n)) h

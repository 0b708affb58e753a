-- For an accepted book, the walks over its bits and over its fields find the pairs of its content, list by list.
use mathlib.Core.Path.{◌≡◌, refl, ap, ap₂, ◌∙◌, sym, subst}
use mathlib.Core.Bool.{Bool, not}
use mathlib.Core.List.{List, [], ◌∷◌, ◌++◌, map, flatten, append-nil, append_assoc}
use Prim.Native.Nat.{ℕ, zero, suc, ◌+◌, ◌-◌, ◌*◌, ◌%◌, ◌<◌, ◌≤◌}
use native.Mathlib.Omega.{arith}
use native.Mathlib.Numerals.{one-add}
use native.Mathlib.Nat.{add-zero, mod-eq_of_lt}
use lib.Dec.{leb, eqb}
use lib.ListN.{length, take, drop, get_or, replicate, length-append, length-drop}
use lib.Seq.{drop_at, drop-drop, get_or-drop}
use borrow.Author.Tests.{leb-true}
use Rattle.packed.specs.Bits.{bits, num, field, zeros, gap}
use Rattle.packed.specs.Format.{Format, done, ask, pad, then, whole, Got, got, fault, within, scan, ok, decode, encode}
use Rattle.packed.specs.Formats.{code, pairs, lists, standing, sheet, book}
use Rattle.packed.specs.Contents.{codes_in, lists_in, after_lists, sheet_lists, after_sheet, sheets_in}
use Rattle.packed.specs.Distinct.{BelowHead, Increasing}
use Rattle.packed.specs.Walks.{field_or, codes_at, list_end, pairs_at, lists_end, lists_first, lists_count, lists_last, sheet_pairs, sheet_end, book_pairs, codes_from, pairs_from, fields_end, book_pairs_from}
use Rattle.packed.specs.BookSheets.{sheet_at}
use Rattle.packed.proofs.BitsLaws.{length-bits, field_add}
use Rattle.packed.proofs.RoundTrip.{push_got, pick_got, below_bound, ended_ok, onward, scan_done, scan_test, scan_then, encode_decode}
use Rattle.packed.proofs.ReadingLaws.{gap_of, gap_in}
use Rattle.packed.proofs.Walks.{field_or_in}

-- ---- a pass taken apart
-- f, and then g
record Parts (f g : Format) (bs : List Bool) (ws : List ℕ) (rest : List Bool) : Type 0 where
  front : List ℕ
  left : List Bool
  back : List ℕ
  first : scan f bs ≡ got front left
  second : scan g left ≡ got back rest
  splits : ws ≡ front ++ back

onward_parts : (f g : Format) (bs : List Bool) (ws : List ℕ) (rest : List Bool) (r : Got ℕ Bool) → scan f bs ≡ r
    → onward r (λ xs t. scan g t) ≡ got ws rest → Parts f g bs ws rest
onward_parts f g bs ws rest (got xs t) p e =
    let q = push_got xs (scan g t) ws rest e in
    record { front = xs; left = t; back = q.0; first = p; second = q.1; splits = q.2 }
onward_parts f g bs ws rest (fault n) p e = absurd (let z : ◌≡◌ {A = ℕ} 0 1 = cc in omega arith)

parts : (f g : Format) (bs : List Bool) (ws : List ℕ) (rest : List Bool) → scan (then f g) bs ≡ got ws rest → Parts f g bs ws rest
parts f g bs ws rest e = onward_parts f g bs ws rest (scan f bs) refl (sym (scan_then f g bs) ∙ e)

-- zero bits up to a whole byte, and nothing more
pad_got : (bs : List Bool) (ws : List ℕ) (rest : List Bool) → scan (pad done) bs ≡ got ws rest → (ws ≡ []) × (rest ≡ drop (length bs % 8) bs)
unfolding scan
pad_got bs ws rest e =
    let p = pick_got (zeros (take (length bs % 8) bs)) _ 9 ws rest e in
    let q : got [] (drop (length bs % 8) bs) ≡ got ws rest = p.1 in
    (cc, cc)

-- a field, and then what follows it
record Took (s : List ℕ) (at w bound : ℕ) (f : ℕ → Format) (ws : List ℕ) (rest : List Bool) : Type 0 where
  next : List ℕ
  splits : ws ≡ field_or s at w ∷ next
  small : field_or s at w < bound
  fits : at + w ≤ 8 * length s
  goes : scan (f (field_or s at w)) (drop (at + w) (bits s)) ≡ got next rest

took : (s : List ℕ) (at w low bound e : ℕ) (f : ℕ → Format) (ws : List ℕ) (rest : List Bool) → at ≤ 8 * length s
    → scan (ask w low bound e f) (drop at (bits s)) ≡ got ws rest → Took s at w bound f ws rest
unfolding scan
took s at w low bound e f ws rest h g =
    let d : List Bool = drop at (bits s) in
    let v : ℕ = num (take w d) in
    let p = pick_got (leb w (length d)) _ 2 ws rest g in
    let fits : at + w ≤ 8 * length s = omega (arith, leb-true w (length d) p.0, length-drop at (bits s), length-bits s) in
    let q = pick_got (within low bound v) _ e ws rest p.1 in
    let t = push_got (v ∷ []) (scan (f v) (drop w d)) ws rest q.1 in
    let is : v ≡ field_or s at w = sym (field_or_in s at w fits ∙ (unfold field in refl)) in
    record {
      next = t.0;
      splits = t.2 ∙ ap (λ (x : ℕ). x ∷ t.0) is;
      small = subst (λ (x : ℕ). x < bound) is (below_bound low bound v q.0);
      fits = fits;
      goes = ap (λ (x : ℕ). scan (f x) (drop (at + w) (bits s))) (sym is) ∙ ap (scan (f v)) (sym (drop-drop w at (bits s))) ∙ t.1;
    }

-- ---- the content of pairs and of lists, wherever it stands
-- ps are the fields of k pairs with these codes
record PairFields (k : ℕ) (ps codes : List ℕ) : Type 0 where
  long : length ps ≡ 2 * k
  within : (more : List ℕ) → codes_in k (ps ++ more) ≡ codes
  from : (l : List ℕ) (i : ℕ) (more : List ℕ) → drop i l ≡ ps ++ more → codes_from l i k ≡ codes

-- ws are the fields of m lists with these codes
record ListFields (m : ℕ) (ws codes : List ℕ) : Type 0 where
  from : (l : List ℕ) (i : ℕ) (more : List ℕ) → drop i l ≡ ws ++ more → (pairs_from l i m ≡ codes) × (fields_end l i m ≡ i + length ws)

-- ws are the fields of a book with these codes
record BookFields (ms ws codes : List ℕ) : Type 0 where
  from : (l : List ℕ) (i : ℕ) (more : List ℕ) → drop i l ≡ ws ++ more → book_pairs_from l i ms ≡ codes

-- what stands at i, and after it
head_at : (l : List ℕ) (i x : ℕ) (xs : List ℕ) → drop i l ≡ x ∷ xs → get_or l i 0 ≡ x
head_at l i x xs e = ap (λ (j : ℕ). get_or l j 0) (sym (add-zero i)) ∙ sym (get_or-drop i l 0 0) ∙ ap (λ (t : List ℕ). get_or t 0 0) e

tail_at : (l : List ℕ) (i : ℕ) (xs ys : List ℕ) (n : ℕ) → length xs ≡ n → drop i l ≡ xs ++ ys → drop (i + n) l ≡ ys
tail_at l i xs ys n h e = sym (drop-drop n i l) ∙ ap (drop n) e ∙ drop_at xs ys n h

no_pairs : PairFields 0 [] []
no_pairs = record { long = refl; within = λ more. (unfold codes_in in refl); from = λ l i more e. (unfold codes_from in refl) }

pair_fields : (k a b : ℕ) (ps codes : List ℕ) → a < 4096 → b < 4096 → PairFields k ps codes → PairFields (suc k) (a ∷ b ∷ ps) (code a b ∷ codes)
pair_fields k a b ps codes ha hb t =
    record {
      long = omega (arith, t.long);
      within = λ more. (unfold codes_in in ap (λ (l : List ℕ). code a b ∷ l) (t.within more));
      from = λ l i more e.
          (unfold codes_from in
          let x : get_or l i 0 ≡ a = head_at l i a (b ∷ (ps ++ more)) e in
          let d : drop (i + 1) l ≡ b ∷ (ps ++ more) = tail_at l i (a ∷ []) (b ∷ (ps ++ more)) 1 refl e in
          let y : get_or l (i + 1) 0 ≡ b = head_at l (i + 1) b (ps ++ more) d in
          rw (x, y, mod-eq_of_lt ha, mod-eq_of_lt hb, t.from l (i + 2) more (tail_at l i (a ∷ b ∷ []) (ps ++ more) 2 refl e)));
    }

no_lists : ListFields 0 [] []
no_lists = record { from = λ l i more e. ((unfold pairs_from in refl), (unfold fields_end in sym (add-zero i))) }

-- one list more, in front
list_fields : (m n : ℕ) (ps codes ws others : List ℕ) → n < 16384 → PairFields n ps codes → ListFields m ws others → ListFields (suc m) (n ∷ (ps ++ ws)) (codes ++ others)
unfolding pairs_from fields_end
list_fields m n ps codes ws others h p t =
    record {
      from = λ l i more e.
          let f : drop i l ≡ n ∷ (ps ++ (ws ++ more)) = e ∙ ap (λ (x : List ℕ). n ∷ x) (append_assoc ps ws more) in
          let x : get_or l i 0 ≡ n = head_at l i n (ps ++ (ws ++ more)) f in
          let d : drop (i + 1) l ≡ ps ++ (ws ++ more) = tail_at l i (n ∷ []) (ps ++ (ws ++ more)) 1 refl f in
          let r : drop (i + (1 + 2 * n)) l ≡ ws ++ more = tail_at l i (n ∷ ps) (ws ++ more) (1 + 2 * n) (omega (arith, p.long)) f in
          let q = t.from l (i + (1 + 2 * n)) more r in (
            rw (x, mod-eq_of_lt h, p.from l (i + 1) (ws ++ more) d, q.0),
            rw (x, mod-eq_of_lt h, q.1) (omega (arith, length-append ps ws, p.long)),
          );
    }

no_sheets : BookFields [] [] []
no_sheets = record { from = λ l i more e. (unfold book_pairs_from in refl) }

-- one sheet more, in front: its lead, and the lists that stand
sheet_fields_lem : (m lead : ℕ) (ms ws codes us others : List ℕ) → lead < 2 → ListFields (standing lead m) ws codes → BookFields ms us others
    → BookFields (m ∷ ms) ((lead ∷ ws) ++ us) (codes ++ others)
unfolding book_pairs_from
sheet_fields_lem m lead ms ws codes us others h t b =
    record {
      from = λ l i more e.
          let f : drop i l ≡ lead ∷ (ws ++ (us ++ more)) = e ∙ append_assoc (lead ∷ ws) us more in
          let x : get_or l i 0 ≡ lead = head_at l i lead (ws ++ (us ++ more)) f in
          let d : drop (i + 1) l ≡ ws ++ (us ++ more) = tail_at l i (lead ∷ []) (ws ++ (us ++ more)) 1 refl f in
          let q = t.from l (i + 1) (us ++ more) d in
          let r : drop (i + 1 + length ws) l ≡ us ++ more = tail_at l (i + 1) ws (us ++ more) (length ws) refl d in
          rw (x, mod-eq_of_lt h, q.0, q.1, b.from l (i + 1 + length ws) more r);
    }

-- ws are the fields of these m lists, and what follows stands after them
pub record ListsOf (m : ℕ) (ws : List ℕ) (ls : List (List ℕ)) : Type 0 where
  pub within : (more : List ℕ) → lists_in m (ws ++ more) ≡ ls
  pub after : (more : List ℕ) → after_lists m (ws ++ more) ≡ more

pub none_of : ListsOf 0 [] []
unfolding lists_in after_lists
none_of = record { within = λ more. refl; after = λ more. refl }

-- one list more, in front
pub more_of : (m n : ℕ) (ps codes ws : List ℕ) (ls : List (List ℕ)) → length ps ≡ 2 * n → ((more : List ℕ) → codes_in n (ps ++ more) ≡ codes) → ListsOf m ws ls
    → ListsOf (suc m) (n ∷ (ps ++ ws)) (codes ∷ ls)
unfolding lists_in after_lists
more_of m n ps codes ws ls long is t =
    record {
      within = λ more. rw (append_assoc ps ws more, one-add, drop_at ps (ws ++ more) (2 * n) long, is (ws ++ more), t.within more);
      after = λ more. rw (append_assoc ps ws more, one-add, drop_at ps (ws ++ more) (2 * n) long, t.after more);
    }

-- a sheet, its lead and the lists that stand, and then the others
pub sheets_more : (m lead : ℕ) (ms ws us : List ℕ) (ls : List (List ℕ)) → ListsOf (standing lead m) ws ls
    → sheets_in (m ∷ ms) ((lead ∷ ws) ++ us) ≡ (ls ++ replicate (m - standing lead m) []) ∷ sheets_in ms us
unfolding sheets_in sheet_lists after_sheet
sheets_more m lead ms ws us ls t = rw (t.within us, t.after us)

-- ---- what a pass reads
-- the codes ascend, from least on
record PairsRead (s : List ℕ) (at k least : ℕ) (ps : List ℕ) (rest : List Bool) : Type 0 where
  ends : rest ≡ drop (at + 24 * k) (bits s)
  fits : at + 24 * k ≤ 8 * length s
  fields : PairFields k ps (codes_at s at k)
  above : (b : ℕ) → b < least → BelowHead b (codes_at s at k)
  rises : Increasing (codes_at s at k)

-- two fields of 12 bits are one of 24
pair_code : (s : List ℕ) (at : ℕ) → at + 12 + 12 ≤ 8 * length s → field_or s at 24 ≡ code (field_or s at 12) (field_or s (at + 12) 12)
pair_code s at h =
    field_or_in s at 24 (omega arith)
    ∙ field_add s at 12 12 h
    ∙ ap₂ code (sym (field_or_in s at 12 (omega arith))) (sym (field_or_in s (at + 12) 12 h))

read_pairs : (s : List ℕ) (k least at : ℕ) (ps : List ℕ) (rest : List Bool) → at ≤ 8 * length s → scan (pairs k least) (drop at (bits s)) ≡ got ps rest
    → PairsRead s at k least ps rest
unfolding pairs codes_at BelowHead Increasing
read_pairs s zero least at ps rest h e =
    let q : got [] (drop at (bits s)) ≡ got ps rest = sym (scan_done (drop at (bits s))) ∙ e in
    let p : [] ≡ ps = cc in
    let r : drop at (bits s) ≡ rest = cc in
    let z : at + 24 * 0 ≡ at = omega arith in
    record { ends = rw z (sym r); fits = omega arith; fields = rw (← p) no_pairs; above = λ b l. tt; rises = tt }
read_pairs s (suc k) least at ps rest h e =
    let a = took s at 12 0 4096 3 _ ps rest h e in
    let b = took s (at + 12) 12 0 4096 3 _ a.next rest a.fits a.goes in
    let x : ℕ = field_or s at 12 in
    let y : ℕ = field_or s (at + 12) 12 in
    let c = pick_got (leb least (code x y)) _ 6 b.next rest (sym (scan_test _ _ _ _) ∙ b.goes) in
    let r = read_pairs s k (suc (code x y)) (at + 12 + 12) b.next rest b.fits c.1 in
    let w : ps ≡ x ∷ y ∷ b.next = a.splits ∙ ap (λ (l : List ℕ). x ∷ l) b.splits in
    let i : field_or s at 24 ≡ code x y = pair_code s at b.fits in
    let o : least ≤ code x y = leb-true least (code x y) c.0 in
    let z : at + 12 + 12 ≡ at + 24 = omega arith in
    let v : at + 24 * suc k ≡ at + 12 + 12 + 24 * k = omega arith in
    record {
      ends = rw v r.ends;
      fits = rw v r.fits;
      fields = rw (w, i, ← z) (pair_fields k x y b.next (codes_at s (at + 12 + 12) k) a.small b.small r.fields);
      above = λ j l. omega arith;
      rises = rw (i, ← z) (r.above (code x y) (omega arith), r.rises);
    }

-- the list at the bit offset at
pub record ListRead (s : List ℕ) (at : ℕ) : Type 0 where
  pub fits : at + 14 + 24 * field_or s at 14 ≤ 8 * length s
  pub rises : Increasing (codes_at s (at + 14) (field_or s at 14))

-- the lists at the bit offset at, each by itself
unfoldable pub lists_at : List ℕ → ℕ → ℕ → List (List ℕ)
lists_at s at zero = []
lists_at s at (suc m) = codes_at s (at + 14) (field_or s at 14) ∷ lists_at s (list_end s at) m

record ListsRead (s : List ℕ) (at m : ℕ) (ws : List ℕ) (rest : List Bool) : Type 0 where
  ends : rest ≡ drop (lists_end s at m) (bits s)
  fits : lists_end s at m ≤ 8 * length s
  fields : ListFields m ws (pairs_at s at m)
  lists : ListsOf m ws (lists_at s at m)
  each : (f : ℕ) → f < m → ListRead s (lists_end s at f)

-- the first list, and then the others
lists_each : (s : List ℕ) (at m : ℕ) → ListRead s at → ((f : ℕ) → f < m → ListRead s (lists_end s (list_end s at) f)) → (f : ℕ) → f < suc m → ListRead s (lists_end s at f)
unfolding lists_end
lists_each s at m a g zero h = a
lists_each s at m a g (suc f) h = g f (omega arith)

list_end_lem : (s : List ℕ) (at : ℕ) → at + 14 + 24 * field_or s at 14 ≡ list_end s at
unfolding list_end
list_end_lem s at = omega arith

read_lists : (s : List ℕ) (m at : ℕ) (ws : List ℕ) (rest : List Bool) → at ≤ 8 * length s → scan (lists m) (drop at (bits s)) ≡ got ws rest
    → ListsRead s at m ws rest
unfolding lists lists_end pairs_at lists_at
read_lists s zero at ws rest h e =
    let q : got [] (drop at (bits s)) ≡ got ws rest = sym (scan_done (drop at (bits s))) ∙ e in
    let p : [] ≡ ws = cc in
    let r : drop at (bits s) ≡ rest = cc in
    record { ends = sym r; fits = h; fields = rw (← p) no_lists; lists = rw (← p) none_of; each = λ f l. absurd (omega arith) }
read_lists s (suc m) at ws rest h e =
    let n : ℕ = field_or s at 14 in
    let a = took s at 14 0 8193 3 _ ws rest h e in
    let c = pick_got (not (eqb n 0)) _ 8 a.next rest (sym (scan_test _ _ _ _) ∙ a.goes) in
    let q = parts (pairs n 0) (lists m) (drop (at + 14) (bits s)) a.next rest c.1 in
    let p = read_pairs s n 0 (at + 14) q.front q.left a.fits q.first in
    let z : at + 14 + 24 * n ≡ list_end s at = list_end_lem s at in
    let r = read_lists s m (list_end s at) q.back rest
    (subst (λ (i : ℕ). i ≤ 8 * length s) z p.fits)
    (ap (scan (lists m)) (ap (λ (i : ℕ). drop i (bits s)) (sym z) ∙ sym p.ends) ∙ q.second) in
    let w : ws ≡ n ∷ (q.front ++ q.back) = a.splits ∙ ap (λ (l : List ℕ). n ∷ l) q.splits in
    record {
      ends = r.ends;
      fits = r.fits;
      fields = rw w (list_fields m n q.front (codes_at s (at + 14) n) q.back (pairs_at s (list_end s at) m) (let y = a.small in omega arith) p.fields r.fields);
      lists = rw w (more_of m n q.front (codes_at s (at + 14) n) q.back (lists_at s (list_end s at) m) p.fields.long p.fields.within r.lists);
      each = lists_each s at m (record { fits = p.fits; rises = p.rises }) r.each;
    }

-- a sheet, its lead and the lists that stand, and zero bits up to a whole byte
record SheetRead (s : List ℕ) (at m : ℕ) (ws : List ℕ) (rest : List Bool) : Type 0 where
  inner : List ℕ
  splits : ws ≡ field_or s at 1 ∷ inner
  small : field_or s at 1 < 2
  begins : lists_first at ≤ 8 * length s
  ends : rest ≡ drop (sheet_end s at m) (bits s)
  fits : sheet_end s at m ≤ 8 * length s
  fields : ListFields (lists_count s at m) inner (sheet_pairs s at m)
  lists : ListsOf (lists_count s at m) inner (lists_at s (lists_first at) (lists_count s at m))
  each : (f : ℕ) → f < lists_count s at m → ListRead s (lists_end s (lists_first at) f)

-- what is before the padding is all
before_padding : {f : Format} {bs : List Bool} {ws : List ℕ} {rest : List Bool} (p : Parts f (pad done) bs ws rest) → ws ≡ p.front
before_padding p =
    p.splits ∙ ap (λ (l : List ℕ). p.front ++ l) (pad_got p.left p.back _ p.second).0 ∙ append-nil p.front

whole_parts : (f : Format) (bs : List Bool) (ws : List ℕ) (rest : List Bool) → scan (whole f) bs ≡ got ws rest → Parts f (pad done) bs ws rest
unfolding whole
whole_parts f bs ws rest e = parts f (pad done) bs ws rest e

read_sheet_lem : (s : List ℕ) (m at : ℕ) (ws : List ℕ) (rest : List Bool) → at ≤ 8 * length s → scan (whole (sheet m)) (drop at (bits s)) ≡ got ws rest
    → SheetRead s at m ws rest
unfolding sheet
read_sheet_lem s m at ws rest h e =
    let end : ℕ = lists_last s at m in
    let p = whole_parts (sheet m) (drop at (bits s)) ws rest e in
    let a = took s at 1 0 2 3 _ p.front p.left h p.first in
    let l = read_lists s (lists_count s at m) (at + 1) a.next p.left a.fits a.goes in
    let g : length p.left % 8 ≡ gap end =
    ap (λ (x : List Bool). length x % 8) l.ends
    ∙ ap (λ (n : ℕ). n % 8) (length-drop end (bits s) ∙ ap (λ (n : ℕ). n - end) (length-bits s))
    ∙ gap_of end (length s) l.fits in
    record {
      inner = a.next;
      splits = before_padding p ∙ a.splits;
      small = a.small;
      begins = a.fits;
      ends = (pad_got p.left p.back rest p.second).1 ∙ ap₂ (λ (n : ℕ) (x : List Bool). drop n x) g l.ends ∙ drop-drop (gap end) end (bits s);
      fits = gap_in end (length s) l.fits;
      fields = l.fields;
      lists = l.lists;
      each = l.each;
    }

-- the lists of a sheet, of which those that don't stand are empty
abbrev pub sheet_lists_at : List ℕ → ℕ → ℕ → List (List ℕ)
sheet_lists_at s at m = lists_at s (lists_first at) (lists_count s at m) ++ replicate (m - lists_count s at m) []

-- the sheets of a book from the bit offset at on
unfoldable pub sheets_at : List ℕ → ℕ → List ℕ → List (List (List ℕ))
sheets_at s at [] = []
sheets_at s at (m ∷ ms) = sheet_lists_at s at m ∷ sheets_at s (sheet_end s at m) ms

-- the sheet at a bit offset: where its lists begin, and each of them
pub record ListsStand (s : List ℕ) (at m : ℕ) : Type 0 where
  pub begins : lists_first at ≤ 8 * length s
  pub each : (f : ℕ) → f < lists_count s at m → ListRead s (lists_end s (lists_first at) f)

pub record BookRead (s : List ℕ) (at : ℕ) (ms ws : List ℕ) : Type 0 where
  fields : BookFields ms ws (book_pairs s at ms)
  pub sheets : sheets_in ms ws ≡ sheets_at s at ms
  pub stand : (a : ℕ) → a < length ms → ListsStand s (sheet_at s at ms a) (get_or ms a 0)

-- the first sheet, and then the others
sheets_stand : (s : List ℕ) (at m : ℕ) (ms : List ℕ) → ListsStand s at m
    → ((a : ℕ) → a < length ms → ListsStand s (sheet_at s (sheet_end s at m) ms a) (get_or ms a 0))
    → (a : ℕ) → a < length (m ∷ ms) → ListsStand s (sheet_at s at (m ∷ ms) a) (get_or (m ∷ ms) a 0)
unfolding sheet_at
sheets_stand s at m ms here more zero h = here
sheets_stand s at m ms here more (suc a) h = more a (omega arith)

read_book_lem : (s ms : List ℕ) (at : ℕ) (ws : List ℕ) (rest : List Bool) → at ≤ 8 * length s → scan (book ms) (drop at (bits s)) ≡ got ws rest
    → BookRead s at ms ws
unfolding book book_pairs sheets_at
read_book_lem s [] at ws rest h e =
    let q : got [] (drop at (bits s)) ≡ got ws rest = sym (scan_done (drop at (bits s))) ∙ e in
    let p : [] ≡ ws = cc in
    record { fields = rw (← p) no_sheets; sheets = unfold sheets_in in refl; stand = λ a l. absurd (omega arith) }
read_book_lem s (m ∷ ms) at ws rest h e =
    let p = parts (whole (sheet m)) (book ms) (drop at (bits s)) ws rest e in
    let l = read_sheet_lem s m at p.front p.left h p.first in
    let r = read_book_lem s ms (sheet_end s at m) p.back rest l.fits (ap (scan (book ms)) (sym l.ends) ∙ p.second) in
    let lead : ℕ = field_or s at 1 in
    let w : ws ≡ (lead ∷ l.inner) ++ p.back = p.splits ∙ ap (λ (x : List ℕ). x ++ p.back) l.splits in
    record {
      fields = rw w (sheet_fields_lem m lead ms l.inner (sheet_pairs s at m) p.back (book_pairs s (sheet_end s at m) ms) l.small l.fields r.fields);
      sheets = ap (sheets_in (m ∷ ms)) w
          ∙ sheets_more m lead ms l.inner p.back (lists_at s (lists_first at) (lists_count s at m)) l.lists
          ∙ ap (λ (x : List (List (List ℕ))). sheet_lists_at s at m ∷ x) r.sheets;
      stand = sheets_stand s at m ms (record { begins = l.begins; each = l.each }) r.stand;
    }

pub read_whole : (ms s ws : List ℕ) → decode (book ms) s ≡ ok ws → BookRead s 0 ms ws
unfolding decode
read_whole ms s ws e =
    let p = whole_parts (book ms) (bits s) ws [] (ended_ok (scan (whole (book ms)) (bits s)) ws e) in
    rw (before_padding p) (read_book_lem s ms 0 p.front p.left (omega arith) p.first)

-- ---- the codes of the lists are those of the walk
lists_codes : (s : List ℕ) (at m n : ℕ) → flatten (lists_at s at m ++ replicate n []) ≡ pairs_at s at m
unfolding flatten lists_at pairs_at
lists_codes s at zero zero = refl
lists_codes s at zero (suc n) = lists_codes s at zero n
lists_codes s at (suc m) n = ap (λ (l : List ℕ). codes_at s (at + 14) (field_or s at 14) ++ l) (lists_codes s (list_end s at) m n)

sheets_codes : (s : List ℕ) (at : ℕ) (ms : List ℕ) → flatten (map flatten (sheets_at s at ms)) ≡ book_pairs s at ms
unfolding flatten sheets_at book_pairs
sheets_codes s at [] = refl
sheets_codes s at (m ∷ ms) =
    ap₂ (λ (x y : List ℕ). x ++ y) (lists_codes s (lists_first at) (lists_count s at m) (m - lists_count s at m)) (sheets_codes s (sheet_end s at m) ms)

-- ---- the walks
pub book_pairs_lem : (ms s ws : List ℕ) → decode (book ms) s ≡ ok ws → book_pairs s 0 ms ≡ flatten (map flatten (sheets_in ms ws))
book_pairs_lem ms s ws e =
    sym (ap (λ (x : List (List (List ℕ))). flatten (map flatten x)) (read_whole ms s ws e).sheets ∙ sheets_codes s 0 ms)

pub field_pairs : (ms ws s : List ℕ) → encode (book ms) ws ≡ ok s → book_pairs_from ws 0 ms ≡ flatten (map flatten (sheets_in ms ws))
field_pairs ms ws s e =
    let d = encode_decode (book ms) ws s e in
    (read_whole ms s ws d).fields.from ws 0 [] (sym (append-nil ws)) ∙ book_pairs_lem ms s ws d

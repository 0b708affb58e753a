-- What a call answers, by what its parts found: for any file and both directions.
use Prim.Native.Nat.{ℕ, zero, suc, ◌-◌, ◌<◌, ◌≤◌}
use mathlib.Core.Path.{◌≡◌, refl, ap, sym, ◌∙◌}
use mathlib.Core.List.{List, [], ◌∷◌, ◌++◌, map, flatten}
use mathlib.Core.Bool.{Bool, true, false, ◌||◌}
use lib.ListN.{length, take, drop, get_or, replicate, length-take, length-drop, length-append}
use lib.Seq.{sets, take_at, drop_at}
use lib.Dec.{ltb}
use native.Mathlib.Omega.{arith}
use native.Mathlib.Nat.{sub-zero}
use borrow.Author.Tests.{lt-ltb, le-ltb, ltb-false}
use borrow.Rule.Slice.PartMut.{put_mid, post_of}
use Rattle.packed.specs.Format.{Format, Result, ok, bad, pick, decode, encode}
use Rattle.packed.specs.Formats.{catalogue}
use Rattle.packed.specs.Contents.{edge_counts, sheets_in}
use Rattle.packed.specs.ByValue.{CountTable, Small}
use Rattle.packed.specs.Refusals.{Told, told, number_of, detail_of, reply_told}
use Rattle.packed.specs.Reading.{Content, Judges}
use Rattle.packed.specs.Writing.{JudgesFields}
use Rattle.packed.specs.Walks.{Different}
use Rattle.packed.specs.Calls.{Outcome, give, refuse, told_of, fronts, outputs_of, work_of, Settled, with_workspace, Fulfils, FulfilsOne, Verdict, accepted, rejected, in_file, read_file, write_file, judged, read_catalogue, pairs_of, within_pairs_by, fit, fit_file}
use Rattle.packed.specs.Accepting.{reply_of, AcceptsFile}
use Rattle.packed.specs.declared.reply.Refusal.{Refusal}
use Rattle.packed.specs.declared.reply.Refusal.TheVariants.{NoRoom, SmallWorkspace}
use Rattle.packed.specs.Parts.{Reply, Part}
use Rattle.packed.proofs.ByValueLaws.{nothing_at}
use Rattle.packed.proofs.Sets.{sets_front}
use Rattle.std.specs.Prelude.{Ok, Err}

-- ---- verdicts

-- what a pass over a file found is the verdict
pub record Finds (v : Verdict) (file : ℕ) (r : Result ℕ) : Type 0 where
  pub is : v ≡ in_file file r

pub read_finds : (most file : ℕ) (F : Format) (s : List ℕ) → length s ≤ most → Finds (read_file most file F s) file (decode F s)
unfolding read_file
read_finds most file F s h = record { is = rw (le-ltb most (length s) h) }

pub write_finds : (file : ℕ) (F : Format) (ws : List ℕ) → Finds (write_file file F ws) file (encode F ws)
unfolding write_file
write_finds file F ws = record { is = refl }

pub accepted_by : {v : Verdict} {r : Result ℕ} {file : ℕ} {ws : List ℕ} → Finds v file r → r ≡ ok ws → v ≡ accepted ws
accepted_by {file = file} f e = f.is ∙ ap (in_file file) e

pub refused_by : {v : Verdict} {r : Result ℕ} {file : ℕ} → Finds v file r → (x : Refusal) → (r ≡ bad (number_of x)) × (detail_of x ≡ file) → v ≡ rejected (number_of x) (detail_of x)
refused_by {file = file} f x q = f.is ∙ ap (in_file file) q.0 ∙ ap (rejected (number_of x)) (sym q.1)

-- the file is too long
pub read_long : (most file : ℕ) (F : Format) (s : List ℕ) → most < length s → read_file most file F s ≡ rejected 1 file
unfolding read_file
read_long most file F s h = rw (lt-ltb most (length s) h)

-- a catalogue that has a byte is read by its fields
pub catalogue_by_fields : (s : List ℕ) → 0 < length s → read_catalogue s ≡ read_file 897 2 catalogue s
unfolding read_catalogue
catalogue_by_fields [] h = absurd (omega arith)
catalogue_by_fields (b ∷ s) h = refl

-- one that has none is without views
pub catalogue_empty : (s : List ℕ) → length s ≡ 0 → read_catalogue s ≡ accepted (0 ∷ [])
unfolding read_catalogue
catalogue_empty [] h = refl
catalogue_empty (b ∷ s) h = absurd (omega arith)

-- what a file that was accepted is
pub read_says : (most file : ℕ) (F : Format) (s ws : List ℕ) → read_file most file F s ≡ accepted ws → (decode F s ≡ ok ws) × (length s ≤ most)
unfolding read_file
read_says most file F s ws e = go (ltb most (length s)) (decode F s) refl refl e
  where
    go : (t : Bool) (r : Result ℕ) → ltb most (length s) ≡ t → decode F s ≡ r → pick t (rejected 1 file) (in_file file r) ≡ accepted ws → (decode F s ≡ ok ws) × (length s ≤ most)
    go true r p d q = absurd (let z : ◌≡◌ {A = ℕ} 0 1 = cc in omega arith)
    go false (ok vs) p d q = (d ∙ cc, ltb-false most (length s) p)
    go false (bad n) p d q = absurd (let z : ◌≡◌ {A = ℕ} 0 1 = cc in omega arith)

-- a pass over a file of a fair length accepts it
pub accepts_by : {v : Verdict} {r : Result ℕ} {file : ℕ} → Finds v file r → (p : Part) (w w' : List ℕ) → Judges r file p w w' → AcceptsFile v (reply_of p) w w'
accepts_by f (Ok (at, n)) w w' c = record { fields = c.fields; is = accepted_by f c.is; number = c.number; front = c.front }
accepts_by f (Err x) w w' q = refused_by f x q

pub judged_accepted : {v : Verdict} {ws : List ℕ} (k : List ℕ → Outcome) → v ≡ accepted ws → judged v k ≡ k ws
unfolding judged
judged_accepted k e = rw e

-- ---- tests between a file's acceptance and the answer

-- how an output is fitted: too long for the room is what t says of its length
pub record FitsRoom (g : ℕ → List ℕ → Outcome) (t : ℕ → ℕ → Bool) : Type 0 where
  pub is : (room : ℕ) (o : List ℕ) → g room o ≡ pick (t room (length o)) (refuse 12 (length o)) (give [] (o ∷ []))
  pub within : (room n : ℕ) → t room n ≡ false → n ≤ room

pub fit_fits : FitsRoom fit ltb
unfolding fit
fit_fits = record { is = λ room o. refl; within = λ room n e. ltb-false room n e }

or_no : (s t : Bool) → s || t ≡ false → (s ≡ false) × (t ≡ false)
or_no true t q = absurd (let z : ◌≡◌ {A = ℕ} 0 1 = cc in omega arith)
or_no false t q = (refl, q)

abbrev pub over_file : ℕ → ℕ → Bool
over_file room n = ltb room n || ltb 65536 n

pub over_file_no : (room n : ℕ) → over_file room n ≡ false → (n ≤ room) × (n ≤ 65536)
over_file_no room n e = let q = or_no (ltb room n) (ltb 65536 n) e in (ltb-false room n q.0, ltb-false 65536 n q.1)

pub fit_file_fits : FitsRoom fit_file over_file
unfolding fit_file
fit_file_fits = record { is = λ room o. refl; within = λ room n e. (over_file_no room n e).0 }

pub many_pairs : (ms ws : List ℕ) (a : Outcome) → 8192 < length (pairs_of ms ws) → within_pairs_by ms ws a ≡ refuse 10 4
unfolding within_pairs_by
many_pairs ms ws a h = rw (lt-ltb 8192 (length (pairs_of ms ws)) h)

pub within_pairs_is : (ms ws : List ℕ) (a : Outcome) → length (pairs_of ms ws) ≤ 8192 → within_pairs_by ms ws a ≡ a
unfolding within_pairs_by
within_pairs_is ms ws a h = rw (le-ltb 8192 (length (pairs_of ms ws)) h)

-- the different pairs that were gathered are those of the content
module _ {codes w : List ℕ} {n : ℕ} (ms ws : List ℕ) (d : Different codes n w) (e : codes ≡ flatten (map flatten (sheets_in ms ws))) where
  pub gathered_many : (a : Outcome) → 8192 < n → within_pairs_by ms ws a ≡ refuse 10 4
  unfolding pairs_of
  gathered_many a h = many_pairs ms ws a (rw e at (d.many h))

  pub gathered_few : (a : Outcome) → n ≤ 8192 → within_pairs_by ms ws a ≡ a
  unfolding pairs_of
  gathered_few a h = within_pairs_is ms ws a (omega (arith, rw e at (d.number h)))

-- ---- what is answered

-- a refusal leaves the outputs
pub refusal_answered : {none : List ℕ} {a : Outcome} {r : Told} {n d : ℕ} (outs : List (List ℕ)) → a ≡ refuse n d → r ≡ told n (d ∷ none) → Fulfils none a r outs outs
unfolding told_of outputs_of
refusal_answered outs e q = record { result = rw e q; outputs = rw e }

module _ {a : Outcome} (out : List ℕ) {out' : List ℕ} where
  answers_refusal : (x : Refusal) → a ≡ refuse (number_of x) (detail_of x) → out' ≡ out → FulfilsOne a (reply_told (Err x)) out out'
  answers_refusal x e q = rw q (refusal_answered (out ∷ []) e refl)

  -- an output stands at the front of what was lent
  answers_given : {o : List ℕ} {n : ℕ} → a ≡ give [] (o ∷ []) → n ≡ length o → out' ≡ o ++ drop (length o) out → FulfilsOne a (reply_told (Ok n)) out out'
  unfolding told_of outputs_of fronts
  answers_given e m q = record { result = rw (e, m); outputs = rw (e, q) }

-- an output that was found is fitted
module _ {g : ℕ → List ℕ → Outcome} {t : ℕ → ℕ → Bool} (z : FitsRoom g t) {a : Outcome} (out o : List ℕ) {lent : List ℕ} (same : lent ≡ out) (e : a ≡ g (length out) o)
    {n : ℕ} (number : n ≡ length o) where
  fitted : (b : Bool) → t (length lent) n ≡ b → a ≡ pick b (refuse 12 n) (give [] (o ∷ []))
  fitted b h =
      e
      ∙ z.is (length out) o
      ∙ ap (λ (m : ℕ). pick (t (length out) m) (refuse 12 m) (give [] (o ∷ []))) (sym number)
      ∙ ap (λ (l : List ℕ). pick (t (length l) n) (refuse 12 n) (give [] (o ∷ []))) (sym same)
      ∙ ap (λ (s : Bool). pick s (refuse 12 n) (give [] (o ∷ []))) h

  pub fitted_tight : t (length lent) n ≡ true → FulfilsOne a (reply_told (Err (NoRoom n))) out lent
  fitted_tight h = answers_refusal out (NoRoom n) (fitted true h) same

  pub fitted_given : {out' : List ℕ} → t (length lent) n ≡ false → out' ≡ sets lent 0 o → FulfilsOne a (reply_told (Ok n)) out out'
  fitted_given h q =
      let l : n ≤ length out = rw same at (z.within (length lent) n h) in
      answers_given out (fitted false h) number (q ∙ ap (λ (l : List ℕ). sets l 0 o) same ∙ sets_front out o (omega (arith, number)))

  -- a file that was accepted is read once more, with the output lent
  pub fitted_again : {v : Verdict} (r : Reply) (out' : List ℕ) → t (length lent) n ≡ false → v ≡ accepted o → AcceptsFile v r lent out' → FulfilsOne a (reply_told r) out out'
  fitted_again (Ok m) out' h is c =
      let f : c.fields ≡ o = cc c.is in
      rw (c.number ∙ ap length f ∙ sym number) (fitted_given h (c.front ∙ ap (sets lent 0) f))
  fitted_again (Err x) out' h is c = absurd (let z : ◌≡◌ {A = ℕ} 0 1 = cc in omega arith)

-- a file was refused, and the refusal is handed up; or it was accepted, and the call goes on with its content
module _ {none : List ℕ} {r : Told} (k : List ℕ → Outcome) {v : Verdict} where
  pub answers_refused : (outs : List (List ℕ)) {n d : ℕ} → v ≡ rejected n d → r ≡ told n (d ∷ none) → Fulfils none (judged v k) r outs outs
  unfolding judged
  answers_refused outs e q = refusal_answered outs (rw e) q

  pub answers_on : {ws : List ℕ} {outs outs' : List (List ℕ)} → v ≡ accepted ws → Fulfils none (k ws) r outs outs' → Fulfils none (judged v k) r outs outs'
  answers_on e b = rw (judged_accepted k e) b

-- the same with one output
module _ {v : Verdict} (k : List ℕ → Outcome) where
  pub body_refused : (out : List ℕ) {lent : List ℕ} → lent ≡ out → (x : Refusal) → v ≡ rejected (number_of x) (detail_of x) → FulfilsOne (judged v k) (reply_told (Err x)) out lent
  body_refused out same x e = rw same (answers_refused k (out ∷ []) e refl)

  module _ {ws : List ℕ} (e : v ≡ accepted ws) where
    pub body_goes_on : {told : Told} {out out' : List ℕ} → FulfilsOne (k ws) told out out' → FulfilsOne (judged v k) told out out'
    body_goes_on b = answers_on k e b

    -- to a refusal
    pub body_declined : (out : List ℕ) {lent : List ℕ} → lent ≡ out → (x : Refusal) → k ws ≡ refuse (number_of x) (detail_of x) → FulfilsOne (judged v k) (reply_told (Err x)) out lent
    body_declined out same x q = body_goes_on (answers_refusal out x q same)

-- ---- how the output came about

-- the front of the words that a content was read into
pub front_is : {r : Result ℕ} {n : ℕ} {w w' : List ℕ} (c : Content r n w w') → n ≤ length w → take (n - 0) (drop 0 w') ≡ c.fields
front_is {n = n} {w} {w'} c h =
    ap (λ (m : ℕ). take m w') (sub-zero n)
    ∙ ap (take n) (c.front ∙ sets_front w c.fields (omega (arith, c.number)))
    ∙ take_at c.fields (drop (length c.fields) w) n (sym c.number)

-- so many words were copied
pub copied : (w out : List ℕ) {n : ℕ} {out' : List ℕ} → n ≤ length w → n ≤ length out
    → out' ≡ take (n - 0) (drop 0 w) ++ drop (length (take (n - 0) (drop 0 w))) out → out' ≡ sets out 0 (take n w)
copied w out {n} h l q =
    let e : length (take n w) ≡ n = simp length-take (omega arith) in
    q ∙ ap (λ (m : ℕ). take m w ++ drop (length (take m w)) out) (sub-zero n) ∙ sym (sets_front out (take n w) (omega (arith, e)))

-- an empty part of it was lent
nothing_in : (ys : List ℕ) → length ys ≤ 0 → ys ≡ []
nothing_in [] h = refl
nothing_in (y ∷ ys) h = absurd (omega arith)

pub none_lent : (out ys : List ℕ) → length ys ≡ length (take (0 - 0) (drop 0 out)) → put_mid 0 (0 - 0) out ys ≡ out
none_lent out ys e = ap (λ (l : List ℕ). l ++ out) (nothing_in ys (omega (arith, e)))

-- fields that were accepted are judged once more, with the output lent
pub judges_fields_front : (r : Result ℕ) (file : ℕ) (p : Part) (ws w w' : List ℕ) → JudgesFields r file p w w' → r ≡ ok ws → w' ≡ sets w 0 ws
judges_fields_front r file (Ok (n, i)) ws w w' c e = let q : c.fields ≡ ws = cc c.is in c.front ∙ ap (sets w 0) q
judges_fields_front r file (Err x) ws w w' c e = absurd (let q = c.0 in let z : ◌≡◌ {A = ℕ} 0 1 = cc in omega arith)

-- ---- the numbers of edges of a catalogue's views, in a table of 16

module _ {ws counts : List ℕ} (c : CountTable ws counts) (few : get_or ws 0 0 ≤ 16) where
  pub counts_are : (k : ℕ) → length (edge_counts ws) ≡ get_or ws 0 0 → k ≡ get_or ws 0 0 → take k counts ≡ edge_counts ws
  counts_are k l e = ap (take k) (c.is few) ∙ take_at (edge_counts ws) (replicate (16 - get_or ws 0 0) 0) k (omega arith)

  pub counts_rest : length (edge_counts ws) ≡ get_or ws 0 0 → (j : ℕ) → get_or ws 0 0 ≤ j → get_or counts j 0 ≡ 0
  counts_rest l j h = rw (c.is few) (behind (edge_counts ws) (16 - get_or ws 0 0) j (omega arith))
    where
      behind : (ms : List ℕ) (n j : ℕ) → length ms ≤ j → get_or (ms ++ replicate n 0) j 0 ≡ 0
      behind [] n j h = nothing_at n j
      behind (m ∷ ms) n zero h = absurd (omega arith)
      behind (m ∷ ms) n (suc j) h = behind ms n j (omega arith)

  pub counts_small : ((j : ℕ) → get_or (edge_counts ws) j 0 ≤ 32) → Small counts
  counts_small h j = rw (c.is few) (padded (edge_counts ws) (16 - get_or ws 0 0) j h)
    where
      padded : (ms : List ℕ) (n j : ℕ) → ((j : ℕ) → get_or ms j 0 ≤ 32) → get_or (ms ++ replicate n 0) j 0 ≤ 32
      padded [] n j h = omega (arith, nothing_at n j)
      padded (m ∷ ms) n zero h = h 0
      padded (m ∷ ms) n (suc j) h = padded ms n j (λ i. h (suc i))

-- ---- the workspace

-- its first words were lent
module _ (work ys : List ℕ) (h : 16384 ≤ length work) (n : length ys ≡ length (take (16384 - 0) (drop 0 work))) where
  lent_number : length ys ≡ 16384
  lent_number = n ∙ simp length-take (omega arith)

  pub lent_long : length (put_mid 0 (16384 - 0) work ys) ≡ length work
  lent_long =
      let d : length (post_of 0 (16384 - 0) work) ≡ length work - 16384 = length-drop 16384 work in
      omega (arith, length-append ys (post_of 0 (16384 - 0) work), lent_number)

module _ (none : List ℕ) (a : Outcome) (work : List ℕ) {r : Told} where
  -- too small
  pub small_settled : (outs : List (List ℕ)) → length work < 16384 → r ≡ told 14 (0 ∷ none) → Settled none (with_workspace (length work) a) r outs outs work work
  unfolding with_workspace work_of told_of outputs_of
  small_settled outs h q = let e = lt-ltb (length work) 16384 h in record { result = rw e q; outputs = rw e; workspace = rw e }

  module _ {outs outs' : List (List ℕ)} {work' : List ℕ} (h : 16384 ≤ length work) (b : Fulfils none a r outs outs') where
    -- cleared
    pub cleared_settled : work' ≡ replicate 16384 0 ++ drop 16384 work → Settled none (with_workspace (length work) a) r outs outs' work work'
    unfolding with_workspace work_of
    cleared_settled q = let e = le-ltb (length work) 16384 h in record { result = rw e b.result; outputs = rw e b.outputs; workspace = rw e q }

    -- cleared, once its first words were lent
    pub lent_settled : (ys : List ℕ) → length ys ≡ length (take (16384 - 0) (drop 0 work)) → work' ≡ replicate 16384 0 ++ drop 16384 (put_mid 0 (16384 - 0) work ys)
        → Settled none (with_workspace (length work) a) r outs outs' work work'
    lent_settled ys n q = cleared_settled (q ∙ ap (λ (t : List ℕ). replicate 16384 0 ++ t) (drop_at ys (post_of 0 (16384 - 0) work) 16384 (lent_number work ys h n)))

-- the same of a call with one output
module _ (a : Outcome) (out work : List ℕ) where
  pub settles_small : length work < 16384 → Settled [] (with_workspace (length work) a) (reply_told (Err SmallWorkspace)) (out ∷ []) (out ∷ []) work work
  settles_small h = small_settled [] a work (out ∷ []) h refl

  pub settles : {r : Told} {out' work' : List ℕ} → 16384 ≤ length work → FulfilsOne a r out out' → work' ≡ replicate 16384 0 ++ drop 16384 work
      → Settled [] (with_workspace (length work) a) r (out ∷ []) (out' ∷ []) work work'
  settles h b q = cleared_settled [] a work h b q

  pub settles_lent : {r : Told} {out' work' : List ℕ} (ys : List ℕ) → 16384 ≤ length work → FulfilsOne a r out out' → length ys ≡ length (take (16384 - 0) (drop 0 work))
      → work' ≡ replicate 16384 0 ++ drop 16384 (put_mid 0 (16384 - 0) work ys) → Settled [] (with_workspace (length work) a) r (out ∷ []) (out' ∷ []) work work'
  settles_lent ys h b n q = lent_settled [] a work h b ys n q

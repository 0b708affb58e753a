-- Patterns of an accepted file, the views of a catalogue or the questions of one call, read one by one from its bits.
use Prim.Native.Nat.{ℕ, suc, ◌+◌, ◌-◌, ◌*◌, ◌%◌, ◌<◌, ◌≤◌}
use mathlib.Core.Path.{◌≡◌, refl, sym, ap, ap₂, subst, ◌∙◌}
use mathlib.Core.Logic.{⊎_elim}
use mathlib.Core.Bool.{Bool, false}
use mathlib.Core.List.{List, [], ◌∷◌, ◌++◌, append-nil, append_assoc, flatten}
use lib.ListN.{length, take, drop, get_or, replicate, length-append, length-drop, length-replicate}
use lib.Seq.{drop_at, drop-drop}
use native.Mathlib.Omega.{arith}
use native.Mathlib.Nat.{zero-add}
use Rattle.packed.specs.Bits.{bits, bits_of}
use Rattle.packed.specs.Format.{done, whole, got, push, scan, ok, decode}
use Rattle.packed.specs.Formats.{pattern, patterns}
use Rattle.packed.specs.Contents.{nodes_of, edges_of, pattern_size, patterns_in, views_of}
use Rattle.packed.specs.Plain.{PlainPattern, PlainPatterns, Whole, CatalogueFile, EmptyCatalogue}
use Rattle.packed.specs.Calls.{accepted, read_catalogue}
use Rattle.packed.specs.ByValue.{HoldsPattern}
use Rattle.packed.specs.Reading.{from, Reading, Refuses, Content}
use Rattle.packed.specs.declared.reply.Refusal.{Refusal}
use Rattle.packed.specs.declared.by_value.Pattern.{Pattern as Given}
use Rattle.packed.proofs.BitsLaws.{length-bits, length_bits_of}
use Rattle.packed.proofs.RoundTrip.{scan_done, scan_lay, lay_scan}
use Rattle.packed.proofs.AcceptedLaws.{Accepts, accepts_whole, whole_length}
use Rattle.packed.proofs.AcceptedGraphs.{accepts_pattern}
use Rattle.packed.proofs.Accepted.{questions_accepted, catalogue_some, catalogue_read_lem}
use Rattle.packed.proofs.AcceptedBounds.{Bounded, plain_bounded, patterns_in-flatten}
use Rattle.packed.proofs.CallLaws.{front_is}
use Rattle.engine.specs.Lists.{In}
use Rattle.engine.specs.Matched.{PatternAt, ViewAt}
pub use Rattle.engine.specs.Matched.{Follow, none_follow, next_follows, Ahead}
use Rattle.engine.specs.declared.views.View.{View}
use Rattle.engine.proofs.ListLaws.{not_in_none, in_cases}

-- ---- a pattern in the bits
abbrev wholly : Accepts (whole pattern) 0 (Whole PlainPattern)
wholly = accepts_whole pattern 0 refl (accepts_pattern 0)

-- what is read there is a pattern
pub scanned_plain : (bs rest : List Bool) (ws : List ℕ) → length bs % 8 ≡ 0 → scan (whole pattern) bs ≡ got ws rest → (body : List Bool) × PlainPattern ws body
scanned_plain bs rest ws h e =
    let t = scan_lay (whole pattern) 0 bs rest ws [] (ap (λ (k : ℕ). k % 8) (zero-add (length bs)) ∙ h) e in
    let r = wholly.to (ws ++ []) [] t.body t.writes in
    let q : r.0 ≡ ws = sym (append-nil r.0) ∙ sym r.1 ∙ append-nil ws in
    (r.2.body, subst (λ l. PlainPattern l r.2.body) q r.2.laid)

-- and a pattern there is read
pub plain_scanned : {ws : List ℕ} {bs : List Bool} (rest : List Bool) → Whole PlainPattern ws bs → length rest % 8 ≡ 0 → scan (whole pattern) (bs ++ rest) ≡ got ws rest
plain_scanned {ws} {bs} rest q h =
    let n : length bs % 8 ≡ 0 = whole_length q in
    let t = lay_scan (whole pattern) 0 (ws ++ []) [] bs rest (omega arith) (wholly.by ws [] bs q) in
    t.reads ∙ ap (λ (l : List ℕ). got l rest) (sym (append-nil t.words) ∙ sym t.splits ∙ append-nil ws)

-- ---- a view by value
module _ {s : List ℕ} {at : ℕ} {w₀ : List ℕ} {next n : ℕ} {w : List ℕ} (r : Reading (whole pattern) s at w₀ 0 done next w n) (room : n ≤ length w₀) where
  abbrev front : List ℕ
  front = take (n - 0) (drop 0 w)

  front_read : front ≡ r.read
  front_read =
      let k = r.next in
      let content : Content (ok r.read) n w₀ w = record { fields = r.read; is = refl; number = omega arith; front = r.holds } in
      front_is content room

  got_read : from (whole pattern) s at ≡ got r.read (drop next (bits s))
  unfolding from
  got_read =
      r.comes ∙ ap (push r.read) (scan_done (drop next (bits s))) ∙ ap (λ (l : List ℕ). got l (drop next (bits s))) (append-nil r.read)

  -- the words are a pattern's content
  pub view_fits : at % 8 ≡ 0 → at ≤ 8 * length s → (nodes_of front ≤ 16) × (edges_of front ≤ 32) × (2 + (nodes_of front + 3 * edges_of front) ≤ length front)
  unfolding from pattern_size
  view_fits m h =
      let q = scanned_plain (drop at (bits s)) (drop next (bits s)) r.read (omega (arith, length-drop at (bits s), length-bits s)) got_read in
      let b = plain_bounded r.read q.0 q.1 in
      rw front_read (b.most_nodes, b.most_edges, omega (arith, b.size))

  front_held : {p : Given} → HoldsPattern front p → (ws : List ℕ) (end : ℕ) → from (whole pattern) s at ≡ got ws (drop end (bits s)) → end ≤ 8 * length s
      → HoldsPattern ws p × (next ≡ end)
  front_held {p} h ws end e l =
      let g = got_read in
      let a : r.read ≡ ws = cc in
      let d : drop next (bits s) ≡ drop end (bits s) = cc in (
        subst (λ x. HoldsPattern x p) (front_read ∙ a) h,
        omega (arith, ap length d, length-drop next (bits s), length-drop end (bits s), length-bits s, r.inside),
      )

pub view_held : {s : List ℕ} {byte : ℕ} {w₀ : List ℕ} {next n : ℕ} {w : List ℕ} (r : Reading (whole pattern) s (8 * byte) w₀ 0 done next w n) (room : n ≤ length w₀)
    → {p : Given} → HoldsPattern (front r room) p → (ws : List ℕ) (end : ℕ) → PatternAt s byte ws end → HoldsPattern ws p × (next ≡ end)
view_held r room h ws end a = front_held r room h ws end a.reads a.within

pub view_refused : {A : Type 0} {s : List ℕ} {byte file : ℕ} {x : Refusal} → Refuses (whole pattern) s (8 * byte) file x → (ws : List ℕ) (end : ℕ) → PatternAt s byte ws end → A
view_refused q ws end a = absurd (let n = q.number in let e = a.reads in let z : ◌≡◌ {A = ℕ} 0 1 = cc in omega arith)

-- ---- the views one after the other
-- the first of them
record First (bs : List Bool) (v : List ℕ) (vs : List (List ℕ)) : Type 0 where
  own : List Bool
  rest : List Bool
  splits : bs ≡ own ++ rest
  plain : Whole PlainPattern v own
  others : Follow rest vs

first : {bs : List Bool} {v : List ℕ} {vs : List (List ℕ)} → Follow bs (v ∷ vs) → First bs v vs
first (next_follows {bs = own} {rest = rest} q f) = record { own = own; rest = rest; splits = refl; plain = q; others = f }

-- each of them is a pattern's content
pub in_follow : {bs : List Bool} {vs : List (List ℕ)} {v : List ℕ} → Follow bs vs → In v vs → (body : List Bool) × PlainPattern v body
in_follow none_follow i = absurd (not_in_none i)
in_follow {v = v} (next_follows {v = x} q f) i =
    ⊎_elim (λ e. (q.body, subst (λ l. PlainPattern l q.body) (sym e) q.laid)) (λ j. in_follow f j) (in_cases i)

follow_aligned : {bs : List Bool} {vs : List (List ℕ)} → Follow bs vs → length bs % 8 ≡ 0
follow_aligned none_follow = refl
follow_aligned (next_follows {bs = own} {rest = rest} q f) = let a : length own % 8 ≡ 0 = whole_length q in omega (arith, length-append own rest, follow_aligned f)

-- where the first stands, and the others follow it
pub record Found (s : List ℕ) (byte : ℕ) (v : List ℕ) (vs : List (List ℕ)) : Type 0 where
  pub end : ℕ
  pub at : PatternAt s byte v end
  pub body : List Bool
  pub plain : PlainPattern v body
  pub others : Follow (drop end (bits s)) vs

-- what `view_at` gives is the first, and the others are ahead
pub record Advanced (s : List ℕ) (v : List ℕ) (vs : List (List ℕ)) (r : View) : Type 0 where
  pub body : List Bool
  pub plain : PlainPattern v body
  pub holds : HoldsPattern v r.pattern
  pub ahead : Ahead s r.next vs

scanned : (s : List ℕ) (byte : ℕ) {v : List ℕ} (own rest left : List Bool) → drop (8 * byte) (bits s) ≡ own ++ rest → Whole PlainPattern v own → length rest % 8 ≡ 0
    → left ≡ rest → from (whole pattern) s (8 * byte) ≡ got v left
unfolding from
scanned s byte {v} own rest left e q h d = ap (scan (whole pattern)) e ∙ plain_scanned rest q h ∙ ap (got v) (sym d)

pub found : {s : List ℕ} {byte : ℕ} {v : List ℕ} {vs : List (List ℕ)} → Ahead s byte (v ∷ vs) → Found s byte v vs
found {s} {byte} {v} {vs} a =
    let f = first a.follow in
    let i = a.inside (omega arith) in
    let end : ℕ = 8 * byte + length f.own in
    let n : 8 * length s - 8 * byte ≡ length f.own + length f.rest =
    omega (arith, length-drop (8 * byte) (bits s), length-bits s, ap length f.splits, length-append f.own f.rest) in
    let d : drop end (bits s) ≡ f.rest = sym (drop-drop (length f.own) (8 * byte) (bits s)) ∙ ap (drop (length f.own)) f.splits ∙ drop_at f.own f.rest (length f.own) refl in
    record {
      end = end;
      at = record {
        inside = i;
        within = omega arith;
        reads = scanned s byte f.own f.rest (drop end (bits s)) f.splits f.plain (follow_aligned f.others) d;
      };
      body = f.plain.body;
      plain = f.plain.laid;
      others = subst (λ l. Follow l vs) (sym d) f.others;
    }

pub advance : {s : List ℕ} {byte : ℕ} {v : List ℕ} {vs : List (List ℕ)} {r : View} → Ahead s byte (v ∷ vs) → ViewAt s byte r → Advanced s v vs r
advance {s} {v = v} {vs} {r} a view =
    let f = found a in
    let q = view v f.end f.at in
    record {
      body = f.body;
      plain = f.plain;
      holds = q.0;
      ahead = record { inside = λ _. omega (arith, q.1, f.at.within); follow = subst (λ (k : ℕ). Follow (drop k (bits s)) vs) (sym q.1) f.others };
    }

follow_by : (cs : List (List ℕ)) (ls : List (List Bool)) → length cs ≡ length ls → ((i : ℕ) → i < length cs → Whole PlainPattern (get_or cs i []) (get_or ls i [])) → Follow (flatten ls) cs
unfolding flatten
follow_by [] [] e h = none_follow
follow_by [] (l ∷ ls) e h = absurd (omega arith)
follow_by (c ∷ cs) [] e h = absurd (omega arith)
follow_by (c ∷ cs) (l ∷ ls) e h = next_follows (h 0 (omega arith)) (follow_by cs ls (omega arith) (λ i k. h (suc i) (omega arith)))

-- patterns from a byte on are ahead of it
patterns_ahead : (s : List ℕ) (byte number : ℕ) (inner : List ℕ) (laid : List Bool) → byte ≤ length s → drop (8 * byte) (bits s) ≡ laid → PlainPatterns number inner laid
    → Ahead s byte (patterns_in number inner)
patterns_ahead s byte number inner laid inside here t =
    let m = t.many in
    let each : (i : ℕ) → i < length t.contents → Whole PlainPattern (get_or t.contents i []) (get_or t.laid i []) = λ i h. t.each i (omega arith) in
    let bounded : (i : ℕ) → i < length t.contents → Bounded (get_or t.contents i []) =
    λ i h. let p = each i h in plain_bounded (get_or t.contents i []) p.body p.laid in
    let same : patterns_in number inner ≡ t.contents = ap₂ patterns_in (sym m) t.content ∙ patterns_in-flatten t.contents bounded in
    record {
      inside = λ _. inside;
      follow = subst (λ vs. Follow (drop (8 * byte) (bits s)) vs) (sym same)
          (subst (λ l. Follow l t.contents) (sym (here ∙ t.layout)) (follow_by t.contents t.laid (m ∙ sym t.many_laid) each));
    }

-- so are the accepted questions of one call
pub questions_ahead : (number : ℕ) (s ws : List ℕ) → decode (patterns number) s ≡ ok ws → Ahead s 0 (patterns_in number ws)
questions_ahead number s ws e = patterns_ahead s 0 number ws (bits s) (omega arith) refl ((questions_accepted number s ws).0 e)

-- and the views of a catalogue, behind their number
views_ahead : (s cs : List ℕ) → CatalogueFile s cs → Ahead s 1 (views_of cs)
unfolding views_of
views_ahead s cs q =
    let number : length (bits_of 5 q.number ++ replicate 3 false) ≡ 8 =
    length-append (bits_of 5 q.number) (replicate 3 false) ∙ omega (arith, length_bits_of 5 q.number, length-replicate 3 false) in
    let split : bits s ≡ (bits_of 5 q.number ++ replicate 3 false) ++ q.laid = q.layout ∙ simp append_assoc in
    let here : drop (8 * 1) (bits s) ≡ q.laid = ap (drop (8 * 1)) split ∙ drop_at (bits_of 5 q.number ++ replicate 3 false) q.laid 8 number in
    rw q.content
    (patterns_ahead s 1 q.number q.inner q.laid (omega (arith, catalogue_some s cs q)) here q.patterns)

-- the empty one has none
none_ahead : (s cs : List ℕ) → EmptyCatalogue s cs → Ahead s 1 (views_of cs)
unfolding bits views_of patterns_in
none_ahead s cs q = rw (q.0, q.1) (record { inside = λ h. absurd (omega arith); follow = none_follow })

pub all_ahead : (s cs : List ℕ) → read_catalogue s ≡ accepted cs → Ahead s 1 (views_of cs)
all_ahead s cs e = ⊎_elim (none_ahead s cs) (views_ahead s cs) ((catalogue_read_lem s cs).0 e).1

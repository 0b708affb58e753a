-- The moves of a reader of an old record's edges, where repeats are judged at the end.
use Prim.Native.Nat.{ℕ, ◌+◌, ◌-◌, ◌<◌, ◌≤◌}
use mathlib.Core.Path.{◌≡◌, refl, sym, ◌∙◌}
use mathlib.Core.List.{List, [], ◌∷◌, ◌++◌}
use mathlib.Core.Bool.{Bool, true, false, not, ◌&&◌}
use lib.ListN.{set}
use native.Mathlib.Omega.{arith}
use Rattle.packed.specs.Format.{Format, done, then, times, bad, decode}
use Rattle.packed.specs.Formats.{count_field, linked, end, edges, labels, rank}
use Rattle.packed.specs.OldRecord.{nothing, old_record}
use Rattle.packed.specs.Reading.{Reading, Refuses, Value, TwoValues, Judges}
use Rattle.packed.specs.OldLoading.{once, RanksKept, Lazily, LazyPart, Loads}
use Rattle.packed.specs.declared.reply.Refusal.{Refusal}
use Rattle.packed.specs.Refusals.{file_number}
use Rattle.packed.specs.declared.reply.File.{File}
use Rattle.packed.specs.declared.reply.Refusal.TheVariants.{DuplicateEdge}
use Rattle.packed.specs.declared.reply.Loaded.{Loaded}
use Rattle.packed.proofs.ReadingLaws.{starts, left_is, goes_on, calls, refused, reads, passes, fails}
use Rattle.packed.proofs.Files.{judged_bad}
use Rattle.packed.proofs.Edges.{after, edges_none, reads_old, old_refused}
use Rattle.packed.proofs.OldRecords.{RecordHeld, held_none, held_more, once_more, once_none}
use Rattle.packed.specs.Parts.{Part}
use Rattle.std.specs.Prelude.{Ok, Err}

-- ---- what comes next
pub old_is : old_record ≡ count_field 13 0 4096 (λ nodes. count_field 14 0 8192 (λ number. then (times nodes labels) (edges 12 0 nodes nothing number [])))
unfolding old_record
old_is = refl

-- no edge stood twice before one more: then the one more decides; else nothing changes
once_cases : {P : Type 0} (t u : Bool) {v : Bool} → v ≡ (t && not u) → (t ≡ true → not u ≡ true → P) → v ≡ true → P
once_cases true u e f h = f refl (sym e ∙ h)
once_cases false u e f h = absurd (let z : ◌≡◌ {A = ℕ} 0 1 = cc in omega arith)

once_fails : {P : Type 0} (t u : Bool) {v : Bool} → v ≡ (t && not u) → (t ≡ true → not u ≡ false → P) → (t ≡ false → P) → v ≡ false → P
once_fails true u e f g h = f refl (sym e ∙ h)
once_fails false u e f g h = g refl

never : {P : Type 0} → once [] ≡ false → P
never h = absurd (let z : ◌≡◌ {A = Bool} true false = sym once_none ∙ h in let y : ◌≡◌ {A = ℕ} 0 1 = cc in omega arith)

-- ---- reading
-- a reader amid the edges, with k of them loaded and left more to come
pub record EdgesRead (F : Format) (s : List ℕ) (at₀ : ℕ) (w₀ : List ℕ) (i₀ : ℕ) (file : File) (nodes number : ℕ) (work₀ w work : List ℕ) (at i k left : ℕ) : Type 0 where
  pub es : List ℕ
  pub held : RecordHeld number work₀ es work k left
  pub lazy : Lazily F s at₀ w₀ i₀ file nodes left es at w i

module _ {F : Format} {s : List ℕ} {at₀ : ℕ} {w₀ : List ℕ} {i₀ : ℕ} {file : File} where
  -- a part that was refused, whatever was loaded
  loads_refused : {k : ℕ} {es work₀ w work : List ℕ} {x : Refusal} (r : Loaded) → r.edges ≡ k → r.part ≡ Err x → RanksKept es k work₀ work
      → (once es ≡ true → Refuses F s at₀ (file_number file) x) → (once es ≡ false → Refuses F s at₀ (file_number file) (DuplicateEdge file))
      → Loads F s at₀ w₀ i₀ file work₀ r w work
  loads_refused {k} {es} r e q h f g = record { nodes = 0; es = es; kept = rw e h; part = rw q (f, g) }

  -- a refusal before the edges
  pub loads_stopped : {w work : List ℕ} {x : Refusal} (r : Loaded) → r.edges ≡ 0 → r.part ≡ Err x → Refuses F s at₀ (file_number file) x
      → Loads F s at₀ w₀ i₀ file work r w work
  loads_stopped {w} {work} r e q f = loads_refused r e q (held_none 0 work).kept (λ h. f) never

module _ {F : Format} {s : List ℕ} {at₀ : ℕ} {w₀ : List ℕ} {i₀ : ℕ} {file : File} {nodes : ℕ} where
  pub edges_start : (number : ℕ) {w work : List ℕ} {at i : ℕ} → Reading F s at₀ w₀ i₀ (edges 12 0 nodes nothing number []) at w i → i ≤ at
      → EdgesRead F s at₀ w₀ i₀ file nodes number work w work at i 0 number
  edges_start number {w} {work} r h =
      record {
        es = [];
        held = held_none number work;
        lazy = record { clean = λ e. r; dirty = never; inside = r.inside; few = h };
      }

  pub edges_read : {number : ℕ} {work₀ w work : List ℕ} {at i k left a b c : ℕ} {w' w'' : List ℕ} → number ≤ 8192 → nodes ≤ 4096 → 0 < left
      → EdgesRead F s at₀ w₀ i₀ file nodes number work₀ w work at i k left → TwoValues 12 nodes s at w i a b w' → w'' ≡ set w' (i + 2) 0 → c ≡ rank a b 0
      → EdgesRead F s at₀ w₀ i₀ file nodes number work₀ w'' (set work k c) (at + 24) (i + 3) (k + 1) (left - 1)
  edges_read {number} {work₀} {w} {work} {at} {i} {k} {left} {a} {b} {w' = w'} m n l r p put is =
      let x : a < 4096 = omega (arith, p.first.most) in
      let y : b < 4096 = omega (arith, p.second.most) in
      let es : List ℕ = r.es in
      let e = once_more a b 0 y (omega arith) r.held.fine in
      let step : once es ≡ true → Reading F s at₀ w₀ i₀ (after 12 0 nodes nothing left es a b 0) (at + 24) (set w' (i + 2) 0) (i + 3) =
      λ h. reads_old 12 nodes nothing left es l (r.lazy.clean h) (omega arith) p in
      rw (put, is) (record {
        es = es ++ (a ∷ b ∷ 0 ∷ []);
        held = held_more m l x y r.held;
        lazy = record {
          clean = once_cases (once es) (linked a b 0 es) e (λ h g. passes g (step h));
          dirty = once_fails (once es) (linked a b 0 es) e (λ h g. fails (DuplicateEdge file) g refl (step h)) r.lazy.dirty;
          inside = omega (arith, p.second.fits);
          few = omega (arith, r.lazy.few);
        };
      })

  -- an end of the next edge is refused: a repeat stands before it
  pub edges_refused : {number : ℕ} {work₀ w work : List ℕ} {at i k left : ℕ} {w' : List ℕ} {x : Refusal} (r : Loaded) → r.edges ≡ k → r.part ≡ Err x
      → 0 < left → EdgesRead F s at₀ w₀ i₀ file nodes number work₀ w work at i k left
      → ((f : ℕ → ℕ → Format) → Refuses (end 12 nodes (λ a. end 12 nodes (λ b. f a b))) s at (file_number file) x)
      → Loads F s at₀ w₀ i₀ file work₀ r w' work
  edges_refused {left = left} r e q l t p =
      loads_refused r e q t.held.kept (λ h. old_refused 12 nodes nothing left t.es l (t.lazy.clean h) p) t.lazy.dirty

  pub edges_ended : {number : ℕ} {work₀ w work : List ℕ} {at i k left : ℕ} (r : Loaded) → r.edges ≡ k → r.part ≡ Ok (at, i)
      → left ≤ 0 → EdgesRead F s at₀ w₀ i₀ file nodes number work₀ w work at i k left → Loads F s at₀ w₀ i₀ file work₀ r w work
  edges_ended {left = left} r e q l t =
      let z : left ≡ 0 = omega arith in
      record { nodes = nodes; es = t.es; kept = rw e t.held.kept; part = rw q (rw z at t.lazy) }

module _ {F : Format} {s : List ℕ} {at₀ : ℕ} {w₀ : List ℕ} {i₀ : ℕ} where
  -- the edges were the last part of F
  pub loads_tail : {f : Format} {at : ℕ} {w : List ℕ} {i : ℕ} {file : File} {work : List ℕ} {l : Loaded} {w' work' : List ℕ} → Reading F s at₀ w₀ i₀ f at w i
      → Loads f s at w i file work l w' work' → Loads F s at₀ w₀ i₀ file work l w' work'
  loads_tail {f} {at} {w} {i} {file} {l = l} {w'} r q = record { nodes = q.nodes; es = q.es; kept = q.kept; part = tail l.part q.part }
    where
      tail : (p : Part) → LazyPart f s at w i file q.nodes q.es p w' → LazyPart F s at₀ w₀ i₀ file q.nodes q.es p w'
      tail (Ok (at', i')) p =
          record { clean = λ h. goes_on r (p.clean h); dirty = λ h. refused r (p.dirty h); inside = p.inside; few = p.few }
      tail (Err x) p = (λ h. refused r (p.0 h), λ h. refused r (p.1 h))

  -- what was loaded, where no edge stands twice
  pub lazy_end : {file : File} {nodes : ℕ} {es : List ℕ} {at i : ℕ} {w : List ℕ} → once es ≡ true → Lazily F s at₀ w₀ i₀ file nodes 0 es at w i
      → Reading F s at₀ w₀ i₀ done at w i
  lazy_end {nodes = nodes} {es} h q = left_is (edges_none 12 0 nodes nothing es) (q.clean h)

-- and where one does
pub loads_repeat : {F : Format} {s w₀ : List ℕ} {file : File} {work : List ℕ} {l : Loaded} {w work' : List ℕ} (q : Loads F s 0 w₀ 0 file work l w work') → once q.es ≡ false
    → (decode F s ≡ bad 5) × (file_number file ≡ file_number file)
loads_repeat {F} {s} {w₀} {file} {l = l} {w} q h = judged_bad (settle l.part q.part)
  where
    settle : (p : Part) → LazyPart F s 0 w₀ 0 file q.nodes q.es p w → Refuses F s 0 (file_number file) (DuplicateEdge file)
    settle (Ok (at, i)) p = p.dirty h
    settle (Err x) p = p.1 h

-- a refusal that stands where no edge stands twice
pub loads_wrong : {F : Format} {s w₀ : List ℕ} {file : File} {work : List ℕ} {l : Loaded} {w work' : List ℕ} {x : Refusal} (q : Loads F s 0 w₀ 0 file work l w work')
    → once q.es ≡ true → l.part ≡ Err x → Judges (decode F s) (file_number file) l.part w₀ w
loads_wrong q h e = let p = rw e at q.part in rw e (judged_bad (p.0 h))

-- a record up to its labels, its edges, and the end of its labels
module _ {s w w₁ : List ℕ} {nodes : ℕ} (p : Value 13 0 4097 s 0 w 0 nodes w₁) where
  pub old_nodes : Reading old_record s 0 w 0 (count_field 14 0 8192 (λ number. then (times nodes labels) (edges 12 0 nodes nothing number []))) 13 w₁ 1
  old_nodes = reads (left_is old_is (starts (omega arith))) p

  module _ {w₂ : List ℕ} {number : ℕ} (q : Value 14 0 8193 s 13 w₁ 1 number w₂) where
    pub old_number : Reading old_record s 0 w 0 (then (times nodes labels) (edges 12 0 nodes nothing number [])) 27 w₂ 2
    old_number = reads old_nodes q

    pub old_labels : {at : ℕ} {w₃ : List ℕ} {i : ℕ} → Reading (times nodes labels) s 27 w₂ 2 done at w₃ i
        → Reading old_record s 0 w 0 (edges 12 0 nodes nothing number []) at w₃ i
    old_labels r = calls (times nodes labels) (edges 12 0 nodes nothing number []) old_number r

-- The content of a record in a table, with one edge more: the count is set, and the edges are stored again from the workspace.
use Prim.Native.Nat.{ℕ, suc, ◌+◌, ◌-◌, ◌*◌, ◌≤◌, ◌<◌}
use mathlib.Core.Path.{◌≡◌, sym, ap, ap₂, ◌∙◌, subst}
use mathlib.Core.List.{List, ◌∷◌, ◌++◌, append_assoc}
use lib.ListN.{length, take, drop, set, length-append, length-set}
use lib.Seq.{sets, sets-eq, length-sets, take_at}
use native.Mathlib.Omega.{arith}
use Rattle.packed.specs.Format.{ok, decode, encode}
use Rattle.packed.specs.Formats.{record', rank}
use Rattle.packed.specs.Contents.{nodes_of, edges_of, edge_word, edge_words, ranks, from_words}
use Rattle.packed.specs.Plain.{EdgesAmong}
use Rattle.packed.specs.Calls.{record_bytes}
use Rattle.packed.specs.Writing.{JudgesFields}
use Rattle.packed.specs.LoadedGraph.{Holds}
use Rattle.packed.specs.Entered.{edges_in, entered_edges, entered, MayEnter, lower}
use Rattle.packed.specs.Entering.{PutAt, EntersAt, EnteredIn}
use Rattle.packed.proofs.Sets.{sets_front}
use Rattle.packed.proofs.Accepted.{record_accepted}
use Rattle.packed.proofs.CallLaws.{judges_fields_front}
use Rattle.packed.proofs.GraphLaws.{record_among, record_bounds, words_back, holds_bounds}
use Rattle.packed.proofs.EnteredLaws.{Entered, record_enters, parts_entered, parts_edges}
use Rattle.packed.proofs.EnteredWords.{holds_entered}
use Rattle.packed.specs.Parts.{Part}

module _ (nodes number : ℕ) (labels es fs out : List ℕ) (each : length labels ≡ nodes) (three : length es ≡ 3 * number) (long : length fs ≡ 3 * suc number)
    (room : 2 + nodes + 3 * suc number ≤ length out) where
  abbrev all : List ℕ
  all = nodes ∷ number ∷ (labels ++ es)

  abbrev words : List ℕ
  words = set (sets out 0 all) 1 (suc number)

  parts_length : length all ≡ 2 + nodes + 3 * number
  parts_length = omega (arith, length-append labels es)

  words_are : words ≡ nodes ∷ suc number ∷ ((labels ++ es) ++ drop (length all) out)
  words_are = ap (λ (l : List ℕ). set l 1 (suc number)) (sets_front out all (omega (arith, parts_length)))

  front : take (2 + nodes) words ≡ nodes ∷ suc number ∷ labels
  front =
      let z : 2 + nodes ≡ suc (suc nodes) = omega arith in
      let d : List ℕ = drop (length all) out in
      ap (take (2 + nodes)) words_are
      ∙ ap (λ (i : ℕ). take i (nodes ∷ suc number ∷ ((labels ++ es) ++ drop (length all) out))) z
      ∙ ap (λ (l : List ℕ). nodes ∷ suc number ∷ l) (ap (take nodes) (append_assoc labels es (drop (length all) out)) ∙ take_at labels (es ++ drop (length all) out) nodes each)

  words_long : length words ≡ length out
  words_long = length-set (sets out 0 all) 1 (suc number) ∙ length-sets out 0 all

  parts_table : take (2 + nodes + 3 * suc number) (sets words (2 + nodes) fs) ≡ nodes ∷ suc number ∷ (labels ++ fs)
  parts_table =
      ap (take (2 + nodes + 3 * suc number)) (
      sets-eq fs words (2 + nodes) (omega (arith, words_long, long))
      ∙ ap (λ (x : List ℕ). (x ++ fs) ++ drop (2 + nodes + length fs) words) front)
      ∙ take_at (nodes ∷ suc number ∷ (labels ++ fs)) (drop (2 + nodes + length fs) words) (2 + nodes + 3 * suc number) (omega (arith, length-append labels fs, long, each))

-- what store_record left, its count set to one more, and the edges stored from the words in the workspace, is the content with the edge
pub table_entered : (s ws : List ℕ) → decode record' s ≡ ok ws → (a b k : ℕ) → MayEnter ws a b k → (out work : List ℕ) → 2 + nodes_of ws + 3 * suc (edges_of ws) ≤ length out
    → take (suc (edges_of ws)) work ≡ edge_words (entered_edges (edges_in ws) a b k)
    → take (2 + nodes_of ws + 3 * suc (edges_of ws)) (sets (set (sets out 0 ws) 1 (suc (edges_of ws))) (2 + nodes_of ws) (from_words (take (suc (edges_of ws)) work))) ≡ entered ws a b k
table_entered s ws e a b k g out work room held =
    let n : Entered ws a b k = record_enters s ws e a b k g in
    let fs : List ℕ = entered_edges (edges_in ws) a b k in
    let b1 = record_bounds (record_bytes (entered ws a b k)) (entered ws a b k) n.made.back in
    let am : EdgesAmong (nodes_of (entered ws a b k)) 8 (edges_of (entered ws a b k)) (entered_edges (edges_in ws) a b k) =
    subst (λ (l : List ℕ). EdgesAmong (nodes_of (entered ws a b k)) 8 (edges_of (entered ws a b k)) l) n.edges (record_among (record_bytes (entered ws a b k)) (entered ws a b k) n.made.back) in
    let back : from_words (take (suc (edges_of ws)) work) ≡ entered_edges (edges_in ws) a b k = ap from_words held ∙ words_back (edges_of (entered ws a b k)) (entered_edges (edges_in ws) a b k) b1.0 am in
    let long : length (entered_edges (edges_in ws) a b k) ≡ 3 * suc (edges_of ws) = am.three_each ∙ ap (λ (i : ℕ). 3 * i) n.number in
    ap (λ (l : List ℕ). take (2 + nodes_of ws + 3 * suc (edges_of ws)) (sets (set (sets out 0 ws) 1 (suc (edges_of ws))) (2 + nodes_of ws) l)) back
    ∙ go ws ((record_accepted s ws).0 e).laid.nodes ((record_accepted s ws).0 e).laid.number ((record_accepted s ws).0 e).laid.labels ((record_accepted s ws).0 e).laid.es
    ((record_accepted s ws).0 e).laid.content ((record_accepted s ws).0 e).laid.labels_each ((record_accepted s ws).0 e).laid.edges.among.three_each room long
  where
    go : (vs : List ℕ) (nodes number : ℕ) (labels es : List ℕ) → vs ≡ nodes ∷ number ∷ (labels ++ es) → length labels ≡ nodes → length es ≡ 3 * number
        → 2 + nodes_of vs + 3 * suc (edges_of vs) ≤ length out → length (entered_edges (edges_in vs) a b k) ≡ 3 * suc (edges_of vs)
        → take (2 + nodes_of vs + 3 * suc (edges_of vs)) (sets (set (sets out 0 vs) 1 (suc (edges_of vs))) (2 + nodes_of vs) (entered_edges (edges_in vs) a b k)) ≡ entered vs a b k
    go vs nodes number labels es c each three r l =
        subst
        (λ (v : List ℕ). 2 + nodes_of v + 3 * suc (edges_of v) ≤ length out → length (entered_edges (edges_in v) a b k) ≡ 3 * suc (edges_of v)
        → take (2 + nodes_of v + 3 * suc (edges_of v)) (sets (set (sets out 0 v) 1 (suc (edges_of v))) (2 + nodes_of v) (entered_edges (edges_in v) a b k)) ≡ entered v a b k)
        (sym c)
        (λ r' l'.
        let is : edges_in (nodes ∷ number ∷ (labels ++ es)) ≡ es = parts_edges nodes number labels es each in
        let same : entered_edges (edges_in (nodes ∷ number ∷ (labels ++ es))) a b k ≡ entered_edges es a b k = ap (λ (t : List ℕ). entered_edges t a b k) is in
        ap (λ (t : List ℕ). take (2 + nodes + 3 * suc number) (sets (set (sets out 0 (nodes ∷ number ∷ (labels ++ es))) 1 (suc number)) (2 + nodes) t)) same
        ∙ parts_table nodes number labels es (entered_edges es a b k) out each three (sym (ap length same) ∙ l') r'
        ∙ sym (parts_entered nodes number labels es each a b k))
        r l

-- ---- the record as write_entered writes it
module _ {s : List ℕ} {n m : ℕ} {w : List ℕ} {a b k at : ℕ} (h : Holds s n m w) (t : EntersAt s a b k at) where
  may : MayEnter h.fields a b k
  may = let q : t.fields ≡ h.fields = cc (t.is, h.is) in subst (λ (l : List ℕ). MayEnter l a b k) q t.may

  behind : at ≡ lower (rank a b k) (ranks (edges_in h.fields))
  behind = let q : t.fields ≡ h.fields = cc (t.is, h.is) in t.behind ∙ ap (λ (l : List ℕ). lower (rank a b k) (ranks (edges_in l))) q

  pub enters_bounds : (at ≤ m) × (m < 8192) × (n ≤ 4096) × (a < n) × (b < n) × (k < 8)
  enters_bounds =
      let e = record_enters s h.fields h.is a b k may in
      let x = e.place.0 in
      let r = may.room in
      let f = may.from in
      let o = may.to in (
        omega (arith, h.edges, behind),
        omega (arith, h.edges),
        (holds_bounds h).0,
        omega (arith, h.nodes),
        omega (arith, h.nodes),
        may.is_kind,
      )

  module _ {table stored filled w' : List ℕ} (long : length table ≡ 28674) (p : PutAt at m (edge_word a b k) w w')
      (first : (ws : List ℕ) → decode record' s ≡ ok ws → stored ≡ sets table 0 ws) (last : filled ≡ sets (set stored 1 (m + 1)) (2 + n) (from_words (take (m + 1) w'))) where
    abbrev fields : List ℕ
    fields = h.fields

    now-holds : Holds (record_bytes (entered fields a b k)) n (m + 1) w'
    now-holds = holds_entered h a b k may behind p

    content-is : take (2 + n + 3 * (m + 1)) filled ≡ entered fields a b k
    content-is =
        let x = h.nodes in
        let y : m + 1 ≡ suc (edges_of fields) = omega (arith, h.edges) in
        let e = record_enters s fields h.is a b k may in
        let o = enters_bounds in
        let q : now-holds.fields ≡ entered fields a b k = cc (now-holds.is, e.made.back) in
        let held : take (suc (edges_of fields)) w' ≡ edge_words (entered_edges (edges_in fields) a b k) =
        ap (λ (i : ℕ). take i w') (sym y) ∙ now-holds.front ∙ ap edge_words (ap edges_in q ∙ e.edges) in
        ap (take (2 + n + 3 * (m + 1))) (last ∙ ap (λ (l : List ℕ). sets (set l 1 (m + 1)) (2 + n) (from_words (take (m + 1) w'))) (first fields h.is))
        ∙ ap₂ (λ (i j : ℕ). take (2 + i + 3 * j) (sets (set (sets table 0 fields) 1 j) (2 + i) (from_words (take j w')))) x y
        ∙ table_entered s fields h.is a b k may table w' (omega (arith, long, o.1, o.2, x, y)) held

    pub entered_in : {out out' : List ℕ} (r : Part) → JudgesFields (encode record' (take (2 + n + 3 * (m + 1) - 0) (drop 0 filled))) 3 r out out' → EnteredIn s n m a b k out out' w'
    entered_in {out} {out'} r j =
        let e = record_enters s fields h.is a b k may in
        let z : 2 + n + 3 * (m + 1) - 0 ≡ 2 + n + 3 * (m + 1) = omega arith in
        let c : encode record' (take (2 + n + 3 * (m + 1) - 0) (drop 0 filled)) ≡ ok (record_bytes (entered fields a b k)) =
        ap (λ (i : ℕ). encode record' (take i filled)) z ∙ ap (encode record') content-is ∙ e.made.is in
        let d = judges_fields_front (encode record' (take (2 + n + 3 * (m + 1) - 0) (drop 0 filled))) 3 r (record_bytes (entered fields a b k)) out out' j c in
        let same : (ws : List ℕ) → decode record' s ≡ ok ws → fields ≡ ws = λ ws q. (let x : fields ≡ ws = cc (h.is, q) in x) in
        record {
          written = λ ws q. d ∙ ap (λ (l : List ℕ). sets out 0 (record_bytes (entered l a b k))) (same ws q);
          holds = λ ws q. subst (λ (l : List ℕ). Holds (record_bytes (entered l a b k)) n (m + 1) w') (same ws q) now-holds;
        }

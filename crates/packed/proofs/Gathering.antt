-- Gathering codes: one code more, a chunk that is full, the end, and a walk that gathers part after part.
use mathlib.Core.Path.{◌≡◌, refl, ap, ap₂, ◌∙◌, sym, subst}
use mathlib.Core.Bool.{or_comm}
use mathlib.Core.Logic.{⊎_elim}
use mathlib.Core.List.{List, [], ◌∷◌, ◌++◌, append-nil, append_assoc}
use Prim.Native.Nat.{ℕ, ◌≤◌, ◌<◌, ◌+◌, ◌^◌}
use native.Mathlib.Omega.{arith}
use native.Mathlib.Numerals.{add-one}
use lib.ListN.{length, take, drop, set, length-set, length-drop}
use lib.Seq.{take-set-le, drop-set-add, take-suc-set, get_or-set_same, get_or-set_other}
use Rattle.packed.specs.Order.{word}
use Rattle.packed.specs.Contents.{member, insert, distinct}
use Rattle.packed.specs.Distinct.{ChunkBelow, Absorbable, Absorbed}
use Rattle.packed.specs.Walks.{Gathers, Adds, Gathering, Different}
use Rattle.packed.specs.declared.gather.Gather.{Gather}
use Rattle.packed.proofs.OrderCases.{trichotomy, eq_or_ne}
use Rattle.packed.proofs.DistinctLaws.{insert_lt, insert_eq, insert_gt, inserts, distinct_append, distinct_front, distinct_same, member_append}
use Rattle.packed.proofs.DistinctAbsorb.{absorbed_held}

-- ---- more codes, no fewer different ones
length_insert : (x : ℕ) (l : List ℕ) → length l ≤ length (insert x l)
length_insert x [] = omega arith
length_insert x (y ∷ ys) =
    trichotomy x y
    (λ h. rw (insert_lt x y ys h) (omega arith))
    (λ h. rw (insert_eq x y ys h) (omega arith))
    (λ h. rw (insert_gt x y ys h) (omega (arith, length_insert x ys)))

length_inserts : (a l : List ℕ) → length l ≤ length (inserts a l)
unfolding inserts
length_inserts [] l = omega arith
length_inserts (x ∷ a) l = omega (arith, length_inserts a l, length_insert x (inserts a l))

distinct_swap : (a b : List ℕ) → distinct (a ++ b) ≡ distinct (b ++ a)
distinct_swap a b = distinct_same (a ++ b) (b ++ a) (λ z. member_append z a b ∙ or_comm (member z a) (member z b) ∙ sym (member_append z b a))

pub length_distinct : (a b : List ℕ) → length (distinct a) ≤ length (distinct (a ++ b))
length_distinct a b = rw (distinct_swap a b, distinct_append b a) (length_inserts b (distinct a))

-- ---- the codes so far, where they are not too many: held of them at the front of the workspace, and a chunk, which may be full
pub record CodesGathered (codes : List ℕ) (held fill : ℕ) (w : List ℕ) : Type 0 where
  pub can : Absorbable held fill w
  pub same : distinct codes ≡ distinct (take held w ++ take fill (drop 8192 w))

pub gathers_kept : {codes : List ℕ} {g : Gather} {w : List ℕ} → Gathers codes g w → g.held ≤ 8192 → CodesGathered codes g.held g.fill w
gathers_kept t h = record { can = t.few h; same = t.same h }

pub kept_gathers : {codes w : List ℕ} (g : Gather) → CodesGathered codes g.held g.fill w → g.fill < 4096 → Gathers codes g w
kept_gathers g t h =
    record { long = t.can.long; chunk = h; few = λ _. t.can; same = λ _. t.same; many = λ l. absurd (let z = t.can.most in omega arith) }

-- too many stay too many
pub gathers_many : {codes : List ℕ} {g : Gather} {w : List ℕ} (more : List ℕ) → Gathers codes g w → 8192 < g.held → Gathers (codes ++ more) g w
gathers_many {codes} more t h =
    record {
      long = t.long;
      chunk = t.chunk;
      few = λ l. absurd (omega arith);
      same = λ l. absurd (omega arith);
      many = λ l. (let z = t.many h in omega (arith, length_distinct codes more));
    }

-- ---- one code more, at the end of the chunk
abbrev pub added : ℕ → ℕ → List ℕ → List ℕ
added fill code w = set w (8192 + fill) code

module _ (held fill code : ℕ) (w : List ℕ) (t : Absorbable held fill w) (room : fill < 4096) (fits : code < 2 ^ 24) where
  added_front : take held (added fill code w) ≡ take held w
  added_front = take-set-le held w (8192 + fill) code (let z = t.most in omega arith)

  added_chunk : take (fill + 1) (drop 8192 (added fill code w)) ≡ take fill (drop 8192 w) ++ (code ∷ [])
  added_chunk = rw (add-one, drop-set-add) (take-suc-set (drop 8192 w) fill code (let z = t.long in simp length-drop (omega arith)))

  added_word : (o j : ℕ) → (o + j ≡ 8192 + fill → ⊥) → word (added fill code w) o j ≡ word w o j
  unfolding word
  added_word o j n = get_or-set_other w (8192 + fill) (o + j) code 0 n

  added_last : word (added fill code w) 8192 fill ≡ code
  unfolding word
  added_last = get_or-set_same w (8192 + fill) code 0 (let z = t.long in omega arith)

  added_below : ChunkBelow (fill + 1) (added fill code w)
  unfolding ChunkBelow
  added_below j h =
      ⊎_elim
      (λ e. subst (λ (k : ℕ). word (added fill code w) 8192 k < 2 ^ 24) (sym e) (rw added_last fits))
      (λ n. rw (added_word 8192 j (λ e. n (omega arith))) (t.below j (let z : j < fill = omega arith in z)))
      (eq_or_ne j fill)

  pub can_more : Absorbable held (fill + 1) (added fill code w)
  can_more =
      record {
        long = length-set w (8192 + fill) code ∙ t.long;
        most = t.most;
        chunk = omega arith;
        front =
            record {
              own = ap distinct added_front ∙ t.front.own ∙ sym added_front;
              small = λ j h. (let z = t.most in rw (added_word 0 j (λ e. omega arith)) (t.front.small j h));
            };
        below = added_below;
      }

  pub same_more : (codes : List ℕ) → distinct codes ≡ distinct (take held w ++ take fill (drop 8192 w))
      → distinct (codes ++ (code ∷ [])) ≡ distinct (take held (added fill code w) ++ take (fill + 1) (drop 8192 (added fill code w)))
  same_more codes e =
      distinct_front codes (code ∷ [])
      ∙ ap (λ (l : List ℕ). distinct (l ++ (code ∷ []))) e
      ∙ sym (distinct_front (take held w ++ take fill (drop 8192 w)) (code ∷ []))
      ∙ ap distinct (append_assoc (take held w) (take fill (drop 8192 w)) (code ∷ []) ∙ ap₂ (λ a b. a ++ b) (sym added_front) (sym added_chunk))

pub kept_more : {codes w : List ℕ} {held fill : ℕ} (code : ℕ) → CodesGathered codes held fill w → fill < 4096 → code < 2 ^ 24
    → CodesGathered (codes ++ (code ∷ [])) held (fill + 1) (added fill code w)
kept_more {codes} {w} {held} {fill} code t room fits =
    record { can = can_more held fill code w t.can room fits; same = same_more held fill code w t.can room fits codes t.same }

-- the chunk is full
pub kept_full : {codes : List ℕ} {g : Gather} {w : List ℕ} (code : ℕ) → Gathers codes g w → g.held ≤ 8192 → 4095 ≤ g.fill → code < 2 ^ 24
    → CodesGathered (codes ++ (code ∷ [])) g.held 4096 (added g.fill code w)
kept_full {codes} {g} {w} code t h f fits =
    let e : g.fill + 1 ≡ 4096 = (let z = t.chunk in omega arith) in
    subst (λ (n : ℕ). CodesGathered (codes ++ (code ∷ [])) g.held n (added g.fill code w)) e (kept_more code (gathers_kept t h) t.chunk fits)

-- ---- a chunk absorbed
module _ {codes w w' : List ℕ} {held fill : ℕ} (r : ℕ) (t : CodesGathered codes held fill w) (a : Absorbed held fill w r w') where
  absorbed_long : length w' ≡ 16384
  absorbed_long = a.long ∙ t.can.long

  absorbed_size : r ≡ length (distinct codes)
  absorbed_size = a.size ∙ ap length (sym t.same)

  absorbed_few : r ≤ 8192 → take r w' ≡ distinct codes
  absorbed_few h = a.front h ∙ sym t.same

  pub absorbed_different : Different codes r w'
  absorbed_different =
      record { few = absorbed_few; number = λ h. absorbed_size; many = λ h. (let z = absorbed_size in omega arith); long = absorbed_long }

  -- an empty chunk after the held ones
  absorbed_can : r ≤ 8192 → Absorbable r 0 w'
  absorbed_can h =
      record {
        long = absorbed_long;
        most = h;
        chunk = omega arith;
        front = absorbed_held held fill r w w' a h;
        below = unfold ChunkBelow in (λ j l. absurd (omega arith));
      }

  absorbed_same : r ≤ 8192 → distinct codes ≡ distinct (take r w' ++ [])
  absorbed_same h =
      sym (absorbed_few h) ∙ sym (absorbed_held held fill r w w' a h).own ∙ ap distinct (sym (append-nil (take r w')))

  pub absorbed_gathers : Gathers codes (record { held = r; fill = 0 }) w'
  absorbed_gathers =
      record {
        long = absorbed_long;
        chunk = omega arith;
        few = absorbed_can;
        same = absorbed_same;
        many = λ h. (let z = absorbed_size in omega arith);
      }

-- ---- at the start and at the end
pub gathers_none : (g : Gather) (w : List ℕ) → g.held ≡ 0 → g.fill ≡ 0 → length w ≡ 16384 → Gathers [] g w
gathers_none g w h f l =
    kept_gathers g
    (record {
      can =
          record {
            long = l;
            most = omega arith;
            chunk = omega arith;
            front = record { own = rw h (unfold distinct in refl); small = λ j k. absurd (omega arith) };
            below = unfold ChunkBelow in (λ j k. absurd (omega arith));
          };
      same = rw (h, f);
    })
    (omega arith)

pub different_many : {codes : List ℕ} {g : Gather} {w : List ℕ} → Gathers codes g w → 8192 < g.held → Different codes g.held w
different_many t h =
    record { few = λ l. absurd (omega arith); number = λ l. absurd (omega arith); many = λ l. t.many h; long = t.long }

pub adds_same : {more more' w w' : List ℕ} {g g' : Gather} → more ≡ more' → Adds more g w g' w' → Adds more' g w g' w'
adds_same e a codes t = rw (← e) (a codes t)

-- ---- a walk that gathers the codes of a whole part after part, of which some are left
pub record Walked (whole : List ℕ) (g₀ : Gather) (w₀ left : List ℕ) (g : Gather) (w : List ℕ) : Type 0 where
  pub past : List ℕ
  pub splits : whole ≡ past ++ left
  pub adds : Adds past g₀ w₀ g w

pub walked_start : (whole : List ℕ) (g : Gather) (w : List ℕ) → Walked whole g w whole g w
walked_start whole g w = record { past = []; splits = refl; adds = λ codes t. rw append-nil t }

pub walked_gathering : {whole w₀ left w : List ℕ} {g₀ g : Gather} → Walked whole g₀ w₀ left g w → Gathering g₀ w₀ → Gathering g w
walked_gathering t b = (b.0 ++ t.past, t.adds b.0 b.1)

pub walked_more : {whole w₀ left w : List ℕ} {g₀ g : Gather} (more rest : List ℕ) (g' : Gather) (w' : List ℕ)
    → Walked whole g₀ w₀ left g w → left ≡ more ++ rest → Adds more g w g' w' → Walked whole g₀ w₀ rest g' w'
walked_more more rest g' w' t e a =
    record {
      past = t.past ++ more;
      splits = t.splits ∙ ap (λ (l : List ℕ). t.past ++ l) e ∙ sym (append_assoc t.past more rest);
      adds = λ codes b. rw (← append_assoc) (a (codes ++ t.past) (t.adds codes b));
    }

pub walked_end : {whole w₀ left w : List ℕ} {g₀ g : Gather} → Walked whole g₀ w₀ left g w → left ≡ [] → Adds whole g₀ w₀ g w
walked_end {whole} t e codes b =
    let z : whole ≡ t.past = t.splits ∙ ap (λ (l : List ℕ). t.past ++ l) e ∙ append-nil t.past in
    rw z (t.adds codes b)

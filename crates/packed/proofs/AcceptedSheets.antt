-- What the formats of a sheet and of a book accept.
use Prim.Native.Nat.{ℕ, zero, suc, ◌+◌, ◌≤◌, ◌<◌}
use mathlib.Core.Path.{◌≡◌, refl, ap, sym, ◌∙◌, subst}
use mathlib.Core.List.{List, [], ◌∷◌, ◌++◌, append_assoc}
use mathlib.Core.Bool.{Bool, true, not}
use mathlib.Core.Logic.{◌⊎◌, inl, inr, ⊎_elim, ◌↔◌}
use lib.ListN.{length, get_or}
use lib.Dec.{eqb}
use native.Mathlib.Omega.{arith}
use borrow.Author.Tests.{ne_eqb}
use Rattle.packed.specs.Bits.{bits_of}
use Rattle.packed.specs.Format.{Format, then, whole}
use Rattle.packed.specs.Formats.{pairs, lists, standing, sheet, book}
use Rattle.packed.specs.Plain.{Laid, Whole, InTurn, field_bits, PlainPairs, PlainList, PlainSheet}
use Rattle.packed.proofs.AcceptedLaws.{Accepts, accepts_same, accepts_done, Asked, accepts_ask, Tested, accepts_test, Then, accepts_then}
use Rattle.packed.proofs.AcceptedPairs.{accepts_pairs}
use Rattle.packed.proofs.AcceptedTurns.{no_turns, more_turns, row, accepts_row}

-- ---- one list

-- the pairs of a list
abbrev Pairs : ℕ → Laid
Pairs n ws bs = PlainPairs n ws × (bs ≡ field_bits 12 ws)

list_to : (n : ℕ) (ends : List ℕ) (bs : List Bool) → 1 ≤ n → n ≤ 8192 → Pairs n ends bs → PlainList (n ∷ ends) (bits_of 14 n ++ bs)
list_to n ends bs some most q =
    record {
      number = n;
      ends = ends;
      content = refl;
      layout = ap (λ (l : List Bool). bits_of 14 n ++ l) q.1;
      some = some;
      most = most;
      pairs = q.0;
    }

-- ---- so many lists

-- a count that is not zero, its pairs, and what S says of the rest
abbrev FrontLaid : Laid → Laid
FrontLaid S = Asked 14 0 8193 (λ n. Tested (not (eqb n 0)) (Then (Pairs n) (λ front. S)))

not_zero : (n : ℕ) → not (eqb n 0) ≡ true → 1 ≤ n
not_zero zero h = absurd (let z : ◌≡◌ {A = ℕ} 0 1 = cc in omega arith)
not_zero (suc n) h = omega arith

module _ (m : ℕ) (ws : List ℕ) (bs : List Bool) where
  list_more : FrontLaid (InTurn (λ i. PlainList) m) ws bs → InTurn (λ i. PlainList) (suc m) ws bs
  list_more q =
      let n : ℕ = q.value in
      let r = q.after.1 in
      (more_turns (λ i. PlainList) m ws bs).0 (record {
        first = n ∷ r.first;
        second = r.second;
        front = bits_of 14 n ++ r.front;
        back = r.back;
        content = q.content ∙ ap (λ (l : List ℕ). n ∷ l) r.content;
        layout = q.layout ∙ ap (λ (l : List Bool). bits_of 14 n ++ l) r.layout ∙ sym (append_assoc (bits_of 14 n) r.front r.back);
        before = list_to n r.first r.front (not_zero n q.after.0) (let l = q.most in omega arith) r.before;
        after = r.after;
      })

  more_list : InTurn (λ i. PlainList) (suc m) ws bs → FrontLaid (InTurn (λ i. PlainList) m) ws bs
  more_list t =
      let r = (more_turns (λ i. PlainList) m ws bs).1 t in
      let p = r.before in
      let n : ℕ = p.number in
      record {
        value = n;
        rest = p.ends ++ r.second;
        body = field_bits 12 p.ends ++ r.back;
        content = r.content ∙ ap (λ (l : List ℕ). l ++ r.second) p.content;
        layout = r.layout ∙ ap (λ (l : List Bool). l ++ r.back) p.layout ∙ append_assoc (bits_of 14 n) (field_bits 12 p.ends) r.back;
        least = omega arith;
        most = let l = p.most in omega arith;
        fits = let l = p.most in omega arith;
        after = (
          ap not (ne_eqb n 0 (λ e. let l = p.some in omega arith)),
          record {
            first = p.ends;
            second = r.second;
            front = field_bits 12 p.ends;
            back = r.back;
            content = refl;
            layout = refl;
            before = (p.pairs, refl);
            after = r.after;
          },
        );
      }

accepts_lists : (m at : ℕ) → Accepts (lists m) at (InTurn (λ i. PlainList) m)
unfolding lists
accepts_lists zero at = accepts_same (no_turns (λ i. PlainList)) (accepts_done at)
accepts_lists (suc m) at =
    accepts_same (λ ws bs. (list_more m ws bs, more_list m ws bs))
    (accepts_ask 14 0 8193 3 _ at _ (λ n l h.
    accepts_test (not (eqb n 0)) 8
    (accepts_then (pairs n 0) (lists m) (at + 14) (accepts_pairs n (at + 14)) (λ ws bs q.
    accepts_lists m (at + 14 + length bs)))))

-- ---- a sheet

-- the lead, and the lists that stand
abbrev LeadLaid : ℕ → Laid
LeadLaid m = Asked 1 0 2 (λ lead. InTurn (λ i. PlainList) (standing lead m))

-- what follows the lead
abbrev Either : ℕ → ℕ → Laid
Either m lead zs cs = ((lead ≡ 0) × (zs ≡ []) × (cs ≡ [])) ⊎ ((lead ≡ 1) × InTurn (λ i. PlainList) m zs cs)

by_lead : (m lead : ℕ) (zs : List ℕ) (cs : List Bool) → lead < 2 → InTurn (λ i. PlainList) (standing lead m) zs cs → Either m lead zs cs
unfolding standing
by_lead m zero zs cs h t = let q = (no_turns (λ i. PlainList) zs cs).1 t in inl (refl, q.0, q.1)
by_lead m (suc zero) zs cs h t = inr (refl, t)
by_lead m (suc (suc v)) zs cs h t = absurd (omega arith)

lead_by : (m lead : ℕ) (zs : List ℕ) (cs : List Bool) → Either m lead zs cs → (lead < 2) × InTurn (λ i. PlainList) (standing lead m) zs cs
unfolding standing
lead_by m lead zs cs =
    ⊎_elim
    (λ q. (omega (arith, q.0), rw q.0 ((no_turns (λ i. PlainList) zs cs).0 (q.1, q.2))))
    (λ q. (omega (arith, q.0), rw q.0 q.1))

plain_sheet : (m : ℕ) (ws : List ℕ) (bs : List Bool) → LeadLaid m ws bs ↔ PlainSheet m ws bs
plain_sheet m ws bs = (
  λ q. record {
    lead = q.value;
    inner = q.rest;
    laid = q.body;
    content = q.content;
    layout = q.layout;
    either = by_lead m q.value q.rest q.body q.most q.after;
  },
  λ q. let r = lead_by m q.lead q.inner q.laid q.either in record {
    value = q.lead;
    rest = q.inner;
    body = q.laid;
    content = q.content;
    layout = q.layout;
    least = omega arith;
    most = r.0;
    fits = r.0;
    after = r.1;
  },
)

pub accepts_sheet : (m at : ℕ) → Accepts (sheet m) at (PlainSheet m)
unfolding sheet
accepts_sheet m at = accepts_same (plain_sheet m) (accepts_ask 1 0 2 3 _ at _ (λ lead l h. accepts_lists (standing lead m) (at + 1)))

-- ---- a book

book_row : (ms : List ℕ) → row (λ i. sheet (get_or ms i 0)) (length ms) ≡ book ms
unfolding row book
book_row [] = refl
book_row (m ∷ ms) = ap (then (whole (sheet m))) (book_row ms)

pub accepts_book : (ms : List ℕ) → Accepts (book ms) 0 (InTurn (λ i. Whole (PlainSheet (get_or ms i 0))) (length ms))
accepts_book ms =
    subst (λ (F : Format). Accepts F 0 (InTurn (λ i. Whole (PlainSheet (get_or ms i 0))) (length ms))) (book_row ms)
    (accepts_row (λ i. sheet (get_or ms i 0)) (λ i. PlainSheet (get_or ms i 0)) (λ i. accepts_sheet (get_or ms i 0)) (length ms) 0 refl)

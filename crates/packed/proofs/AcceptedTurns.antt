-- What formats one after the other accept, and the formats of patterns one after the other and of a catalogue.
use Prim.Native.Nat.{ℕ, zero, suc, ◌+◌, ◌%◌, ◌<◌}
use mathlib.Core.Path.{◌≡◌, refl, ap, ◌∙◌, subst}
use mathlib.Core.List.{List, [], ◌∷◌, ◌++◌, flatten}
use mathlib.Core.Bool.{Bool, false}
use mathlib.Core.Logic.{◌↔◌}
use lib.ListN.{length, get_or, replicate, length-append}
use native.Mathlib.Omega.{arith}
use Rattle.packed.specs.Bits.{bits_of, gap}
use Rattle.packed.specs.Format.{Format, done, pad, then, times, whole}
use Rattle.packed.specs.Formats.{pattern, patterns, catalogue}
use Rattle.packed.specs.Plain.{Laid, Whole, InTurn, PlainPattern, PlainPatterns, PlainCatalogue}
use Rattle.packed.proofs.BitsLaws.{length_bits_of}
use Rattle.packed.proofs.AcceptedLaws.{Accepts, accepts_same, Nothing, accepts_done, Asked, accepts_ask, Then, accepts_then, Padded, accepts_pad, accepts_whole, whole_length}
use Rattle.packed.proofs.AcceptedGraphs.{accepts_pattern}

-- ---- the first part, and the others

abbrev Each : (ℕ → Laid) → ℕ → List (List ℕ) → List (List Bool) → Type 0
Each One n cs ls = (i : ℕ) → i < n → One i (get_or cs i []) (get_or ls i [])

each_cons : (One : ℕ → Laid) (n : ℕ) (c : List ℕ) (l : List Bool) (cs : List (List ℕ)) (ls : List (List Bool)) → One 0 c l
    → Each (λ i. One (suc i)) n cs ls → Each One (suc n) (c ∷ cs) (l ∷ ls)
each_cons One n c l cs ls h g zero i = h
each_cons One n c l cs ls h g (suc j) i = g j (omega arith)

module _ (One : ℕ → Laid) where
  pub no_turns : (ws : List ℕ) (bs : List Bool) → Nothing ws bs ↔ InTurn One 0 ws bs
  unfolding flatten
  no_turns ws bs = (
    λ q. record {
      contents = [];
      laid = [];
      many = refl;
      many_laid = refl;
      each = λ i h. absurd (omega arith);
      content = q.0;
      layout = q.1;
    },
    λ q. back q.contents q.laid q.many q.many_laid q.content q.layout,
  )
    where
      back : (cs : List (List ℕ)) (ls : List (List Bool)) → length cs ≡ 0 → length ls ≡ 0 → ws ≡ flatten cs → bs ≡ flatten ls → Nothing ws bs
      back [] [] m n c l = (c, l)
      back [] (y ∷ ls) m n c l = absurd (omega arith)
      back (x ∷ cs) ls m n c l = absurd (omega arith)

  pub more_turns : (n : ℕ) (ws : List ℕ) (bs : List Bool) → Then (One 0) (λ front. InTurn (λ i. One (suc i)) n) ws bs ↔ InTurn One (suc n) ws bs
  unfolding flatten
  more_turns n ws bs = (
    λ q.
        let r = q.after in
        record {
          contents = q.first ∷ r.contents;
          laid = q.front ∷ r.laid;
          many = ap suc r.many;
          many_laid = ap suc r.many_laid;
          each = each_cons One n q.first q.front r.contents r.laid q.before r.each;
          content = q.content ∙ ap (λ (l : List ℕ). q.first ++ l) r.content;
          layout = q.layout ∙ ap (λ (l : List Bool). q.front ++ l) r.layout;
        },
    λ q. back q.contents q.laid q.many q.many_laid q.each q.content q.layout,
  )
    where
      back : (cs : List (List ℕ)) (ls : List (List Bool)) → length cs ≡ suc n → length ls ≡ suc n → Each One (suc n) cs ls
          → ws ≡ flatten cs → bs ≡ flatten ls → Then (One 0) (λ front. InTurn (λ i. One (suc i)) n) ws bs
      back [] ls m k e c l = absurd (omega arith)
      back (x ∷ cs) [] m k e c l = absurd (omega arith)
      back (x ∷ cs) (y ∷ ls) m k e c l =
          record {
            first = x;
            second = flatten cs;
            front = y;
            back = flatten ls;
            content = c;
            layout = l;
            before = e 0 (omega arith);
            after = record {
              contents = cs;
              laid = ls;
              many = omega arith;
              many_laid = omega arith;
              each = λ i h. e (suc i) (omega arith);
              content = refl;
              layout = refl;
            };
          }

-- ---- parts of whole bytes

-- whole formats one after the other
unfoldable pub row : (ℕ → Format) → ℕ → Format
row F zero = done
row F (suc n) = then (whole (F 0)) (row (λ i. F (suc i)) n)

pub row_times : (F : Format) (n : ℕ) → row (λ i. F) n ≡ times n (whole F)
unfolding row times
row_times F zero = refl
row_times F (suc n) = ap (then (whole F)) (row_times F n)

pub accepts_row : (F : ℕ → Format) (R : ℕ → Laid) → ((i at : ℕ) → Accepts (F i) at (R i)) → (n at : ℕ) → at % 8 ≡ 0
    → Accepts (row F n) at (InTurn (λ i. Whole (R i)) n)
unfolding row
accepts_row F R a zero at h = accepts_same (no_turns (λ i. Whole (R i))) (accepts_done at)
accepts_row F R a (suc n) at h =
    accepts_same (more_turns (λ i. Whole (R i)) n)
    (accepts_then (whole (F 0)) (row (λ i. F (suc i)) n) at (accepts_whole (F 0) at h (a 0 at)) (λ ws bs q.
    accepts_row (λ i. F (suc i)) (λ i. R (suc i)) (λ i. a (suc i)) n (at + length bs) (let l = whole_length q in omega arith)))

-- they are whole bytes
pub turns_length : (R : ℕ → Laid) (n : ℕ) (ws : List ℕ) (bs : List Bool) → InTurn (λ i. Whole (R i)) n ws bs → length bs % 8 ≡ 0
turns_length R zero ws bs q = let e = (no_turns (λ i. Whole (R i)) ws bs).1 q in ap (λ (l : List Bool). length l % 8) e.1
turns_length R (suc n) ws bs q =
    let r = (more_turns (λ i. Whole (R i)) n ws bs).1 q in
    let a = whole_length r.before in
    let b = turns_length (λ i. R (suc i)) n r.second r.back r.after in
    let l = ap length r.layout ∙ length-append r.front r.back in
    omega arith

-- ---- patterns

pub accepts_patterns : (number at : ℕ) → at % 8 ≡ 0 → Accepts (patterns number) at (PlainPatterns number)
accepts_patterns number at h =
    subst (λ (F : Format). Accepts F at (PlainPatterns number)) (row_times pattern number)
    (accepts_row (λ i. pattern) (λ i. PlainPattern) (λ i. accepts_pattern) number at h)

pub patterns_length : (number : ℕ) (ws : List ℕ) (bs : List Bool) → PlainPatterns number ws bs → length bs % 8 ≡ 0
patterns_length number ws bs q = turns_length (λ i. PlainPattern) number ws bs q

-- ---- a catalogue

plain_catalogue : (ws : List ℕ) (bs : List Bool) → Asked 5 0 17 (λ number. Padded 3 (PlainPatterns number)) ws bs ↔ PlainCatalogue ws bs
plain_catalogue ws bs = (
  λ q. record {
    number = q.value;
    inner = q.rest;
    laid = q.after.body;
    content = q.content;
    layout = q.layout ∙ ap (λ (l : List Bool). bits_of 5 q.value ++ l) q.after.layout;
    most = let m = q.most in omega arith;
    patterns = q.after.after;
  },
  λ q. record {
    value = q.number;
    rest = q.inner;
    body = replicate 3 false ++ q.laid;
    content = q.content;
    layout = q.layout;
    least = omega arith;
    most = let m = q.most in omega arith;
    fits = let m = q.most in omega arith;
    after = record { body = q.laid; layout = refl; after = q.patterns };
  },
)

pub accepts_catalogue : Accepts catalogue 0 PlainCatalogue
unfolding catalogue gap
accepts_catalogue =
    accepts_same plain_catalogue
    (accepts_ask 5 0 17 3 (λ number. pad (patterns number)) 0 _ (λ number l m. accepts_pad (patterns number) 5 (accepts_patterns number 8 refl)))

pub catalogue_length : (ws : List ℕ) (bs : List Bool) → PlainCatalogue ws bs → length bs % 8 ≡ 0
catalogue_length ws bs q =
    let a = patterns_length q.number q.inner q.laid q.patterns in
    let l = ap length q.layout ∙ length-append (bits_of 5 q.number) (replicate 3 false ++ q.laid) in
    let w = length_bits_of 5 q.number in
    omega arith

-- What holds of the empty catalogue.
use Prim.Native.Nat.{ℕ, zero, suc, ◌%◌, ◌^◌, ◌<◌, ◌≤◌}
use mathlib.Core.Path.{◌≡◌, refl, sym, ap, ◌∙◌}
use mathlib.Core.Logic.{◌↔◌}
use mathlib.Core.List.{List, [], ◌∷◌, flatten}
use lib.ListN.{length, get_or}
use native.Mathlib.Omega.{arith}
use Rattle.packed.specs.Bits.{bits, zeros}
use Rattle.packed.specs.Format.{then, whole, bad, scan, lay, decode, encode}
use Rattle.packed.specs.Formats.{catalogue, book}
use Rattle.packed.specs.Contents.{patterns_in, views_of, edge_counts, sheets_in, distinct}
use Rattle.packed.specs.Plain.{Laid, Below, Whole, PlainSheet}
use Rattle.packed.specs.Calls.{Outcome, refuse, with_workspace, rejected, in_file, write_file, judged, read_book, pairs_of, fit, catalogue_read, book_read, catalogue_written, book_written}
use Rattle.packed.proofs.BitsLaws.{length-bits}
use Rattle.packed.proofs.Files.{ended_more}
use Rattle.packed.proofs.AcceptedTurns.{no_turns}
use Rattle.packed.proofs.Accepted.{catalogue_accepted, catalogue_some, zero_byte, read_alike, book_read_lem}
use Rattle.packed.proofs.CallLaws.{read_finds, catalogue_empty}
use Rattle.packed.proofs.CallRoundTrips.{written_some}
use Rattle.engine.specs.Lists.{each, up_to}
use Rattle.engine.specs.Simulation.{bit}
use Rattle.matching.specs.Offered.{brings, view_patterns, RightSet}
use Rattle.engine.proofs.MaskBits.{few_lt}
use Rattle.matching.specs.Search.{book_bytes, view_sheets, make_book_outcome}
use Rattle.containment.specs.Quote.{Quoted, quote_for}
use Rattle.containment.specs.Cheapest.{cheapest_for}
use Rattle.containment.specs.Answer.{answer_by}
use Rattle.answering.specs.Several.{several_outcome}
use Rattle.containment.specs.Show.{show_for}
use Rattle.containment.specs.Part.{part_for}
use Rattle.containment.specs.Terms.{first_day_for, first_day}
use Rattle.answering.specs.Demands.{Book, When, always, on, EmptyCatalogues}
use Rattle.containment.proofs.SetBits.{never, bit_zero, bit_lt}
use Rattle.answering.proofs.QuoteLaws.{test_is}
use Rattle.answering.proofs.DemandRules.{goes_on, written}
use Rattle.answering.proofs.WhenLaws.{by_when, quote_by, cheapest_by, part_by, show_by}

-- ---- what is written of its content
zero_small : Below 256 (0 ∷ [])
zero_small zero h = omega arith
zero_small (suc i) h = absurd (omega arith)

written_00 : (room : ℕ) → catalogue_written (0 ∷ []) room ≡ fit room (0 ∷ [])
unfolding catalogue_written
written_00 room = goes_on _ (written 2 catalogue (0 ∷ []) (0 ∷ []) zero_small ((catalogue_accepted (0 ∷ []) (0 ∷ [])).1 zero_byte))

-- no words are no content
none_written : (room : ℕ) → catalogue_written [] room ≡ refuse 2 2
unfolding catalogue_written write_file judged encode whole then lay catalogue
none_written room = refl

-- ---- its book
no_counts : edge_counts (0 ∷ []) ≡ []
unfolding edge_counts views_of patterns_in
no_counts = refl

nothing : (s : List ℕ) → length s ≡ 0 → s ≡ []
nothing [] h = refl
nothing (x ∷ s) h = absurd (omega arith)

abbrev Sheets : List ℕ → ℕ → Laid
Sheets ms i = Whole (PlainSheet (get_or ms i 0))

book_none : (b bs : List ℕ) → Book (0 ∷ []) b bs ↔ ((b ≡ []) × (bs ≡ []))
unfolding pairs_of sheets_in flatten distinct
book_none b bs = (
  λ k.
      let n = (no_turns (Sheets []) bs (bits b)).1 (rw no_counts at ((book_read_lem (0 ∷ []) b bs).0 k.read).1) in
      (nothing b (omega (arith, length-bits b, ap length n.1)), n.0),
  λ x. rw (x.0, x.1) (record {
    read = (book_read_lem (0 ∷ []) [] []).1 (omega arith, rw no_counts ((no_turns (Sheets []) [] (bits [])).0 (refl, unfold bits in refl)));
    few = rw no_counts (omega arith);
  }),
)

-- a byte stands after its end
after_none : (b : List ℕ) → 0 < length b → decode (book []) b ≡ bad 9
unfolding decode book whole then scan zeros
after_none b h = let z : length (bits b) % 8 ≡ 0 = omega (arith, length-bits b) in rw z (ended_more [] (bits b) (omega (arith, length-bits b)))

byte_refused : (b : List ℕ) → 0 < length b → length b ≤ 65536 → read_book (0 ∷ []) b ≡ rejected 9 4
byte_refused b h l = rw no_counts ((read_finds 65536 4 (book []) b l).is ∙ ap (in_file 4) (after_none b h))

-- ---- its set
none_named : (one : ℕ) → one < 2 ^ 16 → RightSet one 0 ↔ (one ≡ 0)
none_named one l = (
  λ h. let z = few_lt 0 one (λ a t. h a (bit_lt one a 16 ((test_is _).1 t) l) t) in omega arith,
  λ e a h t. never (sym ((test_is _).1 t) ∙ ap (λ (x : ℕ). bit x a) e ∙ bit_zero a),
)

-- a call that goes by all views or is for a day
when_alike : (one : ℕ) (w : When) (q : List ℕ) (k : Quoted → Outcome) → by_when w q (brings [] one) k ≡ by_when w q (brings (0 ∷ []) one) k
when_alike one always q k = rw read_alike
when_alike one (on t day) q k = rw read_alike

pub empty_catalogues : EmptyCatalogues
unfolding views_of patterns_in view_patterns up_to view_sheets each book_bytes catalogue_read book_read book_written make_book_outcome answer_by several_outcome first_day
empty_catalogues = record {
  empty = catalogue_empty [] refl;
  byte_00 = sym read_alike ∙ catalogue_empty [] refl;
  no_extracts = λ one. refl;
  empty_set = λ c one l e. (λ h. (none_named one l).0 h.named, λ z. record { paper = e; set = refl; named = (none_named one l).1 z });
  read_catalogue_lem = λ room words. rw read_alike;
  read_book_lem = λ s room words. rw read_alike;
  write_book_lem = λ ws room words. rw read_alike;
  make_book = λ one r room words. rw read_alike;
  quote = λ one w q words. ap (with_workspace words) (quote_by q (brings [] one) w ∙ when_alike one w q quote_for ∙ sym (quote_by q (brings (0 ∷ []) one) w));
  cheapest = λ one w q charges words.
      ap (with_workspace words) (cheapest_by q (brings [] one) w charges ∙ when_alike one w q (cheapest_for charges) ∙ sym (cheapest_by q (brings (0 ∷ []) one) w charges));
  first_day_lem = λ one q t day words. ap (with_workspace words) (when_alike one (on t day) q (first_day_for t day));
  answer = λ one choose q b room words. rw read_alike;
  several = λ one q number b room words. rw read_alike;
  show = λ one w q room room' words.
      ap (with_workspace words) (show_by q (brings [] one) w room room' ∙ when_alike one w q (show_for room room') ∙ sym (show_by q (brings (0 ∷ []) one) w room room'));
  part = λ one w q b room room' words.
      ap (with_workspace words) (part_by q (brings [] one) w b room room' ∙ when_alike one w q (part_for b room room') ∙ sym (part_by q (brings (0 ∷ []) one) w b room room'));
  written = written_00;
  has_none = λ ws q. let l = catalogue_some [] ws q in omega arith;
  never_written = λ ws room words e. let l = written_some [] ws room words e in omega arith;
  no_words = none_written;
  book = book_none;
  any_byte = byte_refused;
  made = λ one rs. refl;
}

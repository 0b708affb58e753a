-- The cases K1 to K10 of the requirements, what matching both ways adds to K6, and cases of several questions in one call, of the empty catalogue, of
-- terms, of extracts matched one-way and of links that enter, proved in one table with one statement: on bytes and fields, over the functions that the
-- contracts of the calls cite.
use Prim.Native.Nat.{ℕ, ◌+◌, ◌-◌, ◌*◌}
use Prim.Native.Char.{code as code_of}
use Prim.Native.String.{String, [] as []ˢ, ◌∷◌ as ◌∷ˢ◌}
use mathlib.Core.Path.{◌≡◌, refl}
use mathlib.Core.List.{List, [], ◌∷◌, ◌++◌, map, flatten}
use lib.ListN.{replicate}
use lib.Dec.{eqb, ltb}
use Rattle.packed.specs.Bits.{bits_of, num, num_from, bits, zeros, gap}
use Rattle.packed.specs.Format.{pick, then, times, whole, within, scan, lay, bytes_of, decode, encode}
use Rattle.packed.specs.Formats.{linked, edges, is_end, all_ends, label, joined, pattern, catalogue, pairs, labels, rising, record', lists, standing, sheet, book}
use Rattle.packed.specs.Contents.{pattern_size, patterns_in, views_of, edge_counts, codes_in, lists_in, after_lists, sheet_lists, after_sheet, sheets_in, ends, fields_of, pair_count, sheet_fields, member, insert, distinct, each_edge, from_ranks, sorted_edges}
use Rattle.packed.specs.Entered.{entered_edges, entered}
use Rattle.packed.specs.OldRecord.{old_record, sorted_fields, record_sorted}
use Rattle.packed.specs.Calls.{Outcome, give, refuse, with_workspace, read_file, write_file, judged, read_catalogue, pairs_of, within_pairs_by, fit, fit_file, pattern_read, catalogue_read, record_read, sheet_read, book_read, pattern_written, catalogue_written, record_written, sheet_written, record_bytes, fit_both}
use Rattle.engine.specs.Lists.{◌and◌, ◌or◌, ◌implies◌, every, some, keep, gather, each, below, up_to}
use Rattle.engine.specs.Greatest.{settle, greatest}
use Rattle.engine.specs.Simulation.{same, has, same_edge, every_pair as all_pairs, bit, edges_in, pattern_of, graph_of, as_graph, fits, asks_arrivals, follows_out, follows_in, follows, sim, total, row, ascending, match_sets, view_sheet}
use Rattle.engine.specs.Index.{index_for, begin_below}
use Rattle.matching.specs.Search.{sheet_bytes, book_bytes, view_sheets, search_outcome, make_book_outcome}
use Rattle.matching.specs.Offered.{brings, rule_in, view_patterns, first_stray, judge_set}
use Rattle.matching.specs.Enter.{judge_link, judge_slip, commit_outcome, state_of}
use Rattle.matching.specs.Ask.{alike, all_alike, changes, changed_views, ask_values, ask_outcome}
use Rattle.matching.specs.declared.state.Link.{Link}
use Rattle.matching.specs.declared.state.Slip.{Slip}
use Rattle.matching.specs.Join.{pair_of, is_match, matched, under, candidates, supported_out, supported_in, supported, join, complete, kept_for, answer_sets}
use Rattle.matching.specs.Part.{rank}
use Rattle.containment.specs.Choice.{matches, matched_in, covers_in, lowest_unmatched, adds_to, taken, kept, chosen, used, columns_from}
use Rattle.containment.specs.Quote.{views_in_set, mask_in, match_mask, mask_at, mapping, values_from, quote_values, flat, quote_for, quote_outcome}
use Rattle.containment.specs.Answer.{views_in, answer_bytes, answer_in, answer_for, answer_by, answer_outcome}
use Rattle.containment.specs.Cheapest.{cheapest_from, cheapest_for, cheapest_outcome}
use Rattle.containment.specs.Part.{part_for, part_outcome}
use Rattle.answering.specs.Several.{question_at, counted, all_covered, is_needed, sheets_needed, answer_at, any_long, fit_several, several_in, several_outcome}
use Rattle.containment.specs.Terms.{spread_of, first_turned, judge_terms, is_in_force, in_force, quote_on, show_on, sooner, earliest, day_values, first_day_for, first_day}
use Rattle.containment.specs.declared.terms.Term.{Term}
use Rattle.containment.specs.declared.terms.Terms.{Terms}
use Rattle.containment.specs.Show.{as_record, graph_fields, fewer_fields, show_for, show_outcome}

-- ---- how a case is written

-- bytes, in hexadecimal, two digits each
unfoldable pub digit : ℕ → ℕ
digit c = pick (ltb c 58) (c - 48) (c - 87)

unfoldable pub hex : String → List ℕ
hex []ˢ = []
hex (a ∷ˢ []ˢ) = []
hex (a ∷ˢ (b ∷ˢ []ˢ)) = (16 * digit (code_of a) + digit (code_of b)) ∷ []
hex (a ∷ˢ (b ∷ˢ (c ∷ˢ s))) = (16 * digit (code_of a) + digit (code_of b)) ∷ hex s

-- fields, in decimal: those so far stand last first
unfoldable pub next : ℕ → List ℕ → List ℕ
next c [] = []
next c (n ∷ ns) = pick (eqb c 32) (0 ∷ n ∷ ns) ((10 * n + (c - 48)) ∷ ns)

unfoldable pub turned : List ℕ → List ℕ → List ℕ
turned done [] = done
turned done (n ∷ ns) = turned (n ∷ done) ns

unfoldable pub numbers : List ℕ → String → List ℕ
numbers ns []ˢ = turned [] ns
numbers ns (c ∷ˢ s) = numbers (next (code_of c) ns) s

abbrev pub fields : String → List ℕ
fields s = numbers (0 ∷ []) s

-- what a call answers, and what it has to, where it is lent a whole workspace, and no more
pub data Case : Type 0 where
  case : Outcome → Outcome → Case

abbrev pub call : Outcome → Outcome → Case
call a b = case (with_workspace 16384 a) b

-- one output
abbrev pub output : List ℕ → Outcome
output o = give [] (o ∷ [])

abbrev pub answered : Case → Outcome
answered (case a b) = a

abbrev pub due : Case → Outcome
due (case a b) = b

-- every call answers what it has to
unfoldable pub Agree : List Case → Type 0
Agree cs = map answered cs ≡ map due cs

-- ---- the files of the requirements

-- the question D, and its content
abbrev pub d : List ℕ
d = hex "20 80 08 86 02 00 80 98 23 00"

abbrev pub d_fields : List ℕ
d_fields = fields "4 4 0 1 2 3 0 1 0 0 2 0 1 3 0 2 3 0"

-- the catalogue C: section to slow; section to slow to reading; section to fast to reading
abbrev pub c : List ℕ
c = hex "18 10 20 08 08 18 40 08 c0 40 90 18 40 10 c0 40 90"

abbrev pub c_fields : List ℕ
c_fields = fields "3 2 1 0 1 0 1 0 3 2 0 1 3 0 1 0 1 2 0 3 2 0 2 3 0 1 0 1 2 0"

-- extract 1 of C as a file of its own, and the pattern with one link that is extract 0
abbrev pub extract1 : List ℕ
extract1 = hex "18 40 08 c0 40 90"

abbrev pub one_link : List ℕ
one_link = hex "10 20 08 08"

-- the catalogues of K3 to K5: extract 1 of C alone, none, and slow to fast
abbrev pub c3 : List ℕ
c3 = hex "08 18 40 08 c0 40 90"

abbrev pub c4 : List ℕ
c4 = hex "00"

abbrev pub c5 : List ℕ
c5 = hex "08 10 21 10 08"

-- the records of K6 to K10, and the pattern of K7 and K8
abbrev pub r6 : List ℕ
r6 = hex "00 20 00 60 00 00 00 20 00 00 00 40 00 00 01 00 00 00 00 40 00 00 20 00 00 0c 00 08 01 00"

abbrev pub r6_fields : List ℕ
r6_fields = fields "4 3 1 2 8 2 0 1 0 0 3 0 1 2 0"

abbrev pub self_loop : List ℕ
self_loop = hex "08 25 00 00"

abbrev pub r7 : List ℕ
r7 = hex "00 10 00 40 00 00 04 00 00 00 04 00 00 00 20 00 40 00 00"

abbrev pub r8 : List ℕ
r8 = hex "00 18 00 40 00 00 04 00 00 00 04 00 00 00 04 00 00 00 20 00 40 08 00"

abbrev pub r9 : List ℕ
r9 = hex "00 18 00 40 00 00 00 20 00 00 00 c0 00 00 01 00 00 00 20 00 40 08 00"

abbrev pub r10 : List ℕ
r10 = hex "00 00 00 00"

-- K6 with item 4 of kind {1} and a link 4 → 2; the same with a link 0 → 4 of kind 1, where all others have kind 0
abbrev pub r6_both : List ℕ
r6_both = hex "00 28 00 80 00 00 00 20 00 00 00 40 00 00 01 00 00 00 00 40 00 00 00 40 00 00 20 00 00 0c 00 08 01 00 04 00 20"

abbrev pub r6_kind : List ℕ
r6_kind = hex "00 28 00 a0 00 00 00 20 00 00 00 40 00 00 01 00 00 00 00 40 00 00 00 40 00 00 20 00 00 0c 00 00 02 10 01 00 20 00 80 04 00"

-- the question 0 → 1, 1 → 1 of one kind, the catalogue whose one extract is 0 → 0, and the two records that show why the question is uncovered
abbrev pub to_loop : List ℕ
to_loop = hex "10 40 00 08 11 00"

abbrev pub loops : List ℕ
loops = hex "08 08 20 00 00"

abbrev pub first_loop : List ℕ
first_loop = hex "00 10 00 40 00 00 00 20 00 00 00 20 00 00 20 00 40 04 00"

abbrev pub second_loop : List ℕ
second_loop = hex "00 10 00 20 00 00 00 20 00 00 00 20 02 00 20"

-- the record of K6 as it was stored when links had no kinds, in order and not
abbrev pub old6 : List ℕ
old6 = hex "00 20 00 60 00 00 00 20 00 00 00 40 00 00 01 00 00 00 00 40 00 00 20 00 00 60 02 00 40"

abbrev pub turned6 : List ℕ
turned6 = hex "00 20 00 60 00 00 00 20 00 00 00 40 00 00 01 00 00 00 00 40 02 00 40 00 00 60 00 00 20"

-- the sheets of K6 and of K9
abbrev pub s6 : List ℕ
s6 = hex "80 02 00 00 02 00 08 00 80 10"

abbrev pub s6_fields : List ℕ
s6_fields = fields "1 1 0 1 1 1 2"

abbrev pub s9 : List ℕ
s9 = hex "80 02 00 00 02 00 08 00 00 08 00 20 02 00 40 00 80 08 01 00"

-- the book of K9
abbrev pub b9 : List ℕ
b9 = hex "80 02 00 00 02 80 02 00 00 02 00 08 00 80 10 80 02 00 00 02 00 08 00 80 10"

-- the books of C on K6 with item 4, all extracts matched both ways, and extract 1 one-way
abbrev pub b6_both : List ℕ
b6_both = hex "80 04 00 00 02 00 00 06 80 02 00 00 02 00 08 00 80 10 00"

abbrev pub b6_mixed : List ℕ
b6_mixed = hex "80 04 00 00 02 00 00 06 80 02 00 00 02 00 10 00 80 10 02 00 10 00"

-- several questions: D and section to slow; and D and fast to reading, beside section to slow alone
abbrev pub d_link : List ℕ
d_link = d ++ one_link

abbrev pub d_fast : List ℕ
d_fast = d ++ hex "10 22 18 08"

abbrev pub c_link : List ℕ
c_link = hex "08 10 20 08 08"

-- a row of a quote's table: three masks and zeros
abbrev pub row_of : ℕ → ℕ → ℕ → List ℕ
row_of x y z = x ∷ y ∷ z ∷ replicate 13 0

-- a table with four rows
abbrev pub rows_of : List ℕ → List ℕ
rows_of rows = rows ++ replicate 448 0

-- D as a record, and the same without its edge 0 → 2
abbrev pub first : List ℕ
first = hex "00 20 00 80 00 00 00 20 00 00 00 40 00 00 00 80 00 00 01 00 00 00 20 00 00 08 00 08 01 80 02 00 30"

abbrev pub second : List ℕ
second = hex "00 20 00 60 00 00 00 20 00 00 00 40 00 00 00 80 00 00 01 00 00 00 20 00 40 0c 00 10 01 80"

-- and without its edge 0 → 1
abbrev pub second4 : List ℕ
second4 = hex "00 20 00 60 00 00 00 20 00 00 00 40 00 00 00 80 00 00 01 00 00 00 40 00 40 0c 00 10 01 80"

-- a file of zero bytes
abbrev pub none : List ℕ
none = []

-- an entry, and terms for C
abbrev pub term : ℕ → ℕ → Term
term from to = record { from = from; to = to }

abbrev pub seasons : Terms
seasons = spread_of (term 10 20 ∷ term 10 15 ∷ term 12 20 ∷ [])

-- a slip, a link, and the record of K6 with a link 3 → 2
abbrev pub slip : ℕ → ℕ → ℕ → ℕ → Slip
slip from to kind change = record { from = from; to = to; kind = kind; change = change }

abbrev pub link : ℕ → ℕ → ℕ → Link
link from to kind = record { from = from; to = to; kind = kind }

abbrev pub entered6 : List ℕ
entered6 = hex "00 20 00 80 00 00 00 20 00 00 00 40 00 00 01 00 00 00 00 40 00 00 20 00 00 0c 00 08 01 00 03 00 20"

-- ---- the cases

unfoldable pub table : List Case
table =
    -- K1, both directions
    call (pattern_read d 18) (output d_fields)
    ∷ call (pattern_written d_fields 10) (output d)
    -- K2: C, both directions; D is covered, chosen 1 and 2
    ∷ call (catalogue_read c 30) (output c_fields)
    ∷ call (catalogue_written c_fields 17) (output c)
    ∷ call (quote_outcome d (brings c 0)) (give (1 ∷ (rows_of (row_of 1 1 0 ++ row_of 0 0 1 ++ row_of 0 2 0 ++ row_of 0 0 2) ++ (4 ∷ 6 ∷ 0 ∷ []))) [])
    -- K3: uncovered, lowest link 1; the second shown record lacks 0 → 2
    ∷ call (quote_outcome d (brings c3 0)) (give (0 ∷ (rows_of (row_of 1 0 0 ++ row_of 0 0 0 ++ row_of 2 0 0 ++ row_of 0 0 0) ++ (4 ∷ 0 ∷ 1 ∷ []))) [])
    ∷ call (show_outcome d (brings c3 0) 33 30) (give [] (first ∷ second ∷ []))
    -- K4: no extracts, both directions; uncovered, link 0
    ∷ call (catalogue_read c4 1) (output (fields "0"))
    ∷ call (catalogue_written (fields "0") 1) (output c4)
    ∷ call (quote_outcome d (brings c4 0)) (give (0 ∷ (replicate 512 0 ++ (4 ∷ 0 ∷ 0 ∷ []))) [])
    -- K5: slow to fast matches no link of D
    ∷ call (quote_outcome d (brings c5 0)) (give (0 ∷ (replicate 512 0 ++ (4 ∷ 0 ∷ 0 ∷ []))) [])
    -- K6: the record, both directions, and sorted as it was stored; the sheet of extract 1 of C, both directions, and searched
    ∷ call (record_read r6 15) (output r6_fields)
    ∷ call (record_written r6_fields 30) (output r6)
    ∷ call (record_sorted old6 30) (output r6)
    ∷ call (record_sorted turned6 30) (output r6)
    ∷ call (sheet_read extract1 s6 7) (output s6_fields)
    ∷ call (sheet_written extract1 s6_fields 10) (output s6)
    ∷ call (search_outcome extract1 r6 10) (output s6)
    -- item 4 is at no link from a section: the second list was (1, 2), (4, 2) and is (1, 2); a link of another kind from one doesn't help
    ∷ call (search_outcome extract1 r6_both 10) (output s6)
    ∷ call (search_outcome extract1 r6_kind 10) (output s6)
    -- the extract's list on the question was (0, 1), (1, 1) and is (1, 1): uncovered, link 0; the second shown record lacks 0 → 1
    ∷ call (quote_outcome to_loop (brings loops 0)) (give (0 ∷ (rows_of (row_of 0 0 0 ++ row_of 1 0 0 ++ row_of 0 0 0 ++ row_of 0 0 0) ++ (2 ∷ 0 ∷ 0 ∷ []))) [])
    ∷ call (show_outcome to_loop (brings loops 0) 19 15) (give [] (first_loop ∷ second_loop ∷ []))
    -- matched one-way the extract covers it, and is chosen
    ∷ call (quote_outcome to_loop (brings loops 1)) (give (1 ∷ (rows_of (row_of 1 0 0 ++ row_of 1 0 0 ++ row_of 0 0 0 ++ row_of 0 0 0) ++ (2 ∷ 1 ∷ 0 ∷ []))) [])
    -- the book of C on the record with item 4, both ways and with extract 1 one-way, whose second list is (1, 2), (4, 2); each sheet by its own rule, and the
    -- answer is the same from either
    ∷ call (make_book_outcome (brings c 0) r6_both 19) (output b6_both)
    ∷ call (make_book_outcome (brings c 2) r6_both 22) (output b6_mixed)
    ∷ call (answer_outcome extract1 (brings c 0) b6_both 10) (output s6)
    ∷ call (answer_outcome extract1 (brings c 2) b6_mixed 10) (output s6)
    -- 19 with the lowest number that is no extract, right after the catalogue: a catalogue without extracts has the empty set alone
    ∷ call (quote_outcome d (brings c 8)) (refuse 19 3)
    ∷ call (quote_outcome d (brings c4 32769)) (refuse 19 0)
    ∷ call (quote_outcome d (brings none 32769)) (refuse 19 0)
    ∷ call (quote_outcome d (brings (hex "ff") 8)) (refuse 3 2)
    -- after 18, and before 15, a record and a book
    ∷ call (quote_on d (brings c 8) (spread_of []) 10) (refuse 18 0)
    ∷ call (quote_on d (brings c 8) seasons 10) (refuse 19 3)
    ∷ call (cheapest_outcome d (brings c 8) []) (refuse 19 3)
    ∷ call (make_book_outcome (brings c 8) (hex "ff") 0) (refuse 19 3)
    ∷ call (answer_outcome d (brings c 8) (hex "ff") 20) (refuse 19 3)
    -- K7, K8, K9
    ∷ call (search_outcome self_loop r7 8) (output (hex "80 04 00 00 02 00 20 00"))
    ∷ call (search_outcome self_loop r8 1) (output (hex "00"))
    ∷ call (search_outcome d r9 20) (output s9)
    -- K10: the record and its sheet likewise
    ∷ call (record_read r10 2) (output (fields "0 0"))
    ∷ call (record_written (fields "0 0") 4) (output r10)
    ∷ call (record_sorted r10 4) (output r10)
    ∷ call (sheet_read one_link (hex "00") 1) (output (fields "0"))
    ∷ call (sheet_written one_link (fields "0") 1) (output (hex "00"))
    ∷ call (search_outcome one_link r10 1) (output (hex "00"))
    -- several questions: their answers, and how many sheets they needed
    ∷ call (several_outcome d_link 2 (brings c 0) b9 25) (give (3 ∷ []) ((s9 ++ hex "80 02 00 00 02") ∷ []))
    ∷ call (several_outcome (d ++ d) 2 (brings c 0) (hex "00 00 00") 2) (give (2 ∷ []) (hex "00 00" ∷ []))
    -- from a book of no record, in which the second list is (1, 2), (4, 2): no pair of the first ends at 4
    ∷ call (several_outcome extract1 1 (brings c3 0) (hex "80 02 00 00 02 00 10 00 80 10 02 00 10") 10) (give (1 ∷ []) (s6 ∷ []))
    -- 12 with the sum
    ∷ call (several_outcome d_link 2 (brings c 0) b9 24) (refuse 12 25)
    -- 17 with the number, whatever the files
    ∷ call (several_outcome d_link 0 (brings c 0) b9 25) (refuse 17 0)
    ∷ call (several_outcome d_link 9 (brings c 0) b9 25) (refuse 17 9)
    ∷ call (several_outcome d_link 4294967295 (brings c 0) b9 25) (refuse 17 4294967295)
    -- the paper of questions is judged before the catalogue: over 56 bytes for one, and no more; then front to back: bytes after the last, too few,
    -- a padding bit of the first, a count of the second out of range
    ∷ call (several_outcome (one_link ++ replicate 53 0) 1 (brings (hex "ff") 0) b9 25) (refuse 1 1)
    ∷ call (several_outcome (one_link ++ replicate 52 0) 1 (brings (hex "ff") 0) b9 25) (refuse 9 1)
    ∷ call (several_outcome d_link 1 (brings (hex "ff") 0) b9 25) (refuse 9 1)
    ∷ call (several_outcome d_link 3 (brings (hex "ff") 0) b9 25) (refuse 2 1)
    ∷ call (several_outcome (hex "20 80 08 86 02 00 80 98 23 01 88") 2 (brings (hex "ff") 0) b9 25) (refuse 9 1)
    ∷ call (several_outcome (d ++ hex "88 00") 2 (brings (hex "ff") 0) b9 25) (refuse 3 1)
    -- 11 for the first uncovered question, though the second leaves a lower link
    ∷ call (several_outcome d_fast 2 (brings c_link 0) (hex "00") 2) (refuse 11 1)
    -- the empty catalogue, as that of K4: read, also with nothing lent; its content is written as 00, and no words are no content
    ∷ call (catalogue_read none 1) (output (fields "0"))
    ∷ call (catalogue_read none 0) (refuse 12 1)
    ∷ call (catalogue_written (fields "0") 1) (output c4)
    ∷ call (catalogue_written [] 1) (refuse 2 2)
    ∷ call (quote_outcome d (brings none 0)) (give (0 ∷ (replicate 512 0 ++ (4 ∷ 0 ∷ 0 ∷ []))) [])
    -- its book has no bytes, whatever the record and with nothing lent; any byte is 9
    ∷ call (make_book_outcome (brings none 0) r6 0) (output none)
    ∷ call (make_book_outcome (brings none 0) r6 8) (output none)
    ∷ call (book_read none none 0) (output [])
    ∷ call (book_read none (hex "00") 1) (refuse 9 4)
    -- nothing is answered from it
    ∷ call (answer_outcome d (brings none 0) none 20) (refuse 11 0)
    ∷ call (answer_outcome d (brings none 0) (hex "00") 20) (refuse 9 4)
    ∷ call (several_outcome d_link 2 (brings none 0) none 25) (refuse 11 0)
    ∷ call (part_outcome d (brings none 0) none 10 20) (refuse 11 0)
    ∷ call (cheapest_outcome d (brings none 0) []) (refuse 11 0)
    ∷ call (cheapest_outcome d (brings none 0) (fields "7")) (refuse 15 1)
    -- the second shown record lacks 0 → 1
    ∷ call (show_outcome d (brings none 0) 33 30) (give [] (first ∷ second4 ∷ []))
    -- D with C for a day: on day 10 extract 2 isn't in force yet, on day 15 extract 1 no more, on day 20 none is
    ∷ call (quote_on d (brings c 0) seasons 10) (give (0 ∷ (rows_of (row_of 1 1 0 ++ row_of 0 0 0 ++ row_of 0 2 0 ++ row_of 0 0 0) ++ (4 ∷ 0 ∷ 1 ∷ []))) [])
    ∷ call (quote_on d (brings c 0) seasons 12) (give (1 ∷ (rows_of (row_of 1 1 0 ++ row_of 0 0 1 ++ row_of 0 2 0 ++ row_of 0 0 2) ++ (4 ∷ 6 ∷ 0 ∷ []))) [])
    ∷ call (quote_on d (brings c 0) seasons 15) (give (0 ∷ (rows_of (row_of 1 0 0 ++ row_of 0 0 1 ++ row_of 0 0 0 ++ row_of 0 0 2) ++ (4 ∷ 0 ∷ 2 ∷ []))) [])
    ∷ call (quote_on d (brings c 0) seasons 20) (give (0 ∷ (replicate 512 0 ++ (4 ∷ 0 ∷ 0 ∷ []))) [])
    ∷ call (show_on d (brings c 0) seasons 10 33 30) (give [] (first ∷ second ∷ []))
    ∷ call (show_on d (brings c 0) seasons 12 33 30) (refuse 13 0)
    -- the first day: 1 and the day, or 0 and 0
    ∷ call (first_day d (brings c 0) seasons 0) (give (1 ∷ 12 ∷ []) [])
    ∷ call (first_day d (brings c 0) seasons 14) (give (1 ∷ 14 ∷ []) [])
    ∷ call (first_day d (brings c 0) seasons 15) (give (0 ∷ 0 ∷ []) [])
    ∷ call (first_day d (brings c 0) (spread_of (term 1 2 ∷ term 30 40 ∷ term 20 35 ∷ [])) 0) (give (1 ∷ 30 ∷ []) [])
    ∷ call (first_day d (brings c 0) (spread_of (term 1 2 ∷ term 0 65535 ∷ term 65534 65535 ∷ [])) 0) (give (1 ∷ 65534 ∷ []) [])
    ∷ call (first_day d (brings c 0) (spread_of (term 1 2 ∷ term 0 65535 ∷ term 65534 65535 ∷ [])) 65535) (give (0 ∷ 0 ∷ []) [])
    -- 18: the number of entries first, then the first that is turned round or empty
    ∷ call (quote_on d (brings c 0) (spread_of (term 10 20 ∷ term 10 15 ∷ [])) 10) (refuse 18 2)
    ∷ call (quote_on d (brings c 0) (spread_of (term 10 20 ∷ term 10 15 ∷ term 12 20 ∷ term 1 2 ∷ [])) 10) (refuse 18 4)
    ∷ call (quote_on d (brings c 0) (spread_of []) 10) (refuse 18 0)
    ∷ call (quote_on d (brings c 0) (spread_of (term 10 20 ∷ term 15 10 ∷ term 12 20 ∷ [])) 10) (refuse 18 1)
    ∷ call (quote_on d (brings c 0) (spread_of (term 10 20 ∷ term 10 10 ∷ term 20 12 ∷ [])) 10) (refuse 18 1)
    ∷ call (quote_on d (brings c 0) (spread_of (term 20 10 ∷ term 10 15 ∷ [])) 10) (refuse 18 2)
    ∷ call (quote_on d (brings c4 0) (spread_of []) 10) (give (0 ∷ (replicate 512 0 ++ (4 ∷ 0 ∷ 0 ∷ []))) [])
    ∷ call (quote_on d (brings c4 0) (spread_of (term 10 20 ∷ [])) 10) (refuse 18 1)
    -- C asked about links that would enter the record of K6: 3 → 2 changes the lists of extract 1, of another kind none, nor does 2 → 0
    ∷ call (ask_outcome (brings c 0) r6 (state_of 3 7) (link 3 2 0)) (give (2 ∷ 3 ∷ 2 ∷ 0 ∷ 7 ∷ []) [])
    ∷ call (ask_outcome (brings c 0) r6 (state_of 3 7) (link 3 2 1)) (give (0 ∷ 3 ∷ 2 ∷ 1 ∷ 7 ∷ []) [])
    ∷ call (ask_outcome (brings c 0) r6 (state_of 3 4294967295) (link 2 0 0)) (give (0 ∷ 2 ∷ 0 ∷ 0 ∷ 4294967295 ∷ []) [])
    ∷ call (ask_outcome (brings c 8) r6 (state_of 2 7) (link 3 2 0)) (refuse 19 3)
    ∷ call (ask_outcome (brings c 2) r6 (state_of 2 7) (link 3 2 0)) (refuse 3 3)
    -- the link 3 → 2 enters the record of K6: the record with it and its index; each refusal in its order
    ∷ call (commit_outcome r6 (state_of 3 7) (slip 3 2 0 7) 33 5) (give [] (entered6 ∷ fields "0 2 3 3 4" ∷ []))
    ∷ call (commit_outcome r6 (state_of 3 7) (slip 3 2 0 7) 32 4) (refuse 12 33)
    ∷ call (commit_outcome r6 (state_of 3 7) (slip 3 2 0 7) 33 4) (refuse 12 5)
    ∷ call (commit_outcome r6 (state_of 2 7) (slip 4 9 9 6) 0 0) (refuse 20 7)
    ∷ call (commit_outcome r6 (state_of 2 4294967295) (slip 4 9 9 4294967295) 0 0) (refuse 21 4294967295)
    ∷ call (commit_outcome r6 (state_of 2 7) (slip 4 9 9 7) 0 0) (refuse 3 3)
    ∷ call (commit_outcome r6 (state_of 3 7) (slip 4 2 9 7) 0 0) (refuse 4 3)
    ∷ call (commit_outcome r6 (state_of 3 7) (slip 3 4 9 7) 0 0) (refuse 4 3)
    ∷ call (commit_outcome r6 (state_of 3 7) (slip 0 1 8 7) 0 0) (refuse 3 3)
    ∷ call (commit_outcome r6 (state_of 3 7) (slip 0 1 0 7) 0 0) (refuse 6 3)
    ∷ []

pub cases : Agree table
unfolding Agree table digit hex next turned numbers bits_of num num_from bits zeros gap then times whole within scan lay bytes_of decode encode linked edges is_end all_ends label joined pattern catalogue pairs labels rising record' lists standing sheet book pattern_size patterns_in views_of edge_counts codes_in lists_in after_lists sheet_lists after_sheet sheets_in ends fields_of pair_count sheet_fields member insert distinct each_edge from_ranks sorted_edges old_record sorted_fields record_sorted with_workspace read_file write_file judged read_catalogue pairs_of within_pairs_by fit fit_file pattern_read catalogue_read record_read sheet_read book_read pattern_written catalogue_written record_written sheet_written ◌and◌ ◌or◌ ◌implies◌ every some keep gather each below up_to settle greatest same has same_edge all_pairs bit edges_in pattern_of graph_of as_graph fits asks_arrivals follows_out follows_in follows sim total row ascending match_sets view_sheet rule_in view_patterns first_stray judge_set sheet_bytes book_bytes view_sheets search_outcome make_book_outcome pair_of is_match matched under candidates supported_out supported_in supported join complete kept_for answer_sets rank matches matched_in covers_in lowest_unmatched adds_to taken kept chosen used views_in_set mask_in match_mask mask_at mapping values_from quote_values flat quote_for quote_outcome as_record graph_fields fewer_fields record_bytes fit_both show_for show_outcome flatten views_in answer_bytes answer_in answer_for answer_by cheapest_from cheapest_for cheapest_outcome part_for part_outcome question_at counted all_covered is_needed sheets_needed answer_at any_long fit_several several_in several_outcome columns_from first_turned judge_terms is_in_force in_force quote_on show_on sooner earliest day_values first_day_for first_day index_for begin_below entered_edges entered judge_link judge_slip commit_outcome alike all_alike changes changed_views ask_values ask_outcome
cases = refl

-- The three demands, said of what the calls answer.
--
-- The contract of each client call is `Settled` (packed/specs/Calls.antt) over one of the answers named here: it says of the result, of every
-- lent byte and of every word of the workspace what they are once that answer is known. So what is said here of answers holds of the programs.
-- An answer is a function of the bytes, fields and sets that are lent, of the length of each output (`room`) and of the workspace (`words`).
-- Each of the laws below is the contract of a function of src/demands.rt, so that the check of the crate wants its proof.
-- Proofs: proofs/DemandsOneTwo.antt and proofs/DemandThree.antt, by proofs/DemandRules.antt, DemandSheets.antt, DemandIndex.antt and DemandJoin.antt; of the
-- join by steps, proofs/DemandSteps.antt; of the empty catalogue, proofs/EmptyCatalogues.antt; of the part, proofs/Parts.antt; of several
-- questions, proofs/Severals.antt; of the cheapest set, proofs/CheapestSets.antt; of calls for a day, proofs/OnDays.antt, by proofs/WhenLaws.antt; of links
-- that enter, proofs/Entering.antt; of asking, proofs/Asking.antt; of the listing, proofs/Listings.antt.
use Rattle.std.specs.Prelude.{ℕ, ◌+◌, ◌-◌, ◌*◌, ◌^◌, ◌<◌, ◌≤◌, ◌≡◌, ◌⊎◌, ◌↔◌, Bool, true, false, length, get_or, drop, replicate, T}
use mathlib.Core.List.{List, [], ◌∷◌, ◌++◌, map, flatten}
use Rattle.packed.specs.Limits.{pattern_most, questions_most, catalogue_most, record_most, edges_most, old_record_most, book_most, pairs_most, workspace}
use Rattle.packed.specs.Formats.{code, pattern, catalogue, record'}
use Rattle.packed.specs.Plain.{Below, PatternFile, CatalogueFile, EmptyCatalogue, RecordFile, SheetFile, BookFile}
use Rattle.packed.specs.Contents.{edges_of, views_of, edge_counts, sheets_in, ends, fields_of, pair_count, sheet_fields, sheet_length, nodes_of}
use Rattle.packed.specs.Entered.{entered}
use Rattle.packed.specs.Refusals.{Told, told}
use Rattle.packed.specs.declared.by_value.Pattern.{Pattern as Given}
use Rattle.packed.specs.OldRecord.{read_old_record, OldRecordFile, sorted_fields, record_sorted}
use Rattle.packed.specs.Calls.{Outcome, give, refuse, fronts, Settled, FulfilsOne, with_workspace, Verdict, accepted, rejected, read_pattern, read_questions, QuestionFiles, read_catalogue, read_record, read_sheet, read_book, write_file, write_sheet, write_book, pairs_of, fit, fit_file, pattern_read, catalogue_read, record_read, sheet_read, book_read, pattern_written, catalogue_written, record_written, sheet_written, book_written, record_bytes, fit_both}
use Rattle.engine.specs.Lists.{In, some, keep, each}
use Rattle.engine.specs.Simulation.{Pair, Edge, between, no_edge, one_way, both_ways, Pattern, ruled, Graph, pattern_of, graph_of, given_edge, pattern_in, as_graph, bit, fits, IsSim, MatchingBy, sim, sound, match_sets, view_sheet}
use Rattle.engine.specs.Index.{index_of}
use Rattle.matching.specs.Join.{without, Offer, join, answer_sets, matched}
use Rattle.matching.specs.Components.{reaches, Nodes, leaving_of, state_at, Shut, OneStep, StepsTo, pair_at, IsHeld, Holds, Ran, Pruned}
use Rattle.matching.specs.Part.{rank, number, part_of, pattern_fields, pattern_bytes}
use Rattle.matching.specs.Offered.{Brought, brings, Offered, offers, view_patterns, judge_set, RightSet, WrongSet}
use Rattle.matching.specs.Search.{sheet_bytes, book_bytes, view_sheets, search_outcome, make_book_outcome}
use Rattle.matching.specs.Index.{make_index_outcome, check_index_outcome, search_indexed_outcome}
use Rattle.matching.specs.Enter.{judge_link, change_most, judge_slip, link_on, commit_outcome, state_after}
use Rattle.matching.specs.Ask.{changed_views, ask_outcome}
use Rattle.matching.specs.declared.state.State.{State}
use Rattle.matching.specs.declared.state.Link.{Link}
use Rattle.matching.specs.declared.state.Slip.{Slip}
use Rattle.containment.specs.Choice.{every_view, covers_in, columns_in, lowest_unmatched, chosen}
use Rattle.containment.specs.Quote.{no_pattern, mapping, quoted_by, views_in_set, used_by, QuoteValues, flat, blank, quote_outcome, quote_told}
use Rattle.containment.specs.Answer.{views_in, Choose, answer_by, answer_from, answer_outcome}
use Rattle.containment.specs.Cheapest.{cost, Better, cheapest_outcome}
use Rattle.containment.specs.Show.{graph_fields, fewer_fields, show_outcome}
use Rattle.containment.specs.Part.{part_outcome}
use Rattle.answering.specs.Several.{several_outcome}
use Rattle.containment.specs.Terms.{no_term, spread_of, from_day, to_day, judge_terms, in_force, quote_on, cheapest_on, part_on, show_on, first_day, InForce}
use Rattle.containment.specs.Listing.{bytes, link_line, line_of, line_outcome}
use Rattle.containment.specs.declared.quote_type.Quote.{Quote}
use Rattle.containment.specs.declared.terms.Term.{Term}
use Rattle.containment.specs.declared.terms.Terms.{Terms}

-- ---- Words of the requirements

-- "A paper is accepted if none of 1 to 10 falls to it": an accepted file and its content. A lone sheet stands beside the content of its
-- pattern, a book beside that of its catalogue; 10 falls to a book in which over 8,192 different pairs stand.
abbrev pub Question : List ℕ → List ℕ → Type 0
Question q qs = read_pattern q ≡ accepted qs

-- so many questions in one paper
abbrev pub Questions : ℕ → List ℕ → List ℕ → Type 0
Questions number q ws = read_questions number q ≡ accepted ws

abbrev pub CataloguePaper : List ℕ → List ℕ → Type 0
CataloguePaper c cs = read_catalogue c ≡ accepted cs

abbrev pub Record : List ℕ → List ℕ → Type 0
Record r rs = read_record r ≡ accepted rs

abbrev pub Sheet : List ℕ → List ℕ → List ℕ → Type 0
Sheet ps s ws = read_sheet ps s ≡ accepted ws

abbrev pub FewPairs : List ℕ → List ℕ → Type 0
FewPairs cs bs = length (pairs_of (edge_counts cs) bs) ≤ pairs_most

abbrev pub ManyPairs : List ℕ → List ℕ → Type 0
ManyPairs cs bs = pairs_most < length (pairs_of (edge_counts cs) bs)

pub record Book (cs b bs : List ℕ) : Type 0 where
  pub read : read_book cs b ≡ accepted bs
  pub few : FewPairs cs bs

-- "A catalogue comes with a 16-bit set naming the extracts .. whose sheets follow 01's one-way matching." A client brings both (c), the paper and the set. They are
-- accepted, and offer the content of the paper with the set (cs), if the paper is accepted and the set names none but extracts of it. "Where these papers say
-- the same catalogue, the set is the same too": so all that is said below of a catalogue c, of what it offers, of its books and of its extracts is said of one set
pub record Catalogue (c : Brought) (cs : Offered) : Type 0 where
  pub paper : CataloguePaper c.file cs.content
  pub set : cs.one_way ≡ c.one_way
  pub named : RightSet c.one_way (length (views_of cs.content))

-- the extract a, with the rule by which it is matched; the link e of the question
abbrev pub extract_of : Offered → ℕ → Pattern
extract_of cs a = get_or (view_patterns cs) a no_pattern

abbrev pub link_of : List ℕ → ℕ → Edge
link_of qs e = get_or (pattern_of qs).edges e no_edge

-- the extracts in a set match every link of the question, or leave one unmatched
abbrev pub Covers : ℕ → List ℕ → Offered → Type 0
Covers set qs cs = covers_in (mapping (pattern_of qs) (view_patterns cs)) set (length (view_patterns cs)) (edges_of qs) ≡ true

abbrev pub Leaves : ℕ → List ℕ → Offered → Type 0
Leaves set qs cs = covers_in (mapping (pattern_of qs) (view_patterns cs)) set (length (view_patterns cs)) (edges_of qs) ≡ false

-- the lowest link of the question that no extract of a set matches
abbrev pub lacking_in : ℕ → List ℕ → Offered → ℕ
lacking_in set qs cs = lowest_unmatched (mapping (pattern_of qs) (view_patterns cs)) set (length (view_patterns cs)) (edges_of qs)

-- what a quote says, by all extracts: covered or uncovered
abbrev pub Covered : List ℕ → Offered → Type 0
Covered qs cs = Covers every_view qs cs

abbrev pub Uncovered : List ℕ → Offered → Type 0
Uncovered qs cs = Leaves every_view qs cs

-- the lowest link of the question that no extract matches
abbrev pub lacking : List ℕ → Offered → ℕ
lacking qs cs = lacking_in every_view qs cs

-- the set that a quote chooses, from the extracts in a set; from all of them
abbrev pub chosen_in : ℕ → List ℕ → Offered → ℕ
chosen_in set qs cs = chosen (mapping (pattern_of qs) (view_patterns cs)) set (edges_of qs) (length (view_patterns cs))

abbrev pub chosen_of : List ℕ → Offered → ℕ
chosen_of qs cs = chosen_in every_view qs cs

-- the masks of a quote: those of the extracts in a set; the others' are zero
abbrev pub masks_in : ℕ → List ℕ → Offered → List ℕ
masks_in set qs cs = columns_in set (mapping (pattern_of qs) (view_patterns cs))

-- a pattern's sheet from a record
abbrev pub sheet_of : Pattern → List ℕ → List ℕ
sheet_of P rs = sheet_bytes (match_sets P (graph_of rs))

-- an extract's, "by that rule" which is its own, and "the extract lists made from the record": the sheets of all extracts, "each sheet made under its own rule",
-- laid out as a book
abbrev pub extract_sheet_of : Pattern → List ℕ → List ℕ
extract_sheet_of P rs = sheet_bytes (view_sheet P (graph_of rs))

abbrev pub book_of : Offered → List ℕ → List ℕ
book_of cs rs = book_bytes (view_sheets cs (graph_of rs))

-- "the record's own" index
abbrev pub own_of : List ℕ → List ℕ
own_of rs = index_of (graph_of rs)

-- "searches without one or with the record's own": what searching a record of the content rs answers, in either way
pub data Way : Type 0 where
  without_index : Way
  with_own : Way

abbrev pub search_by : Way → List ℕ → List ℕ → List ℕ → ℕ → Outcome
search_by without_index q r rs room = search_outcome q r room
search_by with_own q r rs room = search_indexed_outcome q r (own_of rs) room

-- the lists of the answer from a book by the extracts in a set
abbrev pub answer_of : ℕ → List ℕ → Offered → List ℕ → List (List ℕ)
answer_of set qs cs bs = answer_sets (pattern_of qs) (views_in set (view_patterns cs) (sheets_in (edge_counts cs.content) bs))

-- the same by the set that the question's quote chooses, in bytes
abbrev pub own_answer_in : ℕ → Offered → List ℕ → List ℕ → List ℕ
own_answer_in set cs bs qs = sheet_bytes (answer_of (chosen_in set qs cs) qs cs bs)

abbrev pub own_answer : Offered → List ℕ → List ℕ → List ℕ
own_answer cs bs qs = own_answer_in every_view cs bs qs

-- the content of "the two shown records": the question read as a record, and the same without its lowest link that no extract of a set matches
abbrev pub first_of : List ℕ → List ℕ
first_of qs = graph_fields qs

abbrev pub second_in : ℕ → List ℕ → Offered → List ℕ
second_in set qs cs = fewer_fields qs (lacking_in set qs cs)

-- the lists of the extracts in a set
abbrev pub lists_in : ℕ → Offered → Graph → List (List (List ℕ))
lists_in set cs G = each (λ P. view_sheet P G) (views_in_set set (view_patterns cs))

-- ---- Terms. "Beside the catalogue comes a list of entries, each a from-day and a to-day, one per extract, as 16-bit day numbers"; a call is handed the list in
-- plain numbers (specs/Terms.antt).

-- the extracts in force on a day, as a set
abbrev pub force_of : Terms → ℕ → Offered → ℕ
force_of t day cs = in_force t day (length (view_patterns cs))

-- a list for k extracts: "one per extract", each with its from-day below its to-day
pub record RightTerms (t : Terms) (k : ℕ) : Type 0 where
  pub number : t.number ≡ k
  pub ordered : (a : ℕ) → a < k → from_day t a < to_day t a

-- 18: "when the list's length is wrong or an entry's from-day isn't below its to-day", "detail the number of entries, judged first, or the first bad
-- position, from 0"
pub record FirstBad (t : Terms) (k d : ℕ) : Type 0 where
  pub number : t.number ≡ k
  pub below : d < k
  pub bad : from_day t d < to_day t d → ⊥
  pub before : (a : ℕ) → a < d → from_day t a < to_day t a

abbrev pub WrongTerms : Terms → ℕ → ℕ → Type 0
WrongTerms t k d = ((t.number ≡ k → ⊥) × (d ≡ t.number)) ⊎ FirstBad t k d

-- a call goes by all extracts, or it is for a day and "uses only extracts in force": the extracts that it may use, and that no term is wrong
pub data When : Type 0 where
  always : When
  on : Terms → ℕ → When

abbrev pub usable_when : When → Offered → ℕ
usable_when always cs = every_view
usable_when (on t day) cs = force_of t day cs

pub data RightWhen (cs : List ℕ) : When → Type 0 where
  any_time : RightWhen cs always
  right : {t : Terms} {day : ℕ} → RightTerms t (length (views_of cs)) → RightWhen cs (on t day)

abbrev pub Timely : Offered → When → Type 0
Timely cs w = RightWhen cs.content w

-- the calls that there are both ways, by all extracts and for a day
abbrev pub quote_when : When → List ℕ → Brought → Outcome
quote_when always q c = quote_outcome q c
quote_when (on t day) q c = quote_on q c t day

abbrev pub cheapest_when : When → List ℕ → Brought → List ℕ → Outcome
cheapest_when always q c charges = cheapest_outcome q c charges
cheapest_when (on t day) q c charges = cheapest_on q c t day charges

abbrev pub part_when : When → List ℕ → Brought → List ℕ → ℕ → ℕ → Outcome
part_when always q c b room room' = part_outcome q c b room room'
part_when (on t day) q c b room room' = part_on q c t day b room room'

abbrev pub show_when : When → List ℕ → Brought → ℕ → ℕ → Outcome
show_when always q c room room' = show_outcome q c room room'
show_when (on t day) q c room room' = show_on q c t day room room'

-- ---- Demand 1. "Every call gives a full result or a numbered refusal under a fixed rule, for all bytes and buffers of every length. A refusal
-- leaves the output untouched."

-- a full result
pub record Full (a : Outcome) : Type 0 where
  pub values : List ℕ
  pub outputs : List (List ℕ)
  pub is : a ≡ give values outputs

-- a refusal with a number from 1 to 21
pub record Refused (a : Outcome) : Type 0 where
  pub number : ℕ
  pub detail : ℕ
  pub is : a ≡ refuse number detail
  pub least : 1 ≤ number
  pub most : number ≤ 21

abbrev pub Settles : Outcome → Type 0
Settles a = Full a ⊎ Refused a

-- "question, catalogue, record, book, as far as the call has them": the files of a call in the order in which they are judged, each by what the accepted
-- ones before it say
pub data Files : Type 0 where
  no_more : Files
  first : Verdict → (List ℕ → Files) → Files

-- the first of them that isn't accepted has the number n and the detail d
pub data FirstRejected : Files → ℕ → ℕ → Type 0 where
  here : {v : Verdict} {next : List ℕ → Files} {n d : ℕ} → v ≡ rejected n d → FirstRejected (first v next) n d
  later : {v : Verdict} {next : List ℕ → Files} {ws : List ℕ} {n d : ℕ} → v ≡ accepted ws → FirstRejected (next ws) n d → FirstRejected (first v next) n d

-- "each refusal is given in its case and no other": a call gives 1 to 9 exactly as the first of its files that isn't accepted has it
abbrev pub HandsUp : Files → Outcome → Type 0
HandsUp files a = (n d words : ℕ) → n ≤ 9 → (with_workspace words a ≡ refuse n d) ↔ ((workspace ≤ words) × FirstRejected files n d)

-- what is judged of the content that a writer is handed, beside no other file
abbrev pub write_pattern : List ℕ → Verdict
write_pattern ws = write_file 1 pattern ws

abbrev pub write_catalogue : List ℕ → Verdict
write_catalogue ws = write_file 2 catalogue ws

abbrev pub write_record : List ℕ → Verdict
write_record ws = write_file 3 record' ws

-- no file follows
abbrev pub then_none : List ℕ → Files
then_none ws = no_more

-- the files of the calls that match the extracts of a catalogue, and what follows them: its set is judged with it, "right after the catalogue is read, after
-- 18"
abbrev pub set_file : ℕ → List ℕ → (List ℕ → Files) → Files
set_file set cs next = first (judge_set set (length (views_of cs))) (λ _. next cs)

abbrev pub offered_files : Brought → (List ℕ → Files) → Files
offered_files c next = first (read_catalogue c.file) (λ cs. set_file c.one_way cs next)

abbrev pub quoted_files : List ℕ → Brought → (List ℕ → Files) → Files
quoted_files q c next = first (read_pattern q) (λ qs. offered_files c next)

-- the same for a day: the terms are judged with them, "right after the catalogue is read"
abbrev pub files_when : When → List ℕ → Brought → (List ℕ → Files) → Files
files_when always q c next = quoted_files q c next
files_when (on t day) q c next =
    first (read_pattern q) (λ qs.
    first (read_catalogue c.file) (λ cs.
    first (judge_terms t (length (views_of cs))) (λ _.
    set_file c.one_way cs next)))

-- the files of the call that answers several questions: "its first fault decides the refusal, .., then catalogue, book"
abbrev pub several_files : ℕ → List ℕ → Brought → List ℕ → Files
several_files number q c b = first (read_questions number q) (λ ws. offered_files c (λ cs. first (read_book cs b) then_none))

-- those of asking: the link is judged with them, "3 if the state's link count isn't the record's, then .."
abbrev pub ask_files : Brought → List ℕ → State → Link → Files
ask_files c r s l = offered_files c (λ cs. first (read_record r) (λ rs. first (judge_link s.links rs l) then_none))

-- those of a commit
abbrev pub commit_files : List ℕ → State → Slip → Files
commit_files r s p = first (read_record r) (λ rs. first (judge_slip s p) (λ _. first (judge_link s.links rs (link_on p)) then_none))

-- 17: "when no question or more than eight are sent", and else
abbrev pub WrongNumber : ℕ → Type 0
WrongNumber number = (number ≡ 0) ⊎ (questions_most < number)

abbrev pub RightNumber : ℕ → Type 0
RightNumber number = (1 ≤ number) × (number ≤ questions_most)

-- 12: "an output needs more bytes than were lent"; "where content is the output, 12 counts words", and "where an index is the output, 12 counts entries".
-- It needs d.
abbrev pub Over : ℕ → List ℕ → ℕ → Type 0
Over room o d = (room < length o) × (d ≡ length o)

-- "or a sheet, book or answer more than 65,536"
abbrev pub OverFile : ℕ → List ℕ → ℕ → Type 0
OverFile room o d = ((room < length o) ⊎ (book_most < length o)) × (d ≡ length o)

-- "12 the bytes needed, of the first output that doesn't fit"
abbrev pub OverEither : ℕ → ℕ → List ℕ → List ℕ → ℕ → Type 0
OverEither room room' o o' d = Over room o d ⊎ ((length o ≤ room) × Over room' o' d)

-- 16: "the lent index isn't the record's own", "detail the first differing position, from 0, or the number of its entries if that is wrong"
pub record FirstDiffers (own index : List ℕ) (d : ℕ) : Type 0 where
  pub number : length index ≡ length own
  pub below : d < length own
  pub differs : get_or own d 0 ≡ get_or index d 0 → ⊥
  pub before : (i : ℕ) → i < d → get_or own i 0 ≡ get_or index i 0

abbrev pub NotOwn : List ℕ → List ℕ → ℕ → Type 0
NotOwn own index d = ((length index ≡ length own → ⊥) × (d ≡ length index)) ⊎ FirstDiffers own index d

-- what a call answers once nothing but 14 and 12 can fall to it: "each refusal is given in its case and no other"; else its values, and its outputs,
-- whole
pub record FittedBeside (values : List ℕ) (words : ℕ) (NoFit : ℕ → Type 0) (outputs : List (List ℕ)) (a : Outcome) : Type 0 where
  pub small_workspace : (d : ℕ) → (a ≡ refuse 14 d) ↔ ((words < workspace) × (d ≡ 0))
  pub no_fit : (d : ℕ) → (a ≡ refuse 12 d) ↔ ((workspace ≤ words) × NoFit d)
  pub gives : (a ≡ give values outputs) ↔ ((workspace ≤ words) × ((d : ℕ) → NoFit d → ⊥))
  pub no_other : (a ≡ refuse 14 0) ⊎ (((d : ℕ) × (a ≡ refuse 12 d)) ⊎ (a ≡ give values outputs))

-- where it has no values
abbrev pub Fitted : ℕ → (ℕ → Type 0) → List (List ℕ) → Outcome → Type 0
Fitted words NoFit outputs a = FittedBeside [] words NoFit outputs a

-- reading: an accepted file's content is given, and nothing of another file
pub record Reads (read : List ℕ → ℕ → Outcome) (Accepted : List ℕ → List ℕ → Type 0) : Type 0 where
  pub gives : (s ws : List ℕ) → Accepted s ws → (room words : ℕ) → Fitted words (Over room ws) (ws ∷ []) (with_workspace words (read s room))
  pub only : (s : List ℕ) (room words : ℕ) → Full (with_workspace words (read s room)) → (ws : List ℕ) × Accepted s ws

-- writing: "content handed to a writer meets the same rules", those of the file of bytes s that has it
pub record Writes (write : List ℕ → ℕ → Outcome) (NoFit : ℕ → List ℕ → ℕ → Type 0) (Has : List ℕ → List ℕ → Type 0) : Type 0 where
  pub gives : (s ws : List ℕ) → Below 256 s → Has s ws → (room words : ℕ) → Fitted words (NoFit room s) (s ∷ []) (with_workspace words (write ws room))
  pub only : (ws : List ℕ) (room words : ℕ) → Full (with_workspace words (write ws room)) → (s : List ℕ) × Below 256 s × Has s ws

-- what a call leaves in the workspace
pub record Worked (work work' : List ℕ) : Type 0 where
  -- "the first 16,384 work words are zero after every call", "words beyond never change"
  pub zeroed : workspace ≤ length work → work' ≡ replicate workspace 0 ++ drop workspace work
  -- "except 14, which leaves them as they came"
  pub as_came : length work < workspace → work' ≡ work

-- 19 is given exactly where the set names an extract that there isn't, with the lowest such number
abbrev pub Refuses19 : Brought → List ℕ → Outcome → Type 0
Refuses19 c cs a = (words d : ℕ) → (with_workspace words a ≡ refuse 19 d) ↔ ((workspace ≤ words) × WrongSet c.one_way (length (views_of cs)) d)

pub record Demand1 : Type 0 where
  -- "every call", "for all bytes and buffers of every length"
  pub read_pattern_lem : (s : List ℕ) (room words : ℕ) → Settles (with_workspace words (pattern_read s room))
  pub read_catalogue_lem : (s : List ℕ) (room words : ℕ) → Settles (with_workspace words (catalogue_read s room))
  pub read_record_lem : (s : List ℕ) (room words : ℕ) → Settles (with_workspace words (record_read s room))
  pub read_sheet_lem : (p s : List ℕ) (room words : ℕ) → Settles (with_workspace words (sheet_read p s room))
  pub read_book_lem : (c s : List ℕ) (room words : ℕ) → Settles (with_workspace words (book_read c s room))
  pub write_pattern_lem : (ws : List ℕ) (room words : ℕ) → Settles (with_workspace words (pattern_written ws room))
  pub write_catalogue_lem : (ws : List ℕ) (room words : ℕ) → Settles (with_workspace words (catalogue_written ws room))
  pub write_record_lem : (ws : List ℕ) (room words : ℕ) → Settles (with_workspace words (record_written ws room))
  pub sort_record : (s : List ℕ) (room words : ℕ) → Settles (with_workspace words (record_sorted s room))
  pub write_sheet_lem : (p ws : List ℕ) (room words : ℕ) → Settles (with_workspace words (sheet_written p ws room))
  pub write_book_lem : (c ws : List ℕ) (room words : ℕ) → Settles (with_workspace words (book_written c ws room))
  pub search : (p r : List ℕ) (room words : ℕ) → Settles (with_workspace words (search_outcome p r room))
  pub make_index : (r : List ℕ) (room words : ℕ) → Settles (with_workspace words (make_index_outcome r room))
  pub check_index : (r index : List ℕ) (words : ℕ) → Settles (with_workspace words (check_index_outcome r index))
  pub search_indexed : (p r index : List ℕ) (room words : ℕ) → Settles (with_workspace words (search_indexed_outcome p r index room))
  pub make_book : (c : Brought) (r : List ℕ) (room words : ℕ) → Settles (with_workspace words (make_book_outcome c r room))
  pub ask : (c : Brought) (r : List ℕ) (s : State) (l : Link) (words : ℕ) → Settles (with_workspace words (ask_outcome c r s l))
  pub commit : (r : List ℕ) (s : State) (p : Slip) (room room' words : ℕ) → Settles (with_workspace words (commit_outcome r s p room room'))
  -- a call that there is for a day too is meant both ways
  pub quote : (w : When) (q : List ℕ) (c : Brought) (words : ℕ) → Settles (with_workspace words (quote_when w q c))
  -- both calls that answer: `answer_from` and `answer_outcome` are `answer_by` with the set that the client names and with the one that is used else
  pub answer : (choose : Choose) (q : List ℕ) (c : Brought) (b : List ℕ) (room words : ℕ) → Settles (with_workspace words (answer_by choose q c b room))
  pub show : (w : When) (q : List ℕ) (c : Brought) (room room' words : ℕ) → Settles (with_workspace words (show_when w q c room room'))
  pub part : (w : When) (q : List ℕ) (c : Brought) (b : List ℕ) (room room' words : ℕ) → Settles (with_workspace words (part_when w q c b room room'))
  pub several : (q : List ℕ) (number : ℕ) (c : Brought) (b : List ℕ) (room words : ℕ) → Settles (with_workspace words (several_outcome q number c b room))
  pub cheapest : (w : When) (q : List ℕ) (c : Brought) (charges : List ℕ) (words : ℕ) → Settles (with_workspace words (cheapest_when w q c charges))
  pub first_day_lem : (q : List ℕ) (c : Brought) (t : Terms) (day words : ℕ) → Settles (with_workspace words (first_day q c t day))
  pub line : (q : Quote) (k room : ℕ) → Settles (line_outcome q k room)
  -- "within a paper: 1, then front to back": what falls to each file is in packed/specs/Formats.antt; here, that it is handed up
  pub read_pattern_files : (s : List ℕ) (room : ℕ) → HandsUp (first (read_pattern s) then_none) (pattern_read s room)
  pub read_catalogue_files : (s : List ℕ) (room : ℕ) → HandsUp (first (read_catalogue s) then_none) (catalogue_read s room)
  pub read_record_files : (s : List ℕ) (room : ℕ) → HandsUp (first (read_record s) then_none) (record_read s room)
  pub read_sheet_files : (p s : List ℕ) (room : ℕ) → HandsUp (first (read_pattern p) (λ ps. first (read_sheet ps s) then_none)) (sheet_read p s room)
  pub read_book_files : (c s : List ℕ) (room : ℕ) → HandsUp (first (read_catalogue c) (λ cs. first (read_book cs s) then_none)) (book_read c s room)
  pub write_pattern_files : (ws : List ℕ) (room : ℕ) → HandsUp (first (write_pattern ws) then_none) (pattern_written ws room)
  pub write_catalogue_files : (ws : List ℕ) (room : ℕ) → HandsUp (first (write_catalogue ws) then_none) (catalogue_written ws room)
  pub write_record_files : (ws : List ℕ) (room : ℕ) → HandsUp (first (write_record ws) then_none) (record_written ws room)
  pub write_sheet_files : (p ws : List ℕ) (room : ℕ) → HandsUp (first (read_pattern p) (λ ps. first (write_sheet ps ws) then_none)) (sheet_written p ws room)
  pub write_book_files : (c ws : List ℕ) (room : ℕ) → HandsUp (first (read_catalogue c) (λ cs. first (write_book cs ws) then_none)) (book_written c ws room)
  pub search_files : (p r : List ℕ) (room : ℕ) → HandsUp (first (read_pattern p) (λ ps. first (read_record r) then_none)) (search_outcome p r room)
  pub make_index_files : (r : List ℕ) (room : ℕ) → HandsUp (first (read_record r) then_none) (make_index_outcome r room)
  pub check_index_files : (r index : List ℕ) → HandsUp (first (read_record r) then_none) (check_index_outcome r index)
  pub search_indexed_files : (p r index : List ℕ) (room : ℕ) → HandsUp (first (read_pattern p) (λ ps. first (read_record r) then_none)) (search_indexed_outcome p r index room)
  pub make_book_files : (c : Brought) (r : List ℕ) (room : ℕ) → HandsUp (offered_files c (λ cs. first (read_record r) then_none)) (make_book_outcome c r room)
  pub ask_files_lem : (c : Brought) (r : List ℕ) (s : State) (l : Link) → HandsUp (ask_files c r s l) (ask_outcome c r s l)
  -- the slip and the link are judged with the record: "20 .., then 21 .., both right after the papers and before that 3"
  pub commit_files_lem : (r : List ℕ) (s : State) (p : Slip) (room room' : ℕ) → HandsUp (commit_files r s p) (commit_outcome r s p room room')
  pub quote_files : (w : When) (q : List ℕ) (c : Brought) → HandsUp (files_when w q c then_none) (quote_when w q c)
  pub cheapest_files : (w : When) (q : List ℕ) (c : Brought) (charges : List ℕ) → HandsUp (files_when w q c then_none) (cheapest_when w q c charges)
  pub first_day_files : (q : List ℕ) (c : Brought) (t : Terms) (day : ℕ) → HandsUp (files_when (on t day) q c then_none) (first_day q c t day)
  pub answer_files : (choose : Choose) (q : List ℕ) (c : Brought) (b : List ℕ) (room : ℕ) → HandsUp (quoted_files q c (λ cs. first (read_book cs b) then_none)) (answer_by choose q c b room)
  pub show_files : (w : When) (q : List ℕ) (c : Brought) (room room' : ℕ) → HandsUp (files_when w q c then_none) (show_when w q c room room')
  -- for a day the book is judged once the terms are right and the set names extracts alone: where 18 or 19 falls to these nothing is said of it
  pub part_files : (w : When) (q : List ℕ) (c : Brought) (b : List ℕ) (room room' : ℕ) → HandsUp (files_when w q c (λ cs. first (read_book cs b) then_none)) (part_when w q c b room room')
  -- 17 stands before the files: where the number is wrong none is judged
  pub several_files_lem : (q : List ℕ) (number : ℕ) (c : Brought) (b : List ℕ) (room : ℕ) → RightNumber number → HandsUp (several_files number q c b) (several_outcome q number c b room)
  pub several_unread : (q : List ℕ) (number : ℕ) (c : Brought) (b : List ℕ) (room : ℕ) → WrongNumber number → HandsUp no_more (several_outcome q number c b room)
  -- "a writer never gives 1" of the content that it is handed
  pub never_long : (ws : List ℕ) (d : ℕ) → (write_pattern ws ≡ rejected 1 d → ⊥) × (write_catalogue ws ≡ rejected 1 d → ⊥) × (write_record ws ≡ rejected 1 d → ⊥)
  pub never_long_beside : (cs ws : List ℕ) (d : ℕ) → (write_sheet cs ws ≡ rejected 1 d → ⊥) × (write_book cs ws ≡ rejected 1 d → ⊥)
  -- 19, "when the set names an extract not in the catalogue, right after the catalogue is read, after 18 and before 15, detail the lowest such number": exactly
  -- then, in each call, once the question, the paper of the catalogue and the terms are accepted
  pub make_book_set : (c : Brought) (r cs : List ℕ) (room : ℕ) → CataloguePaper c.file cs → Refuses19 c cs (make_book_outcome c r room)
  pub ask_set : (c : Brought) (r cs : List ℕ) (s : State) (l : Link) → CataloguePaper c.file cs → Refuses19 c cs (ask_outcome c r s l)
  pub quote_set : (w : When) (q : List ℕ) (c : Brought) (qs cs : List ℕ) → Question q qs → CataloguePaper c.file cs → RightWhen cs w → Refuses19 c cs (quote_when w q c)
  pub cheapest_set : (w : When) (q : List ℕ) (c : Brought) (qs cs charges : List ℕ) → Question q qs → CataloguePaper c.file cs → RightWhen cs w
      → Refuses19 c cs (cheapest_when w q c charges)
  pub first_day_set : (q : List ℕ) (c : Brought) (qs cs : List ℕ) (t : Terms) (day : ℕ) → Question q qs → CataloguePaper c.file cs → RightWhen cs (on t day)
      → Refuses19 c cs (first_day q c t day)
  pub answer_set : (choose : Choose) (q : List ℕ) (c : Brought) (b qs cs : List ℕ) (room : ℕ) → Question q qs → CataloguePaper c.file cs → Refuses19 c cs (answer_by choose q c b room)
  pub show_set : (w : When) (q : List ℕ) (c : Brought) (qs cs : List ℕ) (room room' : ℕ) → Question q qs → CataloguePaper c.file cs → RightWhen cs w
      → Refuses19 c cs (show_when w q c room room')
  pub part_set : (w : When) (q : List ℕ) (c : Brought) (b qs cs : List ℕ) (room room' : ℕ) → Question q qs → CataloguePaper c.file cs → RightWhen cs w
      → Refuses19 c cs (part_when w q c b room room')
  pub several_set : (number : ℕ) (q : List ℕ) (c : Brought) (b ws cs : List ℕ) (room : ℕ) → RightNumber number → Questions number q ws → CataloguePaper c.file cs
      → Refuses19 c cs (several_outcome q number c b room)
  -- a set names extracts alone, or there is a lowest number that is none
  pub right_or_wrong_set : (set k : ℕ) → RightSet set k ⊎ ((d : ℕ) × WrongSet set k d)
  pub not_both_sets : (set k d : ℕ) → RightSet set k → WrongSet set k d → ⊥
  -- "a quote never gives 11: uncovered is one of its results"
  pub quote_never : (w : When) (q : List ℕ) (c : Brought) (words d : ℕ) → with_workspace words (quote_when w q c) ≡ refuse 11 d → ⊥
  -- "under a fixed rule": 14, "fewer than 16,384 work words were lent", stands before all else
  pub small_workspace : (a : Outcome) (words : ℕ) → words < workspace → with_workspace words a ≡ refuse 14 0
  pub enough : (a : Outcome) (words : ℕ) → workspace ≤ words → with_workspace words a ≡ a
  -- a file is accepted, with its content, exactly when the plain conditions of its format hold (packed/specs/Plain.antt:
  -- counts in range, ends that are items, no repeat, each item at a link, ascending, no zero count after a 1, padding zero and nothing after it)
  pub accepts_pattern : (s ws : List ℕ) → Question s ws ↔ ((length s ≤ pattern_most) × PatternFile s ws)
  pub accepts_catalogue : (s ws : List ℕ) → CataloguePaper s ws ↔ ((length s ≤ catalogue_most) × (EmptyCatalogue s ws ⊎ CatalogueFile s ws))
  pub accepts_record : (s ws : List ℕ) → Record s ws ↔ ((length s ≤ record_most) × RecordFile s ws)
  pub accepts_sheet : (ps s ws : List ℕ) → Sheet ps s ws ↔ ((length s ≤ book_most) × SheetFile (edges_of ps) s ws)
  pub accepts_book : (cs s ws : List ℕ) → Book cs s ws ↔ ((length s ≤ book_most) × BookFile (edge_counts cs) s ws × FewPairs cs ws)
  -- a reader gives the content of an accepted file and of no other; a writer the file that has the content by the same conditions, so that no catalogue is
  -- written as the empty file
  pub reads_pattern : Reads pattern_read Question
  pub reads_catalogue : Reads catalogue_read CataloguePaper
  pub reads_record : Reads record_read Record
  pub reads_sheet : (p : List ℕ) → Reads (sheet_read p) (λ s ws. (ps : List ℕ) × Question p ps × Sheet ps s ws)
  pub reads_book : (c : List ℕ) → Reads (book_read c) (λ s ws. (cs : List ℕ) × CataloguePaper c cs × Book cs s ws)
  pub writes_pattern : Writes pattern_written Over PatternFile
  pub writes_catalogue : Writes catalogue_written Over CatalogueFile
  pub writes_record : Writes record_written Over RecordFile
  pub writes_sheet : (p : List ℕ) → Writes (sheet_written p) OverFile (λ s ws. (ps : List ℕ) × Question p ps × SheetFile (edges_of ps) s ws)
  pub writes_book : (c : List ℕ) → Writes (book_written c) OverFile (λ s ws. (cs : List ℕ) × CataloguePaper c cs × BookFile (edge_counts cs) s ws × FewPairs cs ws)
  -- 10, "over 8,192 different pairs stand in a book", falls to a book exactly then, with the detail 4, "book or lone sheet"
  pub read_many_pairs : (c cs s ws : List ℕ) → CataloguePaper c cs → read_book cs s ≡ accepted ws → (room words d : ℕ)
      → (with_workspace words (book_read c s room) ≡ refuse 10 d) ↔ ((workspace ≤ words) × ManyPairs cs ws × (d ≡ 4))
  pub write_many_pairs : (c cs s ws : List ℕ) → CataloguePaper c cs → Below 256 s → BookFile (edge_counts cs) s ws → (room words d : ℕ)
      → (with_workspace words (book_written c ws room) ≡ refuse 10 d) ↔ ((workspace ≤ words) × ManyPairs cs ws × (d ≡ 4))
  pub answer_many_pairs : (choose : Choose) (q : List ℕ) (c : Brought) (b qs : List ℕ) (cs : Offered) (bs : List ℕ) → Question q qs → Catalogue c cs
      → read_book cs.content b ≡ accepted bs → (room words d : ℕ)
      → (with_workspace words (answer_by choose q c b room) ≡ refuse 10 d) ↔ ((workspace ≤ words) × ManyPairs cs.content bs × (d ≡ 4))
  pub part_many_pairs : (w : When) (q : List ℕ) (c : Brought) (b qs : List ℕ) (cs : Offered) (bs : List ℕ) → Question q qs → Catalogue c cs → Timely cs w
      → read_book cs.content b ≡ accepted bs → (room room' words d : ℕ)
      → (with_workspace words (part_when w q c b room room') ≡ refuse 10 d) ↔ ((workspace ≤ words) × ManyPairs cs.content bs × (d ≡ 4))
  pub several_many_pairs : (number : ℕ) (q : List ℕ) (c : Brought) (b ws : List ℕ) (cs : Offered) (bs : List ℕ) → RightNumber number → Questions number q ws
      → Catalogue c cs → read_book cs.content b ≡ accepted bs → (room words d : ℕ)
      → (with_workspace words (several_outcome q number c b room) ≡ refuse 10 d) ↔ ((workspace ≤ words) × ManyPairs cs.content bs × (d ≡ 4))
  -- a search gives the sheet of accepted files, making a book the book, and neither anything of others, nor with another index than the record's own
  pub search_gives : (way : Way) (p r ps rs : List ℕ) → Question p ps → Record r rs → (room words : ℕ)
      → Fitted words (OverFile room (sheet_of (pattern_of ps) rs)) (sheet_of (pattern_of ps) rs ∷ []) (with_workspace words (search_by way p r rs room))
  pub search_only : (p r : List ℕ) (room words : ℕ) → Full (with_workspace words (search_outcome p r room))
      → (ps : List ℕ) × (rs : List ℕ) × Question p ps × Record r rs
  pub search_indexed_only : (p r index : List ℕ) (room words : ℕ) → Full (with_workspace words (search_indexed_outcome p r index room))
      → (ps : List ℕ) × (rs : List ℕ) × Question p ps × Record r rs × (index ≡ own_of rs)
  pub make_book_gives : (c : Brought) (r : List ℕ) (cs : Offered) (rs : List ℕ) → Catalogue c cs → Record r rs → (room words : ℕ)
      → Fitted words (OverFile room (book_of cs rs)) (book_of cs rs ∷ []) (with_workspace words (make_book_outcome c r room))
  pub make_book_only : (c : Brought) (r : List ℕ) (room words : ℕ) → Full (with_workspace words (make_book_outcome c r room))
      → (cs : Offered) × (rs : List ℕ) × Catalogue c cs × Record r rs
  -- an index is made of an accepted record; it is accepted by the check, and no other is
  pub make_index_gives : (r rs : List ℕ) → Record r rs → (room words : ℕ) → Fitted words (Over room (own_of rs)) (own_of rs ∷ []) (with_workspace words (make_index_outcome r room))
  pub make_index_only : (r : List ℕ) (room words : ℕ) → Full (with_workspace words (make_index_outcome r room)) → (rs : List ℕ) × Record r rs
  pub check_accepts : (r rs index : List ℕ) → Record r rs → (words : ℕ)
      → (with_workspace words (check_index_outcome r index) ≡ give (length index ∷ []) []) ↔ ((workspace ≤ words) × (index ≡ own_of rs))
  pub check_only : (r index : List ℕ) (words : ℕ) → Full (with_workspace words (check_index_outcome r index)) → (rs : List ℕ) × Record r rs × (index ≡ own_of rs)
  -- 16 falls to an index exactly then, "right after the record is read"
  pub check_refuses : (r rs index : List ℕ) → Record r rs → (words d : ℕ)
      → (with_workspace words (check_index_outcome r index) ≡ refuse 16 d) ↔ ((workspace ≤ words) × NotOwn (own_of rs) index d)
  pub search_refuses : (p r ps rs index : List ℕ) → Question p ps → Record r rs → (room words d : ℕ)
      → (with_workspace words (search_indexed_outcome p r index room) ≡ refuse 16 d) ↔ ((workspace ≤ words) × NotOwn (own_of rs) index d)
  -- a quote is given of accepted files alone (what it says is in demand 2); it has no output to fit
  pub quote_only : (w : When) (q : List ℕ) (c : Brought) (words : ℕ) → Full (with_workspace words (quote_when w q c))
      → (qs : List ℕ) × (cs : Offered) × Question q qs × Catalogue c cs × Timely cs w
  -- answering gives the answer from the book by a set that covers the question, showing the two records of an uncovered one
  pub answer_gives : (choose : Choose) (q : List ℕ) (c : Brought) (b qs : List ℕ) (cs : Offered) (bs : List ℕ) → Question q qs → Catalogue c cs → Book cs.content b bs
      → Covers (choose (quoted_by qs cs)) qs cs → (room words : ℕ)
      → Fitted words (OverFile room (sheet_bytes (answer_of (choose (quoted_by qs cs)) qs cs bs))) (sheet_bytes (answer_of (choose (quoted_by qs cs)) qs cs bs) ∷ [])
      (with_workspace words (answer_by choose q c b room))
  pub answer_only : (choose : Choose) (q : List ℕ) (c : Brought) (b : List ℕ) (room words : ℕ) → Full (with_workspace words (answer_by choose q c b room))
      → (qs : List ℕ) × (cs : Offered) × (bs : List ℕ) × Question q qs × Catalogue c cs × Book cs.content b bs × Covers (choose (quoted_by qs cs)) qs cs
  pub show_gives : (w : When) (q : List ℕ) (c : Brought) (qs : List ℕ) (cs : Offered) → Question q qs → Catalogue c cs → Timely cs w → Leaves (usable_when w cs) qs cs
      → (room room' words : ℕ)
      → Fitted words (OverEither room room' (record_bytes (first_of qs)) (record_bytes (second_in (usable_when w cs) qs cs))) (record_bytes (first_of qs) ∷ record_bytes (second_in (usable_when w cs) qs cs) ∷ [])
      (with_workspace words (show_when w q c room room'))
  pub show_only : (w : When) (q : List ℕ) (c : Brought) (room room' words : ℕ) → Full (with_workspace words (show_when w q c room room'))
      → (qs : List ℕ) × (cs : Offered) × Question q qs × Catalogue c cs × Timely cs w × Leaves (usable_when w cs) qs cs
  -- a full result tells 0, the length of each output and the values; it stands at the front of each output, and the rest is as it was
  pub full : (blank : List ℕ) (r : Told) (outs outs' : List (List ℕ)) (work work' values : List ℕ) (outputs : List (List ℕ))
      → Settled blank (give values outputs) r outs outs' work work' → (outs' ≡ fronts outputs outs) × (r ≡ told 0 (map length outputs ++ values)) × Worked work work'
  pub front : (o l : List ℕ) → fronts (o ∷ []) (l ∷ []) ≡ (o ++ drop (length o) l) ∷ []
  pub both_fronts : (o o' l l' : List ℕ) → fronts (o ∷ o' ∷ []) (l ∷ l' ∷ []) ≡ (o ++ drop (length o) l) ∷ (o' ++ drop (length o') l') ∷ []
  -- "a refusal leaves the output untouched", and tells its number and its detail
  pub untouched : (blank : List ℕ) (r : Told) (outs outs' : List (List ℕ)) (work work' : List ℕ) (number detail : ℕ)
      → Settled blank (refuse number detail) r outs outs' work work' → (outs' ≡ outs) × (r ≡ told number (detail ∷ blank)) × Worked work work'

-- ---- Demand 2. "Matches are the greatest simulation (source 001), all links or none. A quote says covered exactly when each question link is
-- matched by a link of some extract that fits the question as a whole. Files read are written back as the same bytes; files written are read
-- back as the same content."

-- a pair is listed under an edge: it matches it by the greatest simulation
abbrev pub Matching : Pattern → Graph → Edge → Pair → Type 0
Matching P G = MatchingBy (λ u v. In (u, v) (sim P G)) P G

-- the same kinds and the same links, in whatever order
pub record SameLinks (G H : Graph) : Type 0 where
  pub kinds : G.labels ≡ H.labels
  pub links : (f : Edge) → In f G.edges ↔ In f H.edges

-- the link e of the question Q stands in the list of a link of its kind of an extract that fits Q, read as a record, as a whole
pub record Matched (Q : Pattern) (Ps : List Pattern) (e : Edge) : Type 0 where
  pub extract : Pattern
  pub given : In extract Ps
  pub link : ℕ
  pub below : link < length extract.edges
  pub kind : (get_or extract.edges link no_edge).kind ≡ e.kind
  pub lists : In (code e.from e.to) (get_or (view_sheet extract (as_graph Q)) link [])
  pub whole : (u : ℕ) → u < length extract.labels → (v : ℕ) × In (u, v) (sim extract (as_graph Q))

-- "question link e is matched by an extract link if that link's list contains e", and "only of its own kind": here by a link of one of the extracts in a set
pub record MatchedIn (Q : Pattern) (Ps : List Pattern) (set : ℕ) (e : Edge) : Type 0 where
  pub extract : ℕ
  pub given : extract < length Ps
  pub in_set : T (bit set extract)
  pub link : ℕ
  pub kind : (get_or (get_or Ps extract no_pattern).edges link no_edge).kind ≡ e.kind
  pub lists : In (code e.from e.to) (get_or (view_sheet (get_or Ps extract no_pattern) (as_graph Q)) link [])

-- the files that are written back: any of bytes; of catalogues, "demand 2's writing back leaves out the empty file", and no other
abbrev pub AnyFile : List ℕ → Type 0
AnyFile s = Below 256 s

abbrev pub NotEmpty : List ℕ → Type 0
NotEmpty s = Below 256 s × (0 < length s)

-- what was read of such a file is written back as the same bytes s; what was written is read back as the same content ws
pub record RoundTrip (Such : List ℕ → Type 0) (read : List ℕ → ℕ → Outcome) (write : List ℕ → ℕ → Outcome) : Type 0 where
  pub back : (s ws : List ℕ) (room room' words : ℕ) → Such s → with_workspace words (read s room) ≡ give [] (ws ∷ []) → length s ≤ room'
      → with_workspace words (write ws room') ≡ give [] (s ∷ [])
  pub again : (s ws : List ℕ) (room room' words : ℕ) → with_workspace words (write ws room) ≡ give [] (s ∷ []) → length ws ≤ room'
      → with_workspace words (read s room') ≡ give [] (ws ∷ [])

-- R is any relation of items, which what is said of every simulation is said of
pub record Demand2 (R : ℕ → ℕ → Type 0) : Type 0 where
  -- "the question itself always both ways": by the links that leave an item, and "for each pattern link from u'' to u there is a record link from some v'' to v
  -- with (u'', v'') in the relation"; an extract in the set one-way, by the links that leave alone, "the others both ways", on a record as on a question
  pub rule_both_ways : (ps : List ℕ) → (pattern_of ps).rule ≡ both_ways
  pub extract_one_way : (cs : Offered) (a : ℕ) → a < length (view_patterns cs) → T (bit cs.one_way a) → (extract_of cs a).rule ≡ one_way
  pub extract_both_ways : (cs : Offered) (a : ℕ) → a < length (view_patterns cs) → (T (bit cs.one_way a) → ⊥) → (extract_of cs a).rule ≡ both_ways
  -- and else it is the pattern that stands at its place in the catalogue
  pub extract_is : (cs : Offered) (a : ℕ) → a < length (view_patterns cs) → extract_of cs a ≡ ruled (extract_of cs a).rule (pattern_of (get_or (views_of cs.content) a []))
  pub extracts_many : (cs : Offered) → length (view_patterns cs) ≡ length (views_of cs.content)
  -- "the greatest simulation": sim is one, and every simulation lies in it; what a simulation is, by either rule, is said in matching/specs/Simulation.antt
  pub simulates : (P : Pattern) (G : Graph) → IsSim P G (λ u v. In (u, v) (sim P G))
  pub greatest : (P : Pattern) (G : Graph) → IsSim P G R → (u v : ℕ) → R u v → In (u, v) (sim P G)
  -- a simulation both ways is one one-way: so an extract matched one-way goes with a question, which is matched both ways
  pub one_way_too : (P : Pattern) (G : Graph) → IsSim P G R → IsSim (ruled one_way P) G R
  -- a search gives the match sets as a sheet, and a book has a sheet of them for each extract: "an extract's lists are its sheet by that rule"
  pub searches : (way : Way) (p r ps rs : List ℕ) → Question p ps → Record r rs → (room : ℕ) → search_by way p r rs room ≡ fit_file room (sheet_of (pattern_of ps) rs)
  pub books : (c : Brought) (r : List ℕ) (cs : Offered) (rs : List ℕ) → Catalogue c cs → Record r rs → (room : ℕ) → make_book_outcome c r room ≡ fit_file room (book_of cs rs)
  pub sheets_many : (cs : Offered) (G : Graph) → length (view_sheets cs G) ≡ length (view_patterns cs)
  pub sheet_each : (cs : Offered) (G : Graph) (a : ℕ) → a < length (view_patterns cs) → get_or (view_sheets cs G) a [] ≡ view_sheet (extract_of cs a) G
  -- "with index or without, sheets are equal on every accepted record", and so are refusals, 16 left aside
  pub same_either_way : (way : Way) (p r rs : List ℕ) → Record r rs → (room words : ℕ) → with_workspace words (search_by way p r rs room) ≡ with_workspace words (search_outcome p r room)
  -- "matches": the match sets list exactly what the greatest simulation matches
  pub lists : (r rs : List ℕ) → Record r rs → (P : Pattern) (i : ℕ) → i < length P.edges → (f : Pair) → f.1 < 4096
      → In (code f.0 f.1) (get_or (match_sets P (graph_of rs)) i []) ↔ Matching P (graph_of rs) (get_or P.edges i no_edge) f
  pub lists_in_question : (q qs : List ℕ) → Question q qs → (P : Pattern) (i : ℕ) → i < length P.edges → (f : Pair) → f.1 < 4096
      → In (code f.0 f.1) (get_or (match_sets P (as_graph (pattern_of qs))) i []) ↔ Matching P (as_graph (pattern_of qs)) (get_or P.edges i no_edge) f
  -- and so do the lists of an extract, in a book as on a question read as a record
  pub of_extracts : (P : Pattern) (G : Graph) → view_sheet P G ≡ match_sets P G
  -- the sheet that a search gives is read back as its match sets: a 0 where nothing was found, else a 1, and for each link the number of its
  -- pairs, then each pair's from and to
  pub sheet_back : (p r ps rs out : List ℕ) → Question p ps → Record r rs → (room words : ℕ) → with_workspace words (search_outcome p r room) ≡ give [] (out ∷ [])
      → Sheet ps out (sheet_fields (match_sets (pattern_of ps) (graph_of rs)))
  pub none_found : (ls : List (List ℕ)) → pair_count ls ≡ 0 → sheet_fields ls ≡ 0 ∷ []
  pub some_found : (ls : List (List ℕ)) → 1 ≤ pair_count ls → sheet_fields ls ≡ 1 ∷ fields_of ls
  pub each_link : (l : List ℕ) (ls : List (List ℕ)) → fields_of (l ∷ ls) ≡ length l ∷ (ends l ++ fields_of ls)
  pub no_links : fields_of [] ≡ []
  pub each_pair : (a b : ℕ) (l : List ℕ) → b < 4096 → ends (code a b ∷ l) ≡ a ∷ b ∷ ends l
  pub no_pairs : ends [] ≡ []
  -- "0 and then padding, so a single zero byte": wherever the sheet stands, of a search, an extract or an answer
  pub zero_byte : (ls : List (List ℕ)) → pair_count ls ≡ 0 → sheet_bytes ls ≡ 0 ∷ []
  -- "its length is 1 byte, or (1 + 14·m + 24·t)/8 rounded up", with m links and t pairs
  pub sheet_length_lem : (p r ps rs : List ℕ) → Question p ps → Record r rs
      → length (sheet_of (pattern_of ps) rs) ≡ sheet_length (edges_of ps) (pair_count (match_sets (pattern_of ps) (graph_of rs)))
  -- the order of links "never alters a sheet": said of graphs, since an accepted record has one order alone
  pub any_order : (G H : Graph) → SameLinks G H → (P : Pattern) → match_sets P G ≡ match_sets P H
  -- "all links or none", of a lone pattern and of each extract of a catalogue: each link lists a pair, or nothing is found
  pub all_or_none_lem : (P : Pattern) (G : Graph) → T (sound P) → ((l : List ℕ) → In l (match_sets P G) → 0 < length l) ⊎ (pair_count (match_sets P G) ≡ 0)
  pub patterns_sound : (p ps : List ℕ) → Question p ps → T (sound (pattern_of ps))
  pub extracts_sound : (c : Brought) (cs : Offered) → Catalogue c cs → (P : Pattern) → In P (view_patterns cs) → T (sound P)
  -- "a quote says covered exactly when .."
  pub quotes : (q : List ℕ) (c : Brought) (qs : List ℕ) (cs : Offered) → Question q qs → Catalogue c cs
      → Covered qs cs ↔ ((e : Edge) → In e (pattern_of qs).edges → Matched (pattern_of qs) (view_patterns cs) e)
  pub covers : (q : List ℕ) (c : Brought) (qs : List ℕ) (cs : Offered) → Question q qs → Catalogue c cs → (set : ℕ)
      → Covers set qs cs ↔ ((i : ℕ) → i < edges_of qs → MatchedIn (pattern_of qs) (view_patterns cs) set (link_of qs i))
  -- which, of the extracts that may be used, is the first value that the call gives, where enough words are lent: 1, or 0 for an uncovered question
  pub says_covered : (w : When) (q : List ℕ) (c : Brought) (qs : List ℕ) (cs : Offered) → Question q qs → Catalogue c cs → Timely cs w → (words : ℕ)
      → ((v : QuoteValues) × (with_workspace words (quote_when w q c) ≡ give (flat v) []) × (v.covered ≡ 1)) ↔ ((workspace ≤ words) × Covers (usable_when w cs) qs cs)
  pub says_uncovered : (w : When) (q : List ℕ) (c : Brought) (qs : List ℕ) (cs : Offered) → Question q qs → Catalogue c cs → Timely cs w → (words : ℕ)
      → ((v : QuoteValues) × (with_workspace words (quote_when w q c) ≡ give (flat v) []) × (v.covered ≡ 0)) ↔ ((workspace ≤ words) × Leaves (usable_when w cs) qs cs)
  -- the other values: the masks of what matches each link, the number of links, the chosen set, the lowest unmatched link; what has no meaning is 0
  pub values_covered : (w : When) (q : List ℕ) (c : Brought) (qs : List ℕ) (cs : Offered) → Question q qs → Catalogue c cs → Timely cs w → Covers (usable_when w cs) qs cs
      → quote_when w q c ≡ give (flat (record { covered = 1; mapping = masks_in (usable_when w cs) qs cs; edges = edges_of qs; chosen = chosen_in (usable_when w cs) qs cs; lowest = 0 })) []
  pub values_uncovered : (w : When) (q : List ℕ) (c : Brought) (qs : List ℕ) (cs : Offered) → Question q qs → Catalogue c cs → Timely cs w → Leaves (usable_when w cs) qs cs
      → quote_when w q c ≡ give (flat (record { covered = 0; mapping = masks_in (usable_when w cs) qs cs; edges = edges_of qs; chosen = 0; lowest = lacking_in (usable_when w cs) qs cs })) []
  -- "for each question link, the extract links that match it": bit f in the mask of link i and extract a says that a may be used, and that link f of a has the
  -- kind of i and lists i
  pub maps : (set : ℕ) (q : List ℕ) (c : Brought) (qs : List ℕ) (cs : Offered) → Question q qs → Catalogue c cs → (i a f : ℕ) → i < edges_of qs
      → a < length (view_patterns cs) → f < length (extract_of cs a).edges
      → T (bit (get_or (masks_in set qs cs) (16 * i + a) 0) f)
      ↔ (T (bit set a) × ((get_or (extract_of cs a).edges f no_edge).kind ≡ (link_of qs i).kind) × In (code (link_of qs i).from (link_of qs i).to) (get_or (view_sheet (extract_of cs a) (as_graph (pattern_of qs))) f []))
  -- by all extracts each may be used
  pub all_usable : (c : Brought) (cs : Offered) → Catalogue c cs → (a : ℕ) → a < length (view_patterns cs) → T (bit every_view a)
  -- the chosen set has none but these, covers the question, and "drop an extract if those still kept cover the question without it" has left none to drop
  pub choice_within : (set : ℕ) (qs : List ℕ) (cs : Offered) (a : ℕ) → T (bit (chosen_in set qs cs) a) → (a < length (view_patterns cs)) × T (bit set a)
  pub choice_covers : (set : ℕ) (qs : List ℕ) (cs : Offered) → Covers set qs cs → Covers (chosen_in set qs cs) qs cs
  pub choice_needs : (set : ℕ) (qs : List ℕ) (cs : Offered) (a : ℕ) → T (bit (chosen_in set qs cs) a) → Covers (chosen_in set qs cs - 2 ^ a) qs cs → ⊥
  -- "files read are written back as the same bytes; files written are read back as the same content"
  pub patterns : RoundTrip AnyFile pattern_read pattern_written
  pub catalogues : RoundTrip NotEmpty catalogue_read catalogue_written
  pub records : RoundTrip AnyFile record_read record_written
  pub sheets : (p : List ℕ) → RoundTrip AnyFile (sheet_read p) (sheet_written p)
  pub all_books : (c : List ℕ) → RoundTrip AnyFile (book_read c) (book_written c)

-- ---- what holds of the empty catalogue. "New clients have an empty file. It now means a catalogue without extracts, like the byte 00, where before it drew 2."

pub record EmptyCatalogues : Type 0 where
  -- both are accepted with the content 0, which has no extracts
  pub empty : CataloguePaper [] (0 ∷ [])
  pub byte_00 : CataloguePaper (0 ∷ []) (0 ∷ [])
  pub no_extracts : (one : ℕ) → view_patterns (offers (0 ∷ []) one) ≡ []
  -- no set but the empty one, of those of 16 bits, goes with such a catalogue
  pub empty_set : (c : List ℕ) (one : ℕ) → one < 2 ^ 16 → CataloguePaper c (0 ∷ []) → Catalogue (brings c one) (offers (0 ∷ []) one) ↔ (one ≡ 0)
  -- "like the byte 00": every call that takes a catalogue answers the same to both, whatever is lent
  pub read_catalogue_lem : (room words : ℕ) → with_workspace words (catalogue_read [] room) ≡ with_workspace words (catalogue_read (0 ∷ []) room)
  pub read_book_lem : (s : List ℕ) (room words : ℕ) → with_workspace words (book_read [] s room) ≡ with_workspace words (book_read (0 ∷ []) s room)
  pub write_book_lem : (ws : List ℕ) (room words : ℕ) → with_workspace words (book_written [] ws room) ≡ with_workspace words (book_written (0 ∷ []) ws room)
  pub make_book : (one : ℕ) (r : List ℕ) (room words : ℕ)
      → with_workspace words (make_book_outcome (brings [] one) r room) ≡ with_workspace words (make_book_outcome (brings (0 ∷ []) one) r room)
  pub quote : (one : ℕ) (w : When) (q : List ℕ) (words : ℕ) → with_workspace words (quote_when w q (brings [] one)) ≡ with_workspace words (quote_when w q (brings (0 ∷ []) one))
  pub cheapest : (one : ℕ) (w : When) (q charges : List ℕ) (words : ℕ)
      → with_workspace words (cheapest_when w q (brings [] one) charges) ≡ with_workspace words (cheapest_when w q (brings (0 ∷ []) one) charges)
  pub first_day_lem : (one : ℕ) (q : List ℕ) (t : Terms) (day words : ℕ)
      → with_workspace words (first_day q (brings [] one) t day) ≡ with_workspace words (first_day q (brings (0 ∷ []) one) t day)
  pub answer : (one : ℕ) (choose : Choose) (q b : List ℕ) (room words : ℕ)
      → with_workspace words (answer_by choose q (brings [] one) b room) ≡ with_workspace words (answer_by choose q (brings (0 ∷ []) one) b room)
  pub several : (one : ℕ) (q : List ℕ) (number : ℕ) (b : List ℕ) (room words : ℕ)
      → with_workspace words (several_outcome q number (brings [] one) b room) ≡ with_workspace words (several_outcome q number (brings (0 ∷ []) one) b room)
  pub show : (one : ℕ) (w : When) (q : List ℕ) (room room' words : ℕ)
      → with_workspace words (show_when w q (brings [] one) room room') ≡ with_workspace words (show_when w q (brings (0 ∷ []) one) room room')
  pub part : (one : ℕ) (w : When) (q b : List ℕ) (room room' words : ℕ)
      → with_workspace words (part_when w q (brings [] one) b room room') ≡ with_workspace words (part_when w q (brings (0 ∷ []) one) b room room')
  -- "the writer still writes 00": so the content 0 is written. The empty file is not among those that have a content, nothing is written as it, and no words
  -- are no content
  pub written : (room : ℕ) → catalogue_written (0 ∷ []) room ≡ fit room (0 ∷ [])
  pub has_none : (ws : List ℕ) → CatalogueFile [] ws → ⊥
  pub never_written : (ws : List ℕ) (room words : ℕ) → with_workspace words (catalogue_written ws room) ≡ give [] ([] ∷ []) → ⊥
  pub no_words : (room : ℕ) → catalogue_written [] room ≡ refuse 2 2
  -- "a book for it has zero bytes": that one is accepted and no other, any byte is 9, and that one is made from every record
  pub book : (b bs : List ℕ) → Book (0 ∷ []) b bs ↔ ((b ≡ []) × (bs ≡ []))
  pub any_byte : (b : List ℕ) → 0 < length b → length b ≤ book_most → read_book (0 ∷ []) b ≡ rejected 9 4
  pub made : (one : ℕ) (rs : List ℕ) → book_of (offers (0 ∷ []) one) rs ≡ []

-- ---- Records that were stored before their links had kinds, or even an order. "A converter sorts the files already stored, read by the old rules: the sorted
-- record has the same links and the same sheets."

-- a file that the old rules accept
abbrev pub OldFile : List ℕ → List ℕ → Type 0
OldFile s ws = read_old_record s ≡ accepted ws

-- R is a simulation as it is where links have no kinds: by the ends of links alone, as the rule of the pattern asks
pub record EndsSim (P : Pattern) (G : Graph) (R : ℕ → ℕ → Type 0) : Type 0 where
  pub fit : (u v : ℕ) → R u v → T (fits P G (u, v))
  pub follow : (u v : ℕ) → R u v → (e : Edge) → In e P.edges → e.from ≡ u → (f : Edge) × In f G.edges × (f.from ≡ v) × R e.to f.to
  pub arrive : P.rule ≡ both_ways → (u v : ℕ) → R u v → (e : Edge) → In e P.edges → e.to ≡ u → (f : Edge) × In f G.edges × (f.to ≡ v) × R e.from f.from

-- a pair is listed under an edge as it is then: by the ends of links alone, of whatever kind
abbrev pub EndsMatching : Pattern → Graph → Edge → Pair → Type 0
EndsMatching P G e f = (kind : ℕ) × Matching P G (between e.from e.to kind) f

-- a pattern whose links all have kind 0
abbrev pub AllKind0 : Pattern → Type 0
AllKind0 P = (e : Edge) → In e P.edges → e.kind ≡ 0

-- R is any relation of items, as in Demand 2
pub record Sorting (R : ℕ → ℕ → Type 0) : Type 0 where
  -- "read by the old rules": these are said plainly in packed/specs/OldRecord.antt
  pub accepts : (s ws : List ℕ) → OldFile s ws ↔ ((length s ≤ old_record_most) × OldRecordFile s ws)
  pub files : (s : List ℕ) (room : ℕ) → HandsUp (first (read_old_record s) then_none) (record_sorted s room)
  pub only : (s : List ℕ) (room words : ℕ) → Full (with_workspace words (record_sorted s room)) → (ws : List ℕ) × OldFile s ws
  -- the converter writes the record with the sorted content, or gives 12
  pub gives : (s ws : List ℕ) → OldFile s ws → (room : ℕ) → record_sorted s room ≡ fit room (record_bytes (sorted_fields ws))
  -- which is accepted
  pub is_record : (s ws : List ℕ) → OldFile s ws → Record (record_bytes (sorted_fields ws)) (sorted_fields ws)
  -- with the same items, and the same links
  pub items : (s ws : List ℕ) → OldFile s ws → (graph_of (sorted_fields ws)).labels ≡ (graph_of ws).labels
  pub links : (s ws : List ℕ) → OldFile s ws → (f : Edge) → In f (graph_of (sorted_fields ws)).edges ↔ In f (graph_of ws).edges
  -- "and writes each link with kind 0"
  pub kinds : (s ws : List ℕ) → OldFile s ws → (f : Edge) → In f (graph_of (sorted_fields ws)).edges → f.kind ≡ 0
  -- and every pattern has the same sheet on both, as a question and as an extract
  pub sheets : (s ws : List ℕ) → OldFile s ws → (P : Pattern) → sheet_of P (sorted_fields ws) ≡ sheet_of P ws
  pub extract_sheets : (s ws : List ℕ) → OldFile s ws → (P : Pattern) → extract_sheet_of P (sorted_fields ws) ≡ extract_sheet_of P ws
  -- "its sheets stay the same for patterns whose links all have kind 0": these are matched as where links have no kinds, one-way as both ways, and list
  -- the same pairs
  pub as_before : (s ws : List ℕ) → OldFile s ws → (P : Pattern) → AllKind0 P → IsSim P (graph_of (sorted_fields ws)) R ↔ EndsSim P (graph_of (sorted_fields ws)) R
  pub lists_before : (s ws : List ℕ) → OldFile s ws → (P : Pattern) → AllKind0 P → (i : ℕ) → i < length P.edges → (f : Pair) → f.1 < 4096
      → In (code f.0 f.1) (get_or (match_sets P (graph_of (sorted_fields ws))) i []) ↔ EndsMatching P (graph_of (sorted_fields ws)) (get_or P.edges i no_edge) f

-- ---- Demand 3. "For every accepted question and catalogue and every accepted record: if covered, and the extract lists made from the record
-- fit in a book, answering from that book alone equals, byte for byte, searching the record, refusals included, alike in number and detail. If
-- uncovered, the two shown records are accepted, the second lacks just one link of the first, every extract's lists are byte for byte equal on
-- both, and the question's sheets differ." With a set beside the catalogue: "a client with a mixed book is to get the bytes that a two-way search of the record
-- gives, and an uncovered quote still comes with its two records, each sheet made under its own rule."

-- i is the lowest link of the question that isn't matched
pub record LowestUnmatched (qs : List ℕ) (IsMatched : Edge → Type 0) (i : ℕ) : Type 0 where
  pub below : i < edges_of qs
  pub unmatched : IsMatched (link_of qs i) → ⊥
  pub lower : (e : ℕ) → e < i → IsMatched (link_of qs e)

-- what is shown of a question that the extracts in a set leave uncovered
pub record Showing (set : ℕ) (qs : List ℕ) (cs : Offered) : Type 0 where
  -- "the two shown records are accepted"
  pub first_accepted : Record (record_bytes (first_of qs)) (first_of qs)
  pub second_accepted : Record (record_bytes (second_in set qs cs)) (second_in set qs cs)
  -- the first is the question read as a record: the same items, and the same links, ascending
  pub items : (graph_of (first_of qs)).labels ≡ (as_graph (pattern_of qs)).labels
  pub links : (f : Edge) → In f (graph_of (first_of qs)).edges ↔ In f (pattern_of qs).edges
  -- "the second lacks just one link of the first"
  pub lacks : graph_of (second_in set qs cs) ≡ without (link_of qs (lacking_in set qs cs)) (graph_of (first_of qs))
  pub in_first : In (link_of qs (lacking_in set qs cs)) (graph_of (first_of qs)).edges
  pub not_in_second : In (link_of qs (lacking_in set qs cs)) (graph_of (second_in set qs cs)).edges → ⊥
  -- "every extract's lists are byte for byte equal on both", of those in the set, "each sheet made under its own rule"; so are the books, where all are in it
  pub equal : (a : ℕ) → a < length (view_patterns cs) → T (bit set a) → extract_sheet_of (extract_of cs a) (first_of qs) ≡ extract_sheet_of (extract_of cs a) (second_in set qs cs)
  pub equal_books : ((a : ℕ) → a < length (view_patterns cs) → T (bit set a)) → book_of cs (first_of qs) ≡ book_of cs (second_in set qs cs)
  -- "the question's sheets differ", which are two-way
  pub differ : sheet_of (pattern_of qs) (first_of qs) ≡ sheet_of (pattern_of qs) (second_in set qs cs) → ⊥

pub record Demand3 : Type 0 where
  -- "for every accepted question and catalogue and every accepted record: if covered" by the extracts in a set, whichever, "and the extract
  -- lists made from the record fit in a book", each by its extract's own rule, "answering from that book alone" by that set "equals searching the record", which
  -- is two-way, "without" an index "or with the record's own": the same answer, for all lengths of output and workspace lent to both
  pub covered_by : (way : Way) (q : List ℕ) (c : Brought) (r qs : List ℕ) (cs : Offered) (rs : List ℕ) → Question q qs → Catalogue c cs → Record r rs → (set : ℕ)
      → Covers set qs cs → length (book_of cs rs) ≤ book_most
      → (room words : ℕ) → with_workspace words (answer_from q c set (book_of cs rs) room) ≡ with_workspace words (search_by way q r rs room)
  -- and by no other set: 11 is given exactly to one that leaves a link unmatched, with the lowest such link
  pub refused_by : (q : List ℕ) (c : Brought) (b qs : List ℕ) (cs : Offered) (bs : List ℕ) → Question q qs → Catalogue c cs → Book cs.content b bs → (set room words d : ℕ)
      → (with_workspace words (answer_from q c set b room) ≡ refuse 11 d) ↔ ((workspace ≤ words) × Leaves set qs cs × (d ≡ lacking_in set qs cs))
  pub lowest_by : (q : List ℕ) (c : Brought) (qs : List ℕ) (cs : Offered) → Question q qs → Catalogue c cs → (set : ℕ) → Leaves set qs cs
      → LowestUnmatched qs (MatchedIn (pattern_of qs) (view_patterns cs) set) (lacking_in set qs cs)
  -- the same by the chosen set, which answers where the client names none
  pub covered : (way : Way) (q : List ℕ) (c : Brought) (r qs : List ℕ) (cs : Offered) (rs : List ℕ) → Question q qs → Catalogue c cs → Record r rs → Covered qs cs
      → length (book_of cs rs) ≤ book_most
      → (room words : ℕ) → with_workspace words (answer_outcome q c (book_of cs rs) room) ≡ with_workspace words (search_by way q r rs room)
  -- that book is an accepted one, whose sheets are the extracts' lists
  pub fits : (c : Brought) (r : List ℕ) (cs : Offered) (rs : List ℕ) → Catalogue c cs → Record r rs → length (book_of cs rs) ≤ book_most
      → (bs : List ℕ) × Book cs.content (book_of cs rs) bs × (sheets_in (edge_counts cs.content) bs ≡ view_sheets cs (graph_of rs))
  -- "if uncovered": showing gives these two records, or 12, or 14
  pub shows : (w : When) (q : List ℕ) (c : Brought) (qs : List ℕ) (cs : Offered) → Question q qs → Catalogue c cs → Timely cs w → Leaves (usable_when w cs) qs cs → (room room' words : ℕ)
      → with_workspace words (show_when w q c room room') ≡ with_workspace words (fit_both room room' (record_bytes (first_of qs)) (record_bytes (second_in (usable_when w cs) qs cs)))
  pub uncovered : (q : List ℕ) (c : Brought) (qs : List ℕ) (cs : Offered) → Question q qs → Catalogue c cs → (set : ℕ) → Leaves set qs cs → Showing set qs cs
  -- "its lowest unmatched link", which the second record lacks
  pub lowest : (q : List ℕ) (c : Brought) (qs : List ℕ) (cs : Offered) → Question q qs → Catalogue c cs → Uncovered qs cs
      → LowestUnmatched qs (Matched (pattern_of qs) (view_patterns cs)) (lacking qs cs)
  -- 13, "a showing was wanted for a covered question", exactly then
  pub shows_covered : (w : When) (q : List ℕ) (c : Brought) (qs : List ℕ) (cs : Offered) → Question q qs → Catalogue c cs → Timely cs w → (room room' words d : ℕ)
      → (with_workspace words (show_when w q c room room') ≡ refuse 13 d) ↔ ((workspace ≤ words) × Covers (usable_when w cs) qs cs × (d ≡ 0))
  -- 11, "an answer was wanted and the question isn't covered", exactly then, with "the lowest unmatched link": where the client names no set
  pub refused : (q : List ℕ) (c : Brought) (b qs : List ℕ) (cs : Offered) (bs : List ℕ) → Question q qs → Catalogue c cs → Book cs.content b bs → (room words d : ℕ)
      → (with_workspace words (answer_outcome q c b room) ≡ refuse 11 d) ↔ ((workspace ≤ words) × Uncovered qs cs × (d ≡ lacking qs cs))

-- ---- what else holds of answers

-- "candidates for question link e are the pairs listed under those links of chosen extracts that match e": here of the extracts in a set,
-- each with its sheet from a book. A pair's second number has 12 bits.
pub record Candidate (Q : Pattern) (Ps : List Pattern) (sheets : List (List (List ℕ))) (set : ℕ) (e : Edge) (f : Pair) : Type 0 where
  pub by : MatchedIn Q Ps set e
  pub lists : In (code f.0 f.1) (get_or (get_or sheets by.extract []) by.link [])
  pub narrow : f.1 < 4096

-- a choice K of pairs from the candidates: K e f says that the pair f is kept for the question link e
abbrev pub Chooses : Pattern → (Edge → Pair → Type 0) → (Edge → Pair → Type 0) → Type 0
Chooses Q Candidates K = (e : Edge) (f : Pair) → K e f → In e Q.edges × Candidates e f

-- "for each pair (v, v') kept for a link (u, u'), each question link leaving u keeps some pair that begins at v, and each leaving u' keeps some
-- pair that begins at v'"; "support at both ends for links arriving as well as leaving", where the question is matched both ways: each arriving at u keeps
-- some pair that ends at v, and each arriving at u' keeps some pair that ends at v'
pub record SupportsItself (Q : Pattern) (K : Edge → Pair → Type 0) : Type 0 where
  pub leaving_from : (e : Edge) (v v' : ℕ) → K e (v, v') → (g : Edge) → In g Q.edges → g.from ≡ e.from → (x : ℕ) × K g (v, x)
  pub leaving_to : (e : Edge) (v v' : ℕ) → K e (v, v') → (g : Edge) → In g Q.edges → g.from ≡ e.to → (x : ℕ) × K g (v', x)
  pub arriving_from : Q.rule ≡ both_ways → (e : Edge) (v v' : ℕ) → K e (v, v') → (g : Edge) → In g Q.edges → g.to ≡ e.from → (x : ℕ) × K g (x, v)
  pub arriving_to : Q.rule ≡ both_ways → (e : Edge) (v v' : ℕ) → K e (v, v') → (g : Edge) → In g Q.edges → g.to ≡ e.to → (x : ℕ) × K g (x, v')

-- "the greatest choice of pairs from the candidates such that ..": it has all that any other such choice L has
pub record GreatestChoice (L : Edge → Pair → Type 0) (Q : Pattern) (Candidates K : Edge → Pair → Type 0) : Type 0 where
  pub chooses : Chooses Q Candidates K
  pub supports : SupportsItself Q K
  pub greatest : Chooses Q Candidates L → SupportsItself Q L → (e : Edge) (f : Pair) → L e f → K e f

-- what the answer from a book by the extracts in a set keeps
abbrev pub keeps : ℕ → List ℕ → Offered → List ℕ → Edge → Pair → Type 0
keeps set qs cs bs e f = In (e, f) (join (pattern_of qs) (views_in set (view_patterns cs) (sheets_in (edge_counts cs.content) bs)))

-- the answer lists, for each link, what the greatest choice keeps; "if any link keeps none", nothing is found
pub record Joins (L : Edge → Pair → Type 0) (set : ℕ) (qs : List ℕ) (cs : Offered) (bs : List ℕ) : Type 0 where
  pub is : GreatestChoice L (pattern_of qs) (Candidate (pattern_of qs) (view_patterns cs) (sheets_in (edge_counts cs.content) bs) set) (keeps set qs cs bs)
  pub lists : (i : ℕ) → i < length (pattern_of qs).edges → (f : Pair) → f.1 < 4096
      → In (code f.0 f.1) (get_or (answer_of set qs cs bs) i []) ↔ (((e : Edge) → In e (pattern_of qs).edges → (h : Pair) × keeps set qs cs bs e h) × keeps set qs cs bs (link_of qs i) f)

-- L is any choice, which the greatest one is held against
pub record Answering (L : Edge → Pair → Type 0) : Type 0 where
  -- "the answer is the greatest choice ..", from any book, also one "that belongs to no record"
  pub joins : (set : ℕ) (qs : List ℕ) (cs : Offered) (bs : List ℕ) → Joins L set qs cs bs
  -- "two accepted books that agree on the chosen sheets give the same answer": on those of the set that answers, where it covers the question. Whatever rule the
  -- sheets were made by: what else is promised of a book is said of one that was made with the same set
  pub same : (choose : Choose) (q : List ℕ) (c : Brought) (qs : List ℕ) (cs : Offered) (b b' bs bs' : List ℕ) → Question q qs → Catalogue c cs → Book cs.content b bs
      → Book cs.content b' bs'
      → (Covers (choose (quoted_by qs cs)) qs cs → (a : ℕ) → a < length (view_patterns cs) → T (bit (choose (quoted_by qs cs)) a)
      → get_or (sheets_in (edge_counts cs.content) bs) a [] ≡ get_or (sheets_in (edge_counts cs.content) bs') a [])
      → (room : ℕ) → answer_by choose q c b room ≡ answer_by choose q c b' room
  -- the set that answers where the client names none: the chosen one, or all extracts for an uncovered question
  pub chooses : (qs : List ℕ) (cs : Offered) → Covered qs cs → used_by (quoted_by qs cs) ≡ chosen_of qs cs
  pub chooses_all : (qs : List ℕ) (cs : Offered) → Uncovered qs cs → used_by (quoted_by qs cs) ≡ every_view
  -- of a set that the client names, "bits that name no extract are ignored"
  pub ignores : (c : Brought) (cs : Offered) → Catalogue c cs → (set set' : ℕ) → ((a : ℕ) → a < length (view_patterns cs) → bit set a ≡ bit set' a) → (q b : List ℕ) (room : ℕ)
      → answer_from q c set b room ≡ answer_from q c set' b room
  -- an answer, also from a book of no record, is read back as its content, and is as long as such a sheet
  pub back : (choose : Choose) (q : List ℕ) (c : Brought) (b qs : List ℕ) (cs : Offered) (bs out : List ℕ) → Question q qs → Catalogue c cs → Book cs.content b bs → (room : ℕ)
      → answer_by choose q c b room ≡ give [] (out ∷ []) → Sheet qs out (sheet_fields (answer_of (choose (quoted_by qs cs)) qs cs bs))
  pub answer_length : (q qs : List ℕ) (cs : Offered) (b bs : List ℕ) → Question q qs → Book cs.content b bs → (set : ℕ)
      → length (sheet_bytes (answer_of set qs cs bs)) ≡ sheet_length (edges_of qs) (pair_count (answer_of set qs cs bs))
  -- for a question that the extracts in a set leave uncovered no function whatsoever of their lists gives the question's sheet on every record; for an
  -- uncovered one no function of all extracts' lists does
  pub no_other_way_in : (q : List ℕ) (c : Brought) (qs : List ℕ) (cs : Offered) → Question q qs → Catalogue c cs → (set : ℕ) → Leaves set qs cs → (F : List (List (List ℕ)) → List ℕ)
      → ((r rs : List ℕ) → Record r rs → F (lists_in set cs (graph_of rs)) ≡ sheet_of (pattern_of qs) rs) → ⊥
  pub no_other_way : (q : List ℕ) (c : Brought) (qs : List ℕ) (cs : Offered) → Question q qs → Catalogue c cs → Uncovered qs cs → (F : List (List (List ℕ)) → List ℕ)
      → ((r rs : List ℕ) → Record r rs → F (view_sheets cs (graph_of rs)) ≡ sheet_of (pattern_of qs) rs) → ⊥

-- ---- the join by steps. "The links leaving an item are settled together, after those of the items it leads to, and items that lead to each other, directly or
-- through others, in one step. After each step, up to the last zeroing, the settled links hold the greatest choice for them alone, and all others still their
-- candidates." These "steps stay one-way and come first; pruning both ways starts from what they leave, before the zeroing."

-- "items that lead to each other, directly or through others"
abbrev pub Together : Pattern → ℕ → ℕ → Type 0
Together Q u v = T (reaches Q u v) × T (reaches Q v u)

-- a step from the settled items S to S': it adds exactly one component, none of which was settled, and all that its links lead to is settled by then
pub record AddsOne (Q : Pattern) (S S' : Nodes) : Type 0 where
  pub item : ℕ
  pub there : item < length Q.labels
  pub adds : (v : ℕ) → v < length Q.labels → T (S' v) ↔ (T (S v) ⊎ Together Q item v)
  pub new : (v : ℕ) → Together Q item v → T (S v) → ⊥
  pub after : (e : Edge) → In e Q.edges → Together Q item e.from → T (S e.to) ⊎ Together Q item e.to

-- where K e f says that the pair f is held for the link e of the question, and the lists cs have the candidates: "the settled links", which are those that leave
-- S, "hold the greatest choice for them alone, and all others still their candidates"
pub record AfterStep (L : Edge → Pair → Type 0) (Q : Pattern) (S : Nodes) (cs : Offer) (K : Edge → Pair → Type 0) : Type 0 where
  pub settled : GreatestChoice L (leaving_of S Q) (λ e f. In f (cs e)) (λ e f. T (S e.from) × K e f)
  pub others : (e : Edge) → In e Q.edges → (T (S e.from) → ⊥) → (f : Pair) → K e f ↔ In f (cs e)

-- the words w of the program hold the pair f for the link e of the question
pub record HeldFor (q : Given) (d : ℕ) (w : List ℕ) (e : Edge) (f : Pair) : Type 0 where
  pub link : ℕ
  pub below : link < q.edges
  pub is_link : e ≡ given_edge q link
  pub place : ℕ
  pub within : place < d
  pub is_pair : f ≡ pair_at w place
  pub held : IsHeld w place link

-- K and L are any choices: what pruning may leave, and one that the greatest is held against
pub record BySteps (K L : Edge → Pair → Type 0) : Type 0 where
  -- what leading to is: each item leads to itself, and to what a link leads to from an item that it leads to; and to no more, since whatever set has an item and
  -- with each item what its links lead to has all that it leads to
  pub leads_self : (Q : Pattern) (u : ℕ) → T (reaches Q u u)
  pub leads_on : (Q : Pattern) (u : ℕ) (e : Edge) → In e Q.edges → T (reaches Q u e.from) → T (reaches Q u e.to)
  pub leads_least : (Q : Pattern) → T (sound Q) → (S : Nodes) → Shut Q S → (u v : ℕ) → T (S u) → v < length Q.labels → T (reaches Q u v) → T (S v)
  -- "items that lead to each other .. in one step": a step adds one component, and after any steps of two such items both are settled, or neither
  pub adds : (Q : Pattern) → T (sound Q) → (k : ℕ) (S S' : Nodes) → StepsTo Q k S → OneStep Q S S' → AddsOne Q S S'
  pub together : (Q : Pattern) → T (sound Q) → (k : ℕ) (S : Nodes) → StepsTo Q k S → (u v : ℕ) → v < length Q.labels → Together Q u v → T (S u) → T (S v)
  -- "after those of the items it leads to": these are settled with it or before it
  pub inward : (Q : Pattern) → T (sound Q) → (k : ℕ) (S : Nodes) → StepsTo Q k S → (u v : ℕ) → v < length Q.labels → T (reaches Q u v) → T (S u) → T (S v)
  -- while an item isn't settled a step can be made, and there are no more steps than items
  pub goes_on : (Q : Pattern) → T (sound Q) → (S : Nodes) (u : ℕ) → u < length Q.labels → (T (S u) → ⊥) → (S' : Nodes) × OneStep Q S S'
  pub few : (Q : Pattern) → T (sound Q) → (k : ℕ) (S : Nodes) → StepsTo Q k S → k ≤ length Q.labels
  -- "after each step, .., the settled links hold the greatest choice for them alone, and all others still their candidates"
  pub state : (Q : Pattern) (S : Nodes) (cs : Offer) → AfterStep L Q S cs (λ e f. In e Q.edges × In f (state_at S Q cs e))
  -- so it is in the words that the steps of the program leave, whatever candidates they held at first: `Ran` is the contract of `matching::steps::run`, which
  -- makes so many steps as it is asked for. The contract of the join, `Joined` of matching/specs/Joining.antt, says that there are words that hold the candidates
  -- and words to which `Ran` leads from them, not which words of the program these are
  pub words : (q : Given) (d steps settled : ℕ) (w w' : List ℕ) → Ran q d steps w settled w' → (cs : Offer) → Holds q d w cs
      → AfterStep L (pattern_in q) (bit settled) cs (HeldFor q d w')
  -- what is settled stays: the greatest choice for more links, cut to those that leave S, is the greatest choice for these
  pub stays : (Q : Pattern) (S S' : Nodes) → Shut Q S → ((v : ℕ) → T (S v) → T (S' v)) → (cs : Offer) (e : Edge) → T (S e.from) → (f : Pair)
      → In f (state_at S' Q cs e) ↔ In f (state_at S Q cs e)
  -- the steps "stay one-way": where all items are settled, the settled links are all of the question, matched one-way
  pub whole : (Q : Pattern) (S : Nodes) → ((e : Edge) → In e Q.edges → T (S e.from)) → leaving_of S Q ≡ ruled one_way Q
  -- "pruning both ways starts from what they leave, before the zeroing": whatever candidates the words held, pruning leaves the greatest choice from them both
  -- ways. `Pruned` is the contract of `matching::steps::prune`; the contract of the join says that `Pruned` leads to the words that it leaves, before the zeroing,
  -- from some to which `Ran` leads
  pub rule_both_ways : (q : Given) → (pattern_in q).rule ≡ both_ways
  pub prunes : (q : Given) (d : ℕ) (w w' : List ℕ) → Pruned q d w w' → (cs : Offer) → Holds q d w cs → GreatestChoice L (pattern_in q) (λ e f. In f (cs e)) (HeldFor q d w')
  -- whatever items are settled, the greatest choice from what is held then is the greatest choice from the candidates; so it is in the words after both
  pub from_steps : (Q : Pattern) (S : Nodes) (cs : Offer) → GreatestChoice L Q (λ e f. In f (state_at S Q cs e)) K → GreatestChoice L Q (λ e f. In f (cs e)) K
  pub after_both : (q : Given) (d steps settled : ℕ) (w w' w'' : List ℕ) → Ran q d steps w settled w' → Pruned q d w' w'' → (cs : Offer) → Holds q d w cs
      → GreatestChoice L (pattern_in q) (λ e f. In f (cs e)) (HeldFor q d w'')

-- ---- what holds of the part. "For an uncovered question clients want the part that the extracts do answer: its matched links, with their items renumbered upward."

-- the content and the bytes of the pattern that a choice of the question's links is: those that the test takes
abbrev pub choice_of : (Edge → Bool) → List ℕ → List ℕ
choice_of takes qs = pattern_fields (part_of takes (pattern_of qs))

abbrev pub choice_file : (Edge → Bool) → List ℕ → List ℕ
choice_file takes qs = pattern_bytes (part_of takes (pattern_of qs))

-- the part: the links that some extract in a set matches, which is that of the extracts that may be used
abbrev pub matched_link : ℕ → List ℕ → Offered → Edge → Bool
matched_link set qs cs = matched (pattern_of qs) (views_in_set set (view_patterns cs))

abbrev pub part_of_question : ℕ → List ℕ → Offered → List ℕ
part_of_question set qs cs = choice_of (matched_link set qs cs) qs

abbrev pub part_file : ℕ → List ℕ → Offered → List ℕ
part_file set qs cs = choice_file (matched_link set qs cs) qs

-- its answer, "from the book by the part's own quote"
abbrev pub part_answer : ℕ → List ℕ → Offered → List ℕ → List ℕ
part_answer set qs cs bs = own_answer_in set cs bs (part_of_question set qs cs)

-- link i of a choice is link v of the question, which is taken: as many of those before it are
pub record LinkFrom (takes : Edge → Bool) (qs : List ℕ) (i v : ℕ) : Type 0 where
  pub below : v < edges_of qs
  pub taken : T (takes (link_of qs v))
  pub place : rank (λ u. takes (link_of qs u)) v ≡ i

-- the new number of an item, and the kind of an item
abbrev pub item_number : (Edge → Bool) → List ℕ → ℕ → ℕ
item_number takes qs u = number (keep takes (pattern_of qs).edges) u

abbrev pub item_kind : List ℕ → ℕ → ℕ
item_kind qs u = get_or (pattern_of qs).labels u 0

-- the same link: of the same kind, between the same items under their new numbers, which have the same kinds
pub record SameLink (takes : Edge → Bool) (qs : List ℕ) (e f : Edge) : Type 0 where
  pub kind : e.kind ≡ f.kind
  pub from : e.from ≡ item_number takes qs f.from
  pub to : e.to ≡ item_number takes qs f.to
  pub from_kind : item_kind (choice_of takes qs) e.from ≡ item_kind qs f.from
  pub to_kind : item_kind (choice_of takes qs) e.to ≡ item_kind qs f.to

-- some link of the question is matched by an extract in a set, or none is
abbrev pub SomeMatched : ℕ → List ℕ → Offered → Type 0
SomeMatched set qs cs = (v : ℕ) × (v < edges_of qs) × Matched (pattern_of qs) (views_in_set set (view_patterns cs)) (link_of qs v)

abbrev pub NoneMatched : ℕ → List ℕ → Offered → Type 0
NoneMatched set qs cs = (v : ℕ) → v < edges_of qs → Matched (pattern_of qs) (views_in_set set (view_patterns cs)) (link_of qs v) → ⊥

-- 12, "the bytes needed, of the first output that doesn't fit": the answer alone is also at most 65,536 bytes long
abbrev pub OverPart : ℕ → ℕ → List ℕ → List ℕ → ℕ → Type 0
OverPart room room' o o' d = Over room o d ⊎ ((length o ≤ room) × OverFile room' o' d)

pub record Parts : Type 0 where
  -- a choice of links is an accepted pattern; its links are those taken, in their order, each once, with its kind and its ends' kinds
  pub is_pattern : (q qs : List ℕ) → Question q qs → (takes : Edge → Bool) (v : ℕ) → v < edges_of qs → T (takes (link_of qs v)) → Question (choice_file takes qs) (choice_of takes qs)
  pub comes_from : (q qs : List ℕ) → Question q qs → (takes : Edge → Bool) (i : ℕ) → i < edges_of (choice_of takes qs) → (v : ℕ) × LinkFrom takes qs i v
  pub goes_to : (q qs : List ℕ) → Question q qs → (takes : Edge → Bool) (v : ℕ) → v < edges_of qs → T (takes (link_of qs v))
      → (i : ℕ) × (i < edges_of (choice_of takes qs)) × LinkFrom takes qs i v
  pub is_link : (q qs : List ℕ) → Question q qs → (takes : Edge → Bool) (i v : ℕ) → LinkFrom takes qs i v → SameLink takes qs (link_of (choice_of takes qs) i) (link_of qs v)
  -- "with their items renumbered upward"
  pub upward : (takes : Edge → Bool) (qs : List ℕ) (e : Edge) → In e (pattern_of qs).edges → T (takes e) → (u w : ℕ) → (e.from ≡ u) ⊎ (e.to ≡ u) → u < w
      → item_number takes qs u < item_number takes qs w
  -- the links of the part are the matched ones: the test says exactly that
  pub takes_matched : (set : ℕ) (qs : List ℕ) (cs : Offered) (e : Edge) → T (matched_link set qs cs e) ↔ Matched (pattern_of qs) (views_in_set set (view_patterns cs)) e
  -- it is covered, and "the largest, meaning that every answerable choice of the question's links lies inside it": every choice that is covered, and
  -- every choice whose sheet any function whatsoever of the extracts' lists gives on every record
  pub covered : (set : ℕ) (q : List ℕ) (c : Brought) (qs : List ℕ) (cs : Offered) → Question q qs → Catalogue c cs → Covers set (part_of_question set qs cs) cs
  pub largest : (set : ℕ) (q : List ℕ) (c : Brought) (qs : List ℕ) (cs : Offered) → Question q qs → Catalogue c cs → (takes : Edge → Bool) → Covers set (choice_of takes qs) cs
      → (v : ℕ) → v < edges_of qs → T (takes (link_of qs v)) → Matched (pattern_of qs) (views_in_set set (view_patterns cs)) (link_of qs v)
  pub no_other_way : (set : ℕ) (q : List ℕ) (c : Brought) (qs : List ℕ) (cs : Offered) → Question q qs → Catalogue c cs → (takes : Edge → Bool) → (F : List (List (List ℕ)) → List ℕ)
      → ((r rs : List ℕ) → Record r rs → F (lists_in set cs (graph_of rs)) ≡ sheet_of (pattern_of (choice_of takes qs)) rs)
      → (v : ℕ) → v < edges_of qs → T (takes (link_of qs v)) → Matched (pattern_of qs) (views_in_set set (view_patterns cs)) (link_of qs v)
  -- its masks, of extracts in the set, are the question's, of the links that they came from
  pub masks : (set : ℕ) (q : List ℕ) (c : Brought) (qs : List ℕ) (cs : Offered) → Question q qs → Catalogue c cs → (i v a : ℕ) → LinkFrom (matched_link set qs cs) qs i v
      → a < 16 → T (bit set a)
      → get_or (mapping (pattern_of (part_of_question set qs cs)) (view_patterns cs)) (16 * i + a) 0 ≡ get_or (mapping (pattern_of qs) (view_patterns cs)) (16 * v + a) 0
  -- the call gives the part and its answer, or 12, or 14, where some link is matched; its answer is the one that the part gets by itself, by the set that its
  -- own quote chooses, and, by all extracts, where the client names no set
  pub gives : (w : When) (q : List ℕ) (c : Brought) (b qs : List ℕ) (cs : Offered) (bs : List ℕ) → Question q qs → Catalogue c cs → Timely cs w → Book cs.content b bs
      → SomeMatched (usable_when w cs) qs cs → (room room' words : ℕ)
      → Fitted words (OverPart room room' (part_file (usable_when w cs) qs cs) (part_answer (usable_when w cs) qs cs bs)) (part_file (usable_when w cs) qs cs ∷ part_answer (usable_when w cs) qs cs bs ∷ [])
      (with_workspace words (part_when w q c b room room'))
  pub answers : (set : ℕ) (q : List ℕ) (c : Brought) (b qs : List ℕ) (cs : Offered) (bs : List ℕ) → Question q qs → Catalogue c cs → Book cs.content b bs
      → SomeMatched set qs cs → (room : ℕ)
      → answer_from (part_file set qs cs) c (chosen_in set (part_of_question set qs cs) cs) b room ≡ fit_file room (part_answer set qs cs bs)
  pub answers_by_all : (q : List ℕ) (c : Brought) (b qs : List ℕ) (cs : Offered) (bs : List ℕ) → Question q qs → Catalogue c cs → Book cs.content b bs
      → SomeMatched every_view qs cs → (room : ℕ)
      → answer_outcome (part_file every_view qs cs) c b room ≡ fit_file room (part_answer every_view qs cs bs)
  -- "in this call 11 is given only when no link is matched", and then always
  pub refused : (w : When) (q : List ℕ) (c : Brought) (b qs : List ℕ) (cs : Offered) (bs : List ℕ) → Question q qs → Catalogue c cs → Timely cs w
      → Book cs.content b bs → (room room' words d : ℕ)
      → (with_workspace words (part_when w q c b room room') ≡ refuse 11 d) ↔ ((workspace ≤ words) × NoneMatched (usable_when w cs) qs cs × (d ≡ 0))
  -- nothing is given of other files
  pub only : (w : When) (q : List ℕ) (c : Brought) (b : List ℕ) (room room' words : ℕ) → Full (with_workspace words (part_when w q c b room room'))
      → (qs : List ℕ) × (cs : Offered) × (bs : List ℕ) × Question q qs × Catalogue c cs × Timely cs w × Book cs.content b bs × SomeMatched (usable_when w cs) qs cs
  -- "for a covered question the part is the whole", byte for byte, and its answer that of the question
  pub whole : (set : ℕ) (q : List ℕ) (c : Brought) (qs : List ℕ) (cs : Offered) → Below 256 q → Question q qs → Catalogue c cs → Covers set qs cs → part_file set qs cs ≡ q
  pub whole_answer : (set : ℕ) (q : List ℕ) (c : Brought) (b qs : List ℕ) (cs : Offered) (bs : List ℕ) → Question q qs → Catalogue c cs → Book cs.content b bs
      → Covers set qs cs → (room : ℕ)
      → answer_from q c (chosen_in set qs cs) b room ≡ fit_file room (part_answer set qs cs bs)
  -- "where the full question has matches in the record that the book was made from, each of the part's links lists at least those": where it has
  -- none there is nothing to list
  pub lists_more : (set : ℕ) (q : List ℕ) (c : Brought) (qs : List ℕ) (cs : Offered) → Question q qs → Catalogue c cs → (rs : List ℕ) (i v : ℕ) → LinkFrom (matched_link set qs cs) qs i v
      → (x : ℕ) → In x (get_or (match_sets (pattern_of qs) (graph_of rs)) v []) → In x (get_or (match_sets (pattern_of (part_of_question set qs cs)) (graph_of rs)) i [])
  -- demand 3 of it: its answer from the book of a record is what searching the record for it gives, in either way
  pub equals : (way : Way) (set : ℕ) (q : List ℕ) (c : Brought) (r qs : List ℕ) (cs : Offered) (rs : List ℕ) → Question q qs → Catalogue c cs → Record r rs
      → SomeMatched set qs cs → length (book_of cs rs) ≤ book_most → (room words : ℕ)
      → with_workspace words (answer_from (part_file set qs cs) c (chosen_in set (part_of_question set qs cs) cs) (book_of cs rs) room) ≡ with_workspace words (search_by way (part_file set qs cs) r rs room)

-- ---- what holds of several questions in one call. Their contents stand in a list: a paper of them is taken apart by `QuestionFiles`
-- (packed/specs/Calls.antt), which has the file and the content of each, in order.

-- each is covered, or i is the first that isn't
abbrev pub AllCovered : List (List ℕ) → Offered → Type 0
AllCovered contents cs = (i : ℕ) → i < length contents → Covered (get_or contents i []) cs

pub record FirstUncovered (contents : List (List ℕ)) (cs : Offered) (i : ℕ) : Type 0 where
  pub below : i < length contents
  pub uncovered : Uncovered (get_or contents i []) cs
  pub before : (j : ℕ) → j < i → Covered (get_or contents j []) cs

-- what each gets by itself
abbrev pub own_answers : List (List ℕ) → Offered → List ℕ → List (List ℕ)
own_answers contents cs bs = map (own_answer cs bs) contents

-- "the extracts chosen for at least one question": the extract a is one of them; the test for it; and how many of the extracts pass the test
abbrev pub ChosenForOne : List (List ℕ) → Offered → ℕ → Type 0
ChosenForOne contents cs a = (i : ℕ) × (i < length contents) × T (bit (chosen_of (get_or contents i []) cs) a)

abbrev pub is_chosen_for_one : List (List ℕ) → Offered → ℕ → Bool
is_chosen_for_one contents cs a = some (λ qs. bit (chosen_of qs cs) a) contents

abbrev pub sheets_for : List (List ℕ) → Offered → ℕ
sheets_for contents cs = rank (is_chosen_for_one contents cs) (length (view_patterns cs))

-- "12 if an answer is over 65,536 bytes or the sum over those lent, detail the sum"
abbrev pub OverSum : ℕ → List (List ℕ) → ℕ → Type 0
OverSum room answers d = ((room < length (flatten answers)) ⊎ ((o : List ℕ) × In o answers × (book_most < length o))) × (d ≡ length (flatten answers))

pub record Severals : Type 0 where
  -- "the questions come as one paper, their number beside it, each on the byte after the one before": it is accepted exactly if it is so many
  -- accepted questions, one file after the other
  pub accepts : (number : ℕ) (q ws : List ℕ) → Questions number q ws ↔ QuestionFiles number q ws
  -- "they are to be answered in one call from one book; the result says how many of its sheets they needed": where each is covered the call gives
  -- the answers, one after the other, and that number, or 12, or 14
  pub gives : (number : ℕ) (q : List ℕ) (c : Brought) (b ws : List ℕ) (cs : Offered) (bs : List ℕ) → RightNumber number → (f : QuestionFiles number q ws) → Catalogue c cs
      → Book cs.content b bs → AllCovered f.contents cs → (room words : ℕ)
      → FittedBeside (sheets_for f.contents cs ∷ []) words (OverSum room (own_answers f.contents cs bs)) (flatten (own_answers f.contents cs bs) ∷ [])
      (with_workspace words (several_outcome q number c b room))
  -- "each equal to what its question gets by itself"
  pub answers : (number : ℕ) (q : List ℕ) (c : Brought) (b ws : List ℕ) (cs : Offered) (bs : List ℕ) (f : QuestionFiles number q ws) → Catalogue c cs
      → Book cs.content b bs → (i : ℕ) → i < number → Covered (get_or f.contents i []) cs
      → (room : ℕ) → answer_outcome (get_or f.files i []) c b room ≡ fit_file room (get_or (own_answers f.contents cs bs) i [])
  -- "namely those of the extracts chosen for at least one question": the test says exactly that
  pub chosen : (contents : List (List ℕ)) (cs : Offered) (a : ℕ) → T (is_chosen_for_one contents cs a) ↔ ChosenForOne contents cs a
  -- no other sheet is needed: two accepted books that agree on these give the same
  pub same : (number : ℕ) (q : List ℕ) (c : Brought) (b b' ws : List ℕ) (cs : Offered) (bs bs' : List ℕ) (f : QuestionFiles number q ws) → Catalogue c cs
      → Book cs.content b bs → Book cs.content b' bs'
      → (AllCovered f.contents cs → (a : ℕ) → a < length (view_patterns cs) → ChosenForOne f.contents cs a
      → get_or (sheets_in (edge_counts cs.content) bs) a [] ≡ get_or (sheets_in (edge_counts cs.content) bs') a [])
      → (room : ℕ) → several_outcome q number c b room ≡ several_outcome q number c b' room
  -- demand 3 of each: its answer from the book of a record is what searching the record for it gives, in either way; and so the output has the
  -- sheets of the questions on the record, one after the other
  pub equals : (way : Way) (number : ℕ) (q : List ℕ) (c : Brought) (r ws : List ℕ) (cs : Offered) (rs : List ℕ) (f : QuestionFiles number q ws) → Catalogue c cs
      → Record r rs → (i : ℕ) → i < number → Covered (get_or f.contents i []) cs
      → length (book_of cs rs) ≤ book_most → (room words : ℕ)
      → with_workspace words (answer_outcome (get_or f.files i []) c (book_of cs rs) room) ≡ with_workspace words (search_by way (get_or f.files i []) r rs room)
  pub sheets : (number : ℕ) (q : List ℕ) (c : Brought) (r ws : List ℕ) (cs : Offered) (rs bs : List ℕ) (f : QuestionFiles number q ws) → Catalogue c cs → Record r rs
      → AllCovered f.contents cs → Book cs.content (book_of cs rs) bs
      → own_answers f.contents cs bs ≡ map (λ qs. sheet_of (pattern_of qs) rs) f.contents
  -- 17, "when no question or more than eight are sent, after 14, detail the number sent", exactly then
  pub wrong_number : (q : List ℕ) (number : ℕ) (c : Brought) (b : List ℕ) (room words d : ℕ)
      → (with_workspace words (several_outcome q number c b room) ≡ refuse 17 d) ↔ ((workspace ≤ words) × WrongNumber number × (d ≡ number))
  -- 11, "for the first uncovered question", exactly then, with its lowest unmatched link
  pub refused : (number : ℕ) (q : List ℕ) (c : Brought) (b ws : List ℕ) (cs : Offered) (bs : List ℕ) → RightNumber number → (f : QuestionFiles number q ws)
      → Catalogue c cs → Book cs.content b bs → (room words d : ℕ)
      → (with_workspace words (several_outcome q number c b room) ≡ refuse 11 d)
      ↔ ((workspace ≤ words) × ((i : ℕ) × FirstUncovered f.contents cs i × (d ≡ lacking (get_or f.contents i []) cs)))
  -- nothing is given of other files, nor of other numbers
  pub only : (q : List ℕ) (number : ℕ) (c : Brought) (b : List ℕ) (room words : ℕ) → Full (with_workspace words (several_outcome q number c b room))
      → RightNumber number × ((ws : List ℕ) × (cs : Offered) × (bs : List ℕ) × (f : QuestionFiles number q ws) × Catalogue c cs × Book cs.content b bs × AllCovered f.contents cs)

-- ---- what holds of the cheapest set

-- one charge for each extract
abbrev pub Charged : List ℕ → Offered → Type 0
Charged charges cs = length charges ≡ length (view_patterns cs)

-- the sum of the charges of a set of extracts
abbrev pub cost_of : List ℕ → Offered → ℕ → ℕ
cost_of charges cs set = cost charges set (length (view_patterns cs))

-- a set of extracts that may be used
abbrev pub Among : ℕ → Offered → ℕ → Type 0
Among usable cs set = (a : ℕ) → T (bit set a) → (a < length (view_patterns cs)) × T (bit usable a)

-- "the covering set whose charges sum to the least", with the ties (specs/Cheapest.antt): it covers, and no set of extracts that may be used covers and is
-- better
pub record CheapestIn (usable : ℕ) (qs : List ℕ) (cs : Offered) (charges : List ℕ) (set : ℕ) : Type 0 where
  pub among : Among usable cs set
  pub covers : Covers set qs cs
  pub least : (other : ℕ) → Among usable cs other → Covers other qs cs → Better charges (length (view_patterns cs)) other set → ⊥

pub record Cheapests : Type 0 where
  -- for a covered question the call gives that set, its sum, and beside them "the chosen set of the ordinary quote"
  pub gives : (w : When) (q : List ℕ) (c : Brought) (qs : List ℕ) (cs : Offered) (charges : List ℕ) → Question q qs → Catalogue c cs → Timely cs w → Charged charges cs
      → Covers (usable_when w cs) qs cs → (words : ℕ) → workspace ≤ words
      → (set : ℕ) × CheapestIn (usable_when w cs) qs cs charges set
      × (with_workspace words (cheapest_when w q c charges) ≡ give (set ∷ cost_of charges cs set ∷ chosen_in (usable_when w cs) qs cs ∷ []) [])
  -- one set at most is so
  pub one : (c : Brought) (qs : List ℕ) (cs : Offered) (charges : List ℕ) → Catalogue c cs → (usable a b : ℕ) → CheapestIn usable qs cs charges a
      → CheapestIn usable qs cs charges b → a ≡ b
  -- "no covering set may cost less than the one returned", the chosen set among them
  pub least : (usable : ℕ) (qs : List ℕ) (cs : Offered) (charges : List ℕ) (set other : ℕ) → CheapestIn usable qs cs charges set → Among usable cs other → Covers other qs cs
      → cost_of charges cs set ≤ cost_of charges cs other
  pub chosen : (usable : ℕ) (qs : List ℕ) (cs : Offered) (charges : List ℕ) (set : ℕ) → CheapestIn usable qs cs charges set → Covers usable qs cs
      → cost_of charges cs set ≤ cost_of charges cs (chosen_in usable qs cs)
  -- 15, "when the number of charges differs from the number of extracts", of all, exactly then
  pub wrong_charges : (w : When) (q : List ℕ) (c : Brought) (qs : List ℕ) (cs : Offered) (charges : List ℕ) → Question q qs → Catalogue c cs → Timely cs w → (words d : ℕ)
      → (with_workspace words (cheapest_when w q c charges) ≡ refuse 15 d) ↔ ((workspace ≤ words) × (Charged charges cs → ⊥) × (d ≡ length charges))
  -- 11, for an uncovered question, exactly then
  pub refused : (w : When) (q : List ℕ) (c : Brought) (qs : List ℕ) (cs : Offered) (charges : List ℕ) → Question q qs → Catalogue c cs → Timely cs w → (words d : ℕ)
      → (with_workspace words (cheapest_when w q c charges) ≡ refuse 11 d) ↔ ((workspace ≤ words) × Charged charges cs × Leaves (usable_when w cs) qs cs × (d ≡ lacking_in (usable_when w cs) qs cs))
  -- demand 3 by that set: "for sheets truly made from one record, all covering sets are to give the same bytes", the cheapest included
  pub answers : (way : Way) (usable : ℕ) (q : List ℕ) (c : Brought) (r qs : List ℕ) (cs : Offered) (rs charges : List ℕ) → Question q qs → Catalogue c cs → Record r rs
      → (set : ℕ) → CheapestIn usable qs cs charges set
      → length (book_of cs rs) ≤ book_most → (room words : ℕ) → with_workspace words (answer_from q c set (book_of cs rs) room) ≡ with_workspace words (search_by way q r rs room)
  -- nothing is given of other files
  pub only : (w : When) (q : List ℕ) (c : Brought) (charges : List ℕ) (words : ℕ) → Full (with_workspace words (cheapest_when w q c charges))
      → (qs : List ℕ) × (cs : Offered) × Question q qs × Catalogue c cs × Timely cs w

-- ---- what holds of calls for a day alone. "A quote for a day uses only extracts in force, and `uncovered` then says that those in force don't suffice, with
-- T-01 and T-08 read likewise": what holds both ways stands above, of quotes in demand 2, of showings in demand 3 and `no_other_way_in`, of the part and of the
-- cheapest set.

-- the numbers that a list of terms is handed on as: its length, and the days of its first sixteen entries
pub record Copied (l : List Term) (t : Terms) : Type 0 where
  pub number : t.number ≡ length l
  pub from : (i : ℕ) → i < length l → i < 16 → from_day t i ≡ (get_or l i no_term).from
  pub to : (i : ℕ) → i < length l → i < 16 → to_day t i ≡ (get_or l i no_term).to

-- 18 is given exactly where the terms are wrong
abbrev pub Refuses18 : Terms → List ℕ → Outcome → Type 0
Refuses18 t cs a = (words d : ℕ) → (with_workspace words a ≡ refuse 18 d) ↔ ((workspace ≤ words) × WrongTerms t (length (views_of cs)) d)

-- the link e of the question is matched by a link of an extract in force
pub record MatchedOn (t : Terms) (day : ℕ) (qs : List ℕ) (cs : Offered) (e : Edge) : Type 0 where
  pub extract : ℕ
  pub given : extract < length (view_patterns cs)
  pub in_force_lem : InForce t day extract
  pub link : ℕ
  pub kind : (get_or (extract_of cs extract).edges link no_edge).kind ≡ e.kind
  pub lists : In (code e.from e.to) (get_or (view_sheet (extract_of cs extract) (as_graph (pattern_of qs))) link [])

-- all extracts are in force
abbrev pub AllInForce : Terms → ℕ → Offered → Type 0
AllInForce t day cs = (a : ℕ) → a < length (view_patterns cs) → InForce t day a

-- "the first day not before a given day on which the question is covered, or none if there is no such day up to 65,535"
pub record FirstCovered (t : Terms) (day : ℕ) (qs : List ℕ) (cs : Offered) (d : ℕ) : Type 0 where
  pub not_before : day ≤ d
  pub is_day : d ≤ 65535
  pub covered : Covers (force_of t d cs) qs cs
  pub none_before : (e : ℕ) → day ≤ e → e < d → Leaves (force_of t e cs) qs cs

abbrev pub NeverCovered : Terms → ℕ → List ℕ → Offered → Type 0
NeverCovered t day qs cs = (e : ℕ) → day ≤ e → e ≤ 65535 → Leaves (force_of t e cs) qs cs

pub record OnDays : Type 0 where
  -- what a client's list is handed on as
  pub spreads : (l : List Term) → Copied l (spread_of l)
  -- "it refuses with 18 .. right after the catalogue is read", each call in these cases and no other; terms are right or wrong
  pub quote_terms : (q : List ℕ) (c : Brought) (qs cs : List ℕ) → Question q qs → CataloguePaper c.file cs → (t : Terms) (day : ℕ) → Refuses18 t cs (quote_on q c t day)
  pub cheapest_terms : (q : List ℕ) (c : Brought) (qs cs charges : List ℕ) → Question q qs → CataloguePaper c.file cs → (t : Terms) (day : ℕ)
      → Refuses18 t cs (cheapest_on q c t day charges)
  pub part_terms : (q : List ℕ) (c : Brought) (b qs cs : List ℕ) → Question q qs → CataloguePaper c.file cs → (t : Terms) (day room room' : ℕ)
      → Refuses18 t cs (part_on q c t day b room room')
  pub show_terms : (q : List ℕ) (c : Brought) (qs cs : List ℕ) → Question q qs → CataloguePaper c.file cs → (t : Terms) (day room room' : ℕ)
      → Refuses18 t cs (show_on q c t day room room')
  pub first_day_terms : (q : List ℕ) (c : Brought) (qs cs : List ℕ) → Question q qs → CataloguePaper c.file cs → (t : Terms) (day : ℕ) → Refuses18 t cs (first_day q c t day)
  pub right_or_wrong : (t : Terms) (k : ℕ) → RightTerms t k ⊎ ((d : ℕ) × WrongTerms t k d)
  pub not_both : (t : Terms) (k d : ℕ) → RightTerms t k → WrongTerms t k d → ⊥
  -- the set of the extracts in force has these and no others
  pub in_force_lem : (t : Terms) (day : ℕ) (cs : Offered) (a : ℕ) → T (bit (force_of t day cs) a) ↔ ((a < length (view_patterns cs)) × InForce t day a)
  -- "a quote for a day uses only extracts in force": it says covered exactly if each link is matched by a link of one of these
  pub covers : (q : List ℕ) (c : Brought) (qs : List ℕ) (cs : Offered) → Question q qs → Catalogue c cs → (t : Terms) (day : ℕ)
      → Covers (force_of t day cs) qs cs ↔ ((i : ℕ) → i < edges_of qs → MatchedOn t day qs cs (link_of qs i))
  -- its masks: of an extract in force those without a day, of the others zero
  pub masks_in_lem : (qs : List ℕ) (cs : Offered) (t : Terms) (day i a : ℕ) → a < length (view_patterns cs) → a < 16 → InForce t day a
      → get_or (masks_in (force_of t day cs) qs cs) (16 * i + a) 0 ≡ get_or (masks_in every_view qs cs) (16 * i + a) 0
  pub masks_out : (qs : List ℕ) (cs : Offered) (t : Terms) (day i a : ℕ) → a < 16 → (InForce t day a → ⊥) → get_or (masks_in (force_of t day cs) qs cs) (16 * i + a) 0 ≡ 0
  -- the chosen set is of those in force, and answering by it "equals searching the record"
  pub choice_in_force : (qs : List ℕ) (cs : Offered) (t : Terms) (day a : ℕ) → T (bit (chosen_in (force_of t day cs) qs cs) a) → InForce t day a
  pub answers : (way : Way) (q : List ℕ) (c : Brought) (r qs : List ℕ) (cs : Offered) (rs : List ℕ) → Question q qs → Catalogue c cs → Record r rs → (t : Terms) (day : ℕ)
      → Covers (force_of t day cs) qs cs → length (book_of cs rs) ≤ book_most
      → (room words : ℕ) → with_workspace words (answer_from q c (chosen_in (force_of t day cs) qs cs) (book_of cs rs) room) ≡ with_workspace words (search_by way q r rs room)
  -- so is the cheapest; a set of those in force is one that may be used
  pub cheapest_in_force : (qs : List ℕ) (cs : Offered) (charges : List ℕ) (t : Terms) (day set : ℕ) → CheapestIn (force_of t day cs) qs cs charges set → (a : ℕ)
      → T (bit set a) → InForce t day a
  pub any_in_force : (cs : Offered) (t : Terms) (day set : ℕ) → ((a : ℕ) → T (bit set a) → (a < length (view_patterns cs)) × InForce t day a) → Among (force_of t day cs) cs set
  -- a showing: "its two records have equal lists for every extract in force, whatever the others list"
  pub equal_lists : (q : List ℕ) (c : Brought) (qs : List ℕ) (cs : Offered) → Question q qs → Catalogue c cs → (t : Terms) (day : ℕ) → Leaves (force_of t day cs) qs cs
      → (a : ℕ) → a < length (view_patterns cs) → InForce t day a
      → extract_sheet_of (extract_of cs a) (first_of qs) ≡ extract_sheet_of (extract_of cs a) (second_in (force_of t day cs) qs cs)
  -- "also wanted: the first day": 1 and the day, or 0 and 0 for none, neither a refusal; nothing is given of other files
  pub first_day_lem : (q : List ℕ) (c : Brought) (qs : List ℕ) (cs : Offered) → Question q qs → Catalogue c cs → (t : Terms) (day : ℕ) → RightTerms t (length (views_of cs.content))
      → ((d : ℕ) × FirstCovered t day qs cs d × (first_day q c t day ≡ give (1 ∷ d ∷ []) [])) ⊎ (NeverCovered t day qs cs × (first_day q c t day ≡ give (0 ∷ 0 ∷ []) []))
  pub first_day_only : (q : List ℕ) (c : Brought) (t : Terms) (day words : ℕ) → Full (with_workspace words (first_day q c t day))
      → (qs : List ℕ) × (cs : Offered) × Question q qs × Catalogue c cs × Timely cs (on t day)
  -- on a day on which all extracts are in force each call answers what it answers without a day
  pub quote_as_always : (q : List ℕ) (c : Brought) (cs : Offered) → Catalogue c cs → (t : Terms) (day : ℕ) → RightTerms t (length (views_of cs.content))
      → AllInForce t day cs → quote_on q c t day ≡ quote_outcome q c
  pub cheapest_as_always : (q : List ℕ) (c : Brought) (cs : Offered) (charges : List ℕ) → Catalogue c cs → (t : Terms) (day : ℕ)
      → RightTerms t (length (views_of cs.content)) → AllInForce t day cs
      → cheapest_on q c t day charges ≡ cheapest_outcome q c charges
  pub part_as_always : (q : List ℕ) (c : Brought) (b : List ℕ) (cs : Offered) → Catalogue c cs → (t : Terms) (day room room' : ℕ)
      → RightTerms t (length (views_of cs.content)) → AllInForce t day cs
      → part_on q c t day b room room' ≡ part_outcome q c b room room'
  pub show_as_always : (q : List ℕ) (c : Brought) (cs : Offered) → Catalogue c cs → (t : Terms) (day room room' : ℕ) → RightTerms t (length (views_of cs.content))
      → AllInForce t day cs
      → show_on q c t day room room' ≡ show_outcome q c room room'

-- ---- Links that enter. "Commit enters the link at its place in order and adds 1 to both numbers of a small running state, the link count and change number."

-- a link, as an edge of the record's graph
abbrev pub as_edge : Link → Edge
as_edge l = between l.from l.to l.kind

-- the content of "the record with this link"
abbrev pub with_link : List ℕ → Link → List ℕ
with_link rs l = entered rs l.from l.to l.kind

-- the ends of a link are items of the record
abbrev pub BothItems : List ℕ → Link → Type 0
BothItems rs l = (l.from < nodes_of rs) × (l.to < nodes_of rs)

-- a link that may enter a record of the content rs, where a state has its link count
pub record Fit (links : ℕ) (rs : List ℕ) (l : Link) : Type 0 where
  pub count : links ≡ edges_of rs
  pub items : BothItems rs l
  pub kind : l.kind ≤ 7
  pub new : In (as_edge l) (graph_of rs).edges → ⊥
  pub room : edges_of rs < edges_most

-- why one doesn't: "3 if the state's link count isn't the record's, then 4 for an end, 3 for a kind above 7, 6 for a link already there, 3 for a full record"
pub data Unfit (links : ℕ) (rs : List ℕ) (l : Link) : ℕ → Type 0 where
  wrong_count : (links ≡ edges_of rs → ⊥) → Unfit links rs l 3
  no_item : links ≡ edges_of rs → (BothItems rs l → ⊥) → Unfit links rs l 4
  no_kind : links ≡ edges_of rs → BothItems rs l → 7 < l.kind → Unfit links rs l 3
  there_already : links ≡ edges_of rs → BothItems rs l → l.kind ≤ 7 → In (as_edge l) (graph_of rs).edges → Unfit links rs l 6
  full : links ≡ edges_of rs → BothItems rs l → l.kind ≤ 7 → (In (as_edge l) (graph_of rs).edges → ⊥) → edges_most ≤ edges_of rs → Unfit links rs l 3

-- "a slip whose change number" is "the current one", which isn't the last
pub record Current (s : State) (p : Slip) : Type 0 where
  pub same : p.change ≡ s.change
  pub not_last : s.change ≡ change_most → ⊥

-- the link stands at its place: those before it and those after it are the old ones, in their order
pub record AtPlace (rs : List ℕ) (l : Link) : Type 0 where
  pub before : List Edge
  pub after : List Edge
  pub old : (graph_of rs).edges ≡ before ++ after
  pub new : (graph_of (with_link rs l)).edges ≡ before ++ (as_edge l ∷ after)

pub record Entering : Type 0 where
  -- the link is judged so, "each with detail 3"
  pub fit : (links : ℕ) (rs : List ℕ) (l : Link) (ws : List ℕ) → (judge_link links rs l ≡ accepted ws) ↔ (Fit links rs l × (ws ≡ with_link rs l))
  pub unfit : (links : ℕ) (rs : List ℕ) (l : Link) (n d : ℕ) → (judge_link links rs l ≡ rejected n d) ↔ (Unfit links rs l n × (d ≡ 3))
  -- "commit refuses with 20 a slip whose change number isn't the current one, then with 21 if that number is 4,294,967,295", "detail the current number"
  pub old_slip : (r rs : List ℕ) → Record r rs → (s : State) (p : Slip) (room room' words d : ℕ)
      → (with_workspace words (commit_outcome r s p room room') ≡ refuse 20 d) ↔ ((workspace ≤ words) × (p.change ≡ s.change → ⊥) × (d ≡ s.change))
  pub last_change : (r rs : List ℕ) → Record r rs → (s : State) (p : Slip) (room room' words d : ℕ)
      → (with_workspace words (commit_outcome r s p room room') ≡ refuse 21 d) ↔ ((workspace ≤ words) × (p.change ≡ s.change) × (s.change ≡ change_most) × (d ≡ s.change))
  -- "commit gives 12 last": for the record's bytes, else for the index's entries; else both are given, whole
  pub gives : (r rs : List ℕ) → Record r rs → (s : State) (p : Slip) → Current s p → Fit s.links rs (link_on p) → (room room' words : ℕ)
      → Fitted words (OverEither room room' (record_bytes (with_link rs (link_on p))) (own_of (with_link rs (link_on p)))) (record_bytes (with_link rs (link_on p)) ∷ own_of (with_link rs (link_on p)) ∷ [])
      (with_workspace words (commit_outcome r s p room room'))
  pub only : (r : List ℕ) (s : State) (p : Slip) (room room' words : ℕ) → Full (with_workspace words (commit_outcome r s p room room'))
      → (rs : List ℕ) × Record r rs × Current s p × Fit s.links rs (link_on p)
  -- "the record's bytes after it are those of the record with this link": a record is accepted that has the same items, the old links and this one, "at its
  -- place in order"
  pub is_record : (r rs : List ℕ) → Record r rs → (links : ℕ) (l : Link) → Fit links rs l → Record (record_bytes (with_link rs l)) (with_link rs l)
  pub items : (r rs : List ℕ) → Record r rs → (links : ℕ) (l : Link) → Fit links rs l → (graph_of (with_link rs l)).labels ≡ (graph_of rs).labels
  pub links : (r rs : List ℕ) → Record r rs → (links : ℕ) (l : Link) → Fit links rs l → (f : Edge)
      → In f (graph_of (with_link rs l)).edges ↔ ((f ≡ as_edge l) ⊎ In f (graph_of rs).edges)
  pub at_place : (r rs : List ℕ) → Record r rs → (links : ℕ) (l : Link) → Fit links rs l → AtPlace rs l
  -- commit "adds 1 to both numbers", so that the link count is again the record's; "a refusal leaves the state as it came", 14 among them
  pub counts : (a : Outcome) (s : State) → Full a → ((state_after a s).links ≡ s.links + 1) × ((state_after a s).change ≡ s.change + 1)
  pub count_again : (r rs : List ℕ) → Record r rs → (s : State) (l : Link) → Fit s.links rs l → s.links + 1 ≡ edges_of (with_link rs l)
  pub stays : (a : Outcome) (s : State) → Refused a → state_after a s ≡ s

-- ---- Asking "before a link enters the record".

-- the set of the extracts whose lists are others on the record with the link
abbrev pub changed_of : Offered → List ℕ → Link → ℕ
changed_of cs rs l = changed_views cs (graph_of rs) (graph_of (with_link rs l)) (length (views_of cs.content))

-- "asking alters nothing and gives that set .. and a slip with the link and the record's change number": it is lent no output, and the state by value
abbrev pub ask_given : ℕ → Link → State → List ℕ
ask_given set l s = set ∷ l.from ∷ l.to ∷ l.kind ∷ s.change ∷ []

pub record Asking : Type 0 where
  -- it gives that of accepted files and a link that may enter, and nothing of others
  pub gives : (c : Brought) (r : List ℕ) (cs : Offered) (rs : List ℕ) → Catalogue c cs → Record r rs → (s : State) (l : Link) → Fit s.links rs l → (words : ℕ) → workspace ≤ words
      → with_workspace words (ask_outcome c r s l) ≡ give (ask_given (changed_of cs rs l) l s) []
  pub only : (c : Brought) (r : List ℕ) (s : State) (l : Link) (words : ℕ) → Full (with_workspace words (ask_outcome c r s l))
      → (cs : Offered) × (rs : List ℕ) × Catalogue c cs × Record r rs × Fit s.links rs l
  -- what it refuses has a number of a file's or of the link's, 14 or 19: so never 12, and no number of a slip
  pub refuses : (c : Brought) (r : List ℕ) (s : State) (l : Link) (words n d : ℕ) → with_workspace words (ask_outcome c r s l) ≡ refuse n d → (n ≤ 9) ⊎ ((n ≡ 14) ⊎ (n ≡ 19))
  -- "while the record and catalogue are those asked about, the sheets that the commit changes are those of the set given with the slip, and no others", "judged
  -- by the lists under each extract's rule": an extract's lists on the record after differ from those before exactly if it is in the set, and no number but an
  -- extract's is there
  pub changes : (c : Brought) (r : List ℕ) (cs : Offered) (rs : List ℕ) → Catalogue c cs → Record r rs → (links : ℕ) (l : Link) → Fit links rs l → (a : ℕ)
      → T (bit (changed_of cs rs l) a)
      ↔ ((a < length (view_patterns cs)) × (view_sheet (extract_of cs a) (graph_of rs) ≡ view_sheet (extract_of cs a) (graph_of (with_link rs l)) → ⊥))
  -- and so in bytes
  pub changes_bytes : (c : Brought) (r : List ℕ) (cs : Offered) (rs : List ℕ) → Catalogue c cs → Record r rs → (links : ℕ) (l : Link) → Fit links rs l → (a : ℕ)
      → T (bit (changed_of cs rs l) a)
      ↔ ((a < length (view_patterns cs)) × (extract_sheet_of (extract_of cs a) rs ≡ extract_sheet_of (extract_of cs a) (with_link rs l) → ⊥))

-- ---- what holds of the listing of a quote

-- the listing of a quote r of an uncovered question with m links, where t is the table of what matches them
pub record UncoveredListing (r : Quote) (t : List ℕ) (m : ℕ) : Type 0 where
  -- "begins `quote uncovered`"
  pub first : line_of r 0 ≡ bytes "quote uncovered\n"
  pub links : (e : ℕ) → e < m → line_of r (e + 1) ≡ link_line t e
  -- "and ends `extracts none`": nothing follows
  pub last : line_of r (m + 1) ≡ bytes "extracts none\n"
  pub nothing_after : (k : ℕ) → m + 1 < k → line_of r k ≡ []

pub record Listings : Type 0 where
  -- "an uncovered quote": any that the call gives for an uncovered question
  pub uncovered : (w : When) (q : List ℕ) (c : Brought) (qs : List ℕ) (cs : Offered) (work work' : List ℕ) → Question q qs → Catalogue c cs → Timely cs w
      → Leaves (usable_when w cs) qs cs → (r : Quote) → workspace ≤ length work
      → Settled blank (with_workspace (length work) (quote_when w q c)) (quote_told r) [] [] work work'
      → UncoveredListing r (masks_in (usable_when w cs) qs cs) (edges_of qs)
  -- "an output needs more bytes than were lent": 12 with the length of the line, and the buffer is untouched; else the whole line
  pub refuses : (q : Quote) (k : ℕ) (r : Told) (out out' : List ℕ) → FulfilsOne (line_outcome q k (length out)) r out out' → length out < length (line_of q k)
      → (r ≡ told 12 (length (line_of q k) ∷ [])) × (out' ≡ out)
  pub writes : (q : Quote) (k : ℕ) (r : Told) (out out' : List ℕ) → FulfilsOne (line_outcome q k (length out)) r out out' → length (line_of q k) ≤ length out
      → (r ≡ told 0 (length (line_of q k) ∷ [])) × (out' ≡ line_of q k ++ drop (length (line_of q k)) out)
  -- 4,096 bytes take every line
  pub longest : (q : Quote) (k : ℕ) → length (line_of q k) ≤ 4096

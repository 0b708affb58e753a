-- The lines of a quote's listing, byte for byte.
use Rattle.std.specs.Prelude.{ℕ, zero, suc, ◌+◌, ◌-◌, ◌*◌, ◌/◌, ◌%◌, ◌^◌, List, [], ◌∷◌, ◌++◌, get_or, eqb, ltb, Ok, Err}
use Prim.Native.Char.{code}
use Prim.Native.String.{String, [] as []ˢ, ◌∷◌ as ◌∷ˢ◌}
use Rattle.packed.specs.Format.{pick}
use Rattle.packed.specs.Refusals.{number_of, detail_of}
use Rattle.packed.specs.Calls.{Outcome, fit}
use Rattle.packed.specs.declared.reply.Refusal.{Refusal}
use Rattle.engine.specs.Simulation.{bit}
use Rattle.containment.specs.Quote.{CoverageReply}
use Rattle.containment.specs.declared.quote_type.Coverage.TheVariants as coverage-is
use Rattle.containment.specs.declared.quote_type.Quote.{Quote}

-- a number in decimal, if it has at most k digits
unfoldable pub digits : ℕ → ℕ → List ℕ
digits zero n = []
digits (suc k) n = pick (ltb n 10) ((48 + n) ∷ []) (digits k (n / 10) ++ ((48 + n % 10) ∷ []))

-- a number below 2 ^ 64 in decimal
unfoldable pub decimal : ℕ → List ℕ
decimal n = digits 20 n

-- a text in bytes
abbrev pub bytes : String → List ℕ
bytes []ˢ = []
bytes (c ∷ˢ s) = code c ∷ bytes s

-- the texts of the first n numbers, one after the other
unfoldable pub concat : (ℕ → List ℕ) → ℕ → List ℕ
concat f zero = []
concat f (suc n) = concat f n ++ f n

-- " a.b" where the mask of the view a has the edge b
unfoldable pub edge_text : ℕ → ℕ → ℕ → List ℕ
edge_text a mask b = pick (bit mask b) (bytes " " ++ (decimal a ++ (bytes "." ++ decimal b))) []

-- the same for all edges of the view a
unfoldable pub edges_text : ℕ → ℕ → List ℕ
edges_text a mask = concat (edge_text a mask) 32

-- the same for all edges of all views that match the edge e: its 16 masks, one for each view, stand in the table t
unfoldable pub views_text : List ℕ → ℕ → List ℕ
views_text t e = concat (λ a. edges_text a (get_or t (16 * e + a) 0)) 16

-- " a" where the set has the view a
unfoldable pub view_text : ℕ → ℕ → List ℕ
view_text set a = pick (bit set a) (bytes " " ++ decimal a) []

-- the same for all views
unfoldable pub chosen_text : ℕ → List ℕ
chosen_text set = concat (view_text set) 16

-- parts to the end of their line, or none
unfoldable pub or_none : List ℕ → List ℕ
or_none [] = bytes " none\n"
or_none (x ∷ xs) = (x ∷ xs) ++ bytes "\n"

-- the line of the edge e, by the table t
unfoldable pub link_line : List ℕ → ℕ → List ℕ
link_line t e = bytes "link " ++ (decimal e ++ (bytes " by" ++ or_none (views_text t e)))

-- the last line: the set has none of the sixteen views, or those that it has
unfoldable pub chosen_line : ℕ → List ℕ
chosen_line set = pick (eqb (set % 2 ^ 16) 0) (bytes "extracts none\n") (bytes "extracts" ++ (chosen_text set ++ bytes "\n"))

-- the one line of a refusal
unfoldable pub refused_line : Refusal → List ℕ
refused_line x = bytes "refused " ++ (decimal (number_of x) ++ (bytes " " ++ (decimal (detail_of x) ++ bytes "\n")))

-- the first line
abbrev pub first_line : CoverageReply → List ℕ
first_line (Ok coverage-is.Covered) = bytes "quote covered\n"
first_line (Ok coverage-is.Uncovered) = bytes "quote uncovered\n"
first_line (Err x) = refused_line x

-- how many lines follow the first: one for each of n edges and the last, or none
abbrev pub after : CoverageReply → ℕ → ℕ
after (Ok coverage-is.Covered) n = n + 1
after (Ok coverage-is.Uncovered) n = n + 1
after (Err x) n = 0

abbrev pub lines_after : Quote → ℕ
lines_after q = after q.coverage q.edges

-- line k of the listing: nothing beyond the last
unfoldable pub line_of : Quote → ℕ → List ℕ
line_of q k =
    pick (eqb k 0) (first_line q.coverage)
    (pick (ltb (lines_after q) k) []
    (pick (eqb k (lines_after q)) (chosen_line q.chosen) (link_line q.mapping (k - 1))))

-- what the call that writes line k answers: the whole line, or 12 and its length
unfoldable pub line_outcome : Quote → ℕ → ℕ → Outcome
line_outcome q k room = fit room (line_of q k)

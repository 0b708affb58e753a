-- inner: what matching a pattern leaves in the workspace, and the views of an accepted catalogue, one by value.
use Rattle.std.specs.Prelude.{ℕ, ◌+◌, ◌*◌, ◌<◌, ◌≤◌, ◌≡◌, Bool, cond, List, [], ◌∷◌, ◌++◌, length, drop, get_or, T}
use Rattle.packed.specs.Bits.{bits}
use Rattle.packed.specs.Format.{whole, got}
use Rattle.packed.specs.Formats.{pattern}
use Rattle.packed.specs.Contents.{word_kind, word_rank}
use Rattle.packed.specs.Plain.{PlainPattern, Whole}
use Rattle.packed.specs.ByValue.{HoldsPattern}
use Rattle.packed.specs.Reading.{from}
use Rattle.packed.specs.Matches.{matches_of}
use Rattle.packed.specs.Matches.{Marked as MarkedPairs}
use Rattle.packed.specs.declared.by_value.Pattern.{Pattern as Given}
use Rattle.engine.specs.Simulation.{bit, Rule, one_way, both_ways, ruled, sound, match_sets}
use Rattle.engine.specs.Loaded.{pattern_in, graph_in, Edges}
use Rattle.engine.specs.declared.views.View.{View}

-- the pattern has edges, and each node is an end of one
pub record Proper (p : Given) : Type 0 where
  pub some : 1 ≤ p.edges
  pub sound : T (sound (pattern_in p))

-- the m edges ascend, each once
abbrev pub Rises : ℕ → List ℕ → Type 0
Rises m w = (i j : ℕ) → i < j → j < m → word_rank (get_or w i 0) < word_rank (get_or w j 0)

-- the rule by which the code is asked to match: both ways or not
abbrev pub rule_of : Bool → Rule
rule_of both = cond both both_ways one_way

-- the m edges of the record s, at the front of the workspace, are marked with the edges of the pattern that list them, by the rule r
pub record EdgesMatched (r : Rule) (p : Given) (s : List ℕ) (n m : ℕ) (w w' : List ℕ) : Type 0 where
  pub edges : Edges w w'
  pub marked : MarkedPairs m w'
  pub sets : matches_of m p.edges w' ≡ match_sets (ruled r (pattern_in p)) (graph_in s n m w)
  pub only : (i e : ℕ) → i < m → e < 32 → T (bit (get_or w' (8192 + i) 0) e) → (e < p.edges) × (get_or p.kind e 0 ≡ word_kind (get_or w i 0))

-- a pattern with the content ws stands from a byte on, up to the bit offset end
pub record PatternAt (s : List ℕ) (byte : ℕ) (ws : List ℕ) (end : ℕ) : Type 0 where
  pub inside : byte ≤ length s
  pub within : end ≤ 8 * length s
  pub reads : from (whole pattern) s (8 * byte) ≡ got ws (drop end (bits s))

-- the pattern from a byte on, if one is there: its fields by value, and the byte after it
abbrev pub ViewAt : List ℕ → ℕ → View → Type 0
ViewAt s byte r = (ws : List ℕ) (end : ℕ) → PatternAt s byte ws end → HoldsPattern ws r.pattern × (8 * r.next ≡ end)

-- bits that are patterns with these contents, each up to a whole byte
pub data Follow : List Bool → List (List ℕ) → Type 0 where
  none_follow : Follow [] []
  next_follows : {bs rest : List Bool} {v : List ℕ} {vs : List (List ℕ)} → Whole PlainPattern v bs → Follow rest vs → Follow (bs ++ rest) (v ∷ vs)

-- the same from a byte on, which s reaches if there is one: an empty catalogue has no byte, and its views are looked for from byte 1 on
pub record Ahead (s : List ℕ) (byte : ℕ) (vs : List (List ℕ)) : Type 0 where
  pub inside : 0 < length vs → byte ≤ length s
  pub follow : Follow (drop (8 * byte) (bits s)) vs

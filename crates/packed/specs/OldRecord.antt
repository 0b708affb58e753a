-- Records as they were stored before their edges stood in a fixed order and had kinds, and the converter, which alone reads them.
use Rattle.std.specs.Prelude.{ℕ, ◌+◌, List, [], ◌++◌, take, drop}
use Rattle.packed.specs.Limits.{old_record_most, old_kind_width, nodes_most, edges_most, nodes_width, edges_width, node_width}
use Rattle.packed.specs.Format.{Format, done, then, times}
use Rattle.packed.specs.Formats.{count_field, edges, labels}
use Rattle.packed.specs.Bits.{bits}
use Rattle.packed.specs.Contents.{nodes_of, sorted_edges}
use Rattle.packed.specs.Plain.{Whole, PlainEdges, PlainGraph}
use Rattle.packed.specs.Calls.{Outcome, Verdict, read_file, judged, record_written}

-- nothing follows the edges
abbrev pub nothing : List ℕ → Format
nothing es = done

-- the numbers of nodes and edges, the labels, the edges in any order: each end is a node (4), a kind takes no bits and is 0, and no edge stands twice (5)
unfoldable pub old_record : Format
old_record =
    count_field nodes_width 0 nodes_most (λ nodes. count_field edges_width 0 edges_most (λ number.
    then (times nodes labels) (edges node_width old_kind_width nodes nothing number [])))

abbrev pub read_old_record : List ℕ → Verdict
read_old_record s = read_file old_record_most 3 old_record s

-- the content of the record that an old one with the content ws becomes: the same edges, of kind 0, ascending
unfoldable pub sorted_fields : List ℕ → List ℕ
sorted_fields ws = take (2 + nodes_of ws) ws ++ sorted_edges (drop (2 + nodes_of ws) ws)

-- "a converter sorts the files already stored, read by the old rules": what it answers for so much room
unfoldable pub record_sorted : List ℕ → ℕ → Outcome
record_sorted s room = judged (read_old_record s) (λ ws. record_written (sorted_fields ws) room)

-- ---- the rules of an old record said plainly: the one kind is 0, and no edge repeats an earlier one
abbrev pub OldRecordFile : List ℕ → List ℕ → Type 0
OldRecordFile s ws = Whole (PlainGraph 0 (PlainEdges 1)) ws (bits s)

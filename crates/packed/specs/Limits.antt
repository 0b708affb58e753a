-- The limits of the files, the widths of their fields and the places in the workspace, each in one line; the code has the same names in
-- src/limits.rt.
use Rattle.std.specs.Prelude.{ℕ, ◌*◌}

-- "the most bytes become 56 for a question, 897 for a catalogue, 44,036 for a record"; "a book, a lone sheet and an answer each have at most 65,536 bytes"
abbrev pub pattern_most : ℕ
pattern_most = 56

abbrev pub catalogue_most : ℕ
catalogue_most = 897

abbrev pub record_most : ℕ
record_most = 44036

abbrev pub book_most : ℕ
book_most = 65536

-- the most bytes of a record as it was stored before its edges stood in order and had kinds
abbrev pub old_record_most : ℕ
old_record_most = 40964

-- 10: "over 8,192 different pairs stand in a book"
abbrev pub pairs_most : ℕ
pairs_most = 8192

-- the most nodes and edges of a pattern, and views of a catalogue
abbrev pub pattern_nodes_most : ℕ
pattern_nodes_most = 16

abbrev pub pattern_edges_most : ℕ
pattern_edges_most = 32

abbrev pub views_most : ℕ
views_most = 16

-- "a client sends up to eight questions"
abbrev pub questions_most : ℕ
questions_most = 8

-- the most nodes and edges of a record, and pairs of a list
abbrev pub nodes_most : ℕ
nodes_most = 4096

abbrev pub edges_most : ℕ
edges_most = 8192

abbrev pub count_most : ℕ
count_most = 8192

-- how many kinds of edges there are, and how many bits a kind has: none in a record as it was stored before
abbrev pub kinds_most : ℕ
kinds_most = 8

abbrev pub kind_width : ℕ
kind_width = 3

abbrev pub old_kind_width : ℕ
old_kind_width = 0

-- how many bits the fields of a pattern have: its numbers of nodes and edges, a label, an end of an edge
abbrev pub pattern_nodes_width : ℕ
pattern_nodes_width = 5

abbrev pub pattern_edges_width : ℕ
pattern_edges_width = 6

abbrev pub label_width : ℕ
label_width = 5

abbrev pub end_width : ℕ
end_width = 4

-- the number of views of a catalogue
abbrev pub views_width : ℕ
views_width = 5

-- how many bits the fields of a record have: its numbers of nodes and edges, the labels of a node, a node's number
abbrev pub nodes_width : ℕ
nodes_width = 13

abbrev pub edges_width : ℕ
edges_width = 14

abbrev pub labels_width : ℕ
labels_width = 32

abbrev pub node_width : ℕ
node_width = 12

-- the lead of a sheet, the count of a list, and a pair, which is two nodes
abbrev pub lead_width : ℕ
lead_width = 1

abbrev pub count_width : ℕ
count_width = 14

abbrev pub pair_width : ℕ
pair_width = 2 * node_width

-- the words that every call is lent to work in ("work words")
abbrev pub workspace : ℕ
workspace = 16384

-- where codes wait in the workspace that are not yet among the different ones, and the most of them
abbrev pub chunk_place : ℕ
chunk_place = 8192

abbrev pub chunk_most : ℕ
chunk_most = 4096

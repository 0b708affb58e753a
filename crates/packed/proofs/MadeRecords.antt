-- A record with given parts: its content is written, and read back.
use Prim.Native.Nat.{ℕ, ◌+◌, ◌*◌, ◌/◌, ◌^◌, ◌≤◌}
use mathlib.Core.Path.{◌≡◌, refl, sym, ap, subst}
use mathlib.Core.List.{List, ◌∷◌, ◌++◌}
use mathlib.Core.Bool.{Bool}
use lib.ListN.{length, length-append}
use native.Mathlib.Omega.{arith}
use Rattle.packed.specs.Bits.{bits_of}
use Rattle.packed.specs.Format.{ok, decode, encode}
use Rattle.packed.specs.Formats.{record'}
use Rattle.packed.specs.Plain.{Below, field_bits, edge_bits, PlainRising, PlainRecord}
use Rattle.packed.specs.Calls.{bytes_in, record_bytes}
use Rattle.packed.proofs.BitsLaws.{length_bits_of}
use Rattle.packed.proofs.RoundTrip.{Bytes}
use Rattle.packed.proofs.AcceptedGraphs.{accepts_record}
use Rattle.packed.proofs.Accepted.{plain_written, written_accepted}
use Rattle.packed.proofs.GraphLaws.{fields_length, edges_length}

-- a content that is written and read back
pub record Made (most : ℕ) (fs : List ℕ) : Type 0 where
  pub is : encode record' fs ≡ ok (record_bytes fs)
  pub back : decode record' (record_bytes fs) ≡ ok fs
  pub small : Bytes (record_bytes fs)
  pub size : length (record_bytes fs) ≤ most

bytes_are : (fs bytes : List ℕ) → encode record' fs ≡ ok bytes → record_bytes fs ≡ bytes
unfolding record_bytes
bytes_are fs bytes e = ap bytes_in e

module _ (nodes number : ℕ) (labels es : List ℕ) (few : nodes ≤ 4096) (few_edges : number ≤ 8192) (each : length labels ≡ nodes) (are : Below (2 ^ 32) labels)
    (edges : PlainRising 8 nodes number es) where
  abbrev all : List ℕ
  all = nodes ∷ number ∷ (labels ++ es)

  abbrev body : List Bool
  body = bits_of 13 nodes ++ (bits_of 14 number ++ (field_bits 32 labels ++ edge_bits 12 3 es))

  body_length : length body ≡ 27 + 32 * nodes + 27 * number
  body_length =
      let a = length-append (bits_of 13 nodes) (bits_of 14 number ++ (field_bits 32 labels ++ edge_bits 12 3 es)) in
      let b = length-append (bits_of 14 number) (field_bits 32 labels ++ edge_bits 12 3 es) in
      let c = length-append (field_bits 32 labels) (edge_bits 12 3 es) in
      omega (arith, length_bits_of 13 nodes, length_bits_of 14 number, fields_length 32 labels, edges_length 12 3 27 refl number es edges.among.three_each)

  plain : PlainRecord all body
  plain =
      record {
        nodes = nodes;
        number = number;
        labels = labels;
        es = es;
        content = refl;
        layout = refl;
        most_nodes = few;
        most_edges = few_edges;
        labels_each = each;
        are_labels = are;
        edges = edges;
      }

  writes : (s : List ℕ) × (encode record' all ≡ ok s) × (length s ≡ (length body + 7) / 8)
  writes = plain_written record' (accepts_record 0) all body plain

  bytes_written : record_bytes all ≡ writes.0
  bytes_written = bytes_are all writes.0 writes.1

  pub record_length_lem : length (record_bytes all) ≡ (34 + 32 * nodes + 27 * number) / 8
  record_length_lem = rw bytes_written (omega (arith, writes.2, body_length))

  pub record_made : Made ((34 + 32 * nodes + 27 * number) / 8) all
  record_made =
      let w = (written_accepted record' all writes.0).0 writes.1 in
      record { is = rw bytes_written writes.1; back = rw bytes_written w.1; small = subst Bytes (sym bytes_written) w.0; size = omega (arith, record_length_lem) }

pub made_within : {a b : ℕ} {fs : List ℕ} → a ≤ b → Made a fs → Made b fs
made_within h m = record { is = m.is; back = m.back; small = m.small; size = omega (arith, m.size) }

-- The query read as a record, in the bytes that were lent.
use Prim.Native.Nat.{ℕ, ◌-◌, ◌≤◌}
use mathlib.Core.Path.{◌≡◌, sym, ap, ◌∙◌}
use mathlib.Core.List.{List}
use lib.ListN.{length, take, drop, length-take}
use lib.Seq.{take_at}
use native.Mathlib.Omega.{arith}
use native.Mathlib.Nat.{sub-zero}
use Rattle.packed.specs.Format.{ok, decode}
use Rattle.packed.specs.Formats.{record'}
use Rattle.packed.specs.Calls.{rejected, read_record, record_bytes}
use Rattle.packed.specs.declared.by_value.Pattern.{Pattern as Given}
use Rattle.packed.proofs.Sets.{sets_front}
use Rattle.packed.proofs.CallLaws.{read_finds, accepted_by}
use Rattle.containment.specs.Show.{graph_fields}
use Rattle.containment.specs.Steps.{Query, Graphed, shown_fields}
use Rattle.containment.proofs.QueryLaws.{few_edges, shown_whole, shown_made}

module _ {p : Given} (t : Query p) {r : ℕ} {out out' : List ℕ} (g : Graphed t.content 32 r out out') where
  pub graphed_size : r ≤ 176
  graphed_size = omega (arith, g.number, (shown_made t 32).size)

  graphed_bytes : length out ≡ 176 → take (r - 0) (drop 0 out') ≡ record_bytes (shown_fields t.content 32)
  graphed_bytes l =
      let b : List ℕ = record_bytes (shown_fields t.content 32) in
      ap (λ (n : ℕ). take n out') (sub-zero r)
      ∙ ap (take r) (g.front ∙ sets_front out b (omega (arith, g.number, graphed_size)))
      ∙ take_at b (drop (length b) out) r (sym g.number)

  pub graphed_reads : length out ≡ 176 → decode record' (take (r - 0) (drop 0 out')) ≡ ok (graph_fields t.content)
  graphed_reads l = ap (decode record') (graphed_bytes l) ∙ (shown_made t 32).back ∙ ap ok (shown_whole t 32 (few_edges t))

  -- so it is not refused
  pub graphed_taken : {A : Type 0} {n d : ℕ} → length out ≡ 176 → read_record (take (r - 0) (drop 0 out')) ≡ rejected n d → A
  graphed_taken l e =
      let b : List ℕ = take (r - 0) (drop 0 out') in
      let h : length b ≤ 44036 = simp length-take (omega (arith, graphed_size)) in
      absurd (let q = accepted_by (read_finds 44036 3 record' b h) (graphed_reads l) in let z : ◌≡◌ {A = ℕ} 0 1 = cc in omega arith)

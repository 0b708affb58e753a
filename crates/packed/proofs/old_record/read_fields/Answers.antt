-- `packed::old_record::read_fields` meets its contract.
use mathlib.Core.Path.{ap, ◌∙◌}
use Prim.Native.Nat.{ℕ, ◌+◌, ◌*◌}
use Rattle.packed.proofs.ReadingLaws.{refused, calls_refused}
use Rattle.packed.proofs.OldGraphLaws.{loaded_same}
use Rattle.packed.proofs.OldLoadingLaws.{old_is, old_nodes, old_number, old_labels, loads_stopped, loads_tail}
use Rattle.packed.proofs.old_record.read_fields.Goals as goal

pub returns-in-Err : goal.returns-in-Err
returns-in-Err c =
    let read-field = c.read_field-f in
    let p = rw c.in-Err.is at read-field.ensures in
    (loads_stopped _ c.stopped.ensures.1 c.stopped.ensures.0 (rw old_is (p _)), rw c.stopped.ensures.0 tt)

pub returns-in-Err-g : goal.returns-in-Err-g
returns-in-Err-g c =
    let read-field = c.read_field-f in
    let read-field2 = c.read_field-g in
    let p = rw c.in-Ok.is at read-field.ensures in
    let q = rw c.in-Err-g.is at read-field2.ensures in
    (loads_stopped _ c.stopped-in-Err-g.ensures.1 c.stopped-in-Err-g.ensures.0 (refused (old_nodes p) (q _)), rw c.stopped-in-Err-g.ensures.0 tt)

pub returns-in-Ok-p : goal.returns-in-Ok-p
returns-in-Ok-p c =
    let args = c.args in
    let read-field = c.read_field-f in
    let read-field2 = c.read_field-g in
    let read-labels = c.read_labels-p in
    let read-edges = c.read_edges in
    let p = rw c.in-Ok.is at read-field.ensures in
    let q = rw c.in-Ok-g.is at read-field2.ensures in
    let r = rw c.in-Ok-p.is at read-labels.ensures.0 in
    let d = rw c.in-Ok-p.is at read-labels.ensures.1 in
    let a = c.args in
    let k = c.read_edges in
    (loads_tail (old_labels p q r) k.ensures.0, loaded_same a.s.now a.work.now k.result.part k.result.edges k.new.work (d ∙ ap (λ (n : ℕ). 27 + 32 * n) p.is) q.is k.ensures.1)

pub returns-in-Err-p : goal.returns-in-Err-p
returns-in-Err-p c =
    let read-field = c.read_field-f in
    let read-field2 = c.read_field-g in
    let read-labels = c.read_labels-p in
    let p = rw c.in-Ok.is at read-field.ensures in
    let q = rw c.in-Ok-g.is at read-field2.ensures in
    let r = rw c.in-Err-p.is at read-labels.ensures.0 in
    (loads_stopped _ c.stopped-in-Err-p.ensures.1 c.stopped-in-Err-p.ensures.0 (calls_refused _ _ (old_number p q) r), rw c.stopped-in-Err-p.ensures.0 tt)

-- `containment::mapping::note_batch` meets its contract.
use Prim.Native.Nat.{ℕ, ◌<◌}
use mathlib.Core.Path.{ap, ◌∙◌}
use lib.ListN.{get_or}
use native.Mathlib.Omega.{arith}
use Rattle.packed.proofs.MatchLaws.{sum_next}
use Rattle.containment.specs.Steps.{noted_mask}
use Rattle.containment.proofs.MappingLaws.{column_map, columns_more, columns_end, columns_clear}
use Rattle.containment.proofs.NotingLaws.{bits_fit}
use Rattle.containment.proofs.mapping.note_batch.Goals as goal

pub note_view-requires : goal.note_view-requires
note_view-requires c =
    let pre = c.requires in
    let l = c.loop-j in
    let cs = l.invariant.1 pre.0.0 pre.0.1 in
    let few : l.j < 16 = omega (arith, c.loop-j-test.true, pre.2) in (
      few,
      pre.3,
      bits_fit c.args.a l.j c.args.next c.args.counts l.at l.invariant.0 c.loop-j-test.true pre.4,
      cs.long ∙ pre.5,
      pre.6,
      pre.7,
      columns_clear cs few (λ e. pre.8 l.j e l.auto.j few),
    )

pub overflow_add-at : goal.overflow_add-at
overflow_add-at c =
    let l = c.loop-j in
    omega (arith, bits_fit c.args.a l.j c.args.next c.args.counts l.at l.invariant.0 c.loop-j-test.true c.requires.4)

pub loop-j-preserved : goal.loop-j-preserved
loop-j-preserved c =
    let a = c.args in
    let l = c.loop-j in
    let i = l.invariant in (
      omega (arith, i.0, sum_next l.j a.counts),
      λ d x. columns_more (i.1 d x) l.auto.j (omega (arith, c.loop-j-test.true, c.requires.2))
          (column_map (λ e y h z o s. z ∙ ap (λ (b : ℕ). noted_mask b (get_or a.counts l.j 0) d a.work.now (get_or a.places.now e 0)) (omega (arith, i.0, s))) (c.note_view.ensures d x)),
    )

pub returns : goal.returns
returns c = λ d x. columns_end c.loop-j.j c.args.next (c.loop-j.invariant.1 d x) (omega arith)

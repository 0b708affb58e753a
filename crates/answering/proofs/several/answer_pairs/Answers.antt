-- `answering::several::answer_pairs` meets its contract.
use Prim.Native.Nat.{◌+◌, ◌-◌}
use mathlib.Core.Path.{◌≡◌, refl}
use native.Mathlib.Omega.{arith}
use Rattle.answering.specs.SeveralSteps.{answers_of}
use Rattle.answering.proofs.SeveralAnswers.{answerable_keep, several_tight, several_given, last_within, rest_writable, all_written}
use Rattle.answering.proofs.several.answer_pairs.Goals as goal

pub returns-then-out-total : goal.returns-then-out-total
returns-then-out-total c =
    λ x. several_tight {o = answers_of x} (c.measure-s.ensures x) c.args.out.now c.args.sheets c.if-out-total.true

pub overflow_sub-at : goal.overflow_sub-at
overflow_sub-at c =
    let i = c.args.a.number - 1 in
    let l : c.args.a.number ≡ i + 1 = omega (arith, c.requires.0) in
    let z = last_within {o = answers_of c.requires.1} (c.measure-s.ensures c.requires.1) c.args.out.now c.if-out-total.false i l refl in
    omega arith

pub write_answers-requires : goal.write_answers-requires
write_answers-requires c =
    let pre = c.requires in
    let m = c.measure-s.ensures pre.1 in
    (answerable_keep pre.1 m.edges, rest_writable {o = answers_of pre.1} m c.args.out.now c.if-out-total.false (c.args.a.number - 1) (omega (arith, pre.0)) refl c.write_sheet.ensures)

pub returns : goal.returns
returns c =
    let args = c.args in
    let i = args.a.number - 1 in
    let l : args.a.number ≡ i + 1 = omega (arith, c.requires.0) in
    λ x.
    let m = c.measure-s.ensures x in
    several_given {o = answers_of x} m args.out.now c.if-out-total.false args.sheets
    (all_written {o = answers_of x} m args.out.now c.if-out-total.false i l refl c.write_sheet.ensures
    (c.write_answers.ensures (answerable_keep x m.edges) (rest_writable {o = answers_of x} m args.out.now c.if-out-total.false i l refl c.write_sheet.ensures)))

-- `packed::catalogue::read_patterns` meets its contract.
use borrow.Author.Rules.{rules}
use mathlib.Core.Path.{◌≡◌, ap, ◌∙◌}
use native.Mathlib.Omega.{arith}
use Prim.Native.Nat.{ℕ, ◌-◌}
use Rattle.packed.specs.Format.{times, whole}
use Rattle.packed.specs.Formats.{pattern}
use Rattle.packed.proofs.Counted.{one_less}
use Rattle.packed.proofs.Passing.{err_is}
use Rattle.packed.proofs.RoundTrip.{times_zero}
use Rattle.packed.proofs.ReadingLaws.{left_is}
use Rattle.packed.proofs.Times.{reads_part, part_refused}
use Rattle.packed.proofs.catalogue.read_patterns.Goals as goal

pub returns-in_err-next : goal.returns-in_err-next
returns-in_err-next c =
    let l = c.loop in
    rw (err_is c.from_residual.result c.from_residual.ensures.1) (part_refused (c.args.number - c.loop.counter) (omega arith) l.invariant.2 c.in_err-next.ensures)

pub loop-preserved : goal.loop-preserved
loop-preserved c =
    let l = c.loop in
    let p = c.in_ok-next.ensures in
    (omega arith, search rules, rw (← one_less c.args.number c.loop.counter) (reads_part (c.args.number - c.loop.counter) (omega arith) l.invariant.2 p.0))

pub returns : goal.returns
returns c =
    let l = c.loop in
    let q : (c.args.number - c.loop.counter) ≡ 0 = omega arith in
    (left_is (ap (λ (n : ℕ). times n (whole pattern)) q ∙ times_zero (whole pattern)) l.invariant.2, omega arith)

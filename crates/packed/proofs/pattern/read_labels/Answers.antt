-- `packed::pattern::read_labels` meets its contract.
use borrow.Author.Rules.{rules}
use mathlib.Core.Path.{◌≡◌, ap, ◌∙◌}
use native.Mathlib.Omega.{arith}
use Prim.Native.Nat.{ℕ, ◌-◌}
use Rattle.packed.specs.Format.{times}
use Rattle.packed.specs.Formats.{label}
use Rattle.packed.proofs.Counted.{one_less}
use Rattle.packed.proofs.Passing.{err_is}
use Rattle.packed.proofs.RoundTrip.{times_zero}
use Rattle.packed.proofs.ReadingLaws.{left_is}
use Rattle.packed.proofs.Times.{reads_one, one_refused}
use Rattle.packed.proofs.Patterns.{label_is}
use Rattle.packed.proofs.pattern.read_labels.Goals as goal

pub loop-preserved : goal.loop-preserved
loop-preserved c =
    let l = c.loop in
    let p = c.in_ok-read_field.ensures in
    (omega arith, search rules, rw (← one_less c.args.n c.loop.counter) (reads_one (c.args.n - c.loop.counter) (omega arith) l.invariant.2 label_is p))

pub returns-in_err-read_field : goal.returns-in_err-read_field
returns-in_err-read_field c =
    let l = c.loop in
    let p = c.in_err-read_field.ensures in
    rw (err_is c.from_residual.result c.from_residual.ensures.1) (one_refused (c.args.n - c.loop.counter) (omega arith) l.invariant.2 label_is p)

pub returns : goal.returns
returns c =
    let l = c.loop in
    let q : (c.args.n - c.loop.counter) ≡ 0 = omega arith in
    (left_is (ap (λ (n : ℕ). times n label) q ∙ times_zero label) l.invariant.2, omega arith)

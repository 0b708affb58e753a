-- `packed::sheet::write_pairs` meets its contract.
use mathlib.Core.Path.{ap}
use Prim.Native.Nat.{ℕ, ◌+◌, ◌-◌, ◌*◌}
use Rattle.packed.specs.Formats.{pairs}
use native.Mathlib.Omega.{arith}
use Rattle.packed.proofs.Passing.{err_is}
use Rattle.packed.proofs.WritingLaws.{left_to}
use Rattle.packed.proofs.Sheets.{pairs_end, pair_accepted, pair_denied, pair_rejected}
use Rattle.packed.proofs.sheet.write_pairs.Goals as goal

pub returns-then-code-least : goal.returns-then-code-least
returns-then-code-least c =
    let loop-test = c.loop-test in
    let l = c.loop in
    let p = c.in_ok-a.ensures in
    pair_denied (c.args.n - c.loop.counter) l.least (omega (arith, loop-test)) l.invariant.2 p (omega (arith, c.if-code-least))

pub loop-preserved : goal.loop-preserved
loop-preserved c =
    let loop-test = c.loop-test in
    let l = c.loop in
    let p = c.in_ok-a.ensures in
    (omega (arith, l.invariant.0, loop-test), omega (arith, l.invariant.1, c.write_pair.auto), left_to (ap (λ (m : ℕ). pairs m (c.in_ok-a.a * 4096 + c.in_ok-a.b + 1)) (omega arith)) (pair_accepted (c.args.n - c.loop.counter) l.least (omega (arith, loop-test)) l.invariant.2 p (omega (arith, c.if-code-least))))

pub returns-in_err-a : goal.returns-in_err-a
returns-in_err-a c =
    let loop-test = c.loop-test in
    let l = c.loop in
    let p = c.in_err-a.ensures in
    rw (err_is c.from_residual.result c.from_residual.ensures.1) (pair_rejected (c.args.n - c.loop.counter) l.least (omega (arith, loop-test)) l.invariant.2 p)

pub returns : goal.returns
returns c =
    let l = c.loop in
    (left_to (pairs_end (c.args.n - c.loop.counter) l.least (omega (arith, c.loop-test))) l.invariant.2, omega (arith, l.invariant.0))

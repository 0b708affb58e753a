-- `packed::sheet::read_pairs` meets its contract.
use borrow.Author.Rules.{rules}
use mathlib.Core.Path.{ap}
use Prim.Native.Nat.{ℕ, ◌+◌, ◌-◌, ◌*◌}
use Rattle.packed.specs.Formats.{pairs}
use native.Mathlib.Omega.{arith}
use Rattle.packed.proofs.Passing.{err_is}
use Rattle.packed.proofs.ReadingLaws.{left_is}
use Rattle.packed.proofs.Sheets.{pairs_end, pair_passes, pair_falls, pair_refused}
use Rattle.packed.proofs.sheet.read_pairs.Goals as goal

pub returns-then-code-least : goal.returns-then-code-least
returns-then-code-least c =
    let loop-test = c.loop-test in
    let l = c.loop in
    let p = c.in_ok-a.ensures in
    pair_falls (c.args.n - c.loop.counter) l.least (omega (arith, loop-test)) l.invariant.1 p (omega (arith, c.if-code-least))

pub loop-preserved : goal.loop-preserved
loop-preserved c =
    let l = c.loop in
    let p = c.in_ok-a.ensures in
    (search rules, left_is (ap (λ (m : ℕ). pairs m (c.in_ok-a.a * 4096 + c.in_ok-a.b + 1)) (omega arith)) (pair_passes (c.args.n - c.loop.counter) l.least (omega (arith, c.loop-test)) l.invariant.1 p (omega (arith, c.if-code-least))))

pub returns-in_err-a : goal.returns-in_err-a
returns-in_err-a c =
    let loop-test = c.loop-test in
    let l = c.loop in
    let p = c.in_err-a.ensures in
    rw (err_is c.from_residual.result c.from_residual.ensures.1) (pair_refused (c.args.n - c.loop.counter) l.least (omega (arith, loop-test)) l.invariant.1 p)

pub returns : goal.returns
returns c =
    let l = c.loop in
    left_is (pairs_end (c.args.n - c.loop.counter) l.least (omega (arith, c.loop-test))) l.invariant.1

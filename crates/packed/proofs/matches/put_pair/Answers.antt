-- `packed::matches::put_pair` meets its contract.
use Prim.Native.Nat.{◌+◌}
use native.Mathlib.Omega.{arith}
use lib.Count.{count_trailing_zeros}
use Rattle.packed.proofs.SetBits.{next_bit}
use Rattle.packed.proofs.ScatterLaws.{putting_start, putting_next, putting_end}
use Rattle.packed.proofs.matches.put_pair.Goals as goal

pub loop-left-init : goal.loop-left-init
loop-left-init c = putting_start _ _ _ _

pub bounds-places-e : goal.bounds-places-e
bounds-places-e c =
    let s = next_bit c.args.x c.loop-left.k c.loop-left.left (omega arith) c.loop-left.invariant.rest c.loop-left-test.true in
    omega (arith, s.inside, c.loop-left.invariant.long, c.requires.1)

pub bounds-places-e-in-loop-left : goal.bounds-places-e-in-loop-left
bounds-places-e-in-loop-left c =
    let s = next_bit c.args.x c.loop-left.k c.loop-left.left (omega arith) c.loop-left.invariant.rest c.loop-left-test.true in
    omega (arith, s.inside, c.loop-left.invariant.long, c.requires.1)

pub overflow_add-places : goal.overflow_add-places
overflow_add-places c =
    let s = next_bit c.args.x c.loop-left.k c.loop-left.left (omega arith) c.loop-left.invariant.rest c.loop-left-test.true in
    let e = c.loop-left.k + count_trailing_zeros 32 c.loop-left.left in
    omega (arith, c.requires.2 e s.inside, c.loop-left.invariant.ahead e (omega arith))

pub bounds-places-e-in-loop-left-2 : goal.bounds-places-e-in-loop-left-2
bounds-places-e-in-loop-left-2 c =
    let s = next_bit c.args.x c.loop-left.k c.loop-left.left (omega arith) c.loop-left.invariant.rest c.loop-left-test.true in
    omega (arith, s.inside, c.loop-left.invariant.long, c.requires.1)

pub loop-left-preserved : goal.loop-left-preserved
loop-left-preserved c =
    let s = next_bit c.args.x c.loop-left.k c.loop-left.left (omega arith) c.loop-left.invariant.rest c.loop-left-test.true in
    putting_next (count_trailing_zeros 32 c.loop-left.left) _ c.loop-left.invariant c.requires.1 s (omega (arith, c.put_three.auto)) c.put_three.ensures

pub returns : goal.returns
returns c = putting_end c.loop-left.invariant (omega (arith, c.loop-left-test.false))

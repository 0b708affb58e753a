-- `packed::matches::add_bits` meets its contract.
use mathlib.Core.Path.{sym}
use native.Mathlib.Omega.{arith}
use native.Mathlib.Nat.{div-one}
use lib.Count.{count_trailing_zeros}
use Rattle.packed.proofs.SetBits.{next_bit}
use Rattle.packed.proofs.MatchLaws.{adding_start, adding_next, adding_end}
use Rattle.packed.proofs.matches.add_bits.Goals as goal

pub loop-left-init : goal.loop-left-init
loop-left-init c = (adding_start _ _, sym (div-one _))

pub bounds-c-e : goal.bounds-c-e
bounds-c-e c =
    let s = next_bit c.args.x c.loop-left.k c.loop-left.left (omega arith) c.loop-left.invariant.1 c.loop-left-test.true in
    omega (arith, s.inside, c.loop-left.invariant.0.long, c.requires.0)

pub bounds-c-e-in-loop-left : goal.bounds-c-e-in-loop-left
bounds-c-e-in-loop-left c =
    let s = next_bit c.args.x c.loop-left.k c.loop-left.left (omega arith) c.loop-left.invariant.1 c.loop-left-test.true in
    omega (arith, s.inside, c.loop-left.invariant.0.long, c.requires.0)

pub loop-left-preserved : goal.loop-left-preserved
loop-left-preserved c =
    let s = next_bit c.args.x c.loop-left.k c.loop-left.left (omega arith) c.loop-left.invariant.1 c.loop-left-test.true in
    (adding_next (count_trailing_zeros 32 c.loop-left.left) c.loop-left.invariant.0 c.requires.0 s, s.rest)

pub returns : goal.returns
returns c = adding_end c.loop-left.invariant.0 c.loop-left.invariant.1 (omega (arith, c.loop-left-test.false))

-- `packed::matches::write_counts` meets its contract.
use mathlib.Core.Path.{◌≡◌, refl}
use native.Mathlib.Omega.{arith}
use Rattle.packed.proofs.ScatterLaws.{counts_begin, counts_bound, counts_put}
use Rattle.packed.proofs.matches.write_counts.Goals as goal

pub loop-e-init : goal.loop-e-init
loop-e-init c = (omega arith, refl, counts_begin _ _ _ c.requires.2)

pub put_bits-requires : goal.put_bits-requires
put_bits-requires c = (omega arith, omega (arith, counts_bound c.loop-e.invariant.2 c.requires.1), omega (arith, c.requires.1 c.loop-e.e))

pub overflow_add-places : goal.overflow_add-places
overflow_add-places c =
    let pre = c.requires in
    let loop = c.loop-e in
    omega (arith, counts_bound loop.invariant.2 pre.1)

pub bounds-places-e : goal.bounds-places-e
bounds-places-e c =
    let pre = c.requires in
    let loop = c.loop-e in
    omega (arith, loop.invariant.2.long, pre.0)

pub overflow_add-at-in-loop-e : goal.overflow_add-at-in-loop-e
overflow_add-at-in-loop-e c =
    let pre = c.requires in
    let loop = c.loop-e in
    omega (arith, pre.1 loop.e, counts_bound loop.invariant.2 pre.1)

pub loop-e-preserved : goal.loop-e-preserved
loop-e-preserved c = (omega arith, omega (arith, c.put_bits.auto, c.loop-e.invariant.1), counts_put _ c.loop-e.invariant.2 (omega (arith, c.requires.0)) c.requires.1 c.put_bits.ensures)

pub returns : goal.returns
returns c =
    let e : c.loop-e.e ≡ c.args.m = omega arith in
    rw (← e) c.loop-e.invariant.2

-- `packed::matches::counts` meets its contract.
use mathlib.Core.Path.{◌≡◌, refl}
use native.Mathlib.Omega.{arith}
use Rattle.packed.proofs.MatchLaws.{counts_start, counts_next, counts_most, counts_few}
use Rattle.packed.proofs.matches.counts.Goals as goal

pub loop-i-init : goal.loop-i-init
loop-i-init c = (omega arith, counts_start _ _ refl)

pub add_bits-requires : goal.add_bits-requires
add_bits-requires c =
    let pre = c.requires in
    let loop = c.loop-i in
    let loop-test = c.loop-i-test in
    let t = loop.invariant.1 in
    (t.long, λ e l. (let q = counts_most _ _ _ t e l in omega (arith, loop-test.true, pre.0)))

pub loop-i-preserved : goal.loop-i-preserved
loop-i-preserved c = (omega arith, counts_next _ _ _ _ c.loop-i.invariant.1 (omega arith) c.add_bits.ensures)

pub returns : goal.returns
returns c =
    let e : c.loop-i.i ≡ c.args.n = omega arith in
    let t = c.loop-i.invariant.1 in
    (rw (← e) t, counts_few _ _ _ t (omega (arith, c.requires.0)))

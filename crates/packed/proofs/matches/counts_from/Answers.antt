-- `packed::matches::counts_from` meets its contract.
use mathlib.Core.Path.{◌≡◌, refl}
use native.Mathlib.Omega.{arith}
use Rattle.packed.proofs.MatchLaws.{part_start, part_next}
use Rattle.packed.proofs.matches.counts_from.Goals as goal

pub loop-e-init : goal.loop-e-init
loop-e-init c = (omega arith, part_start _ _ _ refl)

pub loop-e-preserved : goal.loop-e-preserved
loop-e-preserved c = (omega arith, part_next c.loop-e.invariant.1 (omega arith))

pub returns : goal.returns
returns c =
    let e : c.loop-e.e ≡ c.args.m = omega arith in
    rw (← e) c.loop-e.invariant.1

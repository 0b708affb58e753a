-- `engine::sweeps::round` meets its contract.
use Rattle.engine.proofs.RoundLaws.{round_fixed, round_once}
use native.Mathlib.Omega.{arith}
use Rattle.engine.proofs.sweeps.round.Goals as goal

pub returns : goal.returns
returns c =
    let pre = c.requires in
    let sweep = c.sweep in
    let settle = c.settle in
    (round_fixed pre sweep.ensures settle.ensures _ _, round_once pre sweep.ensures settle.ensures (omega (arith, c.ranges)))

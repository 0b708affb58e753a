-- `engine::sweeps::fix` meets its contract.
use native.Mathlib.Omega.{arith}
use Rattle.engine.proofs.RoundLaws.{fixed_then, fixed_told}
use Rattle.engine.proofs.sweeps.fix.Goals as goal

pub returns-then-lost-eq0 : goal.returns-then-lost-eq0
returns-then-lost-eq0 c =
    let loop = c.loop in
    let round-both = c.round_both-lost in
    fixed_told (fixed_then loop.invariant round-both.ensures) 0 (λ z. c.if-lost-eq0.true)

pub loop-preserved : goal.loop-preserved
loop-preserved c =
    let loop = c.loop in
    let round-both = c.round_both-lost in
    fixed_told (fixed_then loop.invariant round-both.ensures) 1 (λ z. absurd (omega arith))

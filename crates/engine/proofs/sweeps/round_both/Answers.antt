-- `engine::sweeps::round_both` meets its contract.
use native.Mathlib.Omega.{arith}
use Rattle.engine.proofs.RoundLaws.{fixed_tables, fixed_prepared, both_fixed, forward_fixed}
use Rattle.engine.proofs.sweeps.round_both.Goals as goal

pub returns-then-rule-eq0 : goal.returns-then-rule-eq0
returns-then-rule-eq0 c =
    let round = c.round-lost in
    forward_fixed (fixed_tables round.ensures.0 _ _) c.if-rule-eq0.true

pub round_back-more-requires : goal.round_back-more-requires
round_back-more-requires c =
    let pre = c.requires in
    let round = c.round-lost in
    fixed_prepared round.ensures.0 (pre)

pub returns : goal.returns
returns c =
    let fits = c.ranges in
    let round = c.round-lost in
    let if1 = c.if-rule-eq0 in
    let round-back = c.round_back-more in
    both_fixed (fixed_tables round.ensures.0 _ _) round-back.ensures (omega (arith, fits)) if1.false

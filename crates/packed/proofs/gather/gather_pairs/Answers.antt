-- `packed::gather::gather_pairs` meets its contract.
use native.Mathlib.Omega.{arith}
use Rattle.packed.proofs.Walks.{codes_start, codes_none, codes_more}
use Rattle.packed.proofs.Gathering.{walked_more, walked_end}
use Rattle.packed.proofs.gather.gather_pairs.Goals as goal

pub loop-i-preserved : goal.loop-i-preserved
loop-i-preserved c = (walked_more _ _ _ _ c.loop-i.invariant.0 (codes_more _ _ _ _ _ c.loop-i-test.true c.pair_at-code.ensures.0) c.push-sofar.ensures, omega arith)

pub returns : goal.returns
returns c = rw (← codes_start) (walked_end c.loop-i.invariant.0 (codes_none _ _ _ _ c.loop-i-test.false))

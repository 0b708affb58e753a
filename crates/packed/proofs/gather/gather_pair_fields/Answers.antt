-- `packed::gather::gather_pair_fields` meets its contract.
use Prim.Native.Nat.{◌-◌}
use native.Mathlib.Omega.{arith}
use Rattle.packed.proofs.Counted.{one_less}
use Rattle.packed.proofs.Walks.{codes_from_none, codes_from_more}
use Rattle.packed.proofs.Gathering.{walked_more, walked_end}
use Rattle.packed.proofs.gather.gather_pair_fields.Goals as goal

pub loop-preserved : goal.loop-preserved
loop-preserved c =
    let l = c.loop in
    let more = codes_from_more _ _ (c.args.n - l.counter) _ _ (omega arith) c.low_at-a.ensures.0 c.low_at-b.ensures.0 in
    (rw (← one_less c.args.n l.counter) (walked_more _ _ _ _ l.invariant.0 more c.push-sofar.ensures), omega (arith, l.invariant.1))

pub returns : goal.returns
returns c = walked_end c.loop.invariant.0 (codes_from_none _ _ _ (omega arith))

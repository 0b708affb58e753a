-- `packed::catalogue::edge_counts` meets its contract.
use native.Mathlib.Omega.{arith}
use Rattle.packed.proofs.EdgeCounts.{counting_goes_on, counting_ends}
use Rattle.packed.proofs.catalogue.edge_counts.Goals as goal

pub loop-j-preserved : goal.loop-j-preserved
loop-j-preserved c =
    let l = c.loop-j in
    let m = c.within-j-end.ensures in
    (omega arith, omega arith, omega arith, counting_goes_on _ _ _ _ _ _ _ (omega (arith, m)) (omega (arith, m)) c.word_at-nodes.ensures c.word_at-number-in-loop-j.ensures l.invariant.3)

pub returns : goal.returns
returns c =
    let l = c.loop-j in
    counting_ends _ _ _ _ _ c.word_at-number.ensures l.invariant.1 (omega (arith, c.within-j-end.ensures)) l.invariant.3

-- `packed::gather::gather_lists` meets its contract.
use mathlib.Core.Path.{sym, ◌∙◌}
use native.Mathlib.Omega.{arith}
use Rattle.packed.proofs.Counted.{one_less}
use Rattle.packed.proofs.Walks.{pairs_none, pairs_more, ends_none, ends_more}
use Rattle.packed.proofs.Gathering.{walked_more, walked_end}
use Rattle.packed.proofs.gather.gather_lists.Goals as goal

pub loop-preserved : goal.loop-preserved
loop-preserved c =
    let l = c.loop in
    let p = c.list_at-l.ensures in
    let less = one_less c.args.m l.counter in (
      rw (← less) (walked_more _ _ _ _ l.invariant.0 (pairs_more p _ (omega arith)) c.gather_pairs-sofar.ensures),
      rw (← less) (l.invariant.1 ∙ ends_more p _ (omega arith)),
      omega (arith, l.invariant.2, p.near),
    )

pub returns : goal.returns
returns c =
    let l = c.loop in
    (sym (l.invariant.1 ∙ ends_none _ _ _ (omega arith)), omega (arith, l.invariant.2), walked_end l.invariant.0 (pairs_none _ _ _ (omega arith)))

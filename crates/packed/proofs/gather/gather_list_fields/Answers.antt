-- `packed::gather::gather_list_fields` meets its contract.
use mathlib.Core.Path.{sym, ◌∙◌}
use native.Mathlib.Omega.{arith}
use Rattle.packed.proofs.Counted.{one_less}
use Rattle.packed.proofs.Walks.{pairs_from_none, pairs_from_more, fields_end_none, fields_end_more}
use Rattle.packed.proofs.Gathering.{walked_more, walked_end}
use Rattle.packed.proofs.gather.gather_list_fields.Goals as goal

pub loop-preserved : goal.loop-preserved
loop-preserved c =
    let l = c.loop in
    let e = c.low_at-n.ensures in
    let less = one_less c.args.m l.counter in (
      rw (← less) (walked_more _ _ _ _ l.invariant.0 (pairs_from_more _ _ _ _ (omega arith) e.0) c.gather_pair_fields-sofar.ensures),
      rw (← less) (l.invariant.1 ∙ fields_end_more _ _ _ _ (omega arith) e.0),
      omega (arith, l.invariant.2, e.1),
    )

pub returns : goal.returns
returns c =
    let l = c.loop in
    (sym (l.invariant.1 ∙ fields_end_none _ _ _ (omega arith)), omega (arith, l.invariant.2), walked_end l.invariant.0 (pairs_from_none _ _ _ (omega arith)))

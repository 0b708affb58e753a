-- `matching::offered::judge_set` meets its contract.
use mathlib.Core.Path.{sym, ap, ◌∙◌}
use native.Mathlib.Omega.{arith}
use Rattle.packed.specs.Calls.{rejected}
use Rattle.matching.proofs.OfferedLaws.{set_stray, set_named}
use Rattle.matching.proofs.offered.judge_set.Goals as goal

pub returns-then-stray-lt-MOST : goal.returns-then-stray-lt-MOST
returns-then-stray-lt-MOST c =
    let e = c.first_stray-stray.ensures in
    set_stray _ _ (omega (arith, e, c.if-stray-lt-MOST.true)) ∙ ap (rejected 19) (sym e)

pub returns : goal.returns
returns c = set_named _ _ (omega (arith, c.first_stray-stray.ensures, c.if-stray-lt-MOST.false))

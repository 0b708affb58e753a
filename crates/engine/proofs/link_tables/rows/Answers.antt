-- `engine::link_tables::rows` meets its contract.
use mathlib.Core.Path.{refl, sym}
use native.Mathlib.Nat.{zero-add}
use native.Mathlib.Omega.{arith}
use Rattle.engine.proofs.Filling.{filling_more}
use Rattle.engine.proofs.RowLaws.{rows_of, blank_long}
use Rattle.engine.proofs.link_tables.rows.Goals as goal

pub loop-e-preserved : goal.loop-e-preserved
loop-e-preserved c =
    let pre = c.requires in
    let loop = c.loop-e in
    let loop-test = c.loop-e-test in
    filling_more _ _ _ loop.invariant _ _ loop-test.true (omega (arith, blank_long 32 refl, pre)) (sym (zero-add _)) c.look.ensures

pub returns : goal.returns
returns c = rows_of _ _ _ refl c.loop-e.invariant c.loop-e-test.false

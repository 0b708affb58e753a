-- `engine::link_tables::table` meets its contract.
use mathlib.Core.Path.{refl, sym}
use native.Mathlib.Nat.{zero-add}
use native.Mathlib.Omega.{arith}
use Rattle.engine.proofs.Filling.{filling_more}
use Rattle.engine.proofs.RowLaws.{words_of, tabled, blank_long}
use Rattle.engine.proofs.link_tables.table.Goals as goal

pub loop-i-preserved : goal.loop-i-preserved
loop-i-preserved c =
    let loop = c.loop-i in
    let loop-test = c.loop-i-test in
    filling_more _ _ _ loop.invariant _ _ loop-test.true (omega (arith, blank_long 128 refl)) (sym (zero-add _)) c.word-w.ensures

pub returns : goal.returns
returns c =
    let pre = c.requires in
    let rows = c.rows-each in
    let loop = c.loop-i in
    tabled _ _ _ _ _ pre rows.ensures (λ i l. words_of _ _ _ _ refl rows.ensures refl loop.invariant c.loop-i-test.false i)

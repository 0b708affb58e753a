-- `engine::matched::match_batch` meets its contract.
use native.Mathlib.Omega.{arith}
use Rattle.std.proofs.lemmas.Option.{IfSome_then}
use Rattle.engine.proofs.IndexLaws.{indexed_again}
use Rattle.engine.proofs.FoundLaws.{started, all_found}
use Rattle.engine.proofs.matched.match_batch.Goals as goal

pub rest-requires : goal.rest-requires
rest-requires c =
    let pre = c.requires in
    let all = c.all-all in
    let hold = c.hold in
    let spread = c.spread in
    (started pre.0 pre.1 pre.2 all.ensures pre.3 hold.ensures spread.ensures, pre.1.nodes, IfSome_then _ pre.4 (λ first. indexed_again (λ i l. hold.ensures.around.low i (omega (arith, pre.1.edges)))))

pub returns : goal.returns
returns c =
    let pre = c.requires in
    let all = c.all-all in
    let hold = c.hold in
    let spread = c.spread in
    let table = c.table-leaving in
    let table2 = c.table-arriving in
    let table-if = c.table_if-ending in
    let table-if2 = c.table_if-starting in
    let rest = c.rest in
    all_found pre.0 pre.1 pre.2 all.ensures pre.3 hold.ensures spread.ensures table.ensures table2.ensures (λ e h. (table-if.ensures e h, table-if2.ensures e h)) rest.ensures

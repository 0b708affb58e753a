-- `matching::entering::write_both` meets its contract.
use mathlib.Core.Path.{refl}
use native.Mathlib.Omega.{arith}
use Rattle.packed.proofs.EnteredTable.{enters_bounds}
use Rattle.packed.proofs.TwoOutputs.{first_tight, second_tight, both_given}
use Rattle.matching.proofs.RecordLaws.{order_by}
use Rattle.matching.proofs.EnteringLaws.{size_is, entries_are, now_ready, index_given}
use Rattle.matching.proofs.entering.write_both.Goals as goal

pub record_size-size-requires : goal.record_size-size-requires
record_size-size-requires c = let b = enters_bounds c.requires.0 c.requires.2 in (b.2, omega (arith, b.1))

pub returns-then-out-size : goal.returns-then-out-size
returns-then-out-size c = λ ws e. first_tight c.args.out.now c.args.index_out.now _ _ (size_is c.requires.0 c.requires.2 ws e c.record_size-size.ensures) c.if-out-size.true refl refl

pub overflow_add-entries : goal.overflow_add-entries
overflow_add-entries c = let b = enters_bounds c.requires.0 c.requires.2 in omega (arith, b.2)

pub returns-then-index_out-entries : goal.returns-then-index_out-entries
returns-then-index_out-entries c = λ ws e. second_tight c.args.out.now c.args.index_out.now _ _ (size_is c.requires.0 c.requires.2 ws e c.record_size-size.ensures) (entries_are c.requires.0 c.requires.2 ws e) c.if-out-size.false c.if-index_out-entries.true refl refl

pub firsts-requires : goal.firsts-requires
firsts-requires c =
    let h = c.requires.0 in
    let x = c.write_entered.ensures.holds h.fields h.is in
    let r = now_ready c.requires.0 c.requires.2 h.fields h.is x in
    (r.edges, r.long, order_by x, omega (arith, c.if-index_out-entries.false))

pub returns : goal.returns
returns c =
    λ ws e.
    both_given c.args.out.now c.args.index_out.now _ _ (size_is c.requires.0 c.requires.2 ws e c.record_size-size.ensures) (entries_are c.requires.0 c.requires.2 ws e) c.if-out-size.false c.if-index_out-entries.false
    (c.write_entered.ensures.written ws e) (index_given c.requires.0 c.requires.2 ws e (c.write_entered.ensures.holds ws e) c.firsts.ensures c.if-index_out-entries.false)

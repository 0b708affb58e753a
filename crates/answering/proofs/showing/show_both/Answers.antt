-- `answering::showing::show_both` meets its contract.
use mathlib.Core.Path.{refl}
use Rattle.packed.proofs.CallLaws.{none_lent}
use Rattle.packed.proofs.TwoOutputs.{first_tight, second_tight, both_given}
use Rattle.answering.proofs.showing.show_both.Goals as goal

pub returns-then-first-a : goal.returns-then-first-a
returns-then-first-a c =
    let a = c.args in
    let s = (none_lent a.first.now c.write_graph-a.new.out c.write_graph-a.auto.out) in
    λ t. first_tight a.first.now a.second.now _ _ (c.write_graph-a.ensures t).number (rw s at c.if-first-a.true) s refl

pub returns-then-second-b : goal.returns-then-second-b
returns-then-second-b c =
    let a = c.args in
    let s = (none_lent a.first.now c.write_graph-a.new.out c.write_graph-a.auto.out) in
    let s' = (none_lent a.second.now c.write_graph-b.new.out c.write_graph-b.auto.out) in
    λ t. second_tight a.first.now a.second.now _ _ (c.write_graph-a.ensures t).number (c.write_graph-b.ensures t).number (rw s at c.if-first-a.false) (rw s' at c.if-second-b.true) s s'

pub returns : goal.returns
returns c =
    let a = c.args in
    let s = (none_lent a.first.now c.write_graph-a.new.out c.write_graph-a.auto.out) in
    let s' = (none_lent a.second.now c.write_graph-b.new.out c.write_graph-b.auto.out) in
    λ t. both_given a.first.now a.second.now _ _ (c.write_graph-a.ensures t).number (c.write_graph-b.ensures t).number (rw s at c.if-first-a.false) (rw s' at c.if-second-b.false)
    (rw s at (c.write_graph.ensures t).front) (rw s' at (c.write_graph-2.ensures t).front)

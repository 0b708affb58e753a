-- `packed::pattern::read_edges` meets its contract.
use borrow.Author.Rules.{rules}
use mathlib.Core.Path.{◌≡◌, refl, sym, ◌∙◌}
use Prim.Native.Nat.{◌-◌}
use native.Mathlib.Omega.{arith}
use native.Mathlib.Nat.{sub_self, lt_of_lt_of_le}
use Rattle.packed.specs.declared.reply.Refusal.TheVariants.{IsolatedNode}
use Rattle.packed.proofs.Counted.{all_left, one_less}
use Rattle.packed.proofs.Passing.{err_is}
use Rattle.packed.proofs.ReadingLaws.{starts, left_is, passes, fails}
use Rattle.packed.proofs.Edges.{part_edge, edges_none, reads_edge, reads_twice, edge_refused}
use Rattle.packed.proofs.NotedLaws.{noted_none, noted_more}
use Rattle.packed.proofs.Patterns.{joined_is}
use Rattle.packed.proofs.pattern.read_edges.Goals as goal

pub loop-init : goal.loop-init
loop-init c = (omega arith, omega arith, refl, rw (sub_self, all_left) (starts (omega arith)), rw sub_self (noted_none refl))

pub returns-then-is_noted : goal.returns-then-is_noted
returns-then-is_noted c =
    let l = c.loop in
    let m = c.requires.2 in
    let p = c.in_ok-a.ensures in
    let n = l.invariant.4.each _ _ _ (lt_of_lt_of_le p.ends.first.most m) (lt_of_lt_of_le p.ends.second.most m) in
    reads_twice 4 _ _ (c.args.number - c.loop.counter) _ (omega arith) l.invariant.3 c.args.file p (sym n ∙ sym c.is_noted.ensures ∙ c.if-is_noted.true)

pub loop-preserved : goal.loop-preserved
loop-preserved c =
    let l = c.loop in
    let m = c.requires.2 in
    let p = c.in_ok-a.ensures in
    let x = lt_of_lt_of_le p.ends.first.most m in
    let y = lt_of_lt_of_le p.ends.second.most m in
    let t = part_edge p c.args.first (omega arith) (omega arith) in
    let n = l.invariant.4.each _ _ _ x y in
    let r = reads_edge 4 _ _ (c.args.number - c.loop.counter) _ (omega arith) l.invariant.3 p (sym n ∙ sym c.is_noted.ensures ∙ c.if-is_noted.false) in
    (omega arith, omega arith, search rules, rw (← one_less c.args.number c.loop.counter) (rw t r), rw t (noted_more _ _ _ l.invariant.4 x y c.note.ensures))

pub returns-in_err-a : goal.returns-in_err-a
returns-in_err-a c =
    let l = c.loop in
    let p = c.in_err-a.ensures in
    rw (err_is c.from_residual.result c.from_residual.ensures.1) (edge_refused 4 _ _ (c.args.number - c.loop.counter) _ (omega arith) l.invariant.3 p)

pub returns-then-are_ends : goal.returns-then-are_ends
returns-then-are_ends c =
    let l = c.loop in
    let q : (c.args.number - c.loop.counter) ≡ 0 = omega arith in
    (passes (sym c.are_ends.ensures ∙ c.if-are_ends.true) (left_is (edges_none 4 3 _ _ _ ∙ joined_is _ _) (rw q at l.invariant.3)), omega arith)

pub returns-else-are_ends : goal.returns-else-are_ends
returns-else-are_ends c =
    let l = c.loop in
    let q : (c.args.number - c.loop.counter) ≡ 0 = omega arith in
    fails (IsolatedNode c.args.file) (sym c.are_ends.ensures ∙ c.if-are_ends.false) refl (left_is (edges_none 4 3 _ _ _ ∙ joined_is _ _) (rw q at l.invariant.3))

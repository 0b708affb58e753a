-- `packed::pattern::write_fields` meets its contract.
use mathlib.Core.List.{[]}
use native.Mathlib.Omega.{arith}
use Prim.Native.Nat.{◌*◌}
use Rattle.packed.specs.Format.{times}
use Rattle.packed.specs.Formats.{label, edges, joined}
use Rattle.packed.proofs.Passing.{err_is}
use Rattle.packed.proofs.WritingLaws.{writes, rejected, parts, parts_rejected, closes}
use Rattle.packed.proofs.Patterns.{pattern_begins, pattern_counts_put}
use Rattle.packed.proofs.pattern.write_fields.Goals as goal

pub returns-in_err-nodes : goal.returns-in_err-nodes
returns-in_err-nodes c =
    let pre = c.requires in
    let a = c.args in
    let p = c.in_err-nodes.ensures in
    rw (err_is c.from_residual.result c.from_residual.ensures.1) (rejected (pattern_begins a.words.now a.first a.out.now a.start pre.0) (p _))

pub returns-in_err-number : goal.returns-in_err-number
returns-in_err-number c =
    let pre = c.requires in
    let a = c.args in
    let p = c.in_ok-nodes.ensures in
    let q = c.in_err-number.ensures in
    rw (err_is c.from_residual-in_err-number.result c.from_residual-in_err-number.ensures.1) (rejected (writes (pattern_begins a.words.now a.first a.out.now a.start pre.0) p) (q _))

pub returns-in_err-at : goal.returns-in_err-at
returns-in_err-at c =
    let pre = c.requires in
    let a = c.args in
    let p = c.in_ok-nodes.ensures in
    let q = c.in_ok-number.ensures in
    let nodes = c.in_ok-nodes.nodes in
    let number = c.in_ok-number.number in
    let r = pattern_counts_put a.words.now a.first a.out.now a.start pre.0 p q in
    rw (err_is c.from_residual-in_err-at.result c.from_residual-in_err-at.ensures.1) (parts_rejected (times nodes label) (edges 4 3 nodes (joined nodes) number []) r c.in_err-at.ensures)

pub returns : goal.returns
returns c =
    let pre = c.requires in
    let write-edges = c.write_edges in
    let a = c.args in
    let p = c.in_ok-nodes.ensures in
    let q = c.in_ok-number.ensures in
    let t = c.in_ok-at.ensures in
    let nodes = c.in_ok-nodes.nodes in
    let number = c.in_ok-number.number in
    let r = pattern_counts_put a.words.now a.first a.out.now a.start pre.0 p q in
    closes (11 * number) 443 _ write-edges.result _ (parts (times nodes label) (edges 4 3 nodes (joined nodes) number []) r t.0) write-edges.ensures
    (omega (arith, t.1, p.most, q.most))

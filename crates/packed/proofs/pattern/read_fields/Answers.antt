-- `packed::pattern::read_fields` meets its contract.
use mathlib.Core.List.{[]}
use native.Mathlib.Omega.{arith}
use Prim.Native.Nat.{◌*◌}
use Rattle.packed.specs.Format.{times}
use Rattle.packed.specs.Formats.{label, edges, joined}
use Rattle.packed.proofs.Passing.{err_is}
use Rattle.packed.proofs.ReadingLaws.{reads, refused, calls, calls_refused}
use Rattle.packed.proofs.Patterns.{pattern_starts, pattern_counts, tails_up_to}
use Rattle.packed.proofs.pattern.read_fields.Goals as goal

pub returns-in_err-nodes : goal.returns-in_err-nodes
returns-in_err-nodes c =
    let pre = c.requires in
    let a = c.args in
    let p = c.in_err-nodes.ensures in
    rw (err_is c.from_residual.result c.from_residual.ensures.1) (refused (pattern_starts a.s.now a.start a.words.now a.first pre.0.inside) (p _))

pub returns-in_err-number : goal.returns-in_err-number
returns-in_err-number c =
    let pre = c.requires in
    let a = c.args in
    let p = c.in_ok-nodes.ensures in
    let q = c.in_err-number.ensures in
    rw (err_is c.from_residual-in_err-number.result c.from_residual-in_err-number.ensures.1) (refused (reads (pattern_starts a.s.now a.start a.words.now a.first pre.0.inside) p) (q _))

pub returns-in_err-at : goal.returns-in_err-at
returns-in_err-at c =
    let pre = c.requires in
    let a = c.args in
    let p = c.in_ok-nodes.ensures in
    let q = c.in_ok-number.ensures in
    let nodes = c.in_ok-nodes.nodes in
    let number = c.in_ok-number.number in
    let r = pattern_counts a.s.now a.start a.words.now a.first pre.0.inside p q in
    rw (err_is c.from_residual-in_err-at.result c.from_residual-in_err-at.ensures.1) (calls_refused (times nodes label) (edges 4 3 nodes (joined nodes) number []) r c.in_err-at.ensures)

pub returns : goal.returns
returns c =
    let pre = c.requires in
    let read-edges = c.read_edges in
    let a = c.args in
    let p = c.in_ok-nodes.ensures in
    let q = c.in_ok-number.ensures in
    let t = c.in_ok-at.ensures in
    let nodes = c.in_ok-nodes.nodes in
    let number = c.in_ok-number.number in
    let r = pattern_counts a.s.now a.start a.words.now a.first pre.0.inside p q in
    tails_up_to (3 * number) 114 _ read-edges.result _ (calls (times nodes label) (edges 4 3 nodes (joined nodes) number []) r t.0) read-edges.ensures
    (omega (arith, t.1, p.most, q.most))

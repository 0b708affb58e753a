-- `matching::indexed::make` meets its contract.
use mathlib.Core.Path.{refl}
use native.Mathlib.Omega.{arith}
use lib.ListN.{length}
use Rattle.packed.proofs.Passing.{err_is}
use Rattle.packed.specs.Calls.{fit}
use Rattle.packed.proofs.CallLaws.{body_refused}
use Rattle.engine.specs.Simulation.{graph_of}
use Rattle.engine.specs.Index.{index_of}
use Rattle.matching.specs.Index.{make_index_outcome}
use Rattle.matching.proofs.RecordLaws.{ready_by, order_by}
use Rattle.matching.proofs.AnswerFits.{made_tight, made_given}
use Rattle.matching.proofs.indexed.make.Goals as goal

pub overflow_add-entries : goal.overflow_add-entries
overflow_add-entries c =
    let h = c.in_ok-n.ensures in
    let r = ready_by h.0 (omega (arith, h.1)) in
    omega (arith, r.nodes)

pub returns-then-out-entries : goal.returns-then-out-entries
returns-then-out-entries c =
    let args = c.args in
    let h = c.in_ok-n.ensures in
    made_tight h.1 h.0 args.out.now c.if-out-entries.true

pub firsts-requires : goal.firsts-requires
firsts-requires c =
    let if1 = c.if-out-entries in
    let h = c.in_ok-n.ensures in
    let r = ready_by h.0 (omega (arith, h.1)) in
    (r.edges, r.long, order_by h.0, omega (arith, if1.false))

pub returns : goal.returns
returns c =
    let args = c.args in
    let if1 = c.if-out-entries in
    let firsts = c.firsts in
    let h = c.in_ok-n.ensures in
    made_given h.1 h.0 args.out.now if1.false firsts.ensures

pub returns-in_err-n : goal.returns-in_err-n
unfolding make_index_outcome
returns-in_err-n c =
    let args = c.args in
    let q = c.in_err-n.ensures in
    rw (err_is c.from_residual.result c.from_residual.ensures.1) (body_refused (λ rs. fit (length args.out.now) (index_of (graph_of rs))) args.out.now refl c.in_err-n.field-0.0 q)

-- `matching::indexed::check` meets its contract.
use mathlib.Core.Path.{refl}
use mathlib.Core.List.{[], ◌∷◌}
use native.Mathlib.Omega.{arith}
use lib.ListN.{length}
use Rattle.packed.proofs.Passing.{err_is}
use Rattle.packed.specs.Calls.{give}
use Rattle.packed.proofs.CallLaws.{answers_refused}
use Rattle.engine.specs.Simulation.{graph_of}
use Rattle.engine.specs.Index.{index_of, own_index}
use Rattle.matching.specs.Index.{check_index_outcome}
use Rattle.matching.proofs.RecordLaws.{ready_by, ready_ends, order_by}
use Rattle.matching.proofs.AnswerFits.{checked_by}
use Rattle.matching.proofs.indexed.check.Goals as goal

pub judge-requires : goal.judge-requires
judge-requires c =
    let h = c.in_ok-n.ensures in
    let r = ready_by h.0 (omega (arith, h.1)) in
    (ready_ends r, order_by h.0, r.nodes)

pub returns : goal.returns
returns c =
    let args = c.args in
    let judge = c.judge in
    let h = c.in_ok-n.ensures in
    checked_by h.1 h.0 args.index.now judge.result judge.ensures

pub returns-in_err-n : goal.returns-in_err-n
unfolding check_index_outcome
returns-in_err-n c =
    let args = c.args in
    let q = c.in_err-n.ensures in
    rw (err_is c.from_residual.result c.from_residual.ensures.1) (answers_refused (λ rs. own_index (index_of (graph_of rs)) args.index.now (give (length args.index.now ∷ []) [])) [] q refl)

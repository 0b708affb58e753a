-- `matching::calls::search_for` meets its contract.
use mathlib.Core.Path.{refl}
use native.Mathlib.Omega.{arith}
use lib.ListN.{length}
use Rattle.packed.proofs.Passing.{err_is}
use Rattle.engine.specs.Loaded.{pattern_in}
use Rattle.engine.proofs.StartLaws.{room_blank}
use Rattle.matching.proofs.RecordLaws.{ready_by, ready_ends, rises_by, order_by}
use Rattle.matching.proofs.BookLaws.{encodes}
use Rattle.matching.proofs.AnswerFits.{search_found, indexed_found, indexed_refused, search_unread}
use Rattle.matching.proofs.calls.search_for.Goals as goal
use Rattle.matching.proofs.calls.search_for.Goals.{in-Some+in_ok-judge, in_default}

pub judge-requires : goal.judge-requires
judge-requires c =
    let h = c.in_ok-n.ensures in
    let r = ready_by h.0 (omega (arith, h.1)) in
    (ready_ends r, order_by h.0, r.nodes)

pub returns-in_err-n : goal.returns-in_err-n
returns-in_err-n c = rw (err_is c.from_residual.result c.from_residual.ensures.1) (search_unread c.args.«record».now (pattern_in c.args.p) c.args.index c.args.out.now c.in_err-n.field-0.0 c.in_err-n.ensures)

pub returns-in_err-judge : goal.returns-in_err-judge
returns-in_err-judge c =
    let h = c.in_ok-n.ensures in
    rw (err_is c.from_residual-in_err-judge.result c.from_residual-in_err-judge.ensures.1)
    (rw c.in-Some.is (indexed_refused h.1 h.0 (pattern_in c.args.p) c.in-Some.first.now c.args.out.now c.in_err-judge.field-0.0 c.in_err-judge.ensures))

pub match_edges-requires : goal.match_edges-requires
match_edges-requires c =
    let pre = c.requires in
    let h = c.in_ok-n.ensures in
    let r = ready_by h.0 (omega (arith, h.1)) in (
      pre.1,
      pre.2,
      r,
      rises_by h.0,
      room_blank 4096 _ r.nodes refl refl refl,
      elim c.match-index.branch [
        | in-Some+in_ok-judge w ↦ (let j = w.in_ok-judge.ensures in rw w.in-Some.is (j.1, j.2))
        | in_default w ↦ rw w.in_default.is tt
      ],
    )

pub returns : goal.returns
returns c =
    let a = c.args in
    let h = c.in_ok-n.ensures in
    let g = c.give_sheet.ensures _ (encodes c.match_edges.ensures.0) in
    elim c.match-index.branch [
      | in-Some+in_ok-judge w ↦
          let j = w.in_ok-judge.ensures in
          rw (w.in-Some.is, indexed_found h.1 h.0 j.3 (pattern_in a.p) (length a.out.now)) g
      | in_default w ↦ rw (w.in_default.is, search_found (pattern_in a.p) (length a.out.now) h.1 h.0) g
    ]

-- `matching::asking::ask_of` meets its contract.
use native.Mathlib.Omega.{arith}
use mathlib.Core.Path.{refl}
use Rattle.packed.proofs.Passing.{err_is}
use Rattle.matching.specs.Offered.{offers}
use Rattle.matching.proofs.RecordLaws.{ready_by}
use Rattle.matching.proofs.AskLaws.{link_room, asking_book, asked_given, asked_unread, asked_refused}
use Rattle.matching.proofs.asking.ask_of.Goals as goal

pub judge-requires : goal.judge-requires
judge-requires c =
    let h = c.in_ok-n.ensures in
    let r = ready_by h.0 (omega (arith, h.1)) in
    (r.nodes, r.edges, r.long)

pub put_edge-requires : goal.put_edge-requires
put_edge-requires c =
    let h = c.in_ok-n.ensures in
    let t = c.in_ok-at.ensures _ h.0 in
    let r = link_room h.0 t in
    (r.0, omega (arith, r.1, h.0.long), r.2, r.3, r.4)

pub overflow_add-m : goal.overflow_add-m
overflow_add-m c =
    let h = c.in_ok-n.ensures in
    let t = c.in_ok-at.ensures _ h.0 in
    omega (arith, (link_room h.0 t).1)

pub changed_views-set-requires : goal.changed_views-set-requires
changed_views-set-requires c =
    let h = c.in_ok-n.ensures in
    let t = c.in_ok-at.ensures _ h.0 in
    (asking_book h.0 t h.1 c.put_edge.ensures c.requires.1 c.requires.2, omega (arith, (link_room h.0 t).0))

pub returns : goal.returns
returns c =
    let h = c.in_ok-n.ensures in
    let t = c.in_ok-at.ensures _ h.0 in
    asked_given h.0 t h.1 c.put_edge.ensures c.args.catalogue.now c.args.one_way c.args.state refl c.changed_views-set.ensures.0

pub returns-in_err-at : goal.returns-in_err-at
returns-in_err-at c =
    let h = c.in_ok-n.ensures in
    let q = c.in_err-at.ensures _ h.0 in
    rw (err_is c.from_residual-in_err-at.result c.from_residual-in_err-at.ensures.1) (λ cs e. asked_refused (offers cs c.args.one_way) c.args.state c.args.link h.0 h.1 c.in_err-at.field-0.0 q)

pub returns-in_err-n : goal.returns-in_err-n
returns-in_err-n c = rw (err_is c.from_residual.result c.from_residual.ensures.1) (λ cs e. asked_unread (offers cs c.args.one_way) c.args.«record».now c.args.state c.args.link c.in_err-n.field-0.0 c.in_err-n.ensures)

-- `packed::graph::load_record` meets its contract.
use native.Mathlib.Omega.{arith}
use Rattle.packed.specs.Formats.{record'}
use Rattle.packed.proofs.Passing.{err_is}
use Rattle.packed.proofs.CallLaws.{read_says}
use Rattle.packed.proofs.GraphLaws.{record_fits, holds_by}
use Rattle.packed.proofs.graph.load_record.Goals as goal

pub returns-in_err-accept_record : goal.returns-in_err-accept_record
returns-in_err-accept_record c = rw (err_is c.from_residual.result c.from_residual.ensures.1) c.in_err-accept_record.ensures.0

pub get_bits-nodes-requires : goal.get_bits-nodes-requires
get_bits-nodes-requires c =
    let d = c.in_ok-accept_record.ensures.0 in
    let l = read_says 44036 3 record' c.args.s.now d.fields d.is in
    let f = record_fits _ _ l.0 in
    (omega arith, omega arith, omega (arith, l.1))

pub get_bits-edges-requires : goal.get_bits-edges-requires
get_bits-edges-requires c =
    let d = c.in_ok-accept_record.ensures.0 in
    let l = read_says 44036 3 record' c.args.s.now d.fields d.is in
    let f = record_fits _ _ l.0 in
    (omega arith, omega arith, omega (arith, l.1))

pub returns : goal.returns
returns c =
    let a = c.in_ok-accept_record.ensures in
    let d = a.0 in
    let l = read_says 44036 3 record' c.args.s.now d.fields d.is in
    (holds_by _ _ c.args.work.now l.0 c.requires a.1 c.get_bits-nodes.ensures c.get_bits-edges.ensures, l.1)

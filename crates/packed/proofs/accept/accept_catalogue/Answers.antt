-- `packed::accept::accept_catalogue` meets its contract.
use mathlib.Core.Path.{◌∙◌, refl}
use native.Mathlib.Omega.{arith}
use Rattle.packed.specs.Formats.{catalogue}
use Rattle.packed.proofs.Passing.{err_is}
use Rattle.packed.proofs.CallLaws.{read_long, refused_by, catalogue_by_fields}
use Rattle.packed.proofs.AcceptLaws.{catalogue_finds, catalogue_held, no_views_held}
use Rattle.packed.proofs.accept.accept_catalogue.Goals as goal

pub returns-then-s-eq0 : goal.returns-then-s-eq0
returns-then-s-eq0 c = no_views_held c.args.s.now c.args.work.now c.if-s-eq0.true (omega (arith, c.requires)) refl

pub returns-then-s-gt-CATALOGUE_MOST : goal.returns-then-s-gt-CATALOGUE_MOST
returns-then-s-gt-CATALOGUE_MOST c =
    let s = c.args.s.now in
    let long = c.if-s-gt-CATALOGUE_MOST.true in
    catalogue_by_fields s (omega (arith, long)) ∙ read_long 897 2 catalogue s long

pub returns-in_err-fields : goal.returns-in_err-fields
returns-in_err-fields c = rw (err_is c.from_residual.result c.from_residual.ensures.1) (refused_by (catalogue_finds c.args.s.now (omega (arith, c.if-s-eq0.false)) c.if-s-gt-CATALOGUE_MOST.false) c.in_err-fields.field-0.0 c.in_err-fields.ensures)

pub returns : goal.returns
returns c =
    let s = c.args.s.now in
    let q = c.in_ok-fields.ensures in
    catalogue_held s q.0 (omega (arith, q.1, c.requires)) (catalogue_finds s (omega (arith, c.if-s-eq0.false)) c.if-s-gt-CATALOGUE_MOST.false) c.judge_catalogue.auto.words c.word_at.ensures c.edge_counts.ensures

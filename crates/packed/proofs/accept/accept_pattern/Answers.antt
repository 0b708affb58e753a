-- `packed::accept::accept_pattern` meets its contract.
use native.Mathlib.Omega.{arith}
use Rattle.packed.specs.Formats.{pattern}
use Rattle.packed.proofs.Passing.{err_is}
use Rattle.packed.proofs.CallLaws.{read_finds, read_long, refused_by}
use Rattle.packed.proofs.AcceptLaws.{pattern_fits, pattern_held}
use Rattle.packed.proofs.accept.accept_pattern.Goals as goal

pub returns-then-s-gt-PATTERN_MOST : goal.returns-then-s-gt-PATTERN_MOST
returns-then-s-gt-PATTERN_MOST c = read_long 56 1 pattern c.args.s.now c.if-s-gt-PATTERN_MOST.true

pub returns-in_err-fields : goal.returns-in_err-fields
returns-in_err-fields c = rw (err_is c.from_residual.result c.from_residual.ensures.1) (refused_by (read_finds 56 1 pattern c.args.s.now c.if-s-gt-PATTERN_MOST.false) c.in_err-fields.field-0.0 c.in_err-fields.ensures)

pub pattern_of-pattern-requires : goal.pattern_of-pattern-requires
pattern_of-pattern-requires c = let q = c.in_ok-fields.ensures in pattern_fits c.args.s.now q.0 (omega (arith, q.1, c.requires))

pub returns : goal.returns
returns c =
    let q = c.in_ok-fields.ensures in
    pattern_held c.args.s.now q.0 (omega (arith, q.1, c.requires)) (read_finds 56 1 pattern c.args.s.now c.if-s-gt-PATTERN_MOST.false) c.judge_pattern.auto.words c.pattern_of-pattern.ensures

-- `matching::entering::enter_record` meets its contract.
use mathlib.Core.Path.{refl}
use mathlib.Core.List.{[], ◌∷◌}
use lib.ListN.{length}
use Rattle.packed.proofs.Passing.{err_is}
use Rattle.packed.specs.Formats.{record'}
use Rattle.packed.proofs.CallLaws.{read_finds, accepted_by, answers_refused, answers_on}
use Rattle.matching.specs.Enter.{state_of, commit_for, commit_outcome}
use Rattle.matching.proofs.entering.enter_record.Goals as goal

pub returns : goal.returns
unfolding commit_outcome
returns c =
    let h = c.in_ok-n.ensures in
    let e = c.enter_slip.ensures in
    (answers_on (λ ws. commit_for ws (state_of c.args.links c.args.change) c.args.slip (length c.args.out.now) (length c.args.index_out.now)) (accepted_by (read_finds 44036 3 record' c.args.«record».now h.1) h.0.is) (e.0 h.0.fields h.0.is), e.1)

pub returns-in_err-n : goal.returns-in_err-n
unfolding commit_outcome
returns-in_err-n c =
    let q = c.in_err-n.ensures in
    rw (err_is c.from_residual.result c.from_residual.ensures.1) ((answers_refused (λ ws. commit_for ws (state_of c.args.links c.args.change) c.args.slip (length c.args.out.now) (length c.args.index_out.now)) (c.args.out.now ∷ c.args.index_out.now ∷ []) q refl, tt))

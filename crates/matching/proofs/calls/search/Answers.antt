-- `matching::calls::search` meets its contract.
use mathlib.Core.Path.{refl, ◌∙◌}
use lib.ListN.{length}
use Rattle.packed.proofs.Passing.{err_is}
use Rattle.packed.proofs.CallLaws.{body_refused, body_goes_on}
use Rattle.engine.specs.Simulation.{pattern_of}
use Rattle.matching.specs.Index.{search_by}
use Rattle.matching.proofs.AnswerFits.{given_fair, given_same}
use Rattle.matching.proofs.calls.search.Goals as goal

pub returns-in_err-f : goal.returns-in_err-f
returns-in_err-f c =
    let a = c.args in
    rw (err_is c.from_residual.result c.from_residual.ensures.1) (body_refused (λ ps. search_by (pattern_of ps) a.«record».now a.index (length a.out.now)) a.out.now refl c.in_err-f.field-0.0 c.in_err-f.ensures)

pub search_for-requires : goal.search_for-requires
search_for-requires c =
    let f = given_fair c.args.pattern.now c.in_ok-f.ensures in
    (c.accept_pattern.auto.work ∙ c.requires, f.0, f.1)

pub returns : goal.returns
returns c =
    let a = c.args in
    let q = c.in_ok-f.ensures in
    body_goes_on (λ ps. search_by (pattern_of ps) a.«record».now a.index (length a.out.now)) q.is (rw (given_same a.pattern.now q) at c.search_for.ensures)

-- `containment::judging::judge_views` meets its contract.
use mathlib.Core.Path.{sym, subst, ◌∙◌}
use native.Mathlib.Omega.{arith}
use Rattle.packed.proofs.Passing.{err_is}
use Rattle.matching.specs.Offered.{brings}
use Rattle.matching.proofs.OfferedLaws.{judged_rejected}
use Rattle.containment.specs.Steps.{JudgedTo}
use Rattle.containment.proofs.AnswerLaws.{views_small, views_by, counts_by}
use Rattle.containment.proofs.TermsLaws.{terms_refused, set_refused, terms_handed}
use Rattle.matching.proofs.BookLaws.{counted_by}
use Rattle.containment.proofs.judging.judge_views.Goals as goal

pub returns-in_err-views : goal.returns-in_err-views
returns-in_err-views c =
    rw (err_is c.from_residual.result c.from_residual.ensures.1) (λ t k. judged_rejected _ c.in_err-views.ensures)

pub returns-in_err-judge_day : goal.returns-in_err-judge_day
returns-in_err-judge_day c =
    let a = c.args in
    let q = c.in_ok-views.ensures in
    let v = views_by a.catalogue.now q.is q.holds in
    let e = c.in_err-judge_day.ensures in
    rw (err_is c.from_residual-in_err-judge_day.result c.from_residual-in_err-judge_day.ensures.1) (λ t. terms_refused t.content (brings a.catalogue.now a.one_way) a.day v e)

pub returns-in_err-judge_set : goal.returns-in_err-judge_set
returns-in_err-judge_set c =
    let a = c.args in
    let q = c.in_ok-views.ensures in
    let v = views_by a.catalogue.now q.is q.holds in
    let r = c.in_ok-judge_day.ensures in
    let e = c.in_err-judge_set.ensures in
    rw (err_is c.from_residual-in_err-judge_set.result c.from_residual-in_err-judge_set.ensures.1) (λ t. set_refused t.content (brings a.catalogue.now a.one_way) a.day v r e)

pub map_views-table-requires : goal.map_views-table-requires
map_views-table-requires c =
    let a = c.args in
    let q = c.in_ok-views.ensures in
    (c.requires.0, views_by a.catalogue.now q.is q.holds, counted_by a.catalogue.now q.is q.holds, omega (arith, views_small a.catalogue.now q.is), c.accept_catalogue.auto.work ∙ c.requires.1)

pub returns : goal.returns
returns c =
    let a = c.args in
    let q = c.in_ok-views.ensures in
    let v = counts_by a.catalogue.now q.is q.holds a.one_way in
    let r = c.in_ok-judge_day.ensures in
    let s = c.in_ok-judge_set.ensures in
    λ t. rw c.usable_for.ensures
    (record { query = t; views = v; on = terms_handed t.content (brings a.catalogue.now a.one_way) a.day v.views r s; table = c.map_views-table.ensures t v.views })

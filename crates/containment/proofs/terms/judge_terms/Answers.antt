-- `containment::terms::judge_terms` meets its contract.
use mathlib.Core.Path.{sym, ap, ◌∙◌}
use Rattle.packed.specs.Calls.{rejected}
use Rattle.containment.proofs.TermsLaws.{terms_number, terms_turned, terms_right}
use Rattle.containment.proofs.terms.judge_terms.Goals as goal

pub returns-then-number-k : goal.returns-then-number-k
returns-then-number-k c =
    let a = c.args in
    terms_number a.t a.k c.if-number-k.true

pub returns-then-turned-k : goal.returns-then-turned-k
returns-then-turned-k c =
    let a = c.args in
    let e = c.first_turned-turned.ensures in
    terms_turned a.t a.k c.if-number-k.false (rw e at c.if-turned-k.true) ∙ ap (rejected 18) (sym e)

pub returns : goal.returns
returns c =
    let a = c.args in
    let e = c.first_turned-turned.ensures in
    terms_right a.t a.k c.if-number-k.false (rw e at c.if-turned-k.false)

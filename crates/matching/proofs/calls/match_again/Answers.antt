-- `matching::calls::match_again` meets its contract.
use mathlib.Core.Path.{refl}
use mathlib.Core.Logic.{inl, inr}
use Rattle.matching.proofs.calls.match_again.Goals as goal

pub returns-then-nothing : goal.returns-then-nothing
returns-then-nothing c = (record { edges = record { long = refl; same = λ i h. refl }; either = inl (c.if-nothing.true, refl) }, c.requires.3)

pub returns : goal.returns
returns c = (record { edges = c.match_batch.ensures.0.edges; either = inr (refl, c.match_batch.ensures.0) }, c.match_batch.ensures.1)

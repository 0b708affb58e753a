-- `containment::query::with_labels` meets its contract.
use lib.ListN.{take}
use Rattle.containment.specs.Steps.{powers, Extends}
use Rattle.containment.proofs.query.with_labels.Given as goal

abbrev pub invariant-loop-u : goal.invariant-loop-u
invariant-loop-u l = Extends 2 l.u (powers (take l.u l.p.labels)) l.initial.words l.words

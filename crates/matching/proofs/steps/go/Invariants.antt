-- `matching::steps::go` meets its contract.
use Rattle.matching.proofs.SteppingLaws.{Gone}
use Rattle.matching.proofs.steps.go.Given as goal

abbrev pub invariant-loop-turn : goal.invariant-loop-turn
invariant-loop-turn l = Gone l.q l.n l.d l.steps l.initial.place l.initial.work l.initial.leave l.initial.arrive l.initial.held l.place l.work l.leave l.arrive l.held l._turn

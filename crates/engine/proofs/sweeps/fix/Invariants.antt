-- `engine::sweeps::fix` meets its contract.
use Rattle.engine.specs.Rounds.{Fixed}
use Rattle.engine.proofs.sweeps.fix.Given as goal

abbrev pub invariant-loop : goal.invariant-loop
invariant-loop l = Fixed l.n l.rule.free l.rule.due l.rule.back l.d l.tables.leaving.now l.tables.arriving.now l.tables.ending.now l.tables.starting.now l.initial.work l.initial.leave l.initial.arrive l.initial.held 1 l.work l.leave l.arrive l.held

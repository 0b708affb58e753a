-- `answering::demands::calls_for_a_day` meets its contract.
use Rattle.answering.proofs.OnDays.{on_days}
use Rattle.answering.proofs.demands.calls_for_a_day.Goals as goal

pub returns : goal.returns
returns c = on_days

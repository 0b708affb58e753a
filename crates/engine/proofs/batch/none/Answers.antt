-- `engine::batch::none` meets its contract.
use mathlib.Core.Path.{refl}
use Rattle.engine.proofs.PartLaws.{none_fair}
use Rattle.engine.proofs.batch.none.Goals as goal

pub returns : goal.returns
returns c = (none_fair refl refl refl refl refl refl refl, refl, refl)

-- `engine::sweeps::look_up` meets its contract.
use mathlib.Core.Path.{refl}
use Rattle.engine.proofs.TableLaws.{looked_up}
use Rattle.engine.proofs.sweeps.look_up.Goals as goal

pub returns : goal.returns
returns c = looked_up _ _ _ _ _ _ _ _ _ _ refl refl refl refl refl refl refl refl

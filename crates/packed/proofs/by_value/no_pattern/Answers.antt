-- `packed::by_value::no_pattern` meets its contract.
use mathlib.Core.Path.{refl}
use Rattle.packed.proofs.ByValueLaws.{spread_start}
use Rattle.packed.proofs.by_value.no_pattern.Goals as goal

pub returns : goal.returns
returns c =
    record {
      nodes = refl;
      edges = refl;
      labels = spread_start _ _ _ _ _ refl;
      from = spread_start _ _ _ _ _ refl;
      to = spread_start _ _ _ _ _ refl;
      kind = spread_start _ _ _ _ _ refl;
    }

-- `matching::steps::nodes` meets its contract.
use mathlib.Core.Path.{refl}
use Prim.Native.Nat.{◌-◌}
use native.Mathlib.Omega.{arith}
use Rattle.matching.proofs.JoiningLaws.{no_ends, all_ends}
use Rattle.matching.proofs.steps.nodes.Goals as goal

pub returns-then-d-lt1 : goal.returns-then-d-lt1
returns-then-d-lt1 c = (omega arith, no_ends c.requires (omega arith), λ k e. omega arith)

pub returns : goal.returns
returns c =
    let p = c.requires in
    let s = p.small (c.args.d - 1) (omega arith) in
    let g = c.max.ensures in
    let t = c.last_end-t.ensures in
    let few = t.0 in (
      omega arith,
      all_ends p _ _ refl t.1 (omega arith) (omega arith),
      λ k e.
          (let a = e.from (c.args.d - 1) (omega arith) in
          let b = t.2 (k - 1) (λ i l. let z = e.to i l in omega arith) in
          omega arith),
    )

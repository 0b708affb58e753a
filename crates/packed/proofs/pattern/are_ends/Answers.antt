-- `packed::pattern::are_ends` meets its contract.
use mathlib.Core.Path.{◌≡◌, sym}
use native.Mathlib.Omega.{arith}
use Rattle.packed.proofs.Edges.{all_none, all_more}
use Rattle.packed.proofs.pattern.are_ends.Goals as goal

pub loop-x-init : goal.loop-x-init
loop-x-init c = (omega arith, sym (all_none _))

pub loop-x-preserved : goal.loop-x-preserved
loop-x-preserved c = (omega arith, rw (all_more c.loop-x.x, c.loop-x.invariant.1, c.is_end-all.ensures))

pub returns : goal.returns
returns c =
    let e : c.loop-x.x ≡ c.args.n = omega arith in
    rw e at c.loop-x.invariant.1

-- `packed::matches::named` meets its contract.
use Prim.Native.Nat.{◌+◌}
use mathlib.Core.Path.{◌≡◌}
use native.Mathlib.Omega.{arith}
use Rattle.packed.proofs.NamedLaws.{named_start, named_next}
use Rattle.packed.proofs.matches.named.Goals as goal

pub loop-i-init : goal.loop-i-init
loop-i-init c = (omega arith, named_start _)

pub loop-i-preserved : goal.loop-i-preserved
loop-i-preserved c = (omega arith, named_next c.loop-i.invariant.1 (omega arith) (omega (arith, c.shared_slice_known-1.given (8192 + c.loop-i.i))))

pub returns : goal.returns
returns c =
    let e : c.loop-i.i ≡ c.args.n = omega arith in
    rw (← e) c.loop-i.invariant.1

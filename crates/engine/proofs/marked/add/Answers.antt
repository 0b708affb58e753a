-- `engine::marked::add` meets its contract.
use Prim.Native.Nat.{◌^◌, ◌%◌}
use native.Mathlib.Omega.{arith}
use native.Mathlib.Nat.{one-mul, mod-eq_of_lt}
use lib.Pow.{pow-lt}
use Rattle.engine.proofs.SetLaws.{add_by}
use Rattle.engine.proofs.marked.add.Goals as goal

pub returns : goal.returns
returns c =
    let pre = c.requires in
    let args = c.args in
    add_by _ args.x _ _ pre.0.long pre.1 (rw (one-mul (2 ^ (args.x % 32))) (mod-eq_of_lt (pow-lt {j = 32} (omega arith)))) c.min.ensures

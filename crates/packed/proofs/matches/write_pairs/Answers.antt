-- `packed::matches::write_pairs` meets its contract.
use Prim.Native.Nat.{◌<◌, ◌+◌, ◌/◌, ◌^◌}
use mathlib.Core.Path.{◌≡◌}
use native.Mathlib.Omega.{arith}
use native.Mathlib.Nat.{mod-lt}
use lib.ListN.{length, get_or}
use lib.Pow.{pow_pos}
use Rattle.packed.proofs.ScatterLaws.{scattering_start, scattering_next}
use Rattle.packed.proofs.matches.write_pairs.Goals as goal

pub loop-i-init : goal.loop-i-init
loop-i-init c = (omega arith, scattering_start _ _ _ _ _ c.requires.2 c.requires.3)

pub loop-i-preserved : goal.loop-i-preserved
loop-i-preserved c =
    let i = c.loop-i.i in
    let w = c.args.work.now in
    let o = c.args.o in
    let m = c.args.m in
    let h : 8192 + i < length w = omega (arith, c.requires.0.long, c.requires.0.most) in
    (omega arith, scattering_next c.loop-i.invariant.1 (omega (arith, c.requires.1)) h (omega (arith, c.put_pair.auto)) (mod-lt (get_or w (8192 + i) 0 / 2 ^ o) (pow_pos m)) (rw c.bits_from-x.ensures at c.put_pair.ensures))

pub returns : goal.returns
returns c =
    let e : c.loop-i.i ≡ c.args.n = omega arith in
    rw (← e) c.loop-i.invariant.1.written

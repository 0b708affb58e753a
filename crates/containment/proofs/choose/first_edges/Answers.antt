-- `containment::choose::first_edges` meets its contract: the power fits 33 bits.
use native.Mathlib.Omega.{arith}
use lib.Pow.{pow_pos, pow_mono}
use Rattle.containment.proofs.choose.first_edges.Goals as goal

pub returns : goal.returns
returns c = omega (arith, pow_pos c.args.m, pow_mono {j = 32} c.requires)

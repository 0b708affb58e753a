use Prim.Native.Nat.{◌^◌}
use native.Mathlib.Nat.{one-mul, mod-eq_of_lt}
use lib.Pow.{pow-lt}
use Rattle.engine.proofs.MaskBits.{mask_one, mask_none}
use Rattle.engine.proofs.link_tables.one.Goals as goal

pub returns-then-x-y : goal.returns-then-x-y
returns-then-x-y c = mask_one _ _ (rw (one-mul (2 ^ c.args.k)) (mod-eq_of_lt (pow-lt {j = 32} c.requires))) c.if-x-y.true

pub returns : goal.returns
returns c = mask_none (λ j h. c.if-x-y.false h.1)

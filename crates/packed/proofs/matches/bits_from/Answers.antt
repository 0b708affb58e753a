-- `packed::matches::bits_from` meets its contract.
use native.Mathlib.Omega.{arith}
use Rattle.packed.proofs.BitFields.{pow_word}
use Rattle.packed.proofs.matches.bits_from.Goals as goal

pub returns : goal.returns
returns c = rw (pow_word c.args.m 64 (omega arith))

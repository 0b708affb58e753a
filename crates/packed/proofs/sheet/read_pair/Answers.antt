-- `packed::sheet::read_pair` meets its contract.
use native.Mathlib.Omega.{arith}
use Rattle.packed.proofs.Sheets.{pair_short, pair_values}
use Rattle.packed.proofs.sheet.read_pair.Goals as goal

pub returns-then-s-at-lt-PAIR_BITS : goal.returns-then-s-at-lt-PAIR_BITS
returns-then-s-at-lt-PAIR_BITS c = pair_short c.args.s.now c.args.at c.requires.inside (omega arith)

pub returns : goal.returns
returns c = pair_values (omega arith) c.get_bits-code.ensures c.store.ensures c.store-2.ensures

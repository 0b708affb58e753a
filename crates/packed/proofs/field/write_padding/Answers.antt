-- `packed::field::write_padding` meets its contract.
use mathlib.Core.Path.{◌∙◌}
use Rattle.packed.proofs.Closing.{next_byte, gap_bits}
use Rattle.packed.proofs.field.write_padding.Goals as goal

pub returns : goal.returns
returns c =
    let args = c.args in
    let put-bits = c.put_bits in
    (next_byte args.at, put-bits.ensures ∙ gap_bits _ args.at)

-- `packed::matches::write_from` meets its contract.
use native.Mathlib.Omega.{arith}
use Rattle.packed.proofs.MatchLaws.{counts_few, sheet_written}
use Rattle.packed.proofs.matches.write_from.Goals as goal

pub lengths-d-requires : goal.lengths-d-requires
lengths-d-requires c =
    let pre = c.requires in
    (pre.2, counts_few _ _ _ pre.1 pre.0.most)

pub returns : goal.returns
returns c =
    let slice-known = c.slice_known-1 in
    let p = c.write_padding.ensures in
    sheet_written c.requires.0 c.write_listing-at.ensures p.0 p.1
    (λ j. omega (arith, slice-known.given j)) (λ j. omega (arith, c.slice_known-3-1.given j))

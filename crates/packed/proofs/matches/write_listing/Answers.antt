-- `packed::matches::write_listing` meets its contract.
use mathlib.Core.Path.{sym, ◌∙◌}
use Rattle.packed.proofs.MatchLaws.{listing_none, listing_all}
use Rattle.packed.proofs.matches.write_listing.Goals as goal

pub returns-then-sum-eq0 : goal.returns-then-sum-eq0
returns-then-sum-eq0 c =
    let pre = c.requires in
    let sum = c.sum in
    let if1 = c.if-sum-eq0 in
    let put-bits = c.put_bits in
    listing_none pre.1 (sym sum.ensures.0 ∙ if1.true) put-bits.ensures

pub returns : goal.returns
returns c =
    let pre = c.requires in
    let sum = c.sum in
    let if1 = c.if-sum-eq0 in
    let put-bits2 = c.put_bits-2 in
    let write-lists = c.write_lists in
    listing_all pre.1 (λ z. if1.false (sum.ensures.0 ∙ z)) put-bits2.ensures write-lists.ensures

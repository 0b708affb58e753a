-- `packed::gather::finish` meets its contract.
use Rattle.packed.proofs.Gathering.{different_many, gathers_kept, absorbed_different}
use Rattle.packed.proofs.gather.finish.Goals as goal

pub returns-then-held-gt-PAIRS_MOST : goal.returns-then-held-gt-PAIRS_MOST
returns-then-held-gt-PAIRS_MOST c = λ codes t. different_many t c.if-held-gt-PAIRS_MOST.true

pub returns : goal.returns
returns c =
    let if1 = c.if-held-gt-PAIRS_MOST in
    let absorb = c.absorb in
    λ codes t. absorbed_different _ (gathers_kept t if1.false) absorb.ensures

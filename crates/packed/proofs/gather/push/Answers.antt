-- `packed::gather::push` meets its contract.
use native.Mathlib.Omega.{arith}
use Rattle.packed.proofs.Gathering.{gathers_many, gathers_kept, kept_gathers, kept_more, kept_full, absorbed_gathers}
use Rattle.packed.proofs.gather.push.Goals as goal

pub returns-then-held-gt-PAIRS_MOST : goal.returns-then-held-gt-PAIRS_MOST
returns-then-held-gt-PAIRS_MOST c = λ codes t. gathers_many _ t c.if-held-gt-PAIRS_MOST.true

pub returns-then-fill-lt-CHUNK_LAST : goal.returns-then-fill-lt-CHUNK_LAST
returns-then-fill-lt-CHUNK_LAST c = λ codes t. kept_gathers _ (kept_more _ (gathers_kept t c.if-held-gt-PAIRS_MOST.false) t.chunk c.requires.1) (let z = c.if-fill-lt-CHUNK_LAST.true in omega arith)

pub absorb-n-requires : goal.absorb-n-requires
absorb-n-requires c =
    let pre = c.requires in
    let if1 = c.if-held-gt-PAIRS_MOST in
    let if2 = c.if-fill-lt-CHUNK_LAST in
    (kept_full _ pre.0.1 if1.false if2.false pre.1).can

pub returns : goal.returns
returns c =
    let pre = c.requires in
    let if1 = c.if-held-gt-PAIRS_MOST in
    let if2 = c.if-fill-lt-CHUNK_LAST in
    let absorb = c.absorb-n in
    λ codes t. absorbed_gathers _ (kept_full _ t if1.false if2.false pre.1) absorb.ensures

-- `engine::start::links_of` meets its contract.
use mathlib.Core.Path.{subst, sym}
use Prim.Native.Nat.{ℕ}
use Rattle.engine.specs.Masks.{Has}
use Rattle.engine.proofs.Masks.{bit_self}
use Rattle.engine.proofs.MaskBits.{minus_say}
use Rattle.engine.proofs.SetLaws.{minus_lt}
use Rattle.engine.proofs.StartLaws.{taken_start, taken_more, taken_end}
use Rattle.engine.proofs.start.links_of.Goals as goal

pub loop-left-init : goal.loop-left-init
loop-left-init c = ((λ l h. h), taken_start c.args.leaving.now _, taken_start c.args.arriving.now _)

pub loop-left-smaller : goal.loop-left-smaller
loop-left-smaller c =
    let loop = c.loop-left in
    let lowest = c.lowest-l in
    minus_lt loop.left c.one-taken.result lowest.result lowest.ensures.1 (subst (λ (y : ℕ). Has y lowest.result) (sym c.one-taken.ensures) (bit_self lowest.result))

pub loop-left-preserved : goal.loop-left-preserved
loop-left-preserved c =
    let args = c.args in
    let loop = c.loop-left in
    let lowest = c.lowest-l in
    ((λ l h. loop.invariant.0 l (minus_say loop.left c.one-taken.result l h).0), taken_more args.leaving.now _ loop.left loop.invariant.1 loop.invariant.0 lowest.result lowest.ensures.0 lowest.ensures.1 c.one-taken.result c.one-taken.ensures, taken_more args.arriving.now _ loop.left loop.invariant.2 loop.invariant.0 lowest.result lowest.ensures.0 lowest.ensures.1 c.one-taken.result c.one-taken.ensures)

pub returns : goal.returns
returns c = (taken_end c.args.leaving.now _ c.loop-left.left c.loop-left.invariant.1 c.loop-left-test.false, taken_end c.args.arriving.now _ c.loop-left.left c.loop-left.invariant.2 c.loop-left-test.false)

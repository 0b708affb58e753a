-- `packed::record::load_rest` meets its contract.
use borrow.Author.Rules.{rules}
use native.Mathlib.Omega.{arith}
use mathlib.Core.Path.{◌≡◌, refl}
use Rattle.packed.proofs.Records.{rank_lt, judged_end, judged_cut, judged_stray, judged_falls, judged_more}
use Rattle.packed.proofs.record.load_rest.Goals as goal

pub loop-k-init : goal.loop-k-init
loop-k-init c = (refl, omega arith, c.requires.4, λ w₀ e. e)

pub returns-then-nodes-code : goal.returns-then-nodes-code
returns-then-nodes-code c =
    let pre = c.requires in
    let i = c.loop-k.invariant in
    λ w₀ e. judged_stray (i.3 w₀ e) _ _ (omega (arith, pre.5, c.loop-k-test.true)) i.1 (omega (arith, pre.5, c.loop-k-test.true, pre.1)) c.get_bits-rank.ensures c.if-nodes-code.true

pub returns-then-rank-least : goal.returns-then-rank-least
returns-then-rank-least c =
    let pre = c.requires in
    let i = c.loop-k.invariant in
    λ w₀ e. judged_falls (i.3 w₀ e) _ _ (omega (arith, pre.5, c.loop-k-test.true)) i.1 (omega (arith, pre.5, c.loop-k-test.true, pre.1)) c.get_bits-rank.ensures c.if-nodes-code.false c.if-rank-least.true

pub word_of-requires : goal.word_of-requires
word_of-requires c = rank_lt _ _ _ c.get_bits-rank.ensures

pub overflow_add-least : goal.overflow_add-least
overflow_add-least c = omega (arith, rank_lt _ _ _ c.get_bits-rank.ensures)

pub loop-k-preserved : goal.loop-k-preserved
loop-k-preserved c =
    let pre = c.requires in
    let i = c.loop-k.invariant in (
      search rules,
      omega (arith, i.1),
      omega (arith, c.loop-k-test.true),
      λ w₀ e. judged_more (i.3 w₀ e) _ _ (omega (arith, pre.5, c.loop-k-test.true)) i.1 (omega (arith, pre.5, c.loop-k-test.true, pre.1)) c.get_bits-rank.ensures c.if-nodes-code.false c.if-rank-least.false (omega (arith, i.0, pre.5, c.loop-k-test.true, pre.2, pre.3)) c.word_of.ensures,
    )

pub returns-then-whole-number : goal.returns-then-whole-number
returns-then-whole-number c =
    let q : c.loop-k.k ≡ c.args.whole = omega (arith, c.loop-k.invariant.2, c.loop-k-test.false) in
    let i = c.loop-k.invariant in
    λ w₀ e. judged_cut (i.3 w₀ e) _ i.1 (rw q c.if-whole-number.true) c.cut_edge.ensures

pub returns : goal.returns
returns c =
    let pre = c.requires in
    let i = c.loop-k.invariant in
    λ w₀ e. judged_end (i.3 w₀ e) _ i.1 (omega (arith, i.2, pre.5, c.loop-k-test.false, c.if-whole-number.false))

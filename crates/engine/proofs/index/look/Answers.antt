-- `engine::index::look` meets its contract.
use native.Mathlib.Omega.{arith}
use Prim.Native.Nat.{ℕ, ◌+◌}
use lib.ListN.{get_or}
use lib.Bits.{bit_and, bit_xor}
use mathlib.Core.Path.{ap, ap₂, sym, ◌∙◌}
use Rattle.engine.proofs.IndexLaws.{missed_none, missed_more, missed_all}
use Rattle.engine.proofs.index.look.Goals as goal

pub loop-k-init : goal.loop-k-init
loop-k-init g c = sym (missed_none g.F.Side.end _ _ _ _ _ _ (omega arith))

pub returns-then-miss-eq0 : goal.returns-then-miss-eq0
returns-then-miss-eq0 g c =
    sym (missed_all g.F.Side.end (g.N.Side.number c.args.rev.now) c.args.work.now c.args.masks.now c.args.want c.args.a c.loop-k.k c.args.b (omega arith) (omega arith) (sym c.loop-k.invariant ∙ c.if-miss-eq0.true))

pub loop-k-preserved : goal.loop-k-preserved
loop-k-preserved g c =
    let w = c.args.work.now in
    let r = c.loop-k.miss in
    ap₂ (λ (i t : ℕ). bit_xor r (bit_and r (bit_and (get_or w (8192 + i) 0) (get_or c.args.masks.now t 0)))) c.number-i.ensures
    (c.end-t.ensures ∙ ap (λ (i : ℕ). g.F.Side.end (get_or w i 0)) c.number-i.ensures)
    ∙ missed_more g.F.Side.end (g.N.Side.number c.args.rev.now) w c.args.masks.now c.args.want c.args.a c.loop-k.k (omega arith) c.loop-k.invariant

-- `packed::pattern::is_end` meets its contract.
use mathlib.Core.Path.{◌≡◌, ap, sym, ◌∙◌}
use Prim.Native.Nat.{ℕ, ◌+◌, ◌*◌}
use lib.ListN.{drop}
use native.Mathlib.Omega.{arith}
use Rattle.packed.specs.Formats.{is_end}
use Rattle.packed.proofs.Edges.{end_yes, end_no, end_end}
use Rattle.packed.proofs.pattern.is_end.Goals as goal

pub returns-then-edges-i : goal.returns-then-edges-i
returns-then-edges-i c =
    let a = c.args in
    let l = c.loop-e in
    sym (l.invariant ∙ end_yes a.x a.edges.now (3 * l.e) (omega arith) c.if-edges-i.true)

pub loop-e-preserved : goal.loop-e-preserved
loop-e-preserved c =
    let a = c.args in
    let l = c.loop-e in
    let q : 3 * l.e + 3 ≡ 3 * (l.e + 1) = omega arith in
    l.invariant ∙ end_no a.x a.edges.now (3 * l.e) (omega arith) c.if-edges-i.false ∙ ap (λ (i : ℕ). is_end a.x (drop i a.edges.now)) q

pub returns : goal.returns
returns c =
    let a = c.args in
    let l = c.loop-e in
    sym (l.invariant ∙ end_end a.x a.edges.now (3 * l.e) (omega arith))

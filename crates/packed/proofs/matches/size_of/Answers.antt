-- `packed::matches::size_of` meets its contract.
use Prim.Native.Nat.{ℕ, ◌+◌, ◌*◌, ◌/◌}
use mathlib.Core.Path.{sym, ap, ◌∙◌}
use Rattle.packed.proofs.SheetLaws.{length_none, length_some}
use Rattle.packed.proofs.matches.size_of.Goals as goal

pub returns-then-t-eq0 : goal.returns-then-t-eq0
returns-then-t-eq0 c =
    let args = c.args in
    let sum = c.sum-t in
    sym (length_none args.m _ (sym sum.ensures.0 ∙ c.if-t-eq0.true))

pub returns : goal.returns
returns c =
    let args = c.args in
    let sum = c.sum-t in
    let if1 = c.if-t-eq0 in
    let e = sum.ensures.0 in
    c.byte_after.ensures ∙ ap (λ (t : ℕ). (1 + 14 * args.m + 24 * t + 7) / 8) e ∙ sym (length_some args.m _ (λ z. if1.false (e ∙ z)))

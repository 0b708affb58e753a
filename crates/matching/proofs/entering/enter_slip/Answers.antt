-- `matching::entering::enter_slip` meets its contract.
use mathlib.Core.Path.{◌≡◌}
use mathlib.Core.List.{[], ◌∷◌}
use lib.ListN.{length}
use native.Mathlib.Omega.{arith}
use Rattle.packed.proofs.Passing.{err_is}
use Rattle.packed.proofs.GraphLaws.{holds_bounds}
use Rattle.matching.proofs.EnteringLaws.{slip_old, slip_last, link_refused, link_accepted, enters_at, counted_by}
use Rattle.matching.proofs.entering.enter_slip.Goals as goal

pub returns-then-slip-change : goal.returns-then-slip-change
returns-then-slip-change c = (λ ws e. slip_old ws c.args.links c.args.change c.args.slip (length c.args.out.now) (length c.args.index_out.now) (c.args.out.now ∷ c.args.index_out.now ∷ []) c.if-slip-change.true, tt)

pub returns-then-change-eq-CHANGE_MOST : goal.returns-then-change-eq-CHANGE_MOST
returns-then-change-eq-CHANGE_MOST c = (λ ws e. slip_last ws c.args.links c.args.change c.args.slip (length c.args.out.now) (length c.args.index_out.now) (c.args.out.now ∷ c.args.index_out.now ∷ []) c.if-slip-change.false c.if-change-eq-CHANGE_MOST.true, tt)

pub judge-requires : goal.judge-requires
judge-requires c = let b = holds_bounds c.requires.0 in (b.0, b.1, c.requires.0.long)

pub write_both-requires : goal.write_both-requires
write_both-requires c =
    let h = c.requires.0 in
    let e = c.in_ok-at.ensures c.args.«record».now c.requires.0 in
    (h, c.requires.1, enters_at h c.args.links _ e)

pub returns : goal.returns
returns c =
    let h = c.requires.0 in
    let j = c.in_ok-at.ensures c.args.«record».now c.requires.0 in
    let w = c.write_both in (
      λ ws e.
          let q : h.fields ≡ ws = cc (h.is, e) in
          link_accepted ws c.args.links c.args.change c.args.slip (length c.args.out.now) (length c.args.index_out.now) (c.args.out.now ∷ c.args.index_out.now ∷ []) c.if-slip-change.false c.if-change-eq-CHANGE_MOST.false (rw (q, c.from-link.ensures) at j.judged) (rw c.from-link.ensures at w.ensures ws e),
      counted_by w.result (omega (arith, j.count, j.may.room)) (omega (arith, c.if-change-eq-CHANGE_MOST.false, c.ranges.change)),
    )

pub returns-in_err-at : goal.returns-in_err-at
returns-in_err-at c =
    let h = c.requires.0 in
    let j = c.in_err-at.ensures c.args.«record».now c.requires.0 in
    rw (err_is c.from_residual.result c.from_residual.ensures.1) ((λ ws e. (let q : h.fields ≡ ws = cc (h.is, e) in link_refused ws c.args.links c.args.change c.args.slip (length c.args.out.now) (length c.args.index_out.now) (c.args.out.now ∷ c.args.index_out.now ∷ []) c.if-slip-change.false c.if-change-eq-CHANGE_MOST.false c.in_err-at.field-0.0 (rw (q, c.from-link.ensures) at j)), tt))

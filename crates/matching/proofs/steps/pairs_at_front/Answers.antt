-- `matching::steps::pairs_at_front` meets its contract.
use mathlib.Core.Path.{◌≡◌, subst}
use Prim.Native.Nat.{ℕ}
use native.Mathlib.Omega.{arith}
use Rattle.matching.proofs.SteppingLaws.{Front, front_more, front_low, front_wide, front_full}
use Rattle.matching.proofs.steps.pairs_at_front.Goals as goal

pub returns-then-i-d : goal.returns-then-i-d
returns-then-i-d c =
    let inv = c.loop-i.invariant in
    record { pool = inv.0.pool; upto = inv.1; most = λ l. absurd (omega arith) }

pub returns-then-x-least : goal.returns-then-x-least
returns-then-x-least c =
    let inv = c.loop-i.invariant in
    record { pool = inv.0.pool; upto = inv.1; most = λ l p. front_low _ inv.0 (omega arith) p }

pub returns-then-x : goal.returns-then-x
returns-then-x c =
    let inv = c.loop-i.invariant in
    record { pool = inv.0.pool; upto = inv.1; most = λ l p. front_wide _ inv.0 (omega arith) p }

pub loop-i-preserved : goal.loop-i-preserved
loop-i-preserved c = (front_more _ c.loop-i.invariant.0 c.loop-i-test.true (omega arith) (omega arith), omega arith)

pub returns : goal.returns
returns c =
    let inv = c.loop-i.invariant in
    let f = subst (λ (i : ℕ). Front c.args.work.now c.loop-i.least i) (let q : c.loop-i.i ≡ 8192 = omega (arith, inv.0.pool.most, c.loop-i-test) in q) inv.0 in
    record { pool = f.pool; upto = omega (arith, inv.1, c.loop-i-test); most = λ l p. front_full _ f (omega arith) p }

-- `packed::record::store_ranked` meets its contract.
use mathlib.Core.Path.{◌≡◌, refl, sym, ◌∙◌, ap}
use mathlib.Core.List.{List}
use Prim.Native.Nat.{ℕ, ◌+◌, ◌*◌, ◌/◌, ◌%◌}
use native.Mathlib.Omega.{arith}
use lib.ListN.{take, set, get_or, length-set}
use lib.Seq.{sets}
use Rattle.packed.proofs.EdgePlaces.{threes_start, threes_more}
use Rattle.packed.proofs.SortedEdges.{ranks_threes}
use Rattle.packed.proofs.record.store_ranked.Goals as goal

pub loop-e-init : goal.loop-e-init
loop-e-init c = (omega arith, refl, threes_start (λ r. r / 8 / 4096) (λ r. r / 8 % 4096) (λ r. r % 8) c.args.out.now c.args.work.now c.args.at)

pub loop-e-preserved : goal.loop-e-preserved
loop-e-preserved c =
    let i = c.loop-e.invariant in
    let at : ℕ = c.args.at + 3 * c.loop-e.e in
    let v : ℕ = get_or c.args.work.now c.loop-e.e 0 in
    (omega (arith, c.loop-e-test.true), simp length-set i.1, ap (λ (o : List ℕ). set (set (set o at (v / 8 / 4096)) (at + 1) (v / 8 % 4096)) (at + 2) (v % 8)) i.2 ∙ threes_more (λ r. r / 8 / 4096) (λ r. r / 8 % 4096) (λ r. r % 8) c.args.out.now c.args.work.now c.args.at c.loop-e.e (omega (arith, c.loop-e-test.true, c.requires.0)))

pub returns : goal.returns
returns c =
    let i = c.loop-e.invariant in
    let e : c.loop-e.e ≡ c.args.m = omega (arith, i.0, c.loop-e-test.false) in
    rw e at i.2 ∙ ap (sets c.args.out.now c.args.at) (sym (ranks_threes (take c.args.m c.args.work.now)))

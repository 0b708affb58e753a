-- `packed::record::store_edges` meets its contract.
use mathlib.Core.Path.{◌≡◌, refl, sym, ◌∙◌, ap}
use mathlib.Core.List.{List}
use Prim.Native.Nat.{ℕ, ◌+◌, ◌*◌, ◌/◌, ◌%◌, ◌^◌}
use native.Mathlib.Omega.{arith}
use lib.ListN.{take, set, get_or, length-set}
use lib.Seq.{sets}
use Rattle.packed.proofs.EdgePlaces.{threes_start, threes_more}
use Rattle.packed.proofs.GraphLaws.{words_threes}
use Rattle.packed.proofs.record.store_edges.Goals as goal

pub loop-k-init : goal.loop-k-init
loop-k-init c = (omega arith, refl, threes_start (λ c. c / 4096 % 4096) (λ c. c % 4096) (λ c. c / 2 ^ 24) c.args.out.now c.args.work.now c.args.at)

pub loop-k-preserved : goal.loop-k-preserved
loop-k-preserved c =
    let i = c.loop-k.invariant in
    let at : ℕ = c.args.at + 3 * c.loop-k.k in
    let v : ℕ = get_or c.args.work.now c.loop-k.k 0 in
    (omega (arith, c.loop-k-test.true), simp length-set i.1, ap (λ (o : List ℕ). set (set (set o at (v / 4096 % 4096)) (at + 1) (v % 4096)) (at + 2) (v / 2 ^ 24)) i.2 ∙ threes_more (λ c. c / 4096 % 4096) (λ c. c % 4096) (λ c. c / 2 ^ 24) c.args.out.now c.args.work.now c.args.at c.loop-k.k (omega (arith, c.loop-k-test.true, c.requires.0)))

pub returns : goal.returns
returns c =
    let i = c.loop-k.invariant in
    let e : c.loop-k.k ≡ c.args.m = omega (arith, i.0, c.loop-k-test.false) in
    rw e at i.2 ∙ ap (sets c.args.out.now c.args.at) (sym (words_threes (take c.args.m c.args.work.now)))

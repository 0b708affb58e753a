-- `answering::several::map_queries` meets its contract.
use Prim.Native.Nat.{◌<◌, ◌≤◌}
use mathlib.Core.Path.{◌≡◌, refl, ◌∙◌}
use native.Mathlib.Omega.{arith}
use Rattle.containment.specs.Steps.{Query}
use Rattle.answering.specs.SeveralSteps.{asked_at}
use Rattle.containment.proofs.AnswerLaws.{query_few, views_few}
use Rattle.answering.proofs.SeveralLaws.{asked_start, asked_inside, asked_next, asked_query, asked_more, mapped_start, mapped_more, asked_found}
use borrow.Author.Rules.{rules}
use Rattle.answering.proofs.several.map_queries.Goals as goal
use Rattle.answering.proofs.several.map_queries.Goals.{After-view_at-v, In-loop-i}

-- a turn: that of one of at most eight queries, which is accepted and has at most 32 edges
turn : (c : In-loop-i) → c.loop-i.i < 8
turn c = omega (arith, c.loop-i-test.true, c.requires.0.few)

query : (c : After-view_at-v) → Query c.view_at-v.result.pattern
query c = asked_query c.loop-i.invariant.2 c.loop-i-test.true c.view_at-v.result c.view_at-v.ensures c.requires.0

few : (c : After-view_at-v) → c.view_at-v.result.pattern.edges ≤ 32
few c = query_few (query c)

pub loop-i-init : goal.loop-i-init
loop-i-init c = (search rules, refl, asked_start, λ a v. mapped_start (asked_at a v c.args.one_way) c.told-tables refl)

pub view_at-v-requires : goal.view_at-v-requires
view_at-v-requires c =
    let i = asked_inside c.loop-i.invariant.2 c.loop-i-test.true c.requires.0 in
    record { small = c.requires.0.short; inside = omega arith; few = omega arith }

pub map_views-table-requires : goal.map_views-table-requires
map_views-table-requires c = (query (goal.at.map_views-table-requires c).After-view_at-v, c.requires.1, c.requires.2, c.requires.3, c.loop-i.invariant.1 ∙ c.requires.4)

pub masks_of-masks-requires : goal.masks_of-masks-requires
masks_of-masks-requires c = (views_few c.requires.1, few (goal.at.masks_of-masks-requires c).After-view_at-v)

pub lowest_in-low-requires : goal.lowest_in-low-requires
lowest_in-low-requires c = (few (goal.at.lowest_in-low-requires c).After-view_at-v, views_few c.requires.1)

pub use_views-set-requires : goal.use_views-set-requires
use_views-set-requires c = (few (goal.at.use_views-set-requires c).After-view_at-v, views_few c.requires.1)

pub first_lowest-lowest-requires : goal.first_lowest-lowest-requires
first_lowest-lowest-requires c = few (goal.at.first_lowest-lowest-requires c).After-view_at-v

pub loop-i-preserved : goal.loop-i-preserved
loop-i-preserved c =
    let l = c.loop-i.invariant in
    let low = c.lowest_in-low.ensures _ c.masks_of-masks.ensures in (
      omega arith,
      c.map_views-table.auto.work ∙ l.1,
      asked_more l.2 c.loop-i-test.true c.view_at-v.result c.view_at-v.ensures,
      λ a v. mapped_more (l.3 a v) (turn (goal.at.loop-i-preserved c).In-loop-i)
          (asked_found a v c.args.one_way _ (asked_next l.2 c.loop-i-test.true c.view_at-v.result c.view_at-v.ensures a).holds (c.map_views-table.ensures (asked_query l.2 c.loop-i-test.true c.view_at-v.result c.view_at-v.ensures a) v) low (c.use_views-set.ensures _ c.masks_of-masks.ensures low))
          c.first_lowest-lowest.ensures,
    )

pub returns : goal.returns
returns c =
    let e : c.loop-i.i ≡ c.args.number = omega (arith, c.loop-i.invariant.0, c.loop-i-test.false) in
    rw e at c.loop-i.invariant.3

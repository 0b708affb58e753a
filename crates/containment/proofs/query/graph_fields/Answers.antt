-- `containment::query::graph_fields` meets its contract.
use mathlib.Core.Path.{refl}
use native.Mathlib.Omega.{arith}
use Rattle.containment.proofs.QueryLaws.{plain, fair}
use Rattle.containment.proofs.FieldLaws.{kept_fields}
use borrow.Author.Rules.{rules}
use Rattle.containment.proofs.query.graph_fields.Goals as goal

pub load_ranks-k-requires : goal.load_ranks-k-requires
load_ranks-k-requires c = let pre = c.requires in (fair pre.0, pre.1)

pub label_fields-words-requires : goal.label_fields-words-requires
label_fields-words-requires c = (fair c.requires.0, c.load_ranks-k.ensures.few)

pub store_ranked-requires : goal.store_ranked-requires
store_ranked-requires c =
    let few = c.load_ranks-k.ensures.few in
    (search rules, omega (arith, c.label_fields-words.ensures.long, few, (fair c.requires.0).nodes))

pub returns : goal.returns
returns c =
    let t = c.requires.0 in
    let ranks = c.load_ranks-k.ensures in
    let sorted = c.sort.ensures in
    let labels = c.label_fields-words.ensures in
    kept_fields (plain t) t.holds _ _ ranks sorted labels c.store_ranked.ensures refl

-- `matching::asking::listed_views` meets its contract.
use Rattle.matching.proofs.AskLaws.{lists_none}
use Rattle.matching.proofs.asking.listed_views.Goals as goal

pub returns-then-x-eq0 : goal.returns-then-x-eq0
returns-then-x-eq0 c = lists_none c.args.edges c.args.a c.args.b c.args.m c.args.work.now _ c.if-x-eq0.true

pub returns : goal.returns
returns c = c.views_with.ensures.is _ _ c.named-named.ensures

-- `matching::entering::judge` meets its contract.
use Rattle.matching.proofs.EnteringLaws.{judged_count, judged_end, judged_kind, judged_there, judged_full, judged_enters}
use Rattle.matching.proofs.entering.judge.Goals as goal

pub returns-then-links-m : goal.returns-then-links-m
returns-then-links-m c = λ s h. judged_count h c.args.links c.args.link c.if-links-m.true

pub returns-then-nodes-link : goal.returns-then-nodes-link
returns-then-nodes-link c = λ s h. judged_end h c.args.links c.args.link c.if-links-m.false c.if-nodes-link.true

pub returns-then-link-ge-KINDS : goal.returns-then-link-ge-KINDS
returns-then-link-ge-KINDS c = λ s h. judged_kind h c.args.links c.args.link c.if-links-m.false c.if-nodes-link.false c.if-link-ge-KINDS.true

pub returns-in_default : goal.returns-in_default
returns-in_default c = λ s h. judged_there h c.args.links c.args.link c.if-links-m.false c.if-nodes-link.false c.if-link-ge-KINDS.false (rw c.in_default.is at c.find_place-p.ensures)

pub returns-then-m-ge-EDGES_MOST : goal.returns-then-m-ge-EDGES_MOST
returns-then-m-ge-EDGES_MOST c = λ s h. judged_full h c.args.links c.args.link c.if-links-m.false c.if-nodes-link.false c.if-link-ge-KINDS.false _ (rw c.in-Some.is at c.find_place-p.ensures) c.if-m-ge-EDGES_MOST.true

pub returns : goal.returns
returns c = λ s h. judged_enters h c.args.links c.args.link c.if-links-m.false c.if-nodes-link.false c.if-link-ge-KINDS.false _ (rw c.in-Some.is at c.find_place-p.ensures) c.if-m-ge-EDGES_MOST.false

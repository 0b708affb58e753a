use Rattle.std.proofs.Common.{arith}
use Rattle.folder.proofs.EntryLaws.{pack_more, pack_end}
use Rattle.folder.proofs.entries.pack.Goals as goal

pub loop-at-preserved : goal.loop-at-preserved
loop-at-preserved c =
    pack_more 8196 c.args.entries.now _ _ _ (let h = c.requires.0 in omega arith) c.loop-at.invariant c.loop-at-test.true c.byte_of.ensures

pub returns : goal.returns
returns c = pack_end 8196 c.args.entries.now _ _ (let h = c.requires.0 in omega arith) c.loop-at.invariant c.loop-at-test.false

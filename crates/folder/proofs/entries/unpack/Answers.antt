use Rattle.folder.proofs.EntryLaws.{unpack_more, unpack_end}
use Rattle.folder.proofs.entries.unpack.Goals as goal

pub loop-i-preserved : goal.loop-i-preserved
loop-i-preserved c = unpack_more 4098 c.args.bytes.now _ _ _ c.requires.0 c.loop-i.invariant c.loop-i-test.true c.joined.ensures

pub returns : goal.returns
returns c = unpack_end 4098 c.args.bytes.now _ _ c.requires.0 c.loop-i.invariant c.loop-i-test.false

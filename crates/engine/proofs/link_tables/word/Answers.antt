-- `engine::link_tables::word` meets its contract.
use mathlib.Core.Path.{refl}
use Prim.Native.Nat.{◌<◌, ◌%◌}
use native.Mathlib.Omega.{arith}
use lib.Bits.{bit_and, bit_xor}
use Rattle.engine.proofs.RowLaws.{word_none, word_more, rest_lt, link_few}
use Rattle.engine.proofs.link_tables.word.Goals as goal
use Rattle.engine.proofs.link_tables.word.Goals.{After-one-named}

-- a group has four links
few : (c : After-one-named) → c.lowest-j.result < 4
few c =
    link_few c.args.each.now c.args.i c.requires.0 c.lowest-j.result c.one-named.result c.one-named.ensures c.lowest-j.ensures.1

-- without the lowest link it is a word before this one
lower : (c : After-one-named) → bit_xor (c.args.i % 16) (bit_and (c.args.i % 16) c.one-named.result)
    < c.args.i % 16
lower c =
    rest_lt c.args.each.now c.args.i c.requires.0 c.lowest-j.result c.one-named.result c.one-named.ensures c.lowest-j.ensures.1

pub returns-then-s-eq0 : goal.returns-then-s-eq0
returns-then-s-eq0 c = word_none c.args.each.now c.args.i c.if-s-eq0.true

pub bounds-t-before : goal.bounds-t-before
bounds-t-before c = omega (arith, lower (goal.at.bounds-t-before c).After-one-named, c.requires.0)

pub bounds-each-e : goal.bounds-each-e
bounds-each-e c = omega (arith, few (goal.at.bounds-each-e c).After-one-named, c.requires.0)

pub returns : goal.returns
returns c =
    let start = c in
    let lowest = c.lowest-j in
    let l = lower (goal.at.returns c).After-one-named in
    word_more start.args.each.now start.args.i start.requires.0 lowest.result c.one-named.result c.one-named.ensures lowest.ensures.1
    _ _ _ refl refl (start.requires.1 _ (omega (arith, l)))

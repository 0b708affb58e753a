-- `packed::old_record::read_edges` meets its contract. The loop: the edges read so far, with their ranks in the workspace.
use borrow.Author.Rules.{rules}
use mathlib.Core.Path.{◌≡◌, refl}
use native.Mathlib.Omega.{arith}
use Rattle.packed.proofs.Counted.{all_left, one_less}
use Rattle.packed.proofs.ReadingLaws.{starts}
use Rattle.packed.proofs.OldGraphLaws.{ranks_start, load_more}
use Rattle.packed.proofs.OldLoadingLaws.{edges_start, edges_read, edges_refused, edges_ended}
use Rattle.packed.proofs.old_record.read_edges.Goals as goal

pub loop-k-init : goal.loop-k-init
loop-k-init c = (refl, rw all_left (edges_start c.args.number (starts c.requires.0.inside) c.requires.0.few), search rules, ranks_start _ _ _)

pub loop-k-preserved : goal.loop-k-preserved
loop-k-preserved c =
    let pre = c.requires in
    let at-loop = c.loop-k in
    let p = rw c.in-Ok.is at c.read_two-f.ensures in (
      search rules,
      rw (← one_less c.args.number at-loop.k) (edges_read pre.2 pre.1 (omega arith) at-loop.invariant.1 p c.store.ensures (omega arith)),
      search rules,
      load_more (omega arith) at-loop.invariant.2 p (omega arith) at-loop.invariant.3,
    )

pub returns-in-Err : goal.returns-in-Err
returns-in-Err c =
    let at-loop = c.loop-k in
    let p = rw c.in-Err.is at c.read_two-f.ensures in
    (edges_refused _ refl refl (omega arith) at-loop.invariant.1 p, tt)

pub returns : goal.returns
returns c =
    let at-loop = c.loop-k in
    let i = at-loop.invariant in
    let e : at-loop.k ≡ c.args.number = omega (arith, i.1.held.rest) in
    let j = rw e at i.1 in
    (edges_ended _ refl refl (omega arith) j, (refl, rw e at i.3))

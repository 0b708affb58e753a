-- `matching::entering::commit` meets its contract.
use borrow.Author.Rules.{rules}
use mathlib.Core.Path.{refl}
use mathlib.Core.List.{[], ◌∷◌}
use lib.ListN.{length}
use native.Mathlib.Omega.{arith}
use Rattle.packed.specs.declared.reply.Refusal.TheVariants.{SmallWorkspace}
use Rattle.packed.proofs.CallLaws.{small_settled, lent_settled}
use Rattle.matching.specs.Enter.{state_of, commit_outcome}
use Rattle.matching.proofs.EnteringLaws.{commits_by}
use Rattle.matching.proofs.entering.commit.Goals as goal
use Rattle.std.specs.Prelude.{Err}

pub returns : goal.returns
returns c =
    commits_by c.args.«record».now c.args.links c.args.change c.args.slip (Err SmallWorkspace) c.after.result c.after.ensures
    (small_settled [] (commit_outcome c.args.«record».now (state_of c.args.links c.args.change) c.args.slip (length c.args.out.now) (length c.args.index_out.now)) c.args.work.now (c.args.out.now ∷ c.args.index_out.now ∷ []) (omega arith) refl)

pub returns-2 : goal.returns-2
returns-2 c =
    let e = c.enter_record in
    commits_by c.args.«record».now c.args.links c.args.change c.args.slip e.result c.after-2.result c.after-2.ensures
    (lent_settled [] (commit_outcome c.args.«record».now (state_of c.args.links c.args.change) c.args.slip (length c.args.out.now) (length c.args.index_out.now)) c.args.work.now (omega arith) e.ensures.0 e.new.work e.auto.work (search rules))

-- `packed::accept::accept_questions` meets its contract.
use Prim.Native.Nat.{◌*◌}
use Rattle.packed.specs.Formats.{patterns}
use Rattle.packed.proofs.CallLaws.{read_finds, read_long, accepts_by}
use Rattle.packed.proofs.accept.accept_questions.Goals as goal

pub returns-then-most-s : goal.returns-then-most-s
returns-then-most-s c =
    let a = c.args in
    read_long (56 * a.number) 1 (patterns a.number) a.s.now c.if-most-s.true

pub returns : goal.returns
returns c =
    let a = c.args in
    let judge-questions = c.judge_questions in
    rw c.reply_of.ensures (accepts_by (read_finds (56 * a.number) 1 (patterns a.number) a.s.now c.if-most-s.false) judge-questions.result _ _ judge-questions.ensures)

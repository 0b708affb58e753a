-- `numbered::NumberedReplyFromReply::from` meets its contract.
use Rattle.yuthaqim.specs.Numbered.{numbered_reply_told}
use Rattle.yuthaqim.proofs.numbered.NumberedReplyFromReply.from.Goals as goal

pub returns-in-Ok : goal.returns-in-Ok
unfolding numbered_reply_told
returns-in-Ok c = rw c.in-Ok.is

pub returns-in-Err : goal.returns-in-Err
unfolding numbered_reply_told
returns-in-Err c = rw (c.in-Err.is, c.number.ensures, c.detail.ensures)

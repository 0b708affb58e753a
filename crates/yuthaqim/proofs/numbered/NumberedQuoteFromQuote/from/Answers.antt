-- `numbered::NumberedQuoteFromQuote::from` meets its contract.
use Rattle.yuthaqim.proofs.NumberedLaws.{quote_given, quote_refused}
use Rattle.yuthaqim.proofs.numbered.NumberedQuoteFromQuote.from.Goals as goal

pub returns-in-Ok : goal.returns-in-Ok
returns-in-Ok c = quote_given _ c.in-Ok.c c.in-Ok.is c.covered_of.ensures

pub returns-in-Err : goal.returns-in-Err
returns-in-Err c = quote_refused _ _ c.in-Err.is c.number.ensures c.detail.ensures

-- `answering::demands::listings` meets its contract.
use Rattle.answering.proofs.Listings.{listings}
use Rattle.answering.proofs.demands.listings.Goals as goal

pub returns : goal.returns
returns c = listings

use Rattle.wallet_answers.proofs.ListingMade.{listing}
use Rattle.wallet_answers.proofs.laws.answers_are_listed.Goals as goal

pub returns : goal.returns
returns c = listing

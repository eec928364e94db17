-- What holds of the lists of admitted answers.
use Rattle.wallet_answers.specs.Listing.{Listing}

-- There is a listing of the admitted answers of every query and every holding.
abbrev pub ListingIsThere : Type 0
ListingIsThere = Listing

-- Why there is no page, by what the calls below answer.
use Rattle.std.specs.Prelude.{◌≡◌, ℕ, Result, Err, ⊤}
use Rattle.option_list.specs.declared.error.Error as token
use Rattle.option_list.specs.declared.error.Error.TheVariants as token_error
use Rattle.wallet_answers.specs.Listing.{Page}
use Rattle.wallet_options.specs.declared.error.PageError.{PageError}
use Rattle.wallet_options.specs.declared.error.PageError.TheVariants.{Refused, NoMemory}

abbrev pub by_token : token.Error → PageError
by_token (token_error.Refused rule) = Refused rule
by_token token_error.NoMemory = NoMemory

-- There is no page, for this reason, or memory ran out.
abbrev pub IsNone : Result Page ℕ → PageError → Type 0
IsNone page (Refused rule) = page ≡ Err rule
IsNone page NoMemory = ⊤

-- The reply that is a page.
use Rattle.std.specs.Prelude.{◌≡◌, Ok}
use Rattle.dcql_query.specs.Query.{Query}
use Rattle.option_texts.specs.Notes.{notes_text}
use Rattle.program_steps.specs.Outcome.{Outcome}
use Rattle.wallet_answers.specs.Holding.{Holding}
use Rattle.wallet_answers.specs.Listing.{Listing, Page, page_of}
use Rattle.wallet_options.specs.Options.{Asked, page_outcome}

-- it is that of the page that the listing has
abbrev pub IsReplyTo : Listing → Asked → Query → Holding → Outcome → Type 0
IsReplyTo listing asked q h reply =
    (page : Page) × (page_of listing q h asked.after asked.count ≡ Ok page)
    × (reply ≡ page_outcome asked.after (notes_text h.held h.now 0 h.slots) h.slots q page)

-- `options REQUEST WALLET CLIENTS`: which answers to a signed request the wallet has, a page at a time
-- (OpenID4VP 1.0, sections 5, 6 and 8.2).
use Rattle.std.specs.Prelude.{ℕ, List, [], ◌∷◌, ◌++◌, Option, Some, None, Result, Ok, Err, codes}
use Rattle.outside.specs.declared.status.Status.TheVariants.{Done, NoOption}
use Rattle.key_device.specs.Calls.{Held}
use Rattle.program_steps.specs.Outcome.{Outcome, ends_with, line}
use Rattle.runs.specs.Tree.{Tree, gives, stops, needs, time, bind, map_stops}
use Rattle.dcql_query.specs.Query.{Query}
use Rattle.fit_table.specs.Slot.{Stands}
use Rattle.option_texts.specs.Lines.{page_text}
use Rattle.option_texts.specs.Notes.{notes_text}
use Rattle.options_files.specs.Contents.{slots_of}
use Rattle.options_files.specs.Reading.{Files, read_files}
use Rattle.request_object.specs.Request.{request_tree}
use Rattle.wallet_answers.specs.Holding.{Holding}
use Rattle.wallet_answers.specs.Listing.{Listing, Page, page_of}
use Rattle.wallet_options.specs.Refusals.{request_refused, not_an_option}

-- what is asked: the names of the files, the token after which the page begins, if one is given, and how many
-- answers it may have
pub record Asked : Type 0 where
  pub request : List ℕ
  pub wallet : List ℕ
  pub clients : List ℕ
  pub after : Option (List ℕ)
  pub count : ℕ

abbrev pub holding : List Stands → Held → ℕ → Holding
holding slots held now = record { slots = slots; held = held; now = now }

-- ---- what is printed

-- the notes and a page of answers to a query
abbrev pub some_options : List ℕ → List Stands → Query → Page → Outcome
some_options notes slots q page = ends_with Done (notes ++ page_text slots q page.answers page.end)

-- the query admits no answer
abbrev pub no_options : List ℕ → Outcome
no_options notes = ends_with NoOption (notes ++ line (codes "none access_denied"))

-- this where there is none of them, else that
abbrev pub if_none : {A B : Type 0} → List A → B → B → B
if_none [] this that = this
if_none (x ∷ xs) this that = that

-- A page after a token may be empty; a page from the first answer on is so where none is admitted.
abbrev pub page_outcome : Option (List ℕ) → List ℕ → List Stands → Query → Page → Outcome
page_outcome None notes slots q page = if_none page.answers (no_options notes) (some_options notes slots q page)
page_outcome (Some token) notes slots q page = some_options notes slots q page

-- ---- the command

abbrev pub page_tree : Option (List ℕ) → Query → Holding → Result Page ℕ → Tree Outcome Outcome
page_tree after q h (Ok page) = gives (page_outcome after (notes_text h.held h.now 0 h.slots) h.slots q page)
page_tree after q h (Err rule) = stops (not_an_option rule)

-- The page of the answers that a query admits of a holding is printed.
abbrev pub answer_tree : Listing → Asked → Query → Holding → Tree Outcome Outcome
answer_tree listing asked q h = page_tree asked.after q h (page_of listing q h asked.after asked.count)

-- The request is judged, and then its query is answered with what is held at this second.
abbrev pub judged_tree : Listing → Held → Asked → Files → ℕ → Tree Outcome Outcome
judged_tree listing held asked files now =
    bind (map_stops request_refused (request_tree files.clients files.request)) (λ request.
    answer_tree listing asked request.query (holding (slots_of files.credentials) held now))

-- the time
abbrev pub moment_tree : Tree Outcome ℕ
moment_tree = needs time (λ now. gives now)

-- The files are read, then the clock is asked, and then the request is judged, with a device that holds these
-- names.
abbrev pub options_tree : Listing → Held → Asked → Tree Outcome Outcome
options_tree listing held asked =
    bind (read_files asked.request asked.clients asked.wallet) (λ files.
    bind moment_tree (λ now. judged_tree listing held asked files now))

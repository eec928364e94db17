-- The reply that is a page, as a run of a tree that asks nothing.
use Rattle.std.proofs.Common.{◌≡◌, ℕ, List, [], ◌∷◌, Result, Ok, Err, refl, sym, ap, subst}
use Rattle.std.specs.Prelude.{IfOk, IfErr, IsErrAnd}
use Rattle.std.specs.List.{AllByRecursion}
use Rattle.admitted_answers.specs.Admits.{Admits}
use Rattle.admitted_answers.proofs.NextAnswer.{length_admitted}
use Rattle.dcql_answers.specs.declared.fits.Fit.{Fit}
use Rattle.dcql_answers.specs.declared.pick.Pick.{Pick}
use Rattle.option_list.specs.declared.error.Error as token
use Rattle.option_list.specs.declared.error.Error.TheVariants as token_error
use Rattle.option_texts.specs.Lines.{HasLists}
use Rattle.dcql_query.specs.Query.{Query}
use Rattle.program_steps.specs.Outcome.{Outcome}
use Rattle.fit_table.specs.Slot.{Stands}
use Rattle.key_device.specs.Calls.{Held}
use Rattle.runs.specs.Runs.{Ending, value, refused, Runs}
use Rattle.runs.specs.World.{World}
use Rattle.runs.proofs.Trees.{runs_as, runs_gives, runs_stops}
use Rattle.wallet_answers.specs.Holding.{Holding}
use Rattle.wallet_answers.specs.Listing.{Listing, Page, page_of, IsRefusedBy}
use Rattle.wallet_options.specs.Options.{Asked, answer_tree, holding, page_tree}
use Rattle.wallet_options.specs.Refusals.{not_an_option}
use Rattle.wallet_options.specs.code.Replies.{IsReplyTo}
use Rattle.wallet_options.specs.code.Errors.{by_token, IsNone}
use Rattle.wallet_options.specs.declared.error.PageError.{PageError}

pub runs_page : (listing : Listing) (asked : Asked) (q : Query) (h : Holding) (reply : Outcome) (w : World)
    → IsReplyTo listing asked q h reply → Runs (answer_tree listing asked q h) w w (value reply)
runs_page listing asked q h reply w (page, is, same) =
    runs_as _ _ w w (value reply) (ap (page_tree asked.after q h) is) (runs_gives _ _ reply w same)

pub runs_no_page : (listing : Listing) (asked : Asked) (q : Query) (h : Holding) (rule : ℕ) (reply : Outcome)
    (w : World) → page_of listing q h asked.after asked.count ≡ Err rule → reply ≡ not_an_option rule
    → Runs (answer_tree listing asked q h) w w (refused reply)
runs_no_page listing asked q h rule reply w is same =
    runs_as _ _ w w (refused reply) (ap (page_tree asked.after q h) is) (runs_stops _ _ reply w same)

-- a page has lists of picks for each credential query
pub page_lists : (q : Query) (fits : List Fit) (answers : List (List (List Pick)))
    → AllByRecursion (Admits q fits) answers → AllByRecursion (HasLists q) answers
page_lists q fits [] all = tt
page_lists q fits (a ∷ answers) all =
    (length_admitted fits 0 q.credentials a all.0.lists, page_lists q fits answers all.1)

-- there is no page, for the reason that is handed on
pub none_by : {T : Type 0} (page : Result Page ℕ) (r : Result T PageError) (e : token.Error)
    → IsErrAnd r (λ x. x ≡ by_token e) → IsRefusedBy page e → IfErr r (IsNone page)
none_by page (Ok v) e is why = absurd is
none_by page (Err x) (token_error.Refused rule) is why = subst (IsNone page) (sym is) why
none_by page (Err x) token_error.NoMemory is why = subst (IsNone page) (sym is) tt

-- the same query, and the same names that are held
pub runs_same : (listing : Listing) (asked : Asked) (q same : Query) (slots : List Stands) (held still : Held)
    (now : ℕ) (w : World) (end : Ending Outcome Outcome) → q ≡ same → held ≡ still
    → Runs (answer_tree listing asked q (holding slots held now)) w w end
    → Runs (answer_tree listing asked same (holding slots still now)) w w end
runs_same listing asked q same slots held still now w end query names run =
    subst (λ (x : Query). Runs (answer_tree listing asked x (holding slots still now)) w w end) query
    (subst (λ (h : Held). Runs (answer_tree listing asked q (holding slots h now)) w w end) names run)

-- What holds of the text of options.
use Rattle.std.specs.Prelude.{◌≡◌, ◌⊎◌, ◌↔◌, ℕ, List, [], ◌∷◌, Option, Some, None, Ok, IsSome, ⊤}
use Rattle.std.specs.List.{AllByRecursion, Contains}
use Rattle.admitted_answers.specs.Admits.{Admits}
use Rattle.admitted_answers.specs.Least.{AreNext}
use Rattle.claim_tree.specs.Credential.{Credential, IsInDate}
use Rattle.dcql_answers.specs.Answer.{answer_cmp}
use Rattle.dcql_answers.specs.declared.fits.Fit.{Fit}
use Rattle.dcql_answers.specs.declared.pick.Pick.{Pick}
use Rattle.dcql_query.specs.Query.{Query}
use Rattle.dcql_query.specs.Query.{Credential as CredentialQuery}
use Rattle.fit_table.specs.Fit.{IsFit}
use Rattle.fit_table.specs.Slot.{Stands}
use Rattle.fit_table.specs.Usable.{IsHeld}
use Rattle.key_device.specs.Calls.{Held}
use Rattle.option_texts.specs.Lines.{HasLists, picked}
use Rattle.option_texts.specs.Notes.{note_of}
use Rattle.option_texts.specs.declared.slot_notes.Note.TheVariants.{Early, Late}

-- A credential is noted as early or late exactly where it is not in date.
abbrev pub DatesAreNoted : Type 0
DatesAreNoted = (held : Held) (now : ℕ) (c : Credential)
    → ((note_of held now (Ok c) ≡ Some Early) ⊎ (note_of held now (Ok c) ≡ Some Late)) ↔ (IsInDate c now → ⊥)

-- It has no note exactly where it is in date and its holder's key is held.
abbrev pub UsableIsNotNoted : Type 0
UsableIsNotNoted = (held : Held) (now : ℕ) (c : Credential)
    → (note_of held now (Ok c) ≡ None) ↔ (IsInDate c now × IsHeld held c.holder)

-- Each answer of a page of admitted answers has a list of picks for each credential query.
abbrev pub PagesHaveLists : Type 0
PagesHaveLists = (query : Query) (fits : List Fit) (after : Option (List (List Pick)))
    (answers : List (List (List Pick)))
    → AreNext (Admits query fits) answer_cmp after answers → AllByRecursion (HasLists query) answers

-- each pick names a credential that was read and a claim set of its credential query
abbrev pub ArePicked : List Stands → List CredentialQuery → List (List Pick) → Type 0
ArePicked slots [] a = ⊤
ArePicked slots (q ∷ qs) [] = ⊤
ArePicked slots (q ∷ qs) (ps ∷ a) = AllByRecursion (λ p. IsSome (picked slots q p)) ps × ArePicked slots qs a

-- So does each pick of an admitted answer, where the fits are those of the wallet. None of its picks is left
-- out.
abbrev pub AdmittedArePicked : Type 0
AdmittedArePicked = (query : Query) (slots : List Stands) (held : Held) (now : ℕ) (fits : List Fit)
    (answer : List (List Pick))
    → ((fit : Fit) → Contains fits fit → IsFit query slots held now fit)
    → Admits query fits answer → ArePicked slots query.credentials answer

-- The rules of reading a token, of which the least that is broken is answered.
use Rattle.std.specs.Prelude.{◌≡◌, ℕ, ◌⊎◌, true, false, List, Result, Ok, Err, ⊤}
use Rattle.std.specs.List.{AllByRecursion}
use Rattle.dcql_answers.specs.declared.pick.Pick.{Pick}
use Rattle.dcql_answers.specs.declared.fits.Fit.{Fit}
use Rattle.dcql_query.specs.Query.{Query}
use Rattle.admitted_answers.specs.Admits.{Admits}
use Rattle.option_list.specs.declared.error.Error.{Error}
use Rattle.option_list.specs.declared.error.Error.TheVariants.{Refused, NoMemory}
use Rattle.option_list.specs.Token.{Entry, entries_text, token_of}
use Rattle.option_list.specs.Form.{IsSmall, IsEntry, IsEach}
use Rattle.option_list.specs.code.Entries.{are_known}

-- the text has the form of a token, with these entries
abbrev pub HasEntries : List ℕ → List Entry → Type 0
HasEntries text es = IsEach IsEntry es × (entries_text es ≡ text)

-- the text has not the form of a token
abbrev pub HasNoForm : List ℕ → Type 0
HasNoForm text = (es : List Entry) → HasEntries text es → ⊥

-- it has an id of no credential query
abbrev pub HasUnknownId : Query → List ℕ → Type 0
HasUnknownId q text = (es : List Entry) × HasEntries text es × (are_known q.credentials es ≡ false)

-- the numbers of its picks are below 65,536, as those of every answer in memory are
abbrev pub HasSmallPicks : List (List Pick) → Type 0
HasSmallPicks a = AllByRecursion (AllByRecursion IsSmall) a

-- it is the token of no admitted answer
abbrev pub IsOfNoAnswer : Query → List Fit → List ℕ → Type 0
IsOfNoAnswer q fits text = (a : List (List Pick)) → Admits q fits a → HasSmallPicks a → token_of q a ≡ text
    → ⊥

-- it has the form, and all its ids are known
abbrev pub HasKnownIds : Query → List ℕ → Type 0
HasKnownIds q text = (es : List Entry) × HasEntries text es × (are_known q.credentials es ≡ true)

abbrev pub Breaks : Query → List Fit → List ℕ → ℕ → Type 0
Breaks q fits text n = ((n ≡ 1) × HasNoForm text) ⊎ (((n ≡ 2) × HasUnknownId q text)
    ⊎ ((n ≡ 3) × (HasKnownIds q text × IsOfNoAnswer q fits text)))

-- the error names the rule that is broken, or is out of memory
abbrev pub IsRefused : Query → List Fit → List ℕ → Error → Type 0
IsRefused q fits text (Refused n) = Breaks q fits text n
IsRefused q fits text NoMemory = ⊤

-- it was read as this answer, unless memory ran out
abbrev pub IsReadAs : Result (List (List Pick)) Error → List (List Pick) → Type 0
IsReadAs (Ok r) a = r ≡ a
IsReadAs (Err (Refused n)) a = ⊥
IsReadAs (Err NoMemory) a = ⊤

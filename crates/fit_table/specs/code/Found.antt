-- How far the fits of a query were found: those before a place, in ascending order.
use Rattle.std.specs.Prelude.{◌≡◌, ◌↔◌, ℕ, ◌<◌, ◌⊎◌, List, map}
use Rattle.std.specs.List.{Contains}
use Rattle.std.specs.List.Sorted.{IsStrictlySortedBy}
use Rattle.dcql_answers.specs.declared.fits.Fit.{Fit}
use Rattle.dcql_answers.specs.Fits.{fit_of, fit_cmp}
use Rattle.dcql_query.specs.Query.{Query}
use Rattle.key_device.specs.Calls.{Held}
use Rattle.fit_table.specs.Slot.{Stands}
use Rattle.fit_table.specs.Fit.{IsFit}

-- it is before credential query q, credential c and claim set s
abbrev pub Before : ℕ → ℕ → ℕ → Fit → Type 0
Before q c s fit =
    (fit.query < q)
    ⊎ ((fit.query ≡ q) × ((fit.credential < c) ⊎ ((fit.credential ≡ c) × (fit.set < s))))

-- the fits that P holds of and that are before this place
pub record FoundBefore (P : Fit → Type 0) (q c s : ℕ) (found : List Fit) : Type 0 where
  pub ascending : IsStrictlySortedBy fit_cmp found
  pub exact : (fit : Fit) → (Contains found fit ↔ (P fit × Before q c s fit))

-- the fits of a query before this place, by their triples
abbrev pub IsFound : Query → List Stands → Held → ℕ → ℕ → ℕ → ℕ → List (ℕ × ℕ × ℕ) → Type 0
IsFound query slots held now q c s triples =
    FoundBefore (IsFit query slots held now) q c s (map fit_of triples)

-- A step from one answer to the next.
use Rattle.std.specs.Prelude.{ℕ, List}
use Rattle.dcql_answers.specs.declared.pick.Pick.{Pick}
use Rattle.dcql_answers.specs.declared.fits.Fit.{Fit}
use Rattle.admitted_answers.specs.declared.steps.Step.{Step}
use Rattle.admitted_answers.specs.declared.steps.Step.TheVariants.{Within, Onto}
use Rattle.admitted_answers.specs.code.Search.{parts_from, lists_of}

-- the answer to n credential queries that a step from the lists a leads to
abbrev pub reached : List Fit → ℕ → List (List Pick) → Step → List (List Pick)
reached fits n a (Within s) = parts_from fits 0 s a
reached fits n a (Onto set) = lists_of fits 0 n set

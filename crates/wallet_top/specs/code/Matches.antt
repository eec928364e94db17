-- What is printed for the lines of matches.
use Rattle.std.specs.Prelude.{ℕ, List, [], ◌∷◌, ◌++◌, codes}
use Rattle.outside.specs.declared.status.Status.TheVariants.{Done, NoOption}
use Rattle.program_steps.specs.Outcome.{Outcome, ends_with, line}

-- these lines of matches and `end`, or `none` where there are none
abbrev pub ended : List ℕ → Outcome
ended [] = ends_with NoOption (line (codes "none"))
ended (byte ∷ bytes) = ends_with Done ((byte ∷ bytes) ++ line (codes "end"))

-- A file that was read, and then held what it should or was refused by a line.
use Rattle.std.proofs.Common.{◌≡◌, ℕ, List, Option, Some, None, Result, Ok, refl, sym, ap, subst}
use Rattle.std.specs.Option.{ok_or}
use Rattle.base_forms.specs.declared.lines.LineError.{LineError}
use Rattle.base_forms.specs.declared.lines.LineError.TheVariants.{Refused, NoMemory}
use Rattle.program_steps.specs.Outcome.{Outcome, file_refused}
use Rattle.program_steps.specs.code.Endings.{early}
use Rattle.program_steps.specs.declared.stop.Stop.{Stop}
use Rattle.program_steps.specs.declared.stop.Stop.TheVariants as stop
use Rattle.runs.specs.Runs.{value, refused, Runs}
use Rattle.runs.specs.World.{World}
use Rattle.runs.proofs.Trees.{runs_as, runs_gives, runs_stops, runs_out}
use Rattle.wallet_files.specs.code.LineStops.{IsLineStop}
use Rattle.options_files.specs.Reading.{or_refused}
use Rattle.options_files.specs.code.LineErrors.{IsBadLine}

-- it held this
pub runs_held : {A : Type 0} (name : List ℕ) (read : Result A ℕ) (held : A) (w : World) → read ≡ Ok held
    → Runs (or_refused name read) w w (value held)
runs_held name read held w is = runs_as _ _ _ _ _ (ap (or_refused name) is) (runs_gives _ held held w refl)

-- a line was refused
pub runs_refused : {A : Type 0} (name : List ℕ) (read : Result A ℕ) (error : LineError) (end : Stop)
    (w : World) → IsBadLine read error → IsLineStop name error end
    → Runs (or_refused name read) w w (early end)
runs_refused name read (Refused number) (stop.Refused reply) w is same =
    subst (λ (o : Outcome). Runs (or_refused name read) w w (refused o)) (sym same)
    (runs_as _ _ _ _ _ (ap (or_refused name) is) (runs_stops _ (file_refused name number) _ w refl))
runs_refused name read (Refused number) (stop.Failed f) w is same = absurd same
runs_refused name read (Refused number) stop.NoMemory w is same = runs_out _ w
runs_refused name read NoMemory (stop.Refused reply) w is same = absurd same
runs_refused name read NoMemory (stop.Failed f) w is same = absurd same
runs_refused name read NoMemory stop.NoMemory w is same = runs_out _ w

-- it was a text
pub runs_text : (name : List ℕ) (read : Option (List ℕ)) (text : List ℕ) (w : World) → Some text ≡ read
    → Runs (or_refused name (ok_or read 1)) w w (value text)
runs_text name read text w is = runs_held name _ text w (ap (λ (t : Option (List ℕ)). ok_or t 1) (sym is))

-- it was none
pub runs_no_text : (name : List ℕ) (read : Option (List ℕ)) (end : Stop) (w : World) → None ≡ read
    → IsLineStop name (Refused 1) end → Runs (or_refused name (ok_or read 1)) w w (early end)
runs_no_text name read end w is same = runs_refused name _ (Refused 1) end w
    (ap (λ (t : Option (List ℕ)). ok_or t 1) (sym is)) same

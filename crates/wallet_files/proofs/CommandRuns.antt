-- The parts of a command that ask nothing.
use Rattle.std.proofs.Common.{◌≡◌, ℕ, List, Option, Some, None, option_map, refl, sym, ap, subst}
use Rattle.program_steps.specs.Outcome.{Outcome, file_refused}
use Rattle.program_steps.specs.code.Endings.{outcome, early}
use Rattle.program_steps.specs.declared.reply.Reply.{Reply}
use Rattle.program_steps.specs.declared.stop.Stop.{Stop}
use Rattle.program_steps.specs.declared.stop.Stop.TheVariants as stop
use Rattle.runs.specs.Runs.{Ending, value, refused, Runs}
use Rattle.runs.specs.Tree.{Tree, unless}
use Rattle.runs.specs.World.{World}
use Rattle.runs.proofs.Trees.{runs_as, runs_gives, runs_stops, runs_past, runs_broken, runs_out}
use Rattle.serde_json.specs.Data.{Data}
use Rattle.wallet_files.specs.QueryFile.{json_in}
use Rattle.base_forms.specs.Lines.{IsBadLine}
use Rattle.wallet_files.specs.code.LineStops.{IsLineStop}
use Rattle.base_forms.specs.declared.lines.LineError.{LineError}
use Rattle.base_forms.specs.declared.lines.LineError.TheVariants.{Refused, NoMemory}

-- ---- a JSON text

pub runs_json : (name : List ℕ) (read : Option Data) (d : Data) (w : World) → Some d ≡ read
    → Runs (json_in name read) w w (value d)
runs_json name read d w is = runs_as _ _ _ _ _ (ap (json_in name) (sym is)) (runs_gives _ d d w refl)

pub runs_no_json : (name : List ℕ) (read : Option Data) (o : Outcome) (w : World) → None ≡ read
    → o ≡ file_refused name 1 → Runs (json_in name read) w w (refused o)
runs_no_json name read o w is same = runs_as _ _ _ _ _ (ap (json_in name) (sym is))
    (runs_stops _ (file_refused name 1) o w same)

-- ---- lines

-- no line is bad
pub runs_lines : {A : Type 0} (name : List ℕ) (bad : Option ℕ) (rest : Tree Outcome A) (w after : World)
    (end : Ending Outcome A) → bad ≡ None
    → Runs rest w after end → Runs (unless (option_map (file_refused name) bad) rest) w after end
runs_lines name bad rest w after end none run =
    runs_past _ rest w after end (ap (option_map (file_refused name)) none) run

-- a line is bad
pub runs_bad_line : {A : Type 0} (name : List ℕ) (bad : Option ℕ) (error : LineError) (end : Stop)
    (rest : Tree Outcome A) (w : World) → IsBadLine bad error
    → IsLineStop name error end → Runs (unless (option_map (file_refused name) bad) rest) w w (early end)
runs_bad_line name bad (Refused number) (stop.Refused reply) rest w is same =
    subst (λ (o : Outcome). Runs (unless (option_map (file_refused name) bad) rest) w w (refused o))
    (sym same)
    (runs_broken _ (file_refused name number) rest w (ap (option_map (file_refused name)) is))
runs_bad_line name bad (Refused number) (stop.Failed f) rest w is same = absurd same
runs_bad_line name bad (Refused number) stop.NoMemory rest w is same = runs_out _ w
runs_bad_line name bad NoMemory (stop.Refused reply) rest w is same = absurd same
runs_bad_line name bad NoMemory (stop.Failed f) rest w is same = absurd same
runs_bad_line name bad NoMemory stop.NoMemory rest w is same = runs_out _ w

-- ---- a query

-- it is refused
pub runs_refused : {A : Type 0} (refusal : Option Outcome) (reply : Reply) (rest : Tree Outcome A) (w : World)
    → Some (outcome reply) ≡ refusal
    → Runs (unless refusal rest) w w (refused (outcome reply))
runs_refused refusal reply rest w is = runs_broken refusal (outcome reply) rest w (sym is)

-- it is not
pub runs_passed : {A : Type 0} (refusal : Option Outcome) (rest : Tree Outcome A) (w after : World)
    (end : Ending Outcome A) → None ≡ refusal
    → Runs rest w after end → Runs (unless refusal rest) w after end
runs_passed refusal rest w after end is run = runs_past refusal rest w after end (sym is) run

-- An early end of a step is that of the command.
use Rattle.std.proofs.Common.{refl, sym, subst}
use Rattle.program_steps.specs.Outcome.{Outcome}
use Rattle.program_steps.specs.code.Endings.{early, StopsBy}
use Rattle.program_steps.specs.declared.stop.Stop.{Stop}
use Rattle.program_steps.specs.declared.stop.Stop.TheVariants.{Refused, Failed, NoMemory}
use Rattle.runs.specs.Runs.{Ending, value, refused, fault, out_of_memory, Runs}
use Rattle.runs.specs.Tree.{Tree, bind, map_stops}
use Rattle.runs.specs.World.{World}
use Rattle.runs.specs.declared.fault.Fault.{Fault}
use Rattle.runs.proofs.Trees.{IsEarly, runs_early, runs_mapped, runs_unrefused}

pub is_early : (A B : Type 0) (stop : Stop) → IsEarly (early {A = A} stop) (early {A = B} stop)
is_early A B (Refused reply) = refl
is_early A B (Failed f) = refl
is_early A B NoMemory = refl

pub runs_stop : {A B : Type 0} (t : Tree Outcome A) (k : A → Tree Outcome B) (before after : World)
    (stop : Stop)
    → Runs t before after (early stop) → Runs (bind t k) before after (early stop)
runs_stop t k before after stop runs = runs_early t k before after (early stop) (early stop) runs
    (is_early _ _ stop)

-- a call below ended early, and the command ends by that
pub runs_stopped : {R A : Type 0} (printed : R → Outcome) (t : Tree R A) (before after : World)
    (end : Ending R A) (stop : Stop)
    → Runs t before after end → StopsBy printed end stop
    → Runs (map_stops printed t) before after (early stop)
runs_stopped printed t before after (value v) stop run by = absurd by
runs_stopped printed t before after (refused refusal) (Refused reply) run by =
    subst (λ (o : Outcome). Runs (map_stops printed t) before after (refused o)) (sym by)
    (runs_mapped printed t before after (refused refusal) run)
runs_stopped printed t before after (refused refusal) (Failed f) run by = absurd by
runs_stopped printed t before after (refused refusal) NoMemory run by =
    runs_mapped printed t before after out_of_memory (runs_unrefused t before after refusal run)
runs_stopped printed t before after (fault f) (Refused reply) run by = absurd by
runs_stopped printed t before after (fault f) (Failed g) run by =
    subst (λ (h : Fault). Runs (map_stops printed t) before after (fault h)) (sym by)
    (runs_mapped printed t before after (fault f) run)
runs_stopped printed t before after (fault f) NoMemory run by = absurd by
runs_stopped printed t before after out_of_memory (Refused reply) run by = absurd by
runs_stopped printed t before after out_of_memory (Failed f) run by = absurd by
runs_stopped printed t before after out_of_memory NoMemory run by =
    runs_mapped printed t before after out_of_memory run

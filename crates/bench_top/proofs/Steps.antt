-- Steps of a run that issues a credential.
use Rattle.std.proofs.Common.{◌≡◌, ℕ, List, Option, Some, None, option_map, ap}
use Rattle.key_device.specs.Calls.{Held}
use Rattle.program_steps.specs.Outcome.{Outcome, file_refused}
use Rattle.runs.specs.Runs.{Ending, refused, Runs}
use Rattle.runs.specs.World.{World}
use Rattle.runs.proofs.Trees.{runs_as, runs_stops, runs_past}
use Rattle.issue_spec.specs.Spec.{Asked, spec_rule, asked_in}
use Rattle.bench_top.specs.Command.{text_tree, print_tree}
use Rattle.bench_top.specs.Issuing.{Refusal, broken, asked_tree, issue_tree}

-- the file is a text
pub runs_text : (held : Held) (name text : List ℕ) (read : Option (List ℕ)) (before after : World)
    (end : Ending Outcome Outcome) → read ≡ Some text → Runs (print_tree held text) before after end
    → Runs (text_tree held name read) before after end
runs_text held name text read before after end is run =
    runs_as _ _ before after end (ap (text_tree held name) is) run

-- the file is no text
pub runs_no_text : (held : Held) (name : List ℕ) (read : Option (List ℕ)) (now : World) (outcome : Outcome)
    → read ≡ None → outcome ≡ file_refused name 1 → Runs (text_tree held name read) now now (refused outcome)
runs_no_text held name read now outcome is said =
    runs_as _ _ now now (refused outcome) (ap (text_tree held name) is) (runs_stops _ _ outcome now said)

-- the spec breaks no rule, and this is asked
pub runs_asked : (held : Held) (text : List ℕ) (asked : Asked) (before after : World)
    (end : Ending Refusal (List ℕ)) → spec_rule text ≡ None → asked_in text ≡ Some asked
    → Runs (asked_tree held (Some asked)) before after end → Runs (issue_tree held text) before after end
runs_asked held text asked before after end unbroken is run =
    runs_past _ _ before after end (ap (option_map broken) unbroken)
    (runs_as _ _ before after end (ap (asked_tree held) is) run)

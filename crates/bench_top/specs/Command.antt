-- The words of a command of the bench, what is printed, and its tree of questions.
use Rattle.std.specs.Prelude.{ℕ, List, [], ◌∷◌, ◌++◌, Option, Some, None, if◌then◌else◌, option_map, codes}
use Rattle.std.specs.Fmt.{decimal}
use Rattle.std.specs.Str.{bytes_eq}
use Rattle.outside.specs.declared.status.Status.TheVariants.{Done, KeyMissing, SpecRefused}
use Rattle.key_device.specs.Calls.{Held}
use Rattle.program_steps.specs.Files.{read_file, file_limit, text_in}
use Rattle.program_steps.specs.Outcome.{Outcome, ends_with, line, file_refused}
use Rattle.runs.specs.Tree.{Tree, gives, stops, bind, map_stops}
use Rattle.bench_top.specs.Issuing.{Refusal, broken, key_missing, issue_tree}

-- ---- what is printed

abbrev pub spec_refused : ℕ → Outcome
spec_refused rule = ends_with SpecRefused (line (codes "spec refused " ++ decimal rule))

abbrev pub refusal_line : Refusal → Outcome
refusal_line (broken rule) = spec_refused rule
refusal_line key_missing = ends_with KeyMissing (line (codes "key missing"))

-- the text of a credential file
abbrev pub issued : List ℕ → Outcome
issued text = ends_with Done (line text)

-- ---- the command `issue SPEC`

-- the credential is issued and printed
abbrev pub print_tree : Held → List ℕ → Tree Outcome Outcome
print_tree held spec = bind (map_stops refusal_line (issue_tree held spec)) (λ text. gives (issued text))

-- The spec must be a text; no line of a file that is none is read, so its first one is refused.
abbrev pub text_tree : Held → List ℕ → Option (List ℕ) → Tree Outcome Outcome
text_tree held name None = stops (file_refused name 1)
text_tree held name (Some spec) = print_tree held spec

-- the file of the spec is read first
abbrev pub spec_tree : Held → List ℕ → Tree Outcome Outcome
spec_tree held name = bind (read_file file_limit name) (λ bytes. text_tree held name (text_in bytes))

-- ---- words

-- the name of the spec's file, where the words are `issue` and this name
abbrev pub spec_named : List (List ℕ) → Option (List ℕ)
spec_named (word ∷ name ∷ []) = if bytes_eq word (codes "issue") then Some name else None
spec_named words = None

-- the tree that the words decide, for a device that holds these names, and none where they are no command
abbrev pub tree_of_words : Held → List (List ℕ) → Option (Tree Outcome Outcome)
tree_of_words held words = option_map (spec_tree held) (spec_named words)

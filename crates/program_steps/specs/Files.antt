-- The reading of a file within its limit, and bytes that are a text.
use Rattle.std.specs.Prelude.{ℕ, List, Option, Some, None, if◌then◌else◌}
use Rattle.std.specs.Str.{is_utf8}
use Rattle.outside.specs.Store.{File, whole, longer}
use Rattle.program_steps.specs.Outcome.{Outcome, too_long}
use Rattle.runs.specs.Tree.{Tree, gives, stops, needs, file}

-- how many bytes a file may have that is no credential
abbrev pub file_limit : ℕ
file_limit = 1048576

-- a file's bytes, unless they are more than the limit
abbrev pub fitting : List ℕ → File → Tree Outcome (List ℕ)
fitting name (whole bytes) = gives bytes
fitting name longer = stops (too_long name)

-- the file is asked for with its limit
abbrev pub read_file : ℕ → List ℕ → Tree Outcome (List ℕ)
read_file limit name = needs (file name limit) (fitting name)

-- the bytes where they are a text
abbrev pub text_in : List ℕ → Option (List ℕ)
text_in bytes = if is_utf8 bytes then Some bytes else None

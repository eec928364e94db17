-- The wallet file: the files of the credentials, with their formats.
use Rattle.std.specs.Prelude.{ℕ, ◌==◌, List, [], ◌∷◌, Bool, Option, Some, None, is_none, if◌then◌else◌}
use Rattle.std.specs.Prelude.{option_map, codes}
use Rattle.std.specs.List.{before_first, after_first}
use Rattle.std.specs.Str.{bytes_eq, is_utf8}
use Rattle.claim_tree.specs.declared.facts.Format.{Format}
use Rattle.claim_tree.specs.declared.facts.Format.TheVariants.{SdJwt, Mdoc}
use Rattle.program_steps.specs.Files.{read_file}
use Rattle.base_forms.specs.Lines.{lines_of, first_bad}
use Rattle.program_steps.specs.Outcome.{Outcome, file_refused}
use Rattle.runs.specs.Tree.{Tree, gives, bind, unless}
use Rattle.wallet_files.specs.Limits.{file_limit, most_credentials}

-- a credential's format and the name of its file
pub record Entry : Type 0 where
  pub format : Format
  pub file : List ℕ

abbrev pub entry : Format → List ℕ → Entry
entry format file = record { format = format; file = file }

abbrev pub is_blank : ℕ → Bool
is_blank byte = byte == 32

-- the format of a name
abbrev pub format_named : List ℕ → Option Format
format_named word =
    if bytes_eq word (codes "dc+sd-jwt") then Some SdJwt
    else (if bytes_eq word (codes "mso_mdoc") then Some Mdoc else None)

-- a format and the name of a file, which is not empty
abbrev pub entry_with : Option Format → List ℕ → Option Entry
entry_with None name = None
entry_with (Some format) [] = None
entry_with (Some format) (byte ∷ bytes) = Some (entry format (byte ∷ bytes))

-- a format, a blank and the name of a file, which may have blanks itself
abbrev pub entry_of : List ℕ → Option Entry
entry_of line = entry_with (format_named (before_first is_blank line)) (after_first is_blank line)

-- the number of the first line that is no entry, or stands past the limit; the first of these lines has this
-- number
abbrev pub bad_entry : ℕ → List (List ℕ) → Option ℕ
bad_entry number lines = first_bad most_credentials (λ line. is_none (entry_of line)) number lines

-- the file is a text whose lines are entries, else its first line that is none is refused, or line 1 where it
-- is no text
abbrev pub bad_wallet : List ℕ → Option ℕ
bad_wallet bytes = if is_utf8 bytes then bad_entry 1 (lines_of bytes) else Some 1

abbrev pub with_entry : Option Entry → List Entry → List Entry
with_entry None entries = entries
with_entry (Some entry) entries = entry ∷ entries

-- the entries that lines are
abbrev pub entries_of : List (List ℕ) → List Entry
entries_of [] = []
entries_of (line ∷ lines) = with_entry (entry_of line) (entries_of lines)

-- The wallet file is read, and its lines must be entries.
abbrev pub read_wallet : List ℕ → Tree Outcome (List Entry)
read_wallet name =
    bind (read_file file_limit name) (λ bytes.
    unless (option_map (file_refused name) (bad_wallet bytes)) (gives (entries_of (lines_of bytes))))

-- How much of a file is taken.
use Rattle.std.specs.Prelude.{ℕ}
pub use Rattle.program_steps.specs.Files.{file_limit}

-- how many bytes a credential file may have
abbrev pub credential_limit : ℕ
credential_limit = 262144

-- how many lines a file of claim trees may have
abbrev pub most_lines : ℕ
most_lines = 1024

-- how many credentials a wallet file may have
abbrev pub most_credentials : ℕ
most_credentials = 64

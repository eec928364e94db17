-- Booleans that may be absent (OpenID4VP 1.0, sections 6.1 and 6.2).
use Rattle.std.specs.Prelude.{ℕ, Bool, List, option_and_then}
use Rattle.std.specs.Option.{unwrap_or}
use Rattle.serde_json.specs.Data.{Data}
use Rattle.serde_json.specs.Find.{get, as_bool}

-- the boolean at a name, or `usual` where none stands there
abbrev pub flag_at : List ℕ → Bool → Data → Bool
flag_at k usual d = unwrap_or (option_and_then as_bool (get k d)) usual

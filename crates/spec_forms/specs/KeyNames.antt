-- The names of keys: a word for their form, a colon, and what the form makes of the key.
use Rattle.std.specs.Prelude.{ℕ, ◌==◌, Bool, List}
use Rattle.std.specs.List.{after_first}

abbrev pub is_colon : ℕ → Bool
is_colon byte = byte == 58

-- what stands after the first colon, and nothing where there is none
abbrev pub after_colon : List ℕ → List ℕ
after_colon name = after_first is_colon name

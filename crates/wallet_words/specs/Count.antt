-- How many options are asked for.
use Rattle.std.specs.Prelude.{ℕ, ◌&&◌, Bool, List, Option, Some, None, if◌then◌else◌, nat_le, decimal}
use Rattle.std.specs.Str.{bytes_eq}
use Rattle.std.specs.Str.Parse.{digits_value}

-- the number is from 1 to 1000, and the text is what it is written as, without leading zeros
abbrev pub is_count : ℕ → List ℕ → Bool
is_count n text = nat_le 1 n && (nat_le n 1000 && bytes_eq text (decimal n))

-- the number that the text says, where it says a count
abbrev pub count_of : List ℕ → Option ℕ
count_of text = if is_count (digits_value 10 text) text then Some (digits_value 10 text) else None

-- the count where none is asked for
abbrev pub default_count : ℕ
default_count = 20

abbrev pub count_asked : Option (List ℕ) → Option ℕ
count_asked None = Some default_count
count_asked (Some text) = count_of text

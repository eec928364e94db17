-- Rules of a table, some of which stand for a table within it.
use Rattle.std.specs.Prelude.{ℕ, Option, option_map}
use Rattle.request_content.specs.declared.error.RequestRule.{RequestRule}

-- the rule of this number, which stands for no table
abbrev pub number : ℕ → RequestRule
number n = record { number = n; inner = 0 }

-- the rule of this number where a rule of the table within it is broken
abbrev pub within : ℕ → Option ℕ → Option RequestRule
within n inner = option_map (λ m. record { number = n; inner = m }) inner

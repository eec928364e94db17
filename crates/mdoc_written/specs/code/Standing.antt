-- What the code's own types mean.
use Rattle.std.specs.Prelude.{List, ℕ, Option, Some, None}
use Rattle.std.specs.Borrow.{Bor}
use Rattle.mdoc_written.specs.Element.{Standing as Said, byte_string, full_date, itself, stands_by}
use Rattle.mdoc_written.specs.declared.standing.Standing.{Standing}
use Rattle.mdoc_written.specs.declared.standing.Standing.TheVariants as variant

abbrev pub standing_of : Standing → Said
standing_of (variant.ByteString bytes) = byte_string bytes.items
standing_of (variant.FullDate text) = full_date text.now
standing_of variant.Itself = itself

-- what an object stands for, by its one text
abbrev pub stands_as : Option (Bor (List ℕ) × Bor (List ℕ)) → Said
stands_as None = itself
stands_as (Some p) = stands_by p.0.now p.1.now

-- The rules of reading one item (RFC 8949, sections 3 and 5.6): 1 the bytes end within the item, 2 a reserved
-- head, 3 a string in chunks, 4 a text string that is not UTF-8, 5 a key that a map has twice, 6 nested too
-- deep, 7 bytes after the item. If heads break rule 1, 2, 3 or 6, the broken rule is the one that the first
-- such head breaks. Otherwise it is the least broken rule of 4, 5 and 7.
use Rattle.std.specs.Prelude.{ℕ, List, length, not, Option, Some, None, Result}
use Rattle.std.specs.Prelude.{Ok, Err, nat_lt, if◌then◌else◌}
use Rattle.cbor_validity.specs.declared.head.Fault.{Fault}
use Rattle.cbor_validity.specs.declared.head.Fault.TheVariants.{Short, Reserved, Chunked, Deep}
use Rattle.cbor_validity.specs.Item.{item_at}
use Rattle.cbor_validity.specs.Parts.{before}
pub use Rattle.cbor_validity.specs.Fine.{each_below, is_fine_map, is_fine_item}
unfoldable pub use Rattle.cbor_validity.specs.Fine.{each_inside, is_fine_text}

-- 1, 2, 3 and 6, which heads break
abbrev pub rule_of : Fault → ℕ
rule_of Short = 1
rule_of Reserved = 2
rule_of Chunked = 3
rule_of Deep = 6

-- 4, 5 and 7, where the bytes are an item and the rest after it
abbrev pub later_rule : ℕ → List ℕ → List ℕ → Option ℕ
later_rule depth item rest =
    if not (each_inside is_fine_text depth item) then Some 4
    else if not (each_inside is_fine_map depth item) then Some 5
    else if nat_lt 0 (length rest) then Some 7
    else None

abbrev pub rule_after : ℕ → List ℕ → Result (List ℕ) Fault → Option ℕ
rule_after depth bytes (Err f) = Some (rule_of f)
rule_after depth bytes (Ok rest) = later_rule depth (before rest bytes) rest

-- the rule that the bytes break, if they break one
unfoldable pub broken_rule : ℕ → List ℕ → Option ℕ
broken_rule depth bytes = rule_after depth bytes (item_at depth bytes)

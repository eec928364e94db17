-- Looking into indexes by name and by number.
use Rattle.std.specs.Prelude.{ℕ, List, Option, option_map}
use Rattle.std.specs.Borrow.{Bor}
use Rattle.std.specs.BTreeMap.{BTreeMap, get_by}
use Rattle.std.specs.Ordering.{nat_cmp}
use Rattle.std.specs.Cmp.Lexicographic.{slice_cmp}
use Rattle.cbor_core.specs.declared.item.Item.{Item}
use Rattle.cbor_core.specs.Seen.{span_of}
use Rattle.cbor_core.specs.Views.{Span}
use Rattle.mdoc_items.specs.MapFields.{Utf8}

-- the item under a name
abbrev pub seek : Utf8 → BTreeMap (Bor (List ℕ)) Item → Option Span
seek name m = option_map span_of (get_by (λ k. slice_cmp nat_cmp name k.now) m)

-- the bytes under a number
abbrev pub look : ℕ → BTreeMap ℕ (Bor (List ℕ)) → Option (List ℕ)
look number m = option_map (λ b. b.now) (get_by (nat_cmp number) m)

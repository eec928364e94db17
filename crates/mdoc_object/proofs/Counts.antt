-- How many items there are.
use Rattle.std.proofs.Common.{◌≡◌, ℕ, suc, length, refl, ap}
use Rattle.serde_json.specs.Data.{Members as Fields, no_members as no_fields, member as field}
use Rattle.mdoc_object.specs.Namespaces.{member_count, items_from}

pub items_count : (n : ℕ) (ms : Fields) → length (items_from n ms) ≡ member_count ms
items_count n no_fields = refl
items_count n (field k d ms) = ap suc (items_count (suc n) ms)

-- The index of a digest in a list.
use Rattle.std.specs.Prelude.{ℕ, suc, List, [], ◌∷◌, Option, Some, None, option_map, string_bytes}
use Rattle.std.specs.Prelude.{if◌then◌else◌}
use Rattle.std.specs.Str.{bytes_eq}
use Rattle.std.specs.Borrow.{Bor}
use Rattle.std.specs.Ordering.{nat_cmp}
use Rattle.std.specs.BTreeMap.{BTreeMap, get_by}
use Rattle.std.specs.Cmp.Lexicographic.{slice_cmp}
use Rattle.base_forms.specs.Texts.{Utf8}
use Rattle.sdjwt_digests.specs.declared.disclosure.Disclosure.{Disclosure}

abbrev pub own_digest : Disclosure → Utf8
own_digest d = string_bytes d.digest

-- the index of the first of some texts that equals a text
abbrev pub first_index : Utf8 → List Utf8 → Option ℕ
first_index x [] = None
first_index x (y ∷ ys) = if bytes_eq y x then Some 0 else option_map suc (first_index x ys)

-- the index that a map has for a text
abbrev pub index_at : BTreeMap (Bor Utf8) ℕ → Utf8 → Option ℕ
index_at order x = get_by (λ k. slice_cmp nat_cmp x k.now) order

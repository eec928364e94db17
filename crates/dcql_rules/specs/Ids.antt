-- Ids of credential queries and of claims, and the lists that name them (OpenID4VP 1.0, sections 6.1, 6.3 and
-- 6.4).
use Rattle.std.specs.Prelude.{ℕ, Bool, false, not, ◌&&◌, ◌||◌, ◌==◌, nat_le, is_some, List, [], ◌∷◌, codes}
use Rattle.std.specs.Option.{option_map_or}
use Rattle.std.specs.List.{list_all, list_any}
use Rattle.std.specs.Str.{bytes_eq}
use Rattle.serde_json.specs.Data.{Data}
use Rattle.serde_json.specs.Find.{get, as_str}
use Rattle.json_forms.specs.Look.{elements_of, is_empty, text_at, is_wrong}

abbrev pub is_between : ℕ → ℕ → ℕ → Bool
is_between low high x = nat_le low x && nat_le x high

-- an ASCII letter, an ASCII digit, `_` or `-`
abbrev pub is_id_byte : ℕ → Bool
is_id_byte x = is_between 65 90 x || is_between 97 122 x || is_between 48 57 x || (x == 95) || (x == 45)

-- the form of an id: a string of one or more such characters
abbrev pub is_id : List ℕ → Bool
is_id s = not (is_empty s) && list_all is_id_byte s

abbrev pub is_id_text : Data → Bool
is_id_text d = option_map_or is_id (as_str d) false

-- it has an `id` of that form
abbrev pub has_id : Data → Bool
has_id d = option_map_or is_id_text (get (codes "id") d) false

abbrev pub all_have_right_ids : List Data → Bool
all_have_right_ids ds = list_all has_id ds

-- where an `id` is there, it is of that form
abbrev pub are_right_ids : List Data → Bool
are_right_ids ds = list_all (λ d. not (is_wrong is_id_text (get (codes "id") d))) ds

-- each has an `id`, whatever it is
abbrev pub all_have_ids : List Data → Bool
all_have_ids ds = list_all (λ d. is_some (get (codes "id") d)) ds

-- its id is s
abbrev pub is_named : List ℕ → Data → Bool
is_named s d = option_map_or (bytes_eq s) (text_at (codes "id") d) false

-- one of them has the id s
abbrev pub is_known : List Data → List ℕ → Bool
is_known ds s = list_any (is_named s) ds

-- two of them have the same id
abbrev pub has_equal_ids : List Data → Bool
has_equal_ids [] = false
has_equal_ids (d ∷ ds) = option_map_or (is_known ds) (text_at (codes "id") d) false || has_equal_ids ds

-- each of the names is the id of one of them
abbrev pub knows_all : List Data → List Data → Bool
knows_all ds names = list_all (λ n. option_map_or (is_known ds) (as_str n) false) names

-- the same of each list of names
abbrev pub knows_all_lists : List Data → List Data → Bool
knows_all_lists ds lists = list_all (λ l. knows_all ds (elements_of l)) lists

-- Items and values byte by byte.
use Rattle.std.specs.Prelude.{◌≡◌, ℕ, negsuc, List, [], ◌∷◌, codes}
use Rattle.std.proofs.Common.{refl}
use Rattle.base_forms.specs.Base16.{hex_rule, paired}
use Rattle.base_forms.specs.Rules.{rule}
use Rattle.serde_json.specs.Data.{unsigned, negative, number, string, array, object, no_items, item}
use Rattle.serde_json.specs.Data.{no_members}
use Rattle.serde_json.specs.Data.{member}
use Rattle.cbor_core.specs.Writing.{head_bytes}
use Rattle.mdoc_written.specs.Element.{element_bytes}
use Rattle.mdoc_written.specs.Item.{item_bytes}

-- the item of number 0, of the element `a` whose value is 1
item_of_a : item_bytes 0 (codes "a") (number (unsigned 1)) ≡
    (216 ∷ 24 ∷ 88 ∷ 69 ∷ 164
    ∷ 102 ∷ 114 ∷ 97 ∷ 110 ∷ 100 ∷ 111 ∷ 109
    ∷ 80 ∷ 0 ∷ 0 ∷ 0 ∷ 0 ∷ 0 ∷ 0 ∷ 0 ∷ 0 ∷ 0 ∷ 0 ∷ 0 ∷ 0 ∷ 0 ∷ 0 ∷ 0 ∷ 0
    ∷ 104 ∷ 100 ∷ 105 ∷ 103 ∷ 101 ∷ 115 ∷ 116 ∷ 73 ∷ 68 ∷ 0
    ∷ 108 ∷ 101 ∷ 108 ∷ 101 ∷ 109 ∷ 101 ∷ 110 ∷ 116 ∷ 86 ∷ 97 ∷ 108 ∷ 117 ∷ 101 ∷ 1
    ∷ 113 ∷ 101 ∷ 108 ∷ 101 ∷ 109 ∷ 101 ∷ 110 ∷ 116
    ∷ 73 ∷ 100 ∷ 101 ∷ 110 ∷ 116 ∷ 105 ∷ 102 ∷ 105 ∷ 101 ∷ 114
    ∷ 97 ∷ 97 ∷ [])
unfolding head_bytes
item_of_a = refl

-- `{"aa":[-1],"b":{"$date":"x"}}`: the shorter key stands first
map_of_two : element_bytes (object
    (member (codes "aa") (array (item (number (negative (negsuc 0))) no_items))
    (member (codes "b") (object (member (codes "$date") (string (codes "x")) no_members)) no_members))) ≡
    (162 ∷ 97 ∷ 98 ∷ 217 ∷ 3 ∷ 236 ∷ 97 ∷ 120 ∷ 98 ∷ 97 ∷ 97 ∷ 129 ∷ 32 ∷ [])
unfolding head_bytes
map_of_two = refl

-- `{"$bytes":"ffd8"}`
two_bytes : element_bytes (object (member (codes "$bytes") (string (codes "ffd8")) no_members)) ≡
    (66 ∷ 255 ∷ 216 ∷ [])
unfolding head_bytes hex_rule paired rule
two_bytes = refl

-- What may be hidden is not empty: claims with a list and its elements hidden, each disclosure with a digest
-- of its own.
use Rattle.std.proofs.Common.{◌≡◌, ◌+◌, true, false, List, [], ◌∷◌, codes, refl, arith}
use Rattle.serde_json.specs.Data.{string, boolean, array, object, no_items, item, Members as Fields}
use Rattle.serde_json.specs.Data.{no_members as no_fields, member as field}
use Rattle.claim_names.specs.declared.address.Step.{Step}
use Rattle.claim_names.specs.declared.address.Step.TheVariants.{Name, Place}
use Rattle.claim_tree.specs.Tree.{Text, Truth, ListOf, RecordOf, no_elements, element, no_members, member}
use Rattle.sdjwt_hiding.specs.Hiding.{Digests, hidden}
use Rattle.sdjwt_hiding.specs.Meant.{meant}
use Rattle.sdjwt_hiding.specs.Laws.{MayHide}
use Rattle.sdjwt_hiding.specs.Addresses.{number_in}

abbrev by_place : Digests
by_place n name v = (97 + n) ∷ []

abbrev claims : Fields
claims = field (codes "a") (boolean true)
    (field (codes "nat") (array (item (string (codes "FR")) (item (string (codes "DE")) no_items))) no_fields)

abbrev hide : List (List Step)
hide = (Name (codes "nat") ∷ []) ∷ (Name (codes "nat") ∷ Place 1 ∷ []) ∷ []

-- the list is held in the record, its second element is held in it, and it is loose
tree_is : meant (number_in hide) (object claims) ≡ RecordOf
    (member (codes "a") false (Truth true)
    (member (codes "nat") true (ListOf true
    (element false (Text (codes "FR")) (element true (Text (codes "DE")) no_elements))) no_members))
tree_is = refl

-- the payload keeps `a` and has one digest
payload_is : hidden by_place (number_in hide) (object claims) ≡ object
    (field (codes "_sd") (array (item (string (97 ∷ [])) no_items))
    (field (codes "a") (boolean true) no_fields))
payload_is = refl

pub may_hide : MayHide by_place (number_in hide) claims
may_hide = record { is_read = refl; shallow = omega arith; free = refl; keeps = refl; differing = refl }

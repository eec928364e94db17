-- The claim tree that is meant where parts of a JSON value are hidden: that of the value, with each hidden
-- part held, and a list loose where one of its elements is hidden.
use Rattle.std.specs.Prelude.{ℕ, suc, Bool, List, [], ◌∷◌, is_some}
use Rattle.std.specs.List.{list_any}
use Rattle.serde_json.specs.Data.{Data, null, boolean, number, string, array, object, Items, no_items, item}
use Rattle.serde_json.specs.Data.{Members as Fields, no_members as no_fields, member as field}
use Rattle.claim_tree.specs.Tree.{Tree, Text, Truth, Null, ListOf, RecordOf}
use Rattle.claim_tree.specs.Plain.{plain_number}
use Rattle.claim_tree.specs.Parts.{Part, Named, elements_of, members_of}
use Rattle.claim_names.specs.declared.address.Step.TheVariants.{Name, Place}
use Rattle.sdjwt_hiding.specs.Hiding.{Marks, under, at}

abbrev pub any_held : List Part → Bool
any_held es = list_any (λ e. e.0) es

abbrev mutual
  pub meant : Marks → Data → Tree
  meant m null = Null
  meant m (boolean b) = Truth b
  meant m (number n) = plain_number n
  meant m (string s) = Text s
  meant m (array ds) = ListOf (any_held (meant_elements m 0 ds)) (elements_of (meant_elements m 0 ds))
  meant m (object ms) = RecordOf (members_of (meant_members m ms))

  -- the elements from a place on
  pub meant_elements : Marks → ℕ → Items → List Part
  meant_elements m i no_items = []
  meant_elements m i (item d ds) =
      (is_some (at (Place i) m), meant (under (Place i) m) d) ∷ meant_elements m (suc i) ds

  pub meant_members : Marks → Fields → List Named
  meant_members m no_fields = []
  meant_members m (field k d ms) =
      (k, is_some (at (Name k) m), meant (under (Name k) m) d) ∷ meant_members m ms

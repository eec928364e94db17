-- What the walk over a value hides and makes.
use Rattle.std.specs.Prelude.{ℕ, List, ◌++◌, Option, Some, None}
use Rattle.serde_json.specs.Data.{Data, Members as Fields, put}
use Rattle.base_forms.specs.Texts.{Utf8}
use Rattle.claim_names.specs.declared.address.Step.{Step}
use Rattle.sdjwt_hiding.specs.Hiding.{Marks}
use Rattle.sdjwt_hiding.specs.code.Places.{place_in}
use Rattle.sdjwt_hiding.specs.declared.addresses.Places.{Places}

-- the marks of the part at an address, by addresses from there on
abbrev pub marks_at : Places → List Step → Marks
marks_at places path = λ a. place_in places (path ++ a)

-- the members with one more of this mark, where it stays
abbrev pub put_staying : Option ℕ → Utf8 → Data → Fields → Fields
put_staying None k d ms = put k d ms
put_staying (Some n) k d ms = ms

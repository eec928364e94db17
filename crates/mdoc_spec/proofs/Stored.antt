-- JSON values in memory.
use Rattle.std.proofs.Common.{◌≡◌, false, ◌||◌, List, [], ◌∷◌, length, string_bytes, refl, sym, ap, ◌∙◌}
use Rattle.std.proofs.Common.{arith, rules, subst}
use Rattle.std.specs.declared.alloc.Global.{Global}
use Rattle.std.specs.Prelude.{String}
use Rattle.std.proofs.lemmas.Str.{IsUtf8-string_bytes, is_utf8-from_IsUtf8}
use Rattle.serde_json.specs.Data.{Data, string, Members as Fields, member as field}
use Rattle.serde_json.specs.View.{view, members_view}
use Rattle.serde_json.specs.Written.{has_float, members_have_float}
use Rattle.serde_json.specs.declared.value.Value.{Value, String as String-value, the_lemmas}
use Rattle.base_forms.specs.Texts.{Utf8}
use Rattle.mdoc_object.specs.Namespaces.{member_count}
use Rattle.mdoc_written.specs.Laws.{IsText}
use Rattle.mdoc_spec.specs.code.Texts.{IsStored, HoldStored}

pub text_stored : (s : String Global) → IsText (string_bytes s)
text_stored s = is_utf8-from_IsUtf8 (string_bytes s) (IsUtf8-string_bytes s)

view-String : (s : String Global) → view (String-value s) ≡ string (string_bytes s)
view-String s = search (rules, the_lemmas)

pub stored_string : (s : String Global) → IsStored (view (String-value s))
stored_string s = subst IsStored (sym (view-String s)) (text_stored s)

pub counted : (es : List (String Global × Value)) → member_count (members_view es) ≡ length es
counted [] = refl
counted (e ∷ es) = grind (arith, counted es)

-- what is known of an object when its first members were looked at, and these are left
abbrev pub Keeps : Fields → Fields → Type 0
Keeps ms all = (members_have_float ms ≡ members_have_float all) × (HoldStored ms → HoldStored all)

pub one_more : (k : Utf8) (d : Data) (rest ms all : Fields) → ms ≡ field k d rest → IsText k
    → has_float d ≡ false → IsStored d → Keeps ms all → Keeps rest all
one_more k d rest ms all is text whole stored keeps = (
  ap (λ b. b || members_have_float rest) (sym whole) ∙ sym (ap members_have_float is) ∙ keeps.0,
  λ h. keeps.1 (subst HoldStored (sym is) (text, stored, h)),
)

-- Objects of one text, and of other members.
use Rattle.std.proofs.Common.{◌≡◌, ℕ, List, [], ◌∷◌, length, map, String, Global, string_bytes, refl, sym, ap}
use Rattle.std.proofs.Common.{◌∙◌, arith, rules}
use Rattle.serde_json.specs.Data.{Data, null, boolean, number, string, array, object}
use Rattle.serde_json.specs.Data.{Members as Fields, no_members as no_fields, member as field}
use Rattle.serde_json.specs.View.{view, members_view}
use Rattle.serde_json.specs.declared.value.Value.{Value, String as String-value, the_lemmas}
use Rattle.serde_json.proofs.Views.{Entry}
use Rattle.mdoc_written.specs.Element.{itself, stands_for, stands_by}

two_members : (k l : List ℕ) (d e : Data) (ms : Fields) → itself ≡ stands_for (field k d (field l e ms))
two_members k l null e ms = refl
two_members k l (boolean b) e ms = refl
two_members k l (number n) e ms = refl
two_members k l (string s) e ms = refl
two_members k l (array ds) e ms = refl
two_members k l (object fs) e ms = refl

pub not_one : (es : List Entry) (n : ℕ) → n ≡ length es → (n ≡ 1 → ⊥) → itself ≡ stands_for (members_view es)
not_one [] n e other = refl
not_one (x ∷ []) n e other = absurd (other e)
not_one (x ∷ y ∷ es) n e other =
    two_members (string_bytes x.0) (string_bytes y.0) (view x.1) (view y.1) (members_view es)

one_at : (k t : List ℕ) (d : Data) → d ≡ string t → stands_by k t ≡ stands_for (field k d no_fields)
one_at k t d e = rw e refl

pub one_text : (es rest : List Entry) (n : ℕ) (k : String Global) (v : Value) (name text : List ℕ)
    → n ≡ length es → n ≡ 1 → es ≡ (k, v) ∷ rest → name ≡ string_bytes k → view v ≡ string text
    → stands_by name text ≡ stands_for (members_view es)
one_text [] rest n k v name text e one is named valued = absurd (omega (arith, e, one))
one_text (x ∷ []) rest n k v name text e one is named valued =
    let same : x ≡ (k, v) = cc in
    ap (λ (m : List ℕ). stands_by m text) (named ∙ ap (λ (y : Entry). string_bytes y.0) (sym same))
    ∙ one_at (string_bytes x.0) text (view x.1) (ap (λ (y : Entry). view y.1) same ∙ valued)
one_text (x ∷ y ∷ es) rest n k v name text e one is named valued = absurd (omega (arith, e, one))

pub view-String : (t : String Global) → view (String-value t) ≡ string (string_bytes t)
view-String t = search (rules, the_lemmas)

-- What clashes.
use Rattle.std.proofs.Common.{◌≡◌, true, false, not, ◌||◌, List, String, Global, BTreeMap, sym, ap, ap₂, ◌∙◌}
use Rattle.std.specs.List.{list_any}
use Rattle.std.specs.Option.{is_some}
use Rattle.serde_json.specs.Find.{get_member}
use Rattle.serde_json.specs.View.{view, members_view}
use Rattle.serde_json.specs.declared.value.Value.{Value, Object}
use Rattle.serde_json.proofs.Views.{view-Object}
use Rattle.base_forms.specs.Texts.{Utf8, differ}
use Rattle.sdjwt_digests.specs.Disclosures.{Disclosed}
use Rattle.sdjwt_digests.specs.DigestSites.{own_digests}
use Rattle.sdjwt_disclosures.specs.MemberNames.{disclosed_names, gets_clash, has_clash, members_have_clash}

pub clash_rest : (ls : List Disclosed) (v : Value) (m : BTreeMap (String Global) Value) (names : List Utf8)
    → v ≡ Object m → differ names ≡ true
    → list_any (λ k. is_some (get_member k (members_view m.entries))) names ≡ false
    → names ≡ disclosed_names ls (own_digests (members_view m.entries))
    → members_have_clash ls (members_view m.entries) ≡ has_clash ls (view v)
clash_rest ls v m names is apart new come =
    let clash : gets_clash names (members_view m.entries) ≡ false = ap₂ (λ a b. not a || b) apart new in
    sym (ap (λ w. has_clash ls (view w)) is ∙ ap (has_clash ls) (view-Object m)
    ∙ ap (λ b. b || members_have_clash ls (members_view m.entries))
    (ap (λ ks. gets_clash ks (members_view m.entries)) (sym come) ∙ clash))

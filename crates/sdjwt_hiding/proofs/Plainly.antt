-- What is not marked is written as it is.
use Rattle.std.proofs.Common.{◌≡◌, ℕ, suc, Bool, true, false, not, ◌&&◌, ◌||◌, List, [], ◌∷◌, Option, Some}
use Rattle.std.proofs.Common.{None, refl, sym, ap, ap₂, ◌∙◌, subst, inl, inr}
use Rattle.std.specs.Prelude.{is_none}
use Rattle.std.specs.Str.{bytes_eq}
use Rattle.std.proofs.lemmas.Bool.{and_parts, cases_Bool}
use Rattle.serde_json.specs.Data.{Data, null, boolean, number, string, array, object, Items, no_items, item}
use Rattle.serde_json.specs.Data.{Members as Fields, no_members as no_fields, member as field}
use Rattle.serde_json.specs.Find.{get, get_member}
use Rattle.claim_names.specs.declared.address.Step.{Step}
use Rattle.claim_names.specs.declared.address.Step.TheVariants.{Name, Place}
use Rattle.base_forms.specs.Texts.{Utf8, is_among}
use Rattle.base_forms.proofs.Differing.{same_from, bytes_eq-flip}
use Rattle.sdjwt_digests.specs.DigestSites.{sd}
use Rattle.sdjwt_disclosures.specs.MemberNames.{plain_only}
use Rattle.sdjwt_disclosures.specs.DisclosedTree.{sd_alg}
use Rattle.sdjwt_disclosures.proofs.Fields.{HasNo, member_here, member_past}
use Rattle.sdjwt_hiding.specs.Hiding.{Marks, under, at, Digests, with_digests, standing, with_member}
use Rattle.sdjwt_hiding.specs.Hiding.{with_digest, hidden, hidden_items, left_members, own_digests}
use Rattle.sdjwt_hiding.specs.Hiding.{StaysPlain}
use Rattle.sdjwt_hiding.specs.Laws.{keeps_plain_only}
use Rattle.sdjwt_hiding.proofs.Written.{other_members, absent, none_stays}

-- nothing is marked
abbrev Unmarked : Marks → Type 0
Unmarked m = (a : List Step) → m a ≡ None

mutual
  pub unmarked_is : (x : Digests) (m : Marks) (d : Data) → ((a : List Step) → m a ≡ None) → hidden x m d ≡ d
  unmarked_is x m null h = refl
  unmarked_is x m (boolean b) h = refl
  unmarked_is x m (number n) h = refl
  unmarked_is x m (string s) h = refl
  unmarked_is x m (array ds) h = ap array (unmarked_items x m 0 ds h)
  unmarked_is x m (object ms) h =
      ap object (ap₂ with_digests (unmarked_digests x m ms h) (unmarked_members x m ms h))

  unmarked_items : (x : Digests) (m : Marks) (i : ℕ) (ds : Items) → ((a : List Step) → m a ≡ None)
      → hidden_items x m i ds ≡ ds
  unmarked_items x m i no_items h = refl
  unmarked_items x m i (item d ds) h =
      ap₂ item (ap (λ o. standing x o (hidden x (under (Place i) m) d)) (h (Place i ∷ []))
      ∙ unmarked_is x (under (Place i) m) d (λ a. h (Place i ∷ a))) (unmarked_items x m (suc i) ds h)

  unmarked_members : (x : Digests) (m : Marks) (ms : Fields) → ((a : List Step) → m a ≡ None)
      → left_members x m ms ≡ ms
  unmarked_members x m no_fields h = refl
  unmarked_members x m (field k d ms) h =
      ap (λ o. with_member o k (hidden x (under (Name k) m) d) (left_members x m ms)) (h (Name k ∷ []))
      ∙ ap₂ (field k) (unmarked_is x (under (Name k) m) d (λ a. h (Name k ∷ a))) (unmarked_members x m ms h)

  unmarked_digests : (x : Digests) (m : Marks) (ms : Fields) → ((a : List Step) → m a ≡ None)
      → own_digests x m ms ≡ []
  unmarked_digests x m no_fields h = refl
  unmarked_digests x m (field k d ms) h =
      ap (λ o. with_digest x o k (hidden x (under (Name k) m) d) (own_digests x m ms)) (h (Name k ∷ []))
      ∙ unmarked_digests x m ms h

-- ---- a member that stays

past_member : (o : Option ℕ) (k l : Utf8) (v : Data) (ms : Fields) → bytes_eq l k ≡ false
    → get_member k (with_member o l v ms) ≡ get_member k ms
past_member None k l v ms e = member_past k l v ms e
past_member (Some n) k l v ms e = refl

left_member : (x : Digests) (m : Marks) (k : Utf8) (ms : Fields) → StaysPlain m k
    → get_member k (left_members x m ms) ≡ get_member k ms
left_member x m k no_fields h = refl
left_member x m k (field l d ms) h = elim (cases_Bool (bytes_eq l k)) [
  | inl here ↦
      let is : k ≡ l = sym (same_from l k here) in
      let plain : StaysPlain m l = subst (StaysPlain m) is h in
      ap (λ o. get_member k (with_member o l (hidden x (under (Name l) m) d) (left_members x m ms)))
      (plain [])
      ∙ member_here k l (hidden x (under (Name l) m) d) (left_members x m ms) here
      ∙ ap Some (unmarked_is x (under (Name l) m) d plain)
      ∙ sym (member_here k l d ms here)
  | inr past ↦
      past_member (at (Name l) m) k l (hidden x (under (Name l) m) d) (left_members x m ms) past
      ∙ left_member x m k ms h ∙ sym (member_past k l d ms past)
]

pub same_member : (x : Digests) (m : Marks) (k : Utf8) (ms : Fields) → bytes_eq k sd ≡ false → StaysPlain m k
    → get k (hidden x m (object ms)) ≡ get k (object ms)
same_member x m k ms other h = other_members k (own_digests x m ms) (left_members x m ms) (not_sd other)
    ∙ left_member x m k ms h where
      not_sd : bytes_eq k sd ≡ false → k ≡ sd → ⊥
      not_sd e is = let clash : true ≡ false = ap (λ z. bytes_eq z sd) (sym is) ∙ e in cc clash

-- ---- no hash is named

not_true : (b : Bool) → not b ≡ true → b ≡ false
not_true true e = cc
not_true false e = refl

no_hash : (m : Marks) (ms : Fields) → keeps_plain_only m ms ≡ true → HasNo sd_alg ms
no_hash m no_fields h = tt
no_hash m (field k d ms) h =
    let c = and_parts (not (bytes_eq sd_alg k) && (is_none (at (Name k) m) || not (is_among k plain_only)))
    (keeps_plain_only m ms) h in
    let e = and_parts (not (bytes_eq sd_alg k)) (is_none (at (Name k) m) || not (is_among k plain_only)) c.0
    in
    (bytes_eq-flip k sd_alg ∙ not_true (bytes_eq sd_alg k) e.0, no_hash m ms c.1)

pub none_named : (x : Digests) (m : Marks) (ms : Fields) → keeps_plain_only m ms ≡ true
    → get sd_alg (hidden x m (object ms)) ≡ None
none_named x m ms h = other_members sd_alg (own_digests x m ms) (left_members x m ms) not_sd
    ∙ absent sd_alg (left_members x m ms) (none_stays x m sd_alg ms (no_hash m ms h)) where
      not_sd : sd_alg ≡ sd → ⊥
      not_sd is = let clash : true ≡ false = ap (λ z. bytes_eq z sd) (sym is) in cc clash

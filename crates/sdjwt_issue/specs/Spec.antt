-- What an issuer is asked to write as an SD-JWT VC: claims with parts to hide, and what the credential says
-- of itself (RFC 7519, section 4.1; RFC 7800, section 3.2; SD-JWT VC, section 3.2.2).
use Rattle.std.specs.Prelude.{◌≡◌, ◌≤◌, ⊤, ℕ, Bool, true, false, List, ◌∷◌, length, codes}
use Rattle.std.specs.Prelude.{Option, Some, None, option_map}
use Rattle.std.specs.List.{list_any}
use Rattle.serde_json.specs.Data.{Data, unsigned, number, string, object, Members as Fields}
use Rattle.serde_json.specs.Data.{no_members as no_fields, member as field, put, depth}
use Rattle.serde_json.specs.Written.{members_have_float}
use Rattle.base_forms.specs.Texts.{Utf8, is_among}
use Rattle.jws_envelope.specs.KeyNames.{kid_name}
use Rattle.claim_tree.specs.Tree.{is_claim, member_names}
use Rattle.claim_tree.specs.Plain.{plain, plain_members as plain_fields}
use Rattle.claim_names.specs.declared.address.Step.{Step}
use Rattle.claim_names.specs.declared.address.Step.TheVariants.{Name}
use Rattle.sdjwt_view.specs.Facts.{is_key}
use Rattle.sdjwt_view.specs.Reading.{most_disclosures}
use Rattle.sdjwt_disclosures.specs.MemberNames.{plain_only}
use Rattle.sdjwt_hiding.specs.Addresses.{number_in}
use Rattle.sdjwt_hiding.specs.Hiding.{met, is_free, has_free}
use Rattle.sdjwt_hiding.specs.Disclosing.{by_sha256}

-- The name of the issuer's key, with the issuer and the key's identifier; the kind of credential; the
-- holder's
-- key, a JWK; the seconds from which on and up to which it is valid; the claims; the addresses of the parts
-- to hide.
pub record Spec : Type 0 where
  pub key_name : Utf8
  pub issuer : Utf8
  pub key : Utf8
  pub kind : Utf8
  pub holder : Option Data
  pub from : Option ℕ
  pub until : Option ℕ
  pub claims : Fields
  pub hide : List (List Step)

-- ---- the payload before parts are hidden

abbrev pub put_some : Utf8 → Option Data → Fields → Fields
put_some k None ms = ms
put_some k (Some d) ms = put k d ms

abbrev pub moment : ℕ → Data
moment n = number (unsigned n)

abbrev pub confirmation : Data → Data
confirmation jwk = object (field (codes "jwk") jwk no_fields)

-- the claims, and with them `cnf`, `exp`, `nbf`, `vct` and `iss`, one after another
abbrev pub with_holder : Spec → Fields
with_holder s = put_some (codes "cnf") (option_map confirmation s.holder) s.claims

abbrev pub with_until : Spec → Fields
with_until s = put_some (codes "exp") (option_map moment s.until) (with_holder s)

abbrev pub with_from : Spec → Fields
with_from s = put_some (codes "nbf") (option_map moment s.from) (with_until s)

abbrev pub with_kind : Spec → Fields
with_kind s = put (codes "vct") (string s.kind) (with_from s)

abbrev pub all_members : Spec → Fields
all_members s = put (codes "iss") (string s.issuer) (with_kind s)

-- ---- what may be asked

-- the address begins with a name of those that stand in plain or not at all
abbrev pub begins_plain_only : List Step → Bool
begins_plain_only (Name k ∷ a) = is_among k plain_only
begins_plain_only _ = false

-- The holder's key, where there is one, names a holder, has no reserved name, and has few enough levels,
-- since
-- it lies in two objects.
abbrev pub IsHolderKey : Option Data → Type 0
IsHolderKey None = ⊤
IsHolderKey (Some jwk) =
    (is_key jwk ≡ true) × (is_claim (plain jwk) ≡ true) × (is_free jwk ≡ true) × (depth jwk ≤ 62)

-- What may be asked: the claims are an object as JSON is read, of whole numbers, with at most 64 levels,
-- without reserved names, and without those of what the credential says of itself; none of these is hidden;
-- no more is hidden than a credential may have disclosures.
pub record IsSdJwtSpec (s : Spec) : Type 0 where
  pub is_name : s.key_name ≡ kid_name s.issuer s.key
  pub holder_key : IsHolderKey s.holder
  pub is_read : is_claim (plain (object s.claims)) ≡ true
  pub whole : members_have_float s.claims ≡ false
  pub free : has_free s.claims ≡ true
  pub shallow : depth (object s.claims) ≤ 64
  pub none_plain_only : list_any (λ k. is_among k plain_only) (member_names (plain_fields s.claims)) ≡ false
  pub none_hides : list_any begins_plain_only s.hide ≡ false
  pub few : length (met by_sha256 (number_in s.hide) (object (all_members s))) ≤ most_disclosures

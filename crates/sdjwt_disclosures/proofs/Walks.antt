-- A walk by the relation fits its places, and no object on it gets a name twice.
use Rattle.std.proofs.Common.{◌≡◌, ℕ, zero, suc, Bool, true, false, not, ◌&&◌, ◌||◌, cond, List, [], ◌∷◌}
use Rattle.std.proofs.Common.{◌++◌, map, Option, Some, None, refl, sym, ap, ◌∙◌, subst, inl, inr}
use Rattle.std.specs.Prelude.{IfSome}
use Rattle.std.specs.Option.{is_some}
use Rattle.std.specs.Str.{bytes_eq}
use Rattle.std.specs.List.{list_any}
use Rattle.std.proofs.lemmas.Bool.{cases_Bool, and_parts, and_left, and_right, or_from, not_from_true}
use Rattle.serde_json.specs.Data.{Data, null, boolean, number, string, array, object, Items, item}
use Rattle.serde_json.specs.Data.{Members as Fields}
use Rattle.serde_json.specs.Find.{as_str}
use Rattle.claim_tree.specs.Tree.{Tree, ascend, is_claim, are_claims, hold_claims, member_names}
use Rattle.claim_tree.specs.Tree.{element_marks}
use Rattle.claim_tree.specs.Plain.{plain, plain_elements, plain_members as plain_fields}
use Rattle.claim_tree.specs.Parts.{Part, Named}
use Rattle.base_forms.specs.Texts.{Utf8}
use Rattle.sdjwt_digests.specs.Disclosures.{Disclosed, found}
use Rattle.sdjwt_digests.specs.DigestSites.{sd, in_object, in_list, placeholder, is_placeholder}
use Rattle.sdjwt_digests.specs.DigestSites.{own_digests}
use Rattle.sdjwt_digests.specs.DigestSites.{sites_in, sites_in_items, sites_in_members}
use Rattle.sdjwt_disclosures.specs.DisclosureRules.{is_mismatch}
use Rattle.sdjwt_disclosures.specs.MemberNames.{disclosed_names, gets_clash, has_clash, items_have_clash}
use Rattle.sdjwt_disclosures.specs.MemberNames.{members_have_clash}
use Rattle.sdjwt_disclosures.specs.DisclosedTree.{left_out}
use Rattle.sdjwt_disclosures.specs.Spelling.{Way, SpellElements, SpellPlain, SpellHeld, SpellMembers, Spells}
use Rattle.sdjwt_disclosures.proofs.Claims.{IsSound, AreSound, found_sound}
use Rattle.sdjwt_disclosures.proofs.Fields.{LeavesTexts, has_one, sd_left, leaves_inner, plain_sites}
use Rattle.sdjwt_disclosures.proofs.Fits.{Fits, fits_none, fits-append, fits_undisclosed, fits_disclosed}
use Rattle.sdjwt_disclosures.proofs.Fits.{fits_under}

-- ---- what a disclosure's kind says

pub kind_in_list : (ls : List Disclosed) (x : Utf8) (l : Disclosed) → found x ls ≡ Some l → l.name ≡ None
    → is_mismatch ls (in_list x) ≡ false
kind_in_list ls x l e f = rw (e, is_mismatch) (rw f refl)

pub kind_in_object : (ls : List Disclosed) (x : Utf8) (l : Disclosed) (k : Utf8) → found x ls ≡ Some l
    → l.name ≡ Some k → is_mismatch ls (in_object x) ≡ false
kind_in_object ls x l k e f = rw (e, is_mismatch) (rw f refl)

pub value_sound : (ls : List Disclosed) (x : Utf8) (l : Disclosed) → AreSound ls → found x ls ≡ Some l
    → IsSound l.value
value_sound ls x l all e =
    subst (λ (o : Option Disclosed). IfSome o (λ m. IsSound m.value)) e (found_sound x ls all)

-- ---- lists

abbrev pub FitsAt : List Disclosed → Way → Type 0
FitsAt ls Inner = (d : Data) (t : Tree) (us : List Utf8) → IsSound d → Inner d t us
    → Fits ls (sites_in d) us × (has_clash ls d ≡ false)

pub plain_among : (d : Data) (ds : Items) → placeholder d ≡ None
    → sites_in_items (item d ds) ≡ sites_in d ++ sites_in_items ds
plain_among d ds e = rw (e, sites_in_items) refl

pub hidden_among : (d : Data) (ds : Items) (x : Utf8) → placeholder d ≡ Some x
    → sites_in_items (item d ds) ≡ in_list x ∷ sites_in_items ds
hidden_among d ds x e = rw (e, sites_in_items) refl

hidden_clash : (ls : List Disclosed) (d : Data) (ds : Items) (x : Utf8) → placeholder d ≡ Some x
    → items_have_clash ls ds ≡ false → items_have_clash ls (item d ds) ≡ false
hidden_clash ls d ds x e h =
    or_from (not (is_placeholder d) && has_clash ls d) (items_have_clash ls ds)
    (and_left (not (is_placeholder d)) (has_clash ls d) (not_from_true (is_placeholder d) (ap is_some e))) h

elements_fit : (ls : List Disclosed) (Inner : Way) → FitsAt ls Inner → AreSound ls
    → {ds : Items} {es : List Part} {us : List Utf8} → SpellElements Inner ls ds es us
    → are_claims (plain_elements ds) ≡ true
    → Fits ls (sites_in_items ds) us × (items_have_clash ls ds ≡ false)
elements_fit ls Inner fit all SpellElements.no_more h = (fits_none ls, refl)
elements_fit ls Inner fit all (SpellElements.plain {d = d} {ds = ds} {t = t} {us = us} {vs = vs} e i r) h =
    let both = and_parts (is_claim (plain d)) (are_claims (plain_elements ds)) h in
    let inner = fit d t us both.0 i in
    let rest = elements_fit ls Inner fit all r both.1 in (
      subst (λ ps. Fits ls ps (us ++ vs)) (sym (plain_among d ds e))
          (fits-append ls (sites_in d) (sites_in_items ds) us vs inner.0 rest.0),
      or_from (not (is_placeholder d) && has_clash ls d) (items_have_clash ls ds)
          (and_right (not (is_placeholder d)) (has_clash ls d) inner.1) rest.1,
    )
elements_fit ls Inner fit all
    (SpellElements.disclosed {d = d} {ds = ds} {x = x} {l = l} {t = t} {us = us} {vs = vs} e f nameless i r) h
    =
    let both = and_parts (is_claim (plain d)) (are_claims (plain_elements ds)) h in
    let inner = fit l.value t us (value_sound ls x l all f) i in
    let rest = elements_fit ls Inner fit all r both.1 in (
      subst (λ ps. Fits ls ps (x ∷ us ++ vs)) (sym (hidden_among d ds x e))
          (fits-append ls (in_list x ∷ []) (sites_in_items ds) (x ∷ us) vs
          (fits_disclosed ls (in_list x) l us f (kind_in_list ls x l f nameless) inner.1 inner.0) rest.0),
      hidden_clash ls d ds x e rest.1,
    )
elements_fit ls Inner fit all (SpellElements.undisclosed {d = d} {ds = ds} {x = x} {vs = vs} e f r) h =
    let both = and_parts (is_claim (plain d)) (are_claims (plain_elements ds)) h in
    let rest = elements_fit ls Inner fit all r both.1 in (
      subst (λ ps. Fits ls ps vs) (sym (hidden_among d ds x e))
          (fits-append ls (in_list x ∷ []) (sites_in_items ds) [] vs
          (fits_undisclosed ls (in_list x) f) rest.0),
      hidden_clash ls d ds x e rest.1,
    )

-- ---- objects

held_fit : (ls : List Disclosed) (Inner : Way) → FitsAt ls Inner → AreSound ls
    → {xs : List Utf8} {ns : List Named} {us : List Utf8} → SpellHeld Inner ls xs ns us
    → Fits ls (map in_object xs) us
held_fit ls Inner fit all SpellHeld.no_more = fits_none ls
held_fit ls Inner fit all
    (SpellHeld.disclosed {x = x} {xs = xs} {l = l} {k = k} {t = t} {us = us} {vs = vs} f named i r) =
    let inner = fit l.value t us (value_sound ls x l all f) i in
    fits-append ls (in_object x ∷ []) (map in_object xs) (x ∷ us) vs
    (fits_disclosed ls (in_object x) l us f (kind_in_object ls x l k f named) inner.1 inner.0)
    (held_fit ls Inner fit all r)
held_fit ls Inner fit all (SpellHeld.undisclosed {x = x} {xs = xs} {vs = vs} f r) =
    fits-append ls (in_object x ∷ []) (map in_object xs) [] vs (fits_undisclosed ls (in_object x) f)
    (held_fit ls Inner fit all r)

-- the names that come by digests are those of the members that are held
pub held_names : (ls : List Disclosed) (Inner : Way) {xs : List Utf8} {ns : List Named} {us : List Utf8}
    → SpellHeld Inner ls xs ns us → disclosed_names ls xs ≡ map (λ n. n.0) ns
held_names ls Inner SpellHeld.no_more = refl
held_names ls Inner (SpellHeld.disclosed {k = k} f named i r) =
    rw (f, disclosed_names) (rw named (ap (λ ks. k ∷ ks) (held_names ls Inner r)))
held_names ls Inner (SpellHeld.undisclosed f r) = rw (f, disclosed_names) (held_names ls Inner r)

pub text_no_clash : (ls : List Disclosed) (d : Data) → is_some (as_str d) ≡ true → has_clash ls d ≡ false
text_no_clash ls (string s) e = refl
text_no_clash ls _ e = cc

plain_fit : (ls : List Disclosed) (Inner : Way) → FitsAt ls Inner → (left : List Utf8)
    → {ms : Fields} {ns : List Named} {us : List Utf8} → SpellPlain Inner left ms ns us
    → hold_claims (plain_fields ms) ≡ true → LeavesTexts left ms
    → Fits ls (plain_sites left ms) us × (members_have_clash ls ms ≡ false)
plain_fit ls Inner fit left SpellPlain.no_more h texts = (fits_none ls, refl)
plain_fit ls Inner fit left (SpellPlain.no_claim {k = k} {d = d} {ms = ms} {us = us} e r) h texts =
    let both = and_parts (is_claim (plain d)) (hold_claims (plain_fields ms)) h in
    let rest = plain_fit ls Inner fit left r both.1 texts.1 in (
      subst (λ b. Fits ls (cond b [] (sites_in d) ++ plain_sites left ms) us) (sym e) rest.0,
      or_from (not (bytes_eq k sd) && has_clash ls d) (members_have_clash ls ms)
          (elim (cases_Bool (bytes_eq k sd)) [
            | inl here ↦ and_left (not (bytes_eq k sd)) (has_clash ls d) (not_from_true (bytes_eq k sd) here)
            | inr past ↦
                and_right (not (bytes_eq k sd)) (has_clash ls d) (text_no_clash ls d (texts.0 e past))
          ]) rest.1,
    )
plain_fit ls Inner fit left
    (SpellPlain.plain {k = k} {d = d} {ms = ms} {t = t} {us = us} {vs = vs} e i r) h texts =
    let both = and_parts (is_claim (plain d)) (hold_claims (plain_fields ms)) h in
    let inner = fit d t us both.0 i in
    let rest = plain_fit ls Inner fit left r both.1 texts.1 in (
      subst (λ b. Fits ls (cond b [] (sites_in d) ++ plain_sites left ms) (us ++ vs)) (sym e)
          (fits-append ls (sites_in d) (plain_sites left ms) us vs inner.0 rest.0),
      or_from (not (bytes_eq k sd) && has_clash ls d) (members_have_clash ls ms)
          (and_right (not (bytes_eq k sd)) (has_clash ls d) inner.1) rest.1,
    )

pub members_fit : (is_payload : Bool) (ls : List Disclosed) (Inner : Way) → FitsAt ls Inner → AreSound ls
    → (ms : Fields) (ns : List Named) (us : List Utf8) → IsSound (object ms)
    → LeavesTexts (left_out is_payload) ms → SpellMembers is_payload Inner ls ms ns us
    → Fits ls (sites_in_members ms) us × (has_clash ls (object ms) ≡ false)
members_fit is_payload ls Inner fit all ms ns us h texts s =
    let both = and_parts (ascend (member_names (plain_fields ms))) (hold_claims (plain_fields ms)) h in
    let p = plain_fit ls Inner fit (left_out is_payload) s.spells_plain both.1 texts in
    let q = held_fit ls Inner fit all s.spells_held in (
      fits_under ls (left_out is_payload) ms us (sd_left is_payload) (has_one sd ms both.0) texts
          (subst (λ ws. Fits ls (plain_sites (left_out is_payload) ms ++ map in_object (own_digests ms)) ws)
          (sym s.are_uses)
          (fits-append ls (plain_sites (left_out is_payload) ms)
          (map in_object (own_digests ms)) s.plain_uses s.held_uses p.0 q)),
      or_from (gets_clash (disclosed_names ls (own_digests ms)) ms) (members_have_clash ls ms)
          (ap (λ ks. gets_clash ks ms) (held_names ls Inner s.spells_held) ∙ s.names_differ) p.1,
    )

-- ---- values

nothing_used : (ls : List Disclosed) (us : List Utf8) → us ≡ [] → Fits ls [] us
nothing_used ls us e = subst (Fits ls []) (sym e) (fits_none ls)

pub spells_fit : (n : ℕ) (ls : List Disclosed) → AreSound ls → FitsAt ls (Spells n ls)
spells_fit n ls all null t us h s = (nothing_used ls us s.1, refl)
spells_fit n ls all (boolean b) t us h s = (nothing_used ls us s.1, refl)
spells_fit n ls all (number x) t us h s = (nothing_used ls us s.1, refl)
spells_fit n ls all (string x) t us h s = (nothing_used ls us s.1, refl)
spells_fit zero ls all (array ds) t us h s = absurd s
spells_fit zero ls all (object ms) t us h s = absurd s
spells_fit (suc n) ls all (array ds) t us h s =
    elements_fit ls (Spells n ls) (spells_fit n ls all) all s.1
    (and_parts (not (list_any (λ m. m) (element_marks (plain_elements ds))) || false)
    (are_claims (plain_elements ds)) h).1
spells_fit (suc n) ls all (object ms) t us h s =
    members_fit false ls (Spells n ls) (spells_fit n ls all) all ms s.0 us h (leaves_inner ms) s.1

-- What is written in an object and in a list where parts of it are hidden.
use Rattle.std.proofs.Common.{◌≡◌, ℕ, suc, Bool, true, false, not, ◌&&◌, ◌||◌, ◌==◌, cond, List, [], ◌∷◌}
use Rattle.std.proofs.Common.{Option, Some, None, Ordering, Less, Equal, Greater, nat_cmp, refl, sym, ap, ◌∙◌}
use Rattle.std.specs.Prelude.{option_and_then, is_some}
use Rattle.std.specs.List.{list_all, list_any}
use Rattle.std.specs.Ordering.{match_ordering, is_eq}
use Rattle.std.specs.Cmp.Lexicographic.{slice_cmp}
use Rattle.std.specs.Str.{bytes_eq}
use Rattle.std.proofs.lemmas.Bool.{and_parts, and_from, or_parts, or_from}
use Rattle.std.proofs.lemmas.Map.Text.{is_eq-slice_cmp}
use Rattle.serde_json.specs.Data.{Data, null, boolean, number, string, array, object, Items, no_items, item}
use Rattle.serde_json.specs.Data.{Members as Fields, no_members as no_fields, member as field, put}
use Rattle.serde_json.specs.Events.{members_len}
use Rattle.serde_json.specs.Find.{as_str, get_member}
use Rattle.serde_json.proofs.Views.{get_member-put, get_member-put_other}
use Rattle.claim_tree.specs.Tree.{Name, member_names, ascend}
use Rattle.claim_tree.specs.Plain.{plain_members as plain_fields}
use Rattle.claim_tree.specs.Parts.{Named}
use Rattle.claim_tree.specs.Ascending.{names_of, below}
use Rattle.claim_names.specs.declared.address.Step.TheVariants.{Name as Named_step, Place}
use Rattle.base_forms.specs.Texts.{Utf8, is_among}
use Rattle.base_forms.proofs.Differing.{bytes_eq-flip}
use Rattle.sdjwt_digests.specs.DigestSites.{sd, dots, texts_in, placeholder, own_digests as digests_of}
use Rattle.sdjwt_digests.specs.ReservedNames.{is_reserved_name}
use Rattle.sdjwt_disclosures.specs.DisclosedTree.{has_placeholder}
use Rattle.sdjwt_disclosures.specs.Spelling.{Way, SpellPlain}
use Rattle.sdjwt_disclosures.proofs.Fields.{HasNo, own_empty, member_past}
use Rattle.sdjwt_hiding.specs.Hiding.{Marks, under, at, Digests, sorted, texts, with_digests, standing}
use Rattle.sdjwt_hiding.specs.Hiding.{with_member, hidden, hidden_items, left_members, own_digests, is_free}
use Rattle.sdjwt_hiding.specs.Hiding.{are_free, has_free}
use Rattle.sdjwt_hiding.specs.Meant.{any_held, meant_elements, meant_members}
use Rattle.sdjwt_hiding.proofs.Orders.{held_of, held_all, less_apart}

abbrev pub field_names : Fields → List Name
field_names ms = member_names (plain_fields ms)

-- ---- a member more that is no claim

plain_put_at : (Inner : Way) (left : List Utf8) (k l : Utf8) (d e : Data) (ms : Fields) (ns : List Named)
    (us : List Utf8) (o : Ordering) → is_eq o ≡ false → is_among k left ≡ true
    → SpellPlain Inner left (field l e ms) ns us → SpellPlain Inner left (field l e (put k d ms)) ns us
    → SpellPlain Inner left (match_ordering o (field k d (field l e ms)) (field l d ms)
    (field l e (put k d ms))) ns us
plain_put_at Inner left k l d e ms ns us Less apart in_it here later = SpellPlain.no_claim in_it here
plain_put_at Inner left k l d e ms ns us Equal apart in_it here later = cc apart
plain_put_at Inner left k l d e ms ns us Greater apart in_it here later = later

apart_at : (k l : Utf8) → bytes_eq l k ≡ false → is_eq (slice_cmp nat_cmp k l) ≡ false
apart_at k l h = is_eq-slice_cmp k l ∙ bytes_eq-flip k l ∙ h

pub plain_put : (Inner : Way) (left : List Utf8) (k : Utf8) (d : Data) → is_among k left ≡ true
    → {ms : Fields} {ns : List Named} {us : List Utf8} → SpellPlain Inner left ms ns us → HasNo k ms
    → SpellPlain Inner left (put k d ms) ns us
plain_put Inner left k d in_it SpellPlain.no_more h = SpellPlain.no_claim in_it SpellPlain.no_more
plain_put Inner left k d in_it (SpellPlain.no_claim {k = l} {d = e} {ms = ms} {ns = ns} {us = us} out r) h =
    plain_put_at Inner left k l d e ms ns us (slice_cmp nat_cmp k l) (apart_at k l h.0) in_it
    (SpellPlain.no_claim out r) (SpellPlain.no_claim out (plain_put Inner left k d in_it r h.1))
plain_put Inner left k d in_it
    (SpellPlain.plain {k = l} {d = e} {ms = ms} {t = t} {ns = ns} {us = us} {vs = vs} stays i r) h =
    plain_put_at Inner left k l d e ms _ _ (slice_cmp nat_cmp k l) (apart_at k l h.0) in_it
    (SpellPlain.plain stays i r) (SpellPlain.plain stays i (plain_put Inner left k d in_it r h.1))

pub plain_with : (Inner : Way) (left : List Utf8) (xs : List Utf8) → is_among sd left ≡ true
    → {ms : Fields} {ns : List Named} {us : List Utf8} → SpellPlain Inner left ms ns us → HasNo sd ms
    → SpellPlain Inner left (with_digests xs ms) ns us
plain_with Inner left [] in_it s h = s
plain_with Inner left (x ∷ xs) in_it s h = plain_put Inner left sd (array (texts (sorted (x ∷ xs)))) in_it s h

-- ---- the digests that are written

pub texts_read : (xs : List Utf8) → texts_in (texts xs) ≡ xs
texts_read [] = refl
texts_read (x ∷ xs) = ap (λ ys. x ∷ ys) (texts_read xs)

pub digests_read : (xs : List Utf8) (ms : Fields) → HasNo sd ms → digests_of (with_digests xs ms) ≡ sorted xs
digests_read [] ms h = own_empty ms h
digests_read (x ∷ xs) ms h = rw (get_member-put sd (array (texts (sorted (x ∷ xs)))) ms, digests_of)
    (texts_read (sorted (x ∷ xs)))

pub other_members : (q : Utf8) (xs : List Utf8) (ms : Fields) → (q ≡ sd → ⊥)
    → get_member q (with_digests xs ms) ≡ get_member q ms
other_members q [] ms h = refl
other_members q (x ∷ xs) ms h = get_member-put_other q sd (array (texts (sorted (x ∷ xs)))) ms h

-- ---- which members stay

pub absent : (k : Utf8) (ms : Fields) → HasNo k ms → get_member k ms ≡ None
absent k no_fields h = refl
absent k (field l d ms) h = member_past k l d ms h.0 ∙ absent k ms h.1

with_none : (k l : Utf8) (o : Option ℕ) (d : Data) (ms : Fields) → bytes_eq l k ≡ false → HasNo k ms
    → HasNo k (with_member o l d ms)
with_none k l None d ms h rest = (h, rest)
with_none k l (Some n) d ms h rest = rest

-- a name that no member has is that of none that stays
pub none_stays : (x : Digests) (m : Marks) (k : Utf8) (ms : Fields) → HasNo k ms
    → HasNo k (left_members x m ms)
none_stays x m k no_fields h = tt
none_stays x m k (field l d ms) h =
    with_none k l (at (Named_step l) m) (hidden x (under (Named_step l) m) d) (left_members x m ms) h.0
    (none_stays x m k ms h.1)

not_true : (b : Bool) → not b ≡ true → b ≡ false
not_true true e = cc
not_true false e = refl

pub free_sd : (ms : Fields) → has_free ms ≡ true → HasNo sd ms
free_sd no_fields h = tt
free_sd (field k d ms) h =
    let a = and_parts (not (is_reserved_name k)) (is_free d && has_free ms) h in
    let b = and_parts (is_free d) (has_free ms) a.1 in
    ((or_parts (bytes_eq k sd) (bytes_eq k dots) (not_true (is_reserved_name k) a.0)).0, free_sd ms b.1)

pub free_dots : (ms : Fields) → has_free ms ≡ true → HasNo dots ms
free_dots no_fields h = tt
free_dots (field k d ms) h =
    let a = and_parts (not (is_reserved_name k)) (is_free d && has_free ms) h in
    let b = and_parts (is_free d) (has_free ms) a.1 in
    ((or_parts (bytes_eq k sd) (bytes_eq k dots) (not_true (is_reserved_name k) a.0)).1, free_dots ms b.1)

-- ---- no plain element is taken for a placeholder

dots_is_not_sd : dots ≡ sd → ⊥
dots_is_not_sd e = let clash : true ≡ false = ap (λ z. bytes_eq z dots) e in cc clash

either_none : (b : Bool) (o : Option Utf8) → o ≡ None → cond b o None ≡ None
either_none true o e = e
either_none false o e = refl

pub no_placeholder : (x : Digests) (m : Marks) (d : Data) → is_free d ≡ true
    → placeholder (hidden x m d) ≡ None
no_placeholder x m null h = refl
no_placeholder x m (boolean b) h = refl
no_placeholder x m (number n) h = refl
no_placeholder x m (string s) h = refl
no_placeholder x m (array ds) h = refl
no_placeholder x m (object ms) h =
    let none : get_member dots (with_digests (own_digests x m ms) (left_members x m ms)) ≡ None =
    other_members dots (own_digests x m ms) (left_members x m ms) dots_is_not_sd
    ∙ absent dots (left_members x m ms) (none_stays x m dots ms (free_dots ms h)) in
    either_none (members_len (with_digests (own_digests x m ms) (left_members x m ms)) == 1)
    (option_and_then as_str (get_member dots (with_digests (own_digests x m ms) (left_members x m ms))))
    (ap (option_and_then as_str) none)

placeholder_held : (x : Digests) (o : Option ℕ) (d : Data) → placeholder d ≡ None
    → is_some (placeholder (standing x o d)) ≡ is_some o
placeholder_held x None d h = ap is_some h
placeholder_held x (Some n) d h = refl

-- a list has a placeholder exactly where an element is hidden
pub loose_where_held : (x : Digests) (m : Marks) (i : ℕ) (ds : Items) → are_free ds ≡ true
    → has_placeholder (hidden_items x m i ds) ≡ any_held (meant_elements m i ds)
loose_where_held x m i no_items h = refl
loose_where_held x m i (item d ds) h =
    let both = and_parts (is_free d) (are_free ds) h in
    ap (λ b. b || has_placeholder (hidden_items x m (suc i) ds))
    (placeholder_held x (at (Place i) m) (hidden x (under (Place i) m) d)
    (no_placeholder x (under (Place i) m) d both.0))
    ∙ ap (λ b. is_some (at (Place i) m) || b) (loose_where_held x m (suc i) ds both.1)

-- ---- names

pub meant_names : (m : Marks) (ms : Fields) → names_of (meant_members m ms) ≡ field_names ms
meant_names m no_fields = refl
meant_names m (field k d ms) = ap (λ ks. k ∷ ks) (meant_names m ms)

pub none_named : (k : Name) (ms : Fields) → list_all (below k) (field_names ms) ≡ true → HasNo k ms
none_named k no_fields h = tt
none_named k (field l d ms) h =
    let both = and_parts (below k l) (list_all (below k) (field_names ms)) h in (
      bytes_eq-flip l k ∙ sym (is_eq-slice_cmp k l)
          ∙ less_apart (slice_cmp nat_cmp k l) both.0,
      none_named k ms both.1,
    )

abbrev has : Fields → Utf8 → Bool
has ms k = is_some (get_member k ms)

any_past : (k : Name) (d : Data) (ms : Fields) (js : List Name) → list_all (below k) js ≡ true
    → list_any (has ms) js ≡ false → list_any (has (field k d ms)) js ≡ false
any_past k d ms [] h e = refl
any_past k d ms (j ∷ js) h e =
    let both = and_parts (below k j) (list_all (below k) js) h in
    let none = or_parts (has ms j) (list_any (has ms) js) e in
    or_from (has (field k d ms) j) (list_any (has (field k d ms)) js)
    (ap is_some (member_past j k d ms (sym (is_eq-slice_cmp k j)
    ∙ less_apart (slice_cmp nat_cmp k j) both.0)) ∙ none.0) (any_past k d ms js both.1 none.1)

-- no member that stays has the name of one that is hidden
abbrev held_names : Marks → Fields → List Name
held_names m ms = names_of (held_of (meant_members m ms))

none_both_at : (o : Option ℕ) (k : Name) (v : Data) (t : Rattle.claim_tree.specs.Tree.Tree) (ls : Fields)
    (ns : List Named) → list_any (has ls) (names_of (held_of ns)) ≡ false → get_member k ls ≡ None
    → list_all (below k) (names_of (held_of ns)) ≡ true
    → list_any (has (with_member o k v ls)) (names_of (held_of ((k, is_some o, t) ∷ ns))) ≡ false
none_both_at None k v t ls ns rest none up = any_past k v ls (names_of (held_of ns)) up rest
none_both_at (Some n) k v t ls ns rest none up =
    or_from (has ls k) (list_any (has ls) (names_of (held_of ns))) (ap is_some none) rest

pub none_both : (x : Digests) (m : Marks) (ms : Fields) → ascend (field_names ms) ≡ true
    → list_any (has (left_members x m ms)) (held_names m ms) ≡ false
none_both x m no_fields h = refl
none_both x m (field k d ms) h =
    let both = and_parts (list_all (below k) (field_names ms)) (ascend (field_names ms)) h in
    none_both_at (at (Named_step k) m) k (hidden x (under (Named_step k) m) d)
    (Rattle.sdjwt_hiding.specs.Meant.meant (under (Named_step k) m) d) (left_members x m ms)
    (meant_members m ms) (none_both x m ms both.1)
    (absent k (left_members x m ms) (none_stays x m k ms (none_named k ms both.0)))
    (held_all (below k) (meant_members m ms) (ap (list_all (below k)) (meant_names m ms) ∙ both.0))

any_with : (xs : List Utf8) (ms : Fields) (js : List Name) → is_among sd js ≡ false
    → list_any (has ms) js ≡ false → list_any (has (with_digests xs ms)) js ≡ false
any_with xs ms [] apart h = refl
any_with xs ms (j ∷ js) apart h =
    let both = or_parts (bytes_eq j sd) (is_among sd js) apart in
    let none = or_parts (has ms j) (list_any (has ms) js) h in
    or_from (has (with_digests xs ms) j) (list_any (has (with_digests xs ms)) js)
    (ap is_some (other_members j xs ms (not_sd j both.0)) ∙ none.0) (any_with xs ms js both.1 none.1)
  where
    same : (j : Utf8) → bytes_eq j j ≡ true
    same j = (Rattle.std.proofs.lemmas.Slice.Eq.bytes_eq-Decides j j).1 refl

    not_sd : (j : Utf8) → bytes_eq j sd ≡ false → j ≡ sd → ⊥
    not_sd j h e = let clash : true ≡ false = sym (same j) ∙ ap (bytes_eq j) e ∙ h in cc clash

-- the name of no hidden member is `_sd`
sd_apart : (ms : Fields) → HasNo sd ms → list_all (λ k. not (bytes_eq k sd)) (field_names ms) ≡ true
sd_apart no_fields h = refl
sd_apart (field k d ms) h = and_from (not (bytes_eq k sd))
    (list_all (λ l. not (bytes_eq l sd)) (field_names ms)) (ap not h.0) (sd_apart ms h.1)

none_of : (js : List Name) → list_all (λ k. not (bytes_eq k sd)) js ≡ true → is_among sd js ≡ false
none_of [] h = refl
none_of (j ∷ js) h =
    let both = and_parts (not (bytes_eq j sd)) (list_all (λ k. not (bytes_eq k sd)) js) h in
    or_from (bytes_eq j sd) (is_among sd js) (not_true (bytes_eq j sd) both.0) (none_of js both.1)

-- no name of a hidden member is that of a member that is written
pub none_clashes : (x : Digests) (m : Marks) (ms : Fields) (xs : List Utf8) → ascend (field_names ms) ≡ true
    → HasNo sd ms → list_any (has (with_digests xs (left_members x m ms))) (held_names m ms) ≡ false
none_clashes x m ms xs up none =
    any_with xs (left_members x m ms) (held_names m ms)
    (none_of (held_names m ms) (held_all (λ k. not (bytes_eq k sd)) (meant_members m ms)
    (ap (list_all (λ k. not (bytes_eq k sd))) (meant_names m ms) ∙ sd_apart ms none)))
    (none_both x m ms up)

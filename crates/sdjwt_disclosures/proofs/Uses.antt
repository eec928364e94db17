-- Each disclosure is used once exactly where the flat tests on places hold.
use Rattle.std.proofs.Common.{◌≡◌, ◌≤◌, suc, ◌+◌, Bool, true, false, not, cond, List, [], ◌∷◌, length, map}
use Rattle.std.proofs.Common.{Some, refl, sym, ap, ◌∙◌, subst, arith, inl, inr}
use Rattle.std.specs.List.{AllByRecursion, list_any, list_all}
use Rattle.std.specs.Str.{bytes_eq}
use Rattle.std.proofs.lemmas.Bool.{cases_Bool, and_parts, and_from, or_parts, or_from}
use Rattle.serde_json.specs.Data.{Data, object, Members as Fields}
use Rattle.claim_tree.specs.Parts.{Named}
use Rattle.base_forms.specs.Texts.{Utf8, is_among, differ}
use Rattle.sdjwt_digests.specs.Disclosures.{Disclosed, found}
use Rattle.sdjwt_digests.specs.DigestSites.{Site, digest_at, sites_in, values_sites, all_sites}
use Rattle.sdjwt_disclosures.specs.Reachable.{reached, are_reached, have_own_sites}
use Rattle.sdjwt_disclosures.specs.DisclosureRules.{is_mismatch}
use Rattle.sdjwt_disclosures.specs.MemberNames.{has_clash}
use Rattle.sdjwt_disclosures.specs.MemberNames.{any_clash}
use Rattle.sdjwt_disclosures.specs.DisclosedTree.{left_out, spelled, spelled_members}
use Rattle.sdjwt_disclosures.specs.Spelling.{times, Spells, SpellMembers, UsesEach}
use Rattle.sdjwt_disclosures.proofs.Built.{IsFine, AreFine, members_built, spells_built}
use Rattle.sdjwt_disclosures.proofs.Claims.{IsSound, AreSound}
use Rattle.sdjwt_disclosures.proofs.Counting.{one_true, one_false, same_text, among_from, times_some}
use Rattle.sdjwt_disclosures.proofs.Counting.{few_used}
use Rattle.sdjwt_disclosures.proofs.Fields.{LeavesTexts}
use Rattle.base_forms.proofs.Differing.{same_from, bytes_eq-flip}
use Rattle.sdjwt_disclosures.proofs.Fits.{IsUsed, Fits, misses, misses-append}
use Rattle.sdjwt_disclosures.proofs.Reached.{reached_more, further, at_most_once}
use Rattle.sdjwt_disclosures.proofs.Walks.{members_fit, spells_fit}

-- ---- what holds of each

pub all_map : {X : Type 0} (P Q : X → Type 0) → ((x : X) → P x → Q x) → (xs : List X) → AllByRecursion P xs
    → AllByRecursion Q xs
all_map P Q h [] a = tt
all_map P Q h (x ∷ xs) a = (h x a.0, all_map P Q h xs a.1)

pub all_both : {X : Type 0} (P Q R : X → Type 0) → ((x : X) → P x → Q x → R x) → (xs : List X)
    → AllByRecursion P xs → AllByRecursion Q xs → AllByRecursion R xs
all_both P Q R h [] a b = tt
all_both P Q R h (x ∷ xs) a b = (h x a.0 b.0, all_both P Q R h xs a.1 b.1)

pub all_tests : {X : Type 0} (p : X → Bool) (xs : List X) → AllByRecursion (λ x. p x ≡ true) xs
    → list_all p xs ≡ true
all_tests p [] a = refl
all_tests p (x ∷ xs) a = and_from (p x) (list_all p xs) a.0 (all_tests p xs a.1)

pub tests_all : {X : Type 0} (p : X → Bool) (xs : List X) → list_all p xs ≡ true
    → AllByRecursion (λ x. p x ≡ true) xs
tests_all p [] h = tt
tests_all p (x ∷ xs) h =
    let both = and_parts (p x) (list_all p xs) h in
    (both.0, tests_all p xs both.1)

pub none_tests : {X : Type 0} (p : X → Bool) (xs : List X) → AllByRecursion (λ x. p x ≡ false) xs
    → list_any p xs ≡ false
none_tests p [] a = refl
none_tests p (x ∷ xs) a = or_from (p x) (list_any p xs) a.0 (none_tests p xs a.1)

pub tests_none : {X : Type 0} (p : X → Bool) (xs : List X) → list_any p xs ≡ false
    → AllByRecursion (λ x. p x ≡ false) xs
tests_none p [] h = tt
tests_none p (x ∷ xs) h =
    let both = or_parts (p x) (list_any p xs) h in
    (both.0, tests_none p xs both.1)

-- ---- disclosures that are found

abbrev pub digests : List Disclosed → List Utf8
digests ls = map (λ l. l.digest) ls

apart_from : (x : Utf8) (ls : List Disclosed) → is_among x (digests ls) ≡ false
    → AllByRecursion (λ l. bytes_eq l.digest x ≡ false) ls
apart_from x [] h = tt
apart_from x (l ∷ ls) h =
    let both = or_parts (bytes_eq l.digest x) (is_among x (digests ls)) h in
    (both.0, apart_from x ls both.1)

not_true : (b : Bool) → not b ≡ true → b ≡ false
not_true true e = cc
not_true false e = refl

-- each disclosure is the one that has its digest
pub found_own : (ls : List Disclosed) → differ (digests ls) ≡ true
    → AllByRecursion (λ l. found l.digest ls ≡ Some l) ls
found_own [] h = tt
found_own (l ∷ ls) h =
    let both = and_parts (not (is_among l.digest (digests ls))) (differ (digests ls)) h in (
      ap (λ b. cond b (Some l) (found l.digest ls)) (same_text l.digest),
      all_both (λ m. bytes_eq m.digest l.digest ≡ false) (λ m. found m.digest ls ≡ Some m)
          (λ m. found m.digest (l ∷ ls) ≡ Some m)
          (λ m apart there. ap (λ b. cond b (Some l) (found m.digest ls)) (bytes_eq-flip l.digest m.digest
          ∙ apart) ∙ there) ls (apart_from l.digest ls (not_true (is_among l.digest (digests ls)) both.0))
          (found_own ls both.1),
    )

-- what holds of each disclosure holds of one that is found
pub found_all : (P : Disclosed → Type 0) (ls : List Disclosed) → AllByRecursion P ls
    → (x : Utf8) (l : Disclosed) → found x ls ≡ Some l → P l
found_all P [] a x l e = absurd (cc)
found_all P (m ∷ ls) a x l e = elim (cases_Bool (bytes_eq m.digest x)) [
  | inl same ↦
      let here : Some m ≡ Some l = sym (ap (λ b. cond b (Some m) (found x ls)) same) ∙ e in
      let is : m ≡ l = cc in
      subst P is a.0
  | inr other ↦ found_all P ls a.1 x l (sym (ap (λ b. cond b (Some m) (found x ls)) other) ∙ e)
]

found_times : (x : Utf8) (ls : List Disclosed) (l : Disclosed) → found x ls ≡ Some l
    → 1 ≤ times x (digests ls)
found_times x [] l e = absurd (cc)
found_times x (m ∷ ls) l e = elim (cases_Bool (bytes_eq m.digest x)) [
  | inl same ↦ omega (arith, one_true (bytes_eq m.digest x) same)
  | inr other ↦ omega (arith, found_times x ls l (sym (ap (λ b. cond b (Some m) (found x ls)) other) ∙ e))
]

used_one : (P : Utf8 → Type 0) (us : List Utf8) (x : Utf8) → AllByRecursion P us → 1 ≤ times x us → P x
used_one P [] x a h = absurd (omega arith)
used_one P (u ∷ us) x a h = elim (cases_Bool (bytes_eq u x)) [
  | inl same ↦ let is : u ≡ x = same_from u x same in subst P is a.0
  | inr other ↦ used_one P us x a.1 (omega (arith, one_false (bytes_eq u x) other))
]

-- ---- places that ask for the other kind

no_misses : (ls : List Disclosed) (ps : List Site) → misses ls ps ≡ 0 → list_any (is_mismatch ls) ps ≡ false
no_misses ls [] h = refl
no_misses ls (p ∷ ps) h =
    or_from (is_mismatch ls p) (list_any (is_mismatch ls) ps) (elim (cases_Bool (is_mismatch ls p)) [
      | inl bad ↦ absurd (omega (arith, one_true (is_mismatch ls p) bad))
      | inr good ↦ good
    ]) (no_misses ls ps (omega arith))

misses_none : (ls : List Disclosed) (ps : List Site) → list_any (is_mismatch ls) ps ≡ false → misses ls ps ≡ 0
misses_none ls [] h = refl
misses_none ls (p ∷ ps) h =
    let both = or_parts (is_mismatch ls p) (list_any (is_mismatch ls) ps) h in
    omega (arith, one_false (is_mismatch ls p) both.0, misses_none ls ps both.1)

values_miss : (ls ks : List Disclosed) → AllByRecursion (λ l. misses ls (sites_in l.value) ≡ 0) ks
    → misses ls (values_sites ks) ≡ 0
values_miss ls [] h = refl
values_miss ls (k ∷ ks) h =
    omega (arith, misses-append ls (sites_in k.value) (values_sites ks), h.0, values_miss ls ks h.1)

miss_values : (ls ks : List Disclosed) → misses ls (values_sites ks) ≡ 0
    → AllByRecursion (λ l. misses ls (sites_in l.value) ≡ 0) ks
miss_values ls [] h = tt
miss_values ls (k ∷ ks) h =
    let more = misses-append ls (sites_in k.value) (values_sites ks) in
    (omega arith, miss_values ls ks (omega arith))

-- ---- from the relation

used_fine : (ls : List Disclosed) (l : Disclosed) → found l.digest ls ≡ Some l → IsUsed ls l.digest
    → IsFine ls l.value
used_fine ls l e u =
    let same : Some u.disclosure ≡ Some l = sym u.is ∙ e in
    let is : u.disclosure ≡ l = cc in
    subst (λ (m : Disclosed). IsFine ls m.value) is (u.no_miss, u.no_clash)

abbrev pub HoldFlat : Data → List Disclosed → Type 0
HoldFlat payload ls = (have_own_sites payload ls ≡ true)
    × (list_any (is_mismatch ls) (all_sites payload ls) ≡ false) × (any_clash payload ls ≡ false)

flat_from : (payload : Data) (ls : List Disclosed) (us : List Utf8) → Fits ls (sites_in payload) us
    → has_clash ls payload ≡ false → UsesEach ls us → HoldFlat payload ls
flat_from payload ls us fit clash each =
    let own = found_own ls each.0 in
    let used = all_both (λ l. found l.digest ls ≡ Some l) (λ l. times l.digest us ≡ 1)
    (λ l. IsFine ls l.value)
    (λ l e once. used_fine ls l e (used_one (IsUsed ls) us l.digest fit.are_used (omega arith))) ls own each.1
    in
    let few = few_used ls us each.1
    (all_map (IsUsed ls) (λ u. 1 ≤ times u (digests ls))
    (λ u is. found_times u ls is.disclosure is.is) us fit.are_used) in
    let among = all_both (λ l. found l.digest ls ≡ Some l) (λ l. times l.digest us ≡ 1)
    (λ l. is_among l.digest (reached (suc (length ls)) ls payload) ≡ true)
    (λ l e once. among_from l.digest (reached (suc (length ls)) ls payload)
    (omega (arith, reached_more l.digest (length ls) ls payload, fit.tally l.digest l e (length ls) few)))
    ls own each.1 in (
      and_from (differ (digests ls)) (are_reached payload ls) each.0
          (all_tests (λ l. is_among l.digest (reached (suc (length ls)) ls payload)) ls among),
      no_misses ls (all_sites payload ls)
          (omega (
            arith,
            misses-append ls (sites_in payload) (values_sites ls),
            fit.no_miss,
            values_miss ls ls (all_map (λ l. IsFine ls l.value) (λ l. misses ls (sites_in l.value) ≡ 0)
                (λ l f. f.0) ls used),
          )),
      or_from (has_clash ls payload) (list_any (λ l. has_clash ls l.value) ls) clash
          (none_tests (λ l. has_clash ls l.value) ls
          (all_map (λ l. IsFine ls l.value) (λ l. has_clash ls l.value ≡ false) (λ l f. f.1) ls used)),
    )

pub flat_holds : (ls : List Disclosed) (ms : Fields) (ns : List Named) (us : List Utf8) → AreSound ls
    → IsSound (object ms) → LeavesTexts (left_out true) ms → SpellMembers true (Spells 63 ls) ls ms ns us
    → UsesEach ls us → HoldFlat (object ms) ls
flat_holds ls ms ns us all sound texts s each =
    let fit = members_fit true ls (Spells 63 ls) (spells_fit 63 ls all) all ms ns us sound texts s in
    flat_from (object ms) ls us fit.0 fit.1 each

-- ---- to the relation

sound_each : (ls : List Disclosed) → AreSound ls → AllByRecursion (λ l. IsSound l.value) ls
sound_each [] h = tt
sound_each (l ∷ ls) h = (h.0, sound_each ls h.1)

once_at : (x : Utf8) (l : Disclosed) (payload : Data) (ls : List Disclosed) (us : List Utf8)
    → differ (map digest_at (all_sites payload ls)) ≡ true → Fits ls (sites_in payload) us
    → found x ls ≡ Some l → is_among x (reached (suc (length ls)) ls payload) ≡ true
    → times x us ≡ 1
once_at x l payload ls us apart fit e among =
    let n = length us + length ls in
    let same : length us + suc (length ls) ≡ suc (length us + length ls) = omega arith in
    let there : times x (reached (length us + suc (length ls)) ls payload) ≡ times x
    (reached (suc (length us + length ls)) ls payload) = ap (λ m. times x (reached m ls payload)) same in
    omega (
      arith,
      times_some x (reached (suc (length ls)) ls payload) among,
      further x (suc (length ls)) (length us) ls payload,
      there,
      at_most_once payload ls apart (suc (length us + length ls)) x,
      reached_more x (length us + length ls) ls payload,
      fit.tally x l e (length us + length ls) (omega arith),
    )

pub relation_holds : (ls : List Disclosed) (ms : Fields) (ns : List Named) → AreSound ls → IsSound (object ms)
    → LeavesTexts (left_out true) ms → differ (map digest_at (all_sites (object ms) ls)) ≡ true
    → HoldFlat (object ms) ls
    → spelled_members true (spelled 63 ls) ls ms ≡ Some ns
    → (us : List Utf8) × SpellMembers true (Spells 63 ls) ls ms ns us × UsesEach ls us
relation_holds ls ms ns all sound texts apart flat h =
    let processed = and_parts (differ (digests ls)) (are_reached (object ms) ls) flat.0 in
    let none = misses_none ls (all_sites (object ms) ls) flat.1 in
    let more = misses-append ls (sites_in (object ms)) (values_sites ls) in
    let clash = or_parts (has_clash ls (object ms)) (list_any (λ l. has_clash ls l.value) ls) flat.2 in
    let kinds = miss_values ls ls (omega arith) in
    let names = tests_none (λ l. has_clash ls l.value) ls clash.1 in
    let each = all_both (λ l. misses ls (sites_in l.value) ≡ 0) (λ l. has_clash ls l.value ≡ false)
    (λ l. IsFine ls l.value) (λ l a b. (a, b)) ls kinds names in
    let fine : AreFine ls =
    λ x l e. (
      found_all (λ m. IsSound m.value) ls (sound_each ls all) x l e,
      found_all (λ m. IsFine ls m.value) ls each x l e,
    ) in
    let built = members_built ls (Spells 63 ls) (spelled 63 ls)
    (spells_built 63 ls fine) fine true ms ns sound texts (omega arith) clash.0 h in
    let fit = members_fit true ls (Spells 63 ls)
    (spells_fit 63 ls all) all ms ns built.0 sound texts built.1 in
    let among = tests_all (λ l. is_among l.digest (reached (suc (length ls)) ls (object ms))) ls processed.1
    in
    let once = all_both (λ l. found l.digest ls ≡ Some l)
    (λ l. is_among l.digest (reached (suc (length ls)) ls (object ms)) ≡ true)
    (λ l. times l.digest built.0 ≡ 1)
    (λ l e a. once_at l.digest l (object ms) ls built.0 apart fit.0 e a) ls
    (found_own ls processed.0) among in
    (built.0, built.1, (processed.0, once))

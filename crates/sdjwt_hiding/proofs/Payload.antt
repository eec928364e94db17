-- The payload that is written spells what is meant, and uses each disclosure once.
use Rattle.std.proofs.Common.{◌≡◌, ◌≤◌, ℕ, Bool, true, false, not, ◌&&◌, ◌||◌, cond, List, [], ◌∷◌, map}
use Rattle.std.proofs.Common.{Option, Some, None, refl, sym, ap, ◌∙◌, arith, inl, inr}
use Rattle.std.specs.Prelude.{is_some, is_none}
use Rattle.std.specs.List.{AllByRecursion, list_any}
use Rattle.std.specs.Str.{bytes_eq}
use Rattle.std.proofs.lemmas.Bool.{and_parts, or_parts, or_from, cases_Bool}
use Rattle.std.proofs.lemmas.List.{map-append}
use Rattle.serde_json.specs.Data.{object, Members as Fields, no_members as no_fields, member as field}
use Rattle.serde_json.specs.Data.{members_depth}
use Rattle.claim_tree.specs.Tree.{Tree}
use Rattle.claim_tree.specs.Parts.{Named}
use Rattle.claim_tree.specs.Ascending.{names_of}
use Rattle.claim_names.specs.declared.address.Step.TheVariants.{Name}
use Rattle.base_forms.specs.Texts.{Utf8, is_among}
use Rattle.base_forms.proofs.Differing.{bytes_eq-flip}
use Rattle.sdjwt_digests.specs.Disclosures.{Disclosed, found}
use Rattle.sdjwt_digests.specs.DigestSites.{sd, dots, digest_at, sites_in, values_sites, all_sites}
use Rattle.sdjwt_digests.specs.ReservedNames.{is_reserved_name, has_reserved_name, is_sound}
use Rattle.sdjwt_disclosures.specs.MemberNames.{plain_only}
use Rattle.sdjwt_disclosures.specs.DisclosedTree.{sd_alg, left_out}
use Rattle.sdjwt_disclosures.specs.Spelling.{times, Spells}
use Rattle.sdjwt_disclosures.proofs.Counting.{one_true, times-append, times_differ, differ_times}
use Rattle.sdjwt_disclosures.proofs.Uses.{found_own, all_map, all_tests, none_tests}
use Rattle.sdjwt_hiding.specs.Hiding.{Marks, under, at, hidden, left_members, own_digests, with_digests}
use Rattle.sdjwt_hiding.specs.Hiding.{Numbered, met, by_number, disclosures, is_free, has_free}
use Rattle.sdjwt_hiding.specs.Meant.{meant, meant_members}
use Rattle.sdjwt_hiding.specs.Laws.{keeps_plain_only, digests, HiddenIsMeant}
use Rattle.sdjwt_hiding.proofs.Orders.{held_of}
use Rattle.sdjwt_hiding.proofs.Written.{field_names}
use Rattle.sdjwt_hiding.proofs.Spelled.{AreFound, tally, members_made, values_made}
use Rattle.sdjwt_hiding.proofs.Apart.{placed, in_values, value_apart}
use Rattle.sdjwt_hiding.proofs.Sound.{IsGood, hidden_sound, met_good}
use Rattle.sdjwt_hiding.proofs.Numbers.{added_up, sum_by_number, all_before, all_after, alone, all_alone}
use Rattle.sdjwt_hiding.proofs.Numbers.{alone_all}

-- ---- the disclosures in order are those that are met

tally_is : (y : Utf8) (ps : List Numbered) → tally y ps ≡ added_up (λ p. times y (p.1.digest ∷ [])) ps
tally_is y [] = refl
tally_is y (p ∷ ps) = omega (arith, tally_is y ps)

digests_are : (y : Utf8) (ps : List Numbered) → times y (digests (alone ps)) ≡ tally y ps
digests_are y [] = refl
digests_are y (p ∷ ps) = omega (arith, digests_are y ps)

values_are : (y : Utf8) (ps : List Numbered)
    → in_values y ps ≡ added_up (λ p. placed y (sites_in p.1.value)) ps
values_are y [] = refl
values_are y (p ∷ ps) = omega (arith, values_are y ps)

places_are : (y : Utf8) (ps : List Numbered) → placed y (values_sites (alone ps)) ≡ in_values y ps
places_are y [] = refl
places_are y (p ∷ ps) =
    omega (
      arith,
      ap (times y) (map-append digest_at (sites_in p.1.value) (values_sites (alone ps))),
      times-append y (map digest_at (sites_in p.1.value)) (map digest_at (values_sites (alone ps))),
      places_are y ps,
    )

pub tally_disclosed : (y : Utf8) (ps : List Numbered) → times y (digests (alone (by_number ps))) ≡ tally y ps
tally_disclosed y ps = digests_are y (by_number ps) ∙ tally_is y (by_number ps)
    ∙ sum_by_number (λ p. times y (p.1.digest ∷ [])) ps ∙ sym (tally_is y ps)

values_disclosed : (y : Utf8) (ps : List Numbered)
    → placed y (values_sites (alone (by_number ps))) ≡ in_values y ps
values_disclosed y ps = places_are y (by_number ps) ∙ values_are y (by_number ps)
    ∙ sum_by_number (λ p. placed y (sites_in p.1.value)) ps ∙ sym (values_are y ps)

-- ---- names

not_true : (b : Bool) → not b ≡ true → b ≡ false
not_true true e = cc
not_true false e = refl

none_left_out : (m : Marks) (ms : Fields) → has_free ms ≡ true → keeps_plain_only m ms ≡ true
    → list_any (λ k. is_among k (left_out true)) (field_names ms) ≡ false
none_left_out m no_fields h keeps = refl
none_left_out m (field k d ms) h keeps =
    let a = and_parts (not (is_reserved_name k)) (is_free d && has_free ms) h in
    let b = and_parts (is_free d) (has_free ms) a.1 in
    let c = and_parts (not (bytes_eq sd_alg k) && (is_none (at (Name k) m) || not (is_among k plain_only)))
    (keeps_plain_only m ms) keeps in
    let e = and_parts (not (bytes_eq sd_alg k)) (is_none (at (Name k) m) || not (is_among k plain_only)) c.0
    in
    or_from (bytes_eq sd k || (bytes_eq sd_alg k || false))
    (list_any (λ j. is_among j (left_out true)) (field_names ms))
    (or_from (bytes_eq sd k) (bytes_eq sd_alg k || false) (bytes_eq-flip sd k
    ∙ (or_parts (bytes_eq k sd) (bytes_eq k dots) (not_true (is_reserved_name k) a.0)).0)
    (or_from (bytes_eq sd_alg k) false (not_true (bytes_eq sd_alg k) e.0) refl))
    (none_left_out m ms b.1 c.1)

held_kept : (o : Option ℕ) (k : Utf8) (t : Tree) (ns : List Named)
    → (is_none o || not (is_among k plain_only)) ≡ true
    → list_any (λ j. is_among j plain_only) (names_of (held_of ns)) ≡ false
    → list_any (λ j. is_among j plain_only) (names_of (held_of ((k, is_some o, t) ∷ ns))) ≡ false
held_kept None k t ns e rest = rest
held_kept (Some n) k t ns e rest =
    or_from (is_among k plain_only) (list_any (λ j. is_among j plain_only) (names_of (held_of ns)))
    (not_true (is_among k plain_only) e) rest

none_plain_only : (m : Marks) (ms : Fields) → keeps_plain_only m ms ≡ true
    → list_any (λ j. is_among j plain_only) (names_of (held_of (meant_members m ms))) ≡ false
none_plain_only m no_fields keeps = refl
none_plain_only m (field k d ms) keeps =
    let c = and_parts (not (bytes_eq sd_alg k) && (is_none (at (Name k) m) || not (is_among k plain_only)))
    (keeps_plain_only m ms) keeps in
    let e = and_parts (not (bytes_eq sd_alg k)) (is_none (at (Name k) m) || not (is_among k plain_only)) c.0
    in
    held_kept (at (Name k) m) k (meant (under (Name k) m) d) (meant_members m ms) e.1
    (none_plain_only m ms c.1)

-- ---- a disclosure that is found has one of the digests

found_times : (y : Utf8) (ls : List Disclosed) (l : Disclosed) → found y ls ≡ Some l
    → 1 ≤ times y (digests ls)
found_times y [] l e = absurd (cc)
found_times y (d ∷ ls) l e = elim (cases_Bool (bytes_eq d.digest y)) [
  | inl same ↦ omega (arith, one_true (bytes_eq d.digest y) same)
  | inr other ↦ omega (arith, found_times y ls l (sym (ap (λ b. cond b (Some d) (found y ls)) other) ∙ e))
]

-- ---- the law

pub hidden_is_meant : HiddenIsMeant
hidden_is_meant x m ms may =
    let ps = met x m (object ms) in
    let ls = disclosures x m (object ms) in
    let own = found_own ls may.differing in
    let told : AreFound ls ps = all_before (λ p. found p.1.digest ls ≡ Some p.1) ps
    (alone_all (λ l. found l.digest ls ≡ Some l) (by_number ps) own) in
    let shallow : members_depth ms ≤ 63 = omega (arith, may.shallow) in
    let made = members_made x ls (Spells 63 ls) 63 (values_made x ls 63) true m ms shallow may.is_read
    may.free (none_left_out m ms may.free may.keeps) refl told in
    let good = all_after IsGood ps (met_good x m (object ms) may.free) in
    record {
      used = made.uses;
      spells = record {
        fields = with_digests (own_digests x m ms) (left_members x m ms);
        is_object =
            refl;
        spells = made.spells;
        none_plain_only =
            made.none_held (λ j. is_among j plain_only) (none_plain_only m ms may.keeps);
      };
      uses_each = (
        may.differing,
        all_map (λ l. found l.digest ls ≡ Some l) (λ l. times l.digest made.uses ≡ 1)
            (λ l e. omega (
              arith,
              made.counted l.digest,
              tally_disclosed l.digest ps,
              differ_times
                  (digests ls) may.differing l.digest,
              found_times l.digest ls l e,
            )) ls own,
      );
      apart = times_differ (map digest_at (all_sites (hidden x m (object ms)) ls)) (λ y.
          omega (
            arith,
            ap (times y) (map-append digest_at (sites_in (hidden x m (object ms))) (values_sites ls)),
            times-append y (map digest_at (sites_in (hidden x m (object ms))))
                (map digest_at (values_sites ls)),
            values_disclosed y ps,
            value_apart x m y (object ms) may.free,
            tally_disclosed y ps,
            differ_times (digests ls) may.differing y,
          ));
      none_reserved = none_tests has_reserved_name ls
          (all_alone (λ l. has_reserved_name l ≡ false) (by_number ps)
          (all_numbered (λ p. IsGood p) (λ p. has_reserved_name p.1 ≡ false) (λ p g. g.1) (by_number ps)
          good));
      sound = hidden_sound x m (object ms) may.free;
      sound_values = all_tests (λ l. is_sound l.value) ls
          (all_alone (λ l. is_sound l.value ≡ true) (by_number ps)
          (all_numbered (λ p. IsGood p) (λ p. is_sound p.1.value ≡ true) (λ p g. g.0) (by_number ps) good));
    }
  where
    all_numbered : (P Q : Numbered → Type 0) → ((p : Numbered) → P p → Q p) → (qs : List Numbered)
        → AllByRecursion P qs → AllByRecursion Q qs
    all_numbered P Q h qs a = all_map P Q h qs a

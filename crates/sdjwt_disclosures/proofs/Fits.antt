-- What is known of a walk over some places that uses some disclosures, put together part by part.
use Rattle.std.proofs.Common.{◌≡◌, ◌≤◌, ℕ, zero, suc, ◌+◌, true, false, List, [], ◌∷◌, ◌++◌, length, map}
use Rattle.std.proofs.Common.{Some, None, refl, ap, ◌∙◌, arith, inl, inr, length-append}
use Rattle.std.specs.List.{AllByRecursion}
use Rattle.std.specs.Str.{bytes_eq}
use Rattle.std.proofs.lemmas.Bool.{cases_Bool}
use Rattle.std.proofs.lemmas.List.{map-append}
use Rattle.serde_json.specs.Data.{Members as Fields}
use Rattle.base_forms.specs.Texts.{Utf8, is_among}
use Rattle.sdjwt_digests.specs.Disclosures.{Disclosed, found}
use Rattle.sdjwt_digests.specs.DigestSites.{sd, Site, in_object, in_list, digest_at, own_digests}
use Rattle.sdjwt_digests.specs.DigestSites.{sites_in}
use Rattle.sdjwt_digests.specs.DigestSites.{sites_in_members}
use Rattle.sdjwt_disclosures.specs.Reachable.{reached, reached_by}
use Rattle.sdjwt_disclosures.specs.DisclosureRules.{is_mismatch}
use Rattle.sdjwt_disclosures.specs.MemberNames.{has_clash}
use Rattle.sdjwt_disclosures.specs.Spelling.{times}
use Rattle.sdjwt_disclosures.proofs.Counting.{one, one_false, times-append}
use Rattle.sdjwt_disclosures.proofs.Fields.{HasOne, LeavesTexts, plain_sites, under_parts}
use Rattle.base_forms.proofs.Differing.{same_from}
use Rattle.sdjwt_disclosures.proofs.Reached.{from, by_more, by-append, reached_more}

pub all-append : {X : Type 0} (P : X → Type 0) (xs ys : List X) → AllByRecursion P xs → AllByRecursion P ys
    → AllByRecursion P (xs ++ ys)
all-append P [] ys h k = k
all-append P (x ∷ xs) ys h k = (h.0, all-append P xs ys h.1 k)

-- how many places ask for a disclosure of the other kind
abbrev pub misses : List Disclosed → List Site → ℕ
misses ls [] = 0
misses ls (p ∷ ps) = one (is_mismatch ls p) + misses ls ps

pub misses-append : (ls : List Disclosed) (ps qs : List Site)
    → misses ls (ps ++ qs) ≡ misses ls ps + misses ls qs
misses-append ls [] qs = omega arith
misses-append ls (p ∷ ps) qs = omega (arith, misses-append ls ps qs)

-- how often a text stands among some and what is reached through them
abbrev pub gathered : List Disclosed → Utf8 → ℕ → List Utf8 → ℕ
gathered ls x n ys = times x ys + times x (reached_by (reached n ls) ls ys)

pub gathered-append : (ls : List Disclosed) (x : Utf8) (n : ℕ) (ys zs : List Utf8)
    → gathered ls x n (ys ++ zs) ≡ gathered ls x n ys + gathered ls x n zs
gathered-append ls x n ys zs = omega (arith, times-append x ys zs, by-append x (reached n ls) ls ys zs)

-- what a digest that is used stands for
pub record IsUsed (ls : List Disclosed) (u : Utf8) : Type 0 where
  pub disclosure : Disclosed
  pub is : found u ls ≡ Some disclosure
  pub no_miss : misses ls (sites_in disclosure.value) ≡ 0
  pub no_clash : has_clash ls disclosure.value ≡ false

-- No place asks for a disclosure of the other kind, here or in what is used. A disclosure is used as often as
-- it is reached.
pub record Fits (ls : List Disclosed) (ps : List Site) (us : List Utf8) : Type 0 where
  pub no_miss : misses ls ps ≡ 0
  pub are_used : AllByRecursion (IsUsed ls) us
  pub tally : (x : Utf8) (l : Disclosed) → found x ls ≡ Some l → (n : ℕ) → length us ≤ n
      → times x us ≡ gathered ls x n (map digest_at ps)

pub fits_none : (ls : List Disclosed) → Fits ls [] []
fits_none ls = record { no_miss = refl; are_used = tt; tally = λ x l e n h. omega arith }

pub fits-append : (ls : List Disclosed) (ps qs : List Site) (us vs : List Utf8) → Fits ls ps us
    → Fits ls qs vs → Fits ls (ps ++ qs) (us ++ vs)
fits-append ls ps qs us vs a b = record {
  no_miss = omega (arith, misses-append ls ps qs, a.no_miss, b.no_miss);
  are_used = all-append (IsUsed ls) us vs a.are_used b.are_used;
  tally = λ x l e n h.
      let size : length (us ++ vs) ≡ length us + length vs = length-append us vs in
      let left : length us ≤ n = omega arith in
      let right : length vs ≤ n = omega arith in
      omega (
        arith,
        times-append x us vs,
        a.tally x l e n left,
        b.tally x l e n right,
        ap (gathered ls x n) (map-append digest_at ps qs),
        gathered-append ls x n (map digest_at ps) (map digest_at qs),
      );
}

no_mismatch : (ls : List Disclosed) (p : Site) → found (digest_at p) ls ≡ None → is_mismatch ls p ≡ false
no_mismatch ls (in_object x) e = rw (e, is_mismatch) refl
no_mismatch ls (in_list x) e = rw (e, is_mismatch) refl

other_digest : (ls : List Disclosed) (y x : Utf8) (l : Disclosed) → found y ls ≡ None → found x ls ≡ Some l
    → bytes_eq y x ≡ false
other_digest ls y x l e f = elim (cases_Bool (bytes_eq y x)) [
  | inl same ↦
      let is : y ≡ x = same_from y x same in
      let both : found y ls ≡ found x ls = ap (λ z. found z ls) is in
      absurd (cc)
  | inr other ↦ other
]

pub fits_undisclosed : (ls : List Disclosed) (p : Site) → found (digest_at p) ls ≡ None → Fits ls (p ∷ []) []
fits_undisclosed ls p e = record {
  no_miss = omega (arith, ap one (no_mismatch ls p e));
  are_used = tt;
  tally = λ x l f n h. omega (
    arith,
    one_false (bytes_eq (digest_at p) x) (other_digest ls (digest_at p) x l e f),
    by_more x (reached n ls) ls (digest_at p) [],
    ap (λ o. times x (from (reached n ls) o)) e,
  );
}

tally_more : (ls : List Disclosed) (y : Utf8) (m : Disclosed) (us : List Utf8) → found y ls ≡ Some m
    → Fits ls (sites_in m.value) us
    → (x : Utf8) (l : Disclosed) → found x ls ≡ Some l → (n : ℕ) → length (y ∷ us) ≤ n
    → times x (y ∷ us) ≡ gathered ls x n (y ∷ [])
tally_more ls y m us e fits x l f zero h = absurd (omega arith)
tally_more ls y m us e fits x l f (suc n) h =
    omega (
      arith,
      fits.tally x l f n (omega arith),
      by_more x (reached (suc n) ls) ls y [],
      ap (λ o. times x (from (reached (suc n) ls) o)) e,
      reached_more x n ls m.value,
    )

pub fits_disclosed : (ls : List Disclosed) (p : Site) (l : Disclosed) (us : List Utf8)
    → found (digest_at p) ls ≡ Some l → is_mismatch ls p ≡ false → has_clash ls l.value ≡ false
    → Fits ls (sites_in l.value) us
    → Fits ls (p ∷ []) (digest_at p ∷ us)
fits_disclosed ls p l us e kind clash fits = record {
  no_miss = omega (arith, ap one kind);
  are_used = (record { disclosure = l; is = e; no_miss = fits.no_miss; no_clash = clash }, fits.are_used);
  tally = tally_more ls (digest_at p) l us e fits;
}

-- the places under an object, from those of its plain members and of its `_sd`
pub fits_under : (ls : List Disclosed) (left : List Utf8) (ms : Fields) (us : List Utf8)
    → ((k : Utf8) → bytes_eq k sd ≡ true → is_among k left ≡ true) → HasOne sd ms → LeavesTexts left ms
    → Fits ls (plain_sites left ms ++ map in_object (own_digests ms)) us → Fits ls (sites_in_members ms) us
fits_under ls left ms us has one texts fits = record {
  no_miss = omega (
    arith,
    fits.no_miss,
    under_parts (misses ls) (misses-append ls) refl left has ms one texts,
    misses-append ls (plain_sites left ms) (map in_object (own_digests ms)),
  );
  are_used = fits.are_used;
  tally = λ x l e n h.
      let F : List Site → ℕ = λ ps. gathered ls x n (map digest_at ps) in
      let more : (ps qs : List Site) → F (ps ++ qs) ≡ F ps + F qs =
      λ ps qs. ap (gathered ls x n) (map-append digest_at ps qs)
      ∙ gathered-append ls x n (map digest_at ps) (map digest_at qs) in
      omega (
        arith,
        fits.tally x l e n h,
        under_parts F more (omega arith) left has ms one texts,
        more (plain_sites left ms) (map in_object (own_digests ms)),
      );
}

-- There is a list of the fits of a holding.
use Rattle.std.proofs.Common.{◌≡◌, ℕ, ◌<◌, ◌≤◌, Bool, true, false, List, length, slice_get, Option, Some}
use Rattle.std.proofs.Common.{None, Ok, Err, refl, ap, inl, inr, arith, zero, suc, ◌⊎◌}
use Rattle.std.specs.Prelude.{nat_lt, IsSome, IsSomeAnd, IsOkAnd}
use Rattle.claim_tree.specs.Credential.{Credential}
use Rattle.claim_tree.specs.declared.facts.Format.{Format}
use Rattle.claim_tree.specs.declared.facts.Format.TheVariants.{SdJwt, Mdoc}
use Rattle.credential_matching.specs.Meets.{Meets}
use Rattle.credential_query.specs.Claims.{claims_met}
use Rattle.credential_query.specs.Credential.{Credential as CredentialQuery, allows_kind}
use Rattle.dcql_answers.specs.declared.fits.Fit.{Fit}
use Rattle.dcql_query.specs.Query.{Query}
use Rattle.key_device.specs.Calls.{Held}
use Rattle.admitted_answers.proofs.Listed.{Listed, listed_like, listed_one, listed_none, listed_either}
use Rattle.admitted_answers.proofs.Listed.{listed_pairs, listed_where}
use Rattle.fit_table.specs.Fit.{FitsUnder, IsFit}
use Rattle.fit_table.specs.Slot.{Stands}
use Rattle.fit_table.specs.Usable.{IsUsable}
use Rattle.fit_table.proofs.AtPlaces.{query_within, slot_within}
use Rattle.wallet_answers.specs.Holding.{Holding}
use Rattle.wallet_answers.specs.Admitted.{AreFits}
use Rattle.wallet_answers.proofs.Admitting.{in_from, contains_from}
use Rattle.wallet_answers.proofs.Deciding.{Decided, both, either, implies, alike, is_true, is_less}
use Rattle.wallet_answers.proofs.Deciding.{is_at_most, is_some, is_some_and, if_some, is_ok_and, answer}
use Rattle.wallet_answers.proofs.Deciding.{when_true, then_true}
use borrow.Author.Tests.{ltb-true, ltb-false}

-- ---- whether three places are a fit

is_format : (f g : Format) → Decided (f ≡ g)
is_format SdJwt SdJwt = inl refl
is_format SdJwt Mdoc = inr (λ e. cc e)
is_format Mdoc SdJwt = inr (λ e. cc e)
is_format Mdoc Mdoc = inl refl

is_that_format : (o : Option Format) (f : Format) → Decided (o ≡ Some f)
is_that_format None f = inr (λ e. cc e)
is_that_format (Some g) f = alike (λ e. ap (λ (x : Format). Some x) e) (λ e. cc e) (is_format g f)

meets : (q : CredentialQuery) (s : ℕ) (c : Credential) → Decided (Meets q s c)
meets q s c =
    alike
    (λ h. record {
      allowed = record { format = h.0; kind = h.1.0; binding = h.1.1.0 };
      claims = h.1.1.1;
    })
    (λ m. (m.allowed.format, (m.allowed.kind, (m.allowed.binding, m.claims))))
    (both (is_that_format q.format c.format)
    (both (is_true (allows_kind q c.kind))
    (both (implies (is_true q.binding) (is_some c.holder)) (is_true (claims_met q s c.tree)))))

usable : (q : CredentialQuery) (held : Held) (now : ℕ) (c : Credential) → Decided (IsUsable q held now c)
usable q held now c =
    alike (λ h. record { in_date = h.0; key = h.1 }) (λ u. (u.in_date, u.key))
    (both (both (is_at_most c.first now) (if_some (λ past. now < past) c.past (λ past. is_less now past)))
    (implies (either (is_true q.binding) (is_format c.format Mdoc))
    (is_some_and (λ name. IsSome (held name)) c.holder (λ name. is_some (held name)))))

under : (q : CredentialQuery) (s : ℕ) (held : Held) (now : ℕ) (c : Credential)
    → Decided (FitsUnder q s held now c)
under q s held now c =
    alike (λ h. record { set = h.0; meets = h.1.0; usable = h.1.1 }) (λ f. (f.set, (f.meets, f.usable)))
    (both (is_less s (length q.sets)) (both (meets q s c) (usable q held now c)))

fits : (q : Query) (h : Holding) (f : Fit) → Decided (IsFit q h.slots h.held h.now f)
fits q h f =
    is_some_and
    (λ asked. IsSomeAnd (slice_get h.slots f.credential) (λ slot. IsOkAnd slot (λ c.
    FitsUnder asked f.set h.held h.now c)))
    (slice_get q.credentials f.query)
    (λ asked. is_some_and (λ slot. IsOkAnd slot (λ c. FitsUnder asked f.set h.held h.now c))
    (slice_get h.slots f.credential)
    (λ slot. is_ok_and (λ c. FitsUnder asked f.set h.held h.now c) slot
    (λ c. under asked f.set h.held h.now c)))

-- ---- the places

listed_below : (n : ℕ) → Listed (λ i. i < n)
listed_below zero = listed_none (λ i. i < 0) (λ i h. omega (arith, h))
listed_below (suc n) =
    listed_like (λ i. (i ≡ n) ⊎ (i < n)) (λ i. i < suc n) there back
    (listed_either (λ i. i ≡ n) (λ i. i < n) (listed_one n) (listed_below n)) where
      there : (i : ℕ) → (i ≡ n) ⊎ (i < n) → i < suc n
      there i (inl e) = omega (arith, e)
      there i (inr h) = omega (arith, h)

      by : (i : ℕ) (t : Bool) → nat_lt i n ≡ t → i < suc n → (i ≡ n) ⊎ (i < n)
      by i true e h = inr (ltb-true i n e)
      by i false e h = let k : n ≤ i = ltb-false i n e in inl (omega (arith, h, k))

      back : (i : ℕ) → i < suc n → (i ≡ n) ⊎ (i < n)
      back i h = by i (nat_lt i n) refl h

-- how many claim sets a credential query has
abbrev sets_of : Option CredentialQuery → ℕ
sets_of None = 0
sets_of (Some q) = length q.sets

abbrev PlacesIn : (slots sets : ℕ) → ℕ × ℕ → Type 0
PlacesIn slots sets z = (c : ℕ) × (s : ℕ) × (c < slots) × (s < sets) × (z ≡ (c, s))

listed_places : (slots sets : ℕ) → Listed (PlacesIn slots sets)
listed_places slots sets =
    listed_pairs (λ c s. (c, s)) (λ c. c < slots) (λ c s. s < sets) (listed_below slots)
    (λ c. listed_below sets)

abbrev fit_at : ℕ → ℕ × ℕ → Fit
fit_at i z = record { query = i; credential = z.0; set = z.1 }

abbrev Places : Query → Holding → Fit → Type 0
Places q h f =
    (i : ℕ) × (z : ℕ × ℕ) × (i < length q.credentials)
    × PlacesIn (length h.slots) (sets_of (slice_get q.credentials i)) z
    × (f ≡ fit_at i z)

listed_triples : (q : Query) (h : Holding) → Listed (Places q h)
listed_triples q h =
    listed_pairs fit_at (λ i. i < length q.credentials)
    (λ i. PlacesIn (length h.slots) (sets_of (slice_get q.credentials i)))
    (listed_below (length q.credentials))
    (λ i. listed_places (length h.slots) (sets_of (slice_get q.credentials i)))

set_of_slot : (q : CredentialQuery) (s : ℕ) (h : Holding) (slot : Option Stands)
    → IsSomeAnd slot (λ slot. IsOkAnd slot (λ c. FitsUnder q s h.held h.now c)) → s < length q.sets
set_of_slot q s h None is = absurd is
set_of_slot q s h (Some (Ok c)) is = is.set
set_of_slot q s h (Some (Err rule)) is = absurd is

set_within : (o : Option CredentialQuery) (s : ℕ) (h : Holding) (slot : Option Stands)
    → IsSomeAnd o (λ asked. IsSomeAnd slot (λ slot. IsOkAnd slot (λ c. FitsUnder asked s h.held h.now c)))
    → s < sets_of o
set_within None s h slot is = absurd is
set_within (Some q) s h slot is = set_of_slot q s h slot is

places : (q : Query) (h : Holding) (f : Fit) → IsFit q h.slots h.held h.now f → Places q h f
places q h f is = (
  f.query,
  (f.credential, f.set),
  query_within q h.slots h.held h.now f is,
  (
    f.credential,
    f.set,
    slot_within q h.slots h.held h.now f is,
    set_within (slice_get q.credentials f.query) f.set h (slice_get h.slots f.credential) is,
    refl,
  ),
  refl,
)

listed_fits : (q : Query) (h : Holding) → Listed (IsFit q h.slots h.held h.now)
listed_fits q h =
    listed_like (λ f. Places q h f × (answer (fits q h f) ≡ true)) (IsFit q h.slots h.held h.now)
    (λ f both. when_true (fits q h f) both.1) (λ f is. (places q h f is, then_true (fits q h f) is))
    (listed_where (λ f. answer (fits q h f)) (Places q h) (listed_triples q h))

same_fits : (q : Query) (h : Holding) (listed : Listed (IsFit q h.slots h.held h.now))
    → AreFits q h listed.all
same_fits q h listed f = (
  λ is. listed.only f (in_from listed.all f is),
  λ is. contains_from listed.all f (listed.here f is),
)

pub fits_of : (q : Query) (h : Holding) → (fits : List Fit) × AreFits q h fits
fits_of q h =
    let listed = listed_fits q h in
    (listed.all, same_fits q h listed)

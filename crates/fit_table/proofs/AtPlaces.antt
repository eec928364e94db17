-- Fits by the credential query and the credential at their places.
use Rattle.std.proofs.Common.{◌≡◌, ℕ, ◌+◌, ◌<◌, List, length, slice_get, Option, Some, None, Ok, Err, refl}
use Rattle.std.proofs.Common.{sym, ap, ◌∙◌, subst, map, arith, zero, suc, [], ◌∷◌, ◌++◌, ◌≤◌}
use Rattle.std.proofs.lemmas.List.{map-append}
use Rattle.std.specs.Prelude.{IsSomeAnd, IsOkAnd}
use Rattle.claim_tree.specs.Credential.{Credential}
use Rattle.credential_query.specs.Credential.{Credential as CredentialQuery}
use Rattle.dcql_answers.specs.declared.fits.Fit.{Fit}
use Rattle.dcql_query.specs.Query.{Query}
use Rattle.key_device.specs.Calls.{Held}
use Rattle.fit_table.specs.Slot.{Stands}
use Rattle.fit_table.specs.Fit.{FitsUnder, IsFit}
use Rattle.fit_table.specs.Usable.{IsUsable}
use Rattle.fit_table.specs.code.Found.{FoundBefore, IsFound}
use Rattle.credential_matching.specs.Meets.{Meets}
use Rattle.dcql_answers.specs.Fits.{fit_of}
use Rattle.fit_table.proofs.Found.{at, found_here, none_here, next_credential}

abbrev FitsSlot : CredentialQuery → ℕ → Held → ℕ → Stands → Type 0
FitsSlot q s held now slot = IsOkAnd slot (λ c. FitsUnder q s held now c)

abbrev FitsSlotAt : Option Stands → ℕ → Held → ℕ → CredentialQuery → Type 0
FitsSlotAt slot s held now q = IsSomeAnd slot (λ slot. FitsSlot q s held now slot)

pub fit_from : (query : Query) (slots : List Stands) (held : Held) (now : ℕ) (f : Fit) (q : CredentialQuery)
    (slot : Stands) → slice_get query.credentials f.query ≡ Some q → slice_get slots f.credential ≡ Some slot
    → IsOkAnd slot (λ c. FitsUnder q f.set held now c) → IsFit query slots held now f
fit_from query slots held now f q slot asked stands fits =
    subst (λ o. IsSomeAnd o (FitsSlotAt (slice_get slots f.credential) f.set held now)) (sym asked)
    (subst (λ o. FitsSlotAt o f.set held now q) (sym stands) fits)

pub fit_to : (query : Query) (slots : List Stands) (held : Held) (now : ℕ) (f : Fit) (q : CredentialQuery)
    (slot : Stands) → slice_get query.credentials f.query ≡ Some q → slice_get slots f.credential ≡ Some slot
    → IsFit query slots held now f → IsOkAnd slot (λ c. FitsUnder q f.set held now c)
fit_to query slots held now f q slot asked stands fits =
    subst (λ o. FitsSlotAt o f.set held now q) stands
    (subst (λ o. IsSomeAnd o (FitsSlotAt (slice_get slots f.credential) f.set held now)) asked fits)

-- ---- within the lists

got : {X : Type 0} (xs : List X) (i : ℕ) (P : X → Type 0) → IsSomeAnd (slice_get xs i) P → i < length xs
got [] i P h = absurd h
got (x ∷ xs) zero P h = let k : 0 < suc (length xs) = omega arith in k
got (x ∷ xs) (suc i) P h =
    let k : i < length xs = got xs i P h in let n : suc i < suc (length xs) = omega (arith, k) in n

pub query_within : (query : Query) (slots : List Stands) (held : Held) (now : ℕ) (f : Fit)
    → IsFit query slots held now f → f.query < length query.credentials
query_within query slots held now f h =
    got query.credentials f.query (FitsSlotAt (slice_get slots f.credential) f.set held now) h

pub slot_within : (query : Query) (slots : List Stands) (held : Held) (now : ℕ) (f : Fit)
    → IsFit query slots held now f → f.credential < length slots
slot_within query slots held now f h = by (slice_get query.credentials f.query) h where
  by : (o : Option CredentialQuery) → IsSomeAnd o (FitsSlotAt (slice_get slots f.credential) f.set held now)
      → f.credential < length slots
  by None k = absurd k
  by (Some q) k = got slots f.credential (FitsSlot q f.set held now) k

-- ---- what is found at one credential query and one slot

no_fit_unread : (query : Query) (slots : List Stands) (held : Held) (now : ℕ) (f : Fit) (rule : ℕ)
    → slice_get slots f.credential ≡ Some (Err rule) → IsFit query slots held now f → ⊥
no_fit_unread query slots held now f rule stands h = by (slice_get query.credentials f.query) h where
  by : (o : Option CredentialQuery)
      → IsSomeAnd o (FitsSlotAt (slice_get slots f.credential) f.set held now) → ⊥
  by None k = k
  by (Some q) k = subst (λ o. FitsSlotAt o f.set held now q) stands k

pub unread : (query : Query) (slots : List Stands) (held : Held) (now q c rule : ℕ) (found : List (ℕ × ℕ × ℕ))
    → slice_get slots c ≡ Some (Err rule) → IsFound query slots held now q c 0 found
    → IsFound query slots held now q (c + 1) 0 found
unread query slots held now q c rule found stands before =
    next_credential (IsFit query slots held now) q c 0 (map fit_of found) before
    (λ f p a b. absurd (no_fit_unread query slots held now f rule (ap (slice_get slots) b ∙ stands) p))

-- A credential query and a credential stand at these places.
pub record AreAt (query : Query) (slots : List Stands) (q c : ℕ) (asked : CredentialQuery) (read : Credential)
    : Type 0 where
  pub queried : slice_get query.credentials q ≡ Some asked
  pub stands : slice_get slots c ≡ Some (Ok read)

fits_there : (query : Query) (slots : List Stands) (held : Held) (now q c : ℕ) (asked : CredentialQuery)
    (read : Credential) (f : Fit) → AreAt query slots q c asked read → f.query ≡ q → f.credential ≡ c
    → IsFit query slots held now f → FitsUnder asked f.set held now read
fits_there query slots held now q c asked read f here a b p =
    fit_to query slots held now f asked (Ok read) (ap (slice_get query.credentials) a ∙ here.queried)
    (ap (slice_get slots) b ∙ here.stands) p

pub unusable : (query : Query) (slots : List Stands) (held : Held) (now q c : ℕ) (asked : CredentialQuery)
    (read : Credential) (found : List (ℕ × ℕ × ℕ)) → AreAt query slots q c asked read
    → (IsUsable asked held now read → ⊥) → IsFound query slots held now q c 0 found
    → IsFound query slots held now q (c + 1) 0 found
unusable query slots held now q c asked read found here excluded before =
    next_credential (IsFit query slots held now) q c 0 (map fit_of found) before
    (λ f p a b. absurd (excluded (fits_there query slots held now q c asked read f here a b p).usable))

pub all_sets : (query : Query) (slots : List Stands) (held : Held) (now q c n : ℕ) (asked : CredentialQuery)
    (read : Credential) (found : List (ℕ × ℕ × ℕ)) → AreAt query slots q c asked read → length asked.sets ≤ n
    → IsFound query slots held now q c n found → IsFound query slots held now q (c + 1) 0 found
all_sets query slots held now q c n asked read found here all before =
    next_credential (IsFit query slots held now) q c n (map fit_of found) before
    (λ f p a b.
    let k : f.set < length asked.sets = (fits_there query slots held now q c asked read f here a b p).set in
    let r : f.set < n = omega (arith, k, all) in r)

pub one_fits : (query : Query) (slots : List Stands) (held : Held) (now q c s : ℕ) (asked : CredentialQuery)
    (read : Credential) (found : List (ℕ × ℕ × ℕ)) → AreAt query slots q c asked read
    → FitsUnder asked s held now read → IsFound query slots held now q c s found
    → IsFound query slots held now q c (s + 1) (found ++ (q, c, s) ∷ [])
one_fits query slots held now q c s asked read found here fits before =
    subst (FoundBefore (IsFit query slots held now) q c (s + 1))
    (sym (map-append fit_of found ((q, c, s) ∷ [])))
    (found_here (IsFit query slots held now) q c s (map fit_of found) before
    (fit_from query slots held now (at q c s) asked (Ok read) here.queried here.stands fits))

pub none_fits : (query : Query) (slots : List Stands) (held : Held) (now q c s : ℕ) (asked : CredentialQuery)
    (read : Credential) (found : List (ℕ × ℕ × ℕ)) → AreAt query slots q c asked read
    → (Meets asked s read → ⊥) → IsFound query slots held now q c s found
    → IsFound query slots held now q c (s + 1) found
none_fits query slots held now q c s asked read found here excluded before =
    none_here (IsFit query slots held now) q c s (map fit_of found) before
    (λ p. excluded (fits_there query slots held now q c asked read (at q c s) here refl refl p).meets)

-- The payload and the disclosures of a spec in memory.
use Rattle.std.proofs.Common.{◌≡◌, Bool, true, false, List, [], ◌∷◌, map, Some, None, Result, Ok, Err, refl}
use Rattle.std.proofs.Common.{sym, ap, ◌∙◌, subst, IfOk, if◌then◌else◌}
use Rattle.std.specs.List.{AllByRecursion}
use Rattle.serde_json.specs.Data.{Data, object}
use Rattle.serde_json.specs.View.{view}
use Rattle.serde_json.specs.Written.{has_float}
use Rattle.base_forms.specs.Texts.{differ}
use Rattle.claim_names.specs.declared.address.Step.{Step}
use Rattle.sdjwt_hiding.specs.Addresses.{number_in}
use Rattle.sdjwt_hiding.specs.Hiding.{Marks, Numbered, hidden, met, by_number}
use Rattle.sdjwt_hiding.specs.Disclosing.{by_sha256, told, all_told, IsReadBack}
use Rattle.sdjwt_hiding.specs.Issued.{all_made}
use Rattle.sdjwt_hiding.specs.Laws.{digests}
use Rattle.sdjwt_hiding.specs.declared.disclosure_text.IssuedDisclosure.{IssuedDisclosure}
use Rattle.sdjwt_hiding.specs.declared.error.NoMemory.{NoMemory}
use Rattle.sdjwt_hiding.specs.declared.hidden.Hidden.{Hidden}
use Rattle.sdjwt_issue.specs.Spec.{Spec, all_members}
use Rattle.sdjwt_issue.specs.Asked.{marks, has_own_digests}
use Rattle.sdjwt_issue.specs.Issuing.{shared_digest, digest_rule}
use Rattle.sdjwt_issue.specs.code.Hiding.{IsHidden}

hidden_at : (s : Spec) (r : Result Hidden NoMemory)
    → IfOk r (λ h. view h.value ≡ hidden by_sha256 (marks s) (object (all_members s)))
    → IfOk r (λ h. all_made h.disclosures.items
    ≡ all_told (by_number (met by_sha256 (marks s) (object (all_members s)))))
    → IfOk r (λ h. AllByRecursion IsReadBack (met by_sha256 (marks s) (object (all_members s))))
    → IfOk r (λ h. has_float (view h.value) ≡ false) → IfOk r (λ h. IsHidden s h)
hidden_at s (Ok h) payload disclosures disclosed whole =
    record { payload = payload; whole = whole; disclosures = disclosures; disclosed = disclosed }
hidden_at s (Err e) payload disclosures disclosed whole = tt

-- what hiding gives of this payload and these addresses
pub is_hidden : (s : Spec) (r : Result Hidden NoMemory) (d : Data) (hide : List (List Step))
    → d ≡ object (all_members s) → hide ≡ s.hide
    → IfOk r (λ h. view h.value ≡ hidden by_sha256 (number_in hide) d)
    → IfOk r (λ h. all_made h.disclosures.items ≡ all_told (by_number (met by_sha256 (number_in hide) d)))
    → IfOk r (λ h. AllByRecursion IsReadBack (met by_sha256 (number_in hide) d))
    → IfOk r (λ h. has_float (view h.value) ≡ false) → IfOk r (λ h. IsHidden s h)
is_hidden s r d hide is_payload is_hide payload disclosures disclosed whole =
    hidden_at s r
    (at_spec (λ (m : Marks) (p : Data). IfOk r (λ h. view h.value ≡ hidden by_sha256 m p)) payload)
    (at_spec (λ (m : Marks) (p : Data). IfOk r (λ h. all_made h.disclosures.items
    ≡ all_told (by_number (met by_sha256 m p)))) disclosures)
    (at_spec (λ (m : Marks) (p : Data). IfOk r (λ h. AllByRecursion IsReadBack (met by_sha256 m p)))
    disclosed)
    whole
  where
    at_spec : (P : Marks → Data → Type 0) → P (number_in hide) d → P (marks s) (object (all_members s))
    at_spec P h = subst (λ (hs : List (List Step)). P (number_in hs) (object (all_members s))) is_hide
        (subst (λ (p : Data). P (number_in hide) p) is_payload h)

-- ---- digests

digests_told : (ps : List Numbered) → map (λ t. t.1) (map told ps) ≡ digests (map (λ p. p.1) ps)
digests_told [] = refl
digests_told (p ∷ ps) = ap (λ xs. p.1.digest ∷ xs) (digests_told ps)

-- whether digests differ in memory
pub own_digests_are : (s : Spec) (h : Hidden) (ds : List IssuedDisclosure) (own : Bool) → IsHidden s h
    → ds ≡ h.disclosures.items → own ≡ differ (map (λ t. t.1) (all_made ds)) → has_own_digests s ≡ own
own_digests_are s h ds own is is_ds is_own =
    sym (is_own ∙ ap (λ (l : List IssuedDisclosure). differ (map (λ t. t.1) (all_made l))) is_ds
    ∙ ap differ (ap (map (λ t. t.1)) is.disclosures
    ∙ digests_told (by_number (met by_sha256 (marks s) (object (all_members s))))))

pub none_shared : (s : Spec) → has_own_digests s ≡ true → digest_rule s ≡ None
none_shared s own = ap (λ b. if b then None else Some shared_digest) own

pub some_shared : (s : Spec) → has_own_digests s ≡ false → digest_rule s ≡ Some shared_digest
some_shared s own = ap (λ b. if b then None else Some shared_digest) own

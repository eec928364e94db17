-- Where no rule is answered, every part of a credential query may be read.
use Rattle.std.proofs.Common.{◌≡◌, ℕ, Bool, true, false, not, ◌&&◌, is_none, List, [], ◌∷◌, Option, Some}
use Rattle.std.proofs.Common.{None, refl, codes}
use Rattle.serde_json.specs.Data.{Data}
use Rattle.serde_json.specs.Find.{get}
use Rattle.base_forms.specs.Rules.{lesser}
use Rattle.json_forms.specs.Look.{elements_at, is_wrong}
use Rattle.claim_path.proofs.Valid.{rest_unbroken, parts_unbroken}
use Rattle.dcql_rules.specs.Ids.{has_id}
use Rattle.dcql_rules.specs.Rules.{is_wrong_path, are_right_values, claim_rule, least_claim_rule, has_format}
use Rattle.dcql_rules.specs.Rules.{header_rule, claims_rule, sets_rule, credential_rule}
use Rattle.credential_query.specs.Readable.{is_readable_claim, are_readable_claims, is_readable_credential}

pub lesser_none : (r s : Option ℕ) → lesser r s ≡ None → (r ≡ None) × (s ≡ None)
lesser_none None s e = (refl, e)
lesser_none (Some m) None e = absurd cc
lesser_none (Some m) (Some n) e = absurd cc

pub both_true : (a b : Bool) → (a && b) ≡ true → (a ≡ true) × (b ≡ true)
both_true true b e = (refl, e)
both_true false b e = absurd cc

pub both_are : (a b : Bool) → a ≡ true → b ≡ true → (a && b) ≡ true
both_are a b h k = cc

neither_is : (a b : Bool) → a ≡ false → b ≡ false → (not a && not b) ≡ true
neither_is a b h k = cc

pub none_is : (r : Option ℕ) → r ≡ None → is_none r ≡ true
none_is r e = cc

pub none_from : (r : Option ℕ) → is_none r ≡ true → r ≡ None
none_from None e = refl
none_from (Some n) e = absurd cc

claim_readable : (document : Bool) (c : Data) → claim_rule document c ≡ None → is_readable_claim c ≡ true
claim_readable document c e =
    let a = rest_unbroken 14 _ _ e in
    let b = rest_unbroken 15 _ _ a.1 in
    let v = rest_unbroken 16 _ _ b.1 in
    neither_is (is_wrong_path (get (codes "path") c))
    (is_wrong are_right_values (get (codes "values") c)) a.0 v.0

pub claims_readable : (document : Bool) (cs : List Data) → least_claim_rule document cs ≡ None
    → are_readable_claims cs ≡ true
claims_readable document [] e = refl
claims_readable document (c ∷ cs) e =
    let l = lesser_none (claim_rule document c) (least_claim_rule document cs) e in
    both_are (is_readable_claim c) (are_readable_claims cs) (claim_readable document c l.0)
    (claims_readable document cs l.1)

pub claims_of_credential : (q : Data) → credential_rule q ≡ None → claims_rule q ≡ None
claims_of_credential q e = (parts_unbroken (claims_rule q) _ (parts_unbroken (header_rule q) _ e).1).0

pub sets_of_credential : (q : Data) → credential_rule q ≡ None → sets_rule q ≡ None
sets_of_credential q e =
    (parts_unbroken (sets_rule q) _ (parts_unbroken (claims_rule q) _
    (parts_unbroken (header_rule q) _ e).1).1).0

-- the claims of a credential query that breaks no rule
pub its_claims_readable : (q : Data) → credential_rule q ≡ None
    → are_readable_claims (elements_at (codes "claims") q) ≡ true
its_claims_readable q e =
    let a = rest_unbroken 10 _ _ (claims_of_credential q e) in
    let b = rest_unbroken 11 _ _ a.1 in
    let i = rest_unbroken 12 _ _ b.1 in
    let d = rest_unbroken 13 _ _ i.1 in
    claims_readable (has_format (codes "mso_mdoc") q) (elements_at (codes "claims") q)
    (parts_unbroken _ [] d.1).0

-- a readable credential query has an id, and breaks no rule
pub of_readable : (q : Data) → is_readable_credential q ≡ true
    → (has_id q ≡ true) × (credential_rule q ≡ None)
unfolding is_readable_credential
of_readable q e =
    let b = both_true (has_id q) (is_none (credential_rule q)) e in
    (b.0, none_from (credential_rule q) b.1)

-- its claims are readable in turn
pub claims_of_readable : (q : Data) → is_readable_credential q ≡ true
    → are_readable_claims (elements_at (codes "claims") q) ≡ true
claims_of_readable q e = its_claims_readable q (of_readable q e).1

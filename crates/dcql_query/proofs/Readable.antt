-- Where no rule is answered, every credential query may be read.
use Rattle.std.proofs.Common.{◌≡◌, true, not, is_none, List, [], ◌∷◌, None, refl, codes}
use Rattle.serde_json.specs.Data.{Data}
use Rattle.json_forms.specs.Look.{elements_at}
use Rattle.claim_path.proofs.Valid.{rest_unbroken, parts_unbroken, not_false}
use Rattle.dcql_rules.specs.Ids.{has_id, all_have_right_ids}
use Rattle.dcql_rules.specs.Rules.{credential_rule, least_credential_rule, query_rule}
use Rattle.credential_query.specs.Readable.{is_readable_credential}
use Rattle.credential_query.proofs.Readable.{lesser_none, both_true, both_are, none_is}
use Rattle.dcql_query.specs.code.Readable.{are_readable_credentials}

pub credentials_readable : (qs : List Data) → all_have_right_ids qs ≡ true → least_credential_rule qs ≡ None
    → are_readable_credentials qs ≡ true
unfolding is_readable_credential
credentials_readable [] h e = refl
credentials_readable (q ∷ qs) h e =
    let i = both_true (has_id q) (all_have_right_ids qs) h in
    let l = lesser_none (credential_rule q) (least_credential_rule qs) e in
    both_are (is_readable_credential q) (are_readable_credentials qs)
    (both_are (has_id q) (is_none (credential_rule q)) i.0 (none_is _ l.0))
    (credentials_readable qs i.1 l.1)

-- the credential queries of a query that breaks no rule
pub queries_readable : (d : Data) → query_rule d ≡ None
    → are_readable_credentials (elements_at (codes "credentials") d) ≡ true
queries_readable d e =
    let qs = elements_at (codes "credentials") d in
    let a = rest_unbroken 1 _ _ e in
    let b = rest_unbroken 2 _ _ a.1 in
    let i = rest_unbroken 3 (not (all_have_right_ids qs)) _ b.1 in
    let u = rest_unbroken 4 _ _ i.1 in
    let l = parts_unbroken (least_credential_rule qs) _ u.1 in
    credentials_readable qs (not_false _ i.0) l.0

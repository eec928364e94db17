-- What is known of a well-formed query, at a place in it.
use Rattle.std.proofs.lemmas.Slice.Eq.{bytes_eq-Decides}
use Rattle.std.proofs.Common.{◌≡◌, ℕ, zero, suc, ◌+◌, ◌<◌, true, false, not, List, [], ◌∷◌, map, length}
use Rattle.std.proofs.Common.{Some, sym, ap, ◌∙◌, arith, slice_get, slice_index, if◌then◌else◌}
use Rattle.std.specs.List.{AllByRecursion, slice_index_or}
use Rattle.std.specs.Str.{bytes_eq}
use Rattle.base_forms.specs.Texts.{is_among, differ}
use Rattle.claim_path.proofs.Valid.{neither}
use Rattle.dcql_query.specs.Query.{Credential, Query, sets_in, no_options, credential_set_at, query_from}
use Rattle.dcql_query.specs.WellFormed.{IsOption, IsCredentialSet, IsQuery}
use Rattle.credential_query.proofs.Readable.{both_true}
use Rattle.credential_query.proofs.WellFormed.{not_true}

-- ---- ids

other_id : (s : List ℕ) (qs : List Credential) (i : ℕ) (q : Credential) → slice_get qs i ≡ Some q
    → is_among s (map (λ c. c.id) qs) ≡ false → bytes_eq q.id s ≡ false
other_id s [] i q e h = absurd cc
other_id s (x ∷ xs) zero q e h = cc (neither (bytes_eq x.id s) (is_among s (map (λ c. c.id) xs)) h).0
other_id s (x ∷ xs) (suc i) q e h = other_id s xs i q e
    (neither (bytes_eq x.id s) (is_among s (map (λ c. c.id) xs)) h).1

-- where ids differ, that of a credential query names its place
pub named_place : (qs : List Credential) (n i : ℕ) (q : Credential) → differ (map (λ c. c.id) qs) ≡ true
    → slice_get qs i ≡ Some q → query_from n q.id qs ≡ Some (n + i)
named_place [] n i q h e = absurd cc
named_place (x ∷ xs) n zero q h e =
    let same : x ≡ q = cc in
    let b : bytes_eq q.id x.id ≡ true = (bytes_eq-Decides q.id x.id).1 (ap (λ c. c.id) (sym same)) in
    let m : n ≡ n + 0 = omega arith in
    ap (λ t. if t then Some n else query_from (n + 1) q.id xs) b ∙ ap Some m
named_place (x ∷ xs) n (suc i) q h e =
    let d = both_true (not (is_among x.id (map (λ c. c.id) xs))) (differ (map (λ c. c.id) xs)) h in
    let b : bytes_eq q.id x.id ≡ false = other_id x.id xs i q e (not_true _ d.0) in
    let m : (n + 1) + i ≡ n + suc i = omega arith in
    ap (λ t. if t then Some n else query_from (n + 1) q.id xs) b ∙ named_place xs (n + 1) i q d.1 e
    ∙ ap Some m

pub named_at : (q : Query) (i : ℕ) (c : Credential) → IsQuery q → slice_get q.credentials i ≡ Some c
    → query_from 0 c.id q.credentials ≡ Some i
named_at q i c w e =
    let m : 0 + i ≡ i = omega arith in
    named_place q.credentials 0 i c w.ids_differ e ∙ ap Some m

-- ---- options

all_at : {A : Type 0} (P : A → Type 0) (xs : List A) (i : ℕ) (d : A) → AllByRecursion P xs → i < length xs
    → P (slice_index_or xs i d)
all_at P [] i d all h = absurd (omega arith)
all_at P (x ∷ xs) zero d all h = all.0
all_at P (x ∷ xs) (suc i) d all h = all_at P xs i d all.1 (omega arith)

pub set_at_place : (q : Query) (i : ℕ) → IsQuery q → i < length (sets_in q)
    → IsCredentialSet (length q.credentials) (credential_set_at q i)
set_at_place q i w h = all_at (IsCredentialSet (length q.credentials)) (sets_in q) i no_options w.sets h

pub option_at_place : (q : Query) (i j : ℕ) → IsQuery q → i < length (sets_in q)
    → j < length (credential_set_at q i).options
    → IsOption (length q.credentials) (slice_index (credential_set_at q i).options j)
option_at_place q i j w h k = all_at (IsOption (length q.credentials)) (credential_set_at q i).options j 0
    (set_at_place q i w h).options k

-- The members that are written are those of the claims and of what the credential says of itself.
use Rattle.std.proofs.Common.{◌≡◌, ◌≤◌, ℕ, suc, Bool, true, false, not, ◌&&◌, ◌||◌, cond, List, [], ◌∷◌}
use Rattle.std.proofs.Common.{codes, Option, Some, None, option_map, Ordering, Less, Equal, Greater, nat_cmp}
use Rattle.std.proofs.Common.{refl, sym, ap, ◌∙◌, arith, inl, inr}
use Rattle.std.specs.Prelude.{is_none, ⊤}
use Rattle.std.specs.List.{list_any}
use Rattle.std.specs.Ordering.{match_ordering}
use Rattle.std.specs.Cmp.Lexicographic.{slice_cmp}
use Rattle.std.specs.Str.{bytes_eq}
use Rattle.std.proofs.lemmas.Bool.{and_parts, and_from, or_parts, or_from, cases_Bool}
use Rattle.std.proofs.lemmas.Slice.Eq.{bytes_eq-Decides}
use Rattle.serde_json.specs.Data.{Data, string, Members as Fields, no_members as no_fields}
use Rattle.serde_json.specs.Data.{member as field, put, depth, members_depth}
use Rattle.serde_json.specs.Written.{has_float, members_have_float}
use Rattle.base_forms.specs.Texts.{Utf8, is_among}
use Rattle.base_forms.proofs.Differing.{same_from, bytes_eq-flip}
use Rattle.claim_tree.specs.Tree.{ascend, is_claim, hold_claims}
use Rattle.claim_tree.specs.Plain.{plain, plain_members as plain_fields}
use Rattle.claim_names.specs.declared.address.Step.{Step}
use Rattle.claim_names.specs.declared.address.Step.TheVariants.{Name, Place}
use Rattle.sdjwt_digests.specs.ReservedNames.{is_reserved_name}
use Rattle.sdjwt_disclosures.specs.MemberNames.{plain_only}
use Rattle.sdjwt_disclosures.specs.DisclosedTree.{sd_alg}
use Rattle.sdjwt_disclosures.proofs.Fields.{HasNo}
use Rattle.sdjwt_view.specs.Facts.{is_key}
use Rattle.sdjwt_hiding.specs.Addresses.{same_address, number_in}
use Rattle.sdjwt_hiding.specs.Hiding.{Marks, at, StaysPlain, is_free, has_free}
use Rattle.sdjwt_hiding.specs.Laws.{keeps_plain_only}
use Rattle.sdjwt_hiding.proofs.Floats.{put_whole}
use Rattle.sdjwt_hiding.proofs.Names.{put_ascend}
use Rattle.sdjwt_hiding.proofs.Depths.{put_depth}
use Rattle.sdjwt_hiding.proofs.Written.{field_names}
use Rattle.sdjwt_issue.specs.Spec.{Spec, put_some, moment, confirmation, with_holder, with_until, with_from}
use Rattle.sdjwt_issue.specs.Spec.{with_kind, all_members, begins_plain_only, IsHolderKey, IsSdJwtSpec}

same : (k : Utf8) → bytes_eq k k ≡ true
same k = (bytes_eq-Decides k k).1 refl

pub other : (q k : Utf8) → bytes_eq q k ≡ false → q ≡ k → ⊥
other q k e is = let clash : true ≡ false = sym (same q) ∙ ap (bytes_eq q) is ∙ e in cc clash

-- ---- nothing plain_only is hidden

step_apart : (h : List Step) (k : Utf8) (a : List Step) → is_among k plain_only ≡ true
    → begins_plain_only h ≡ false → same_address h (Name k ∷ a) ≡ false
step_apart [] k a r h = refl
step_apart (Place i ∷ b) k a r h = refl
step_apart (Name j ∷ b) k a r h = elim (cases_Bool (bytes_eq j k)) [
  | inl here ↦ let clash : true ≡ false = sym r ∙ ap (λ z. is_among z plain_only) (sym (same_from j k here))
      ∙ h in absurd (cc clash)
  | inr past ↦ ap (λ c. c && same_address b a) past
]

pub stays : (hide : List (List Step)) (k : Utf8) → is_among k plain_only ≡ true
    → list_any begins_plain_only hide ≡ false → StaysPlain (number_in hide) k
stays [] k r h a = refl
stays (b ∷ hide) k r h a =
    let both = or_parts (begins_plain_only b) (list_any begins_plain_only hide) h in
    ap (λ c. cond c (Some 0) (option_map suc (number_in hide (Name k ∷ a)))) (step_apart b k a r both.0)
    ∙ ap (option_map suc) (stays hide k r both.1 a)

either_kept : (o : Option ℕ) (b : Bool) → (b ≡ true → o ≡ None) → (is_none o || not b) ≡ true
either_kept None b h = refl
either_kept (Some n) true h = absurd (cc (h refl))
either_kept (Some n) false h = refl

pub keeps : (m : Marks) (ms : Fields) → ((k : Utf8) → is_among k plain_only ≡ true → StaysPlain m k)
    → HasNo sd_alg ms → keeps_plain_only m ms ≡ true
keeps m no_fields h none = refl
keeps m (field k d ms) h none =
    and_from (not (bytes_eq sd_alg k) && (is_none (at (Name k) m) || not (is_among k plain_only)))
    (keeps_plain_only m ms)
    (and_from (not (bytes_eq sd_alg k)) (is_none (at (Name k) m) || not (is_among k plain_only))
    (ap not (bytes_eq-flip sd_alg k ∙ none.0))
    (either_kept (at (Name k) m) (is_among k plain_only) (λ r. h k r [])))
    (keeps m ms h none.1)

-- ---- a member that is put in

free_from : (k : Utf8) (d : Data) (ms : Fields) → is_reserved_name k ≡ false → is_free d ≡ true
    → has_free ms ≡ true → has_free (field k d ms) ≡ true
free_from k d ms a b c = and_from (not (is_reserved_name k)) (is_free d && has_free ms) (ap not a)
    (and_from (is_free d) (has_free ms) b c)

not_true : (b : Bool) → not b ≡ true → b ≡ false
not_true true e = cc
not_true false e = refl

put_free_at : (o : Ordering) (k l : Utf8) (d e : Data) (ms : Fields) → is_reserved_name k ≡ false
    → is_free d ≡ true → is_reserved_name l ≡ false → is_free e ≡ true → has_free ms ≡ true
    → has_free (put k d ms) ≡ true
    → has_free (match_ordering o (field k d (field l e ms)) (field l d ms) (field l e (put k d ms))) ≡ true
put_free_at Less k l d e ms a b c f rest next = free_from k d (field l e ms) a b (free_from l e ms c f rest)
put_free_at Equal k l d e ms a b c f rest next = free_from l d ms c b rest
put_free_at Greater k l d e ms a b c f rest next = free_from l e (put k d ms) c f next

put_free : (k : Utf8) (d : Data) (ms : Fields) → is_reserved_name k ≡ false → is_free d ≡ true
    → has_free ms ≡ true → has_free (put k d ms) ≡ true
put_free k d no_fields a b h = free_from k d no_fields a b refl
put_free k d (field l e ms) a b h =
    let p = and_parts (not (is_reserved_name l)) (is_free e && has_free ms) h in
    let q = and_parts (is_free e) (has_free ms) p.1 in
    put_free_at (slice_cmp nat_cmp k l) k l d e ms a b (not_true (is_reserved_name l) p.0) q.0 q.1
    (put_free k d ms a b q.1)

put_none_at : (o : Ordering) (q k l : Utf8) (d e : Data) (ms : Fields) → bytes_eq k q ≡ false
    → bytes_eq l q ≡ false → HasNo q ms → HasNo q (put k d ms)
    → HasNo q (match_ordering o (field k d (field l e ms)) (field l d ms) (field l e (put k d ms)))
put_none_at Less q k l d e ms a b rest next = (a, (b, rest))
put_none_at Equal q k l d e ms a b rest next = (b, rest)
put_none_at Greater q k l d e ms a b rest next = (b, next)

put_none : (q k : Utf8) (d : Data) (ms : Fields) → bytes_eq k q ≡ false → HasNo q ms → HasNo q (put k d ms)
put_none q k d no_fields a h = (a, tt)
put_none q k d (field l e ms) a h =
    put_none_at (slice_cmp nat_cmp k l) q k l d e ms a h.0 h.1 (put_none q k d ms a h.1)

claims_put_at : (o : Ordering) (k l : Utf8) (d e : Data) (ms : Fields) → is_claim (plain d) ≡ true
    → is_claim (plain e) ≡ true → hold_claims (plain_fields ms) ≡ true
    → hold_claims (plain_fields (put k d ms)) ≡ true
    → hold_claims (plain_fields (match_ordering o (field k d (field l e ms)) (field l d ms)
    (field l e (put k d ms)))) ≡ true
claims_put_at Less k l d e ms a b rest next =
    and_from (is_claim (plain d)) (is_claim (plain e) && hold_claims (plain_fields ms)) a
    (and_from (is_claim (plain e)) (hold_claims (plain_fields ms)) b rest)
claims_put_at Equal k l d e ms a b rest next =
    and_from (is_claim (plain d)) (hold_claims (plain_fields ms)) a rest
claims_put_at Greater k l d e ms a b rest next =
    and_from (is_claim (plain e)) (hold_claims (plain_fields (put k d ms))) b next

claims_put : (k : Utf8) (d : Data) (ms : Fields) → is_claim (plain d) ≡ true
    → hold_claims (plain_fields ms) ≡ true → hold_claims (plain_fields (put k d ms)) ≡ true
claims_put k d no_fields a h = and_from (is_claim (plain d)) true a refl
claims_put k d (field l e ms) a h =
    let both = and_parts (is_claim (plain e)) (hold_claims (plain_fields ms)) h in
    claims_put_at (slice_cmp nat_cmp k l) k l d e ms a both.0 both.1 (claims_put k d ms a both.1)

-- ---- what holds of the members that are written

pub record Fine (ms : Fields) : Type 0 where
  pub free : has_free ms ≡ true
  pub ascending : ascend (field_names ms) ≡ true
  pub claims : hold_claims (plain_fields ms) ≡ true
  pub whole : members_have_float ms ≡ false
  pub shallow : members_depth ms ≤ 63
  pub no_hash : HasNo sd_alg ms

-- a name of a fact
record IsFactName (k : Utf8) : Type 0 where
  pub unmarked : is_reserved_name k ≡ false
  pub no_hash : bytes_eq k sd_alg ≡ false

record IsFact (d : Data) : Type 0 where
  pub free : is_free d ≡ true
  pub claim : is_claim (plain d) ≡ true
  pub whole : has_float d ≡ false
  pub shallow : depth d ≤ 63

fine_put : (k : Utf8) (d : Data) (ms : Fields) → IsFactName k → IsFact d → Fine ms → Fine (put k d ms)
fine_put k d ms n f h = record {
  free = put_free k d ms n.unmarked f.free h.free;
  ascending = put_ascend k d ms h.ascending;
  claims = claims_put k d ms f.claim h.claims;
  whole = put_whole k d ms f.whole h.whole;
  shallow = put_depth 63 k d ms f.shallow h.shallow;
  no_hash = put_none sd_alg k d ms n.no_hash h.no_hash;
}

abbrev IsFactIf : Option Data → Type 0
IsFactIf None = ⊤
IsFactIf (Some d) = IsFact d

fine_some : (k : Utf8) (o : Option Data) (ms : Fields) → IsFactName k → IsFactIf o → Fine ms
    → Fine (put_some k o ms)
fine_some k None ms n f h = h
fine_some k (Some d) ms n f h = fine_put k d ms n f h

moment_fact : (o : Option ℕ) → IsFactIf (option_map moment o)
moment_fact None = tt
moment_fact (Some n) = record { free = refl; claim = refl; whole = refl; shallow = omega arith }

not_false : (b : Bool) → not b ≡ true → b ≡ false
not_false true e = cc
not_false false e = refl

key_whole : (jwk : Data) → is_key jwk ≡ true → has_float jwk ≡ false
key_whole jwk h = not_false (has_float jwk) (and_parts _ (not (has_float jwk)) h).1

holder_fact : (o : Option Data) → IsHolderKey o → IsFactIf (option_map confirmation o)
holder_fact None h = tt
holder_fact (Some jwk) h = record {
  free = free_from (codes "jwk") jwk no_fields refl h.2 refl;
  claim = and_from (is_claim (plain jwk)) true h.1 refl;
  whole = or_from (has_float jwk) false (key_whole jwk h.0) refl;
  shallow = let deep : depth jwk ≤ 62 = h.3 in omega arith;
}

text_fact : (t : Utf8) → IsFact (string t)
text_fact t = record { free = refl; claim = refl; whole = refl; shallow = omega arith }

pub none_in_claims : (k : Utf8) (ms : Fields) → is_among k plain_only ≡ true
    → list_any (λ j. is_among j plain_only) (field_names ms) ≡ false → HasNo k ms
none_in_claims k no_fields r h = tt
none_in_claims k (field j d ms) r h =
    let both =
    or_parts (is_among j plain_only) (list_any (λ i. is_among i plain_only) (field_names ms)) h in (
      elim (cases_Bool (bytes_eq j k)) [
        | inl here ↦ let clash : true ≡ false = sym r
            ∙ ap (λ z. is_among z plain_only) (sym (same_from j k here)) ∙ both.0 in absurd (cc clash)
        | inr past ↦ past
      ],
      none_in_claims k ms r both.1,
    )

claims_fine : (s : Spec) → IsSdJwtSpec s → Fine s.claims
claims_fine s may =
    let both = and_parts (ascend (field_names s.claims)) (hold_claims (plain_fields s.claims)) may.is_read in
    record {
      free = may.free;
      ascending = both.0;
      claims = both.1;
      whole = may.whole;
      shallow =
          omega (arith, may.shallow);
      no_hash = none_in_claims sd_alg s.claims refl may.none_plain_only;
    }

pub all_fine : (s : Spec) → IsSdJwtSpec s → Fine (all_members s)
all_fine s may =
    fine_put (codes "iss") (string s.issuer) (with_kind s) (record { unmarked = refl; no_hash = refl })
    (text_fact s.issuer)
    (fine_put (codes "vct") (string s.kind) (with_from s) (record { unmarked = refl; no_hash = refl })
    (text_fact s.kind)
    (fine_some (codes "nbf") (option_map moment s.from) (with_until s)
    (record { unmarked = refl; no_hash = refl }) (moment_fact s.from)
    (fine_some (codes "exp") (option_map moment s.until) (with_holder s)
    (record { unmarked = refl; no_hash = refl }) (moment_fact s.until)
    (fine_some (codes "cnf") (option_map confirmation s.holder) s.claims
    (record { unmarked = refl; no_hash = refl }) (holder_fact s.holder may.holder_key)
    (claims_fine s may)))))

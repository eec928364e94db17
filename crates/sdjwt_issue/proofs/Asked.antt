-- What is issued reads as what was asked.
use Rattle.std.proofs.Common.{◌≡◌, ◌≤◌, ℕ, true, false, not, ◌&&◌, [], codes, Option, Some}
use Rattle.std.proofs.Common.{None, option_map, option_and_then, refl, sym, ap, ◌∙◌, arith}
use Rattle.std.specs.Prelude.{unwrap_or}
use Rattle.std.specs.Str.{bytes_eq}
use Rattle.std.proofs.lemmas.Bool.{and_from}
use Rattle.serde_json.specs.Data.{Data, string, object, Members as Fields, put, members_depth}
use Rattle.serde_json.specs.Find.{get, get_member, as_str}
use Rattle.serde_json.proofs.Views.{get_member-put, get_member-put_other}
use Rattle.json_forms.specs.Look.{is_wrong}
use Rattle.base_forms.specs.Rules.{rule}
use Rattle.base_forms.specs.Texts.{Utf8, is_among}
use Rattle.jws_envelope.specs.KeyNames.{kid_name, jwk_name}
use Rattle.claim_tree.specs.Tree.{ascend, hold_claims}
use Rattle.claim_tree.specs.Plain.{plain_members as plain_fields}
use Rattle.claim_tree.specs.declared.algorithm.SignAlg.{SignAlg}
use Rattle.claim_tree.specs.declared.algorithm.SignAlg.TheVariants.{Es256, EdDsa, Bench256}
use Rattle.claim_tree.specs.SignAlg.{jose_name}
use Rattle.claim_tree.specs.Credential.{jose}
use Rattle.sdjwt_digests.specs.DigestSites.{sd}
use Rattle.sdjwt_disclosures.specs.MemberNames.{plain_only}
use Rattle.sdjwt_view.specs.Facts.{is_moment, is_holder, is_key, facts_rule, moment_of}
use Rattle.sdjwt_view.specs.Reading.{Content, content_in, credential_in}
use Rattle.sdjwt_view.proofs.Law.{reads_computed}
use Rattle.sdjwt_hiding.specs.Addresses.{number_in}
use Rattle.sdjwt_hiding.specs.Hiding.{StaysPlain}
use Rattle.sdjwt_hiding.specs.Disclosing.{by_sha256}
use Rattle.sdjwt_hiding.proofs.Plainly.{same_member}
use Rattle.sdjwt_hiding.proofs.Written.{field_names, absent}
use Rattle.sdjwt_issue.specs.Spec.{Spec, put_some, moment, confirmation, with_holder, with_until, with_from}
use Rattle.sdjwt_issue.specs.Spec.{with_kind, all_members, IsHolderKey, IsSdJwtSpec}
use Rattle.sdjwt_issue.specs.Issued.{payload_of, content_by, MayIssue}
use Rattle.sdjwt_issue.specs.Asked.{marks, has_own_digests, text_for}
use Rattle.sdjwt_issue.specs.Asked.{IssuedIsAsked}
use Rattle.sdjwt_issue.proofs.Issued.{issued_reads}
use Rattle.sdjwt_issue.proofs.Members.{other, stays, keeps, none_in_claims, all_fine}

-- ---- the facts are those that were asked

some_here : (k : Utf8) (o : Option Data) (ms : Fields) → get_member k ms ≡ None
    → get_member k (put_some k o ms) ≡ o
some_here k None ms h = h
some_here k (Some d) ms h = get_member-put k d ms

some_other : (q k : Utf8) (o : Option Data) (ms : Fields) → bytes_eq q k ≡ false
    → get_member q (put_some k o ms) ≡ get_member q ms
some_other q k None ms e = refl
some_other q k (Some d) ms e = get_member-put_other q k d ms (other q k e)

put_other : (q k : Utf8) (d : Data) (ms : Fields) → bytes_eq q k ≡ false
    → get_member q (put k d ms) ≡ get_member q ms
put_other q k d ms e = get_member-put_other q k d ms (other q k e)

module _ (s : Spec) (may : IsSdJwtSpec s) where
  missing : (k : Utf8) → is_among k plain_only ≡ true → get_member k s.claims ≡ None
  missing k r = absent k s.claims (none_in_claims k s.claims r may.none_plain_only)

  get_issuer : get (codes "iss") (object (all_members s)) ≡ Some (string s.issuer)
  get_issuer = get_member-put (codes "iss") (string s.issuer) (with_kind s)

  get_kind : get (codes "vct") (object (all_members s)) ≡ Some (string s.kind)
  get_kind = put_other (codes "vct") (codes "iss") (string s.issuer) (with_kind s) refl
      ∙ get_member-put (codes "vct") (string s.kind) (with_from s)

  get_first : get (codes "nbf") (object (all_members s)) ≡ option_map moment s.from
  get_first =
      put_other (codes "nbf") (codes "iss") (string s.issuer) (with_kind s) refl
      ∙ put_other (codes "nbf") (codes "vct") (string s.kind) (with_from s) refl
      ∙ some_here (codes "nbf") (option_map moment s.from) (with_until s)
      (some_other (codes "nbf") (codes "exp") (option_map moment s.until) (with_holder s) refl
      ∙ some_other (codes "nbf") (codes "cnf") (option_map confirmation s.holder) s.claims refl
      ∙ missing (codes "nbf") refl)

  get_past : get (codes "exp") (object (all_members s)) ≡ option_map moment s.until
  get_past =
      put_other (codes "exp") (codes "iss") (string s.issuer) (with_kind s) refl
      ∙ put_other (codes "exp") (codes "vct") (string s.kind) (with_from s) refl
      ∙ some_other (codes "exp") (codes "nbf") (option_map moment s.from) (with_until s) refl
      ∙ some_here (codes "exp") (option_map moment s.until) (with_holder s)
      (some_other (codes "exp") (codes "cnf") (option_map confirmation s.holder) s.claims refl
      ∙ missing (codes "exp") refl)

  get_holder : get (codes "cnf") (object (all_members s)) ≡ option_map confirmation s.holder
  get_holder =
      put_other (codes "cnf") (codes "iss") (string s.issuer) (with_kind s) refl
      ∙ put_other (codes "cnf") (codes "vct") (string s.kind) (with_from s) refl
      ∙ some_other (codes "cnf") (codes "nbf") (option_map moment s.from) (with_until s) refl
      ∙ some_other (codes "cnf") (codes "exp") (option_map moment s.until) (with_holder s) refl
      ∙ some_here (codes "cnf") (option_map confirmation s.holder) s.claims (missing (codes "cnf") refl)

  plain_at : (k : Utf8) → is_among k plain_only ≡ true → StaysPlain (number_in s.hide) k
  plain_at k r = stays s.hide k r may.none_hides

  -- a member of the payload that is not hidden is that of the members that are written
  written_at : (k : Utf8) → bytes_eq k sd ≡ false → is_among k plain_only ≡ true
      → get k (payload_of (number_in s.hide) (all_members s)) ≡ get k (object (all_members s))
  written_at k e r = same_member by_sha256 (number_in s.hide) k (all_members s) e (plain_at k r)

moment_right : (o : Option ℕ) → is_wrong is_moment (option_map moment o) ≡ false
moment_right None = refl
moment_right (Some n) = refl

holder_right : (o : Option Data) → IsHolderKey o → is_wrong is_holder (option_map confirmation o) ≡ false
holder_right None h = refl
holder_right (Some jwk) h = let key : is_key jwk ≡ true = h.0 in ap (λ b. not (true && not (not b))) key

facts_right : (s : Spec) → IsSdJwtSpec s → facts_rule (object (all_members s)) ≡ None
unfolding facts_rule rule
facts_right s may =
    rw (
      get_kind s may,
      get_first s may,
      get_past s may,
      get_holder s may,
      moment_right s.from,
      moment_right
          s.until,
      holder_right s.holder may.holder_key,
    ) refl

moment_read : (o : Option ℕ) → option_and_then moment_of (option_map moment o) ≡ o
moment_read None = refl
moment_read (Some n) = refl

holder_read : (o : Option Data)
    → option_map jwk_name (option_and_then (get (codes "jwk")) (option_map confirmation o)) ≡ option_map
    jwk_name o
holder_read None = refl
holder_read (Some jwk) = refl

may_issue : (s : Spec) → IsSdJwtSpec s → has_own_digests s ≡ true → MayIssue (marks s) (all_members s)
may_issue s may differing =
    let fine = all_fine s may in
    let level : members_depth (all_members s) ≤ 63 = fine.shallow in
    record {
      may_hide = record {
        is_read = and_from (ascend (field_names (all_members s))) (hold_claims (plain_fields (all_members s)))
            fine.ascending fine.claims;
        shallow = omega arith;
        free = fine.free;
        keeps = keeps (number_in s.hide) (all_members s) (λ k r. plain_at s may k r) fine.no_hash;
        differing = differing;
      };
      few = may.few;
      facts = facts_right s may;
      plain_kind = plain_at s may (codes "vct") refl;
      plain_first = plain_at s may (codes "nbf") refl;
      plain_past = plain_at s may (codes "exp") refl;
      plain_holder = plain_at s may (codes "cnf") refl;
    }

named_algorithm : (alg : SignAlg) (key : Utf8)
    → unwrap_or (Rattle.json_forms.specs.Look.text_at (codes "alg")
    (Rattle.sdjwt_issue.specs.Issued.header_by alg key)) [] ≡ jose_name alg
named_algorithm Es256 key = refl
named_algorithm EdDsa key = refl
named_algorithm Bench256 key = refl

credential_of : (text : Utf8) (c : Content) → content_in text ≡ Some c
    → credential_in text ≡ Some c.credential
unfolding credential_in
credential_of text c e = ap (option_map (λ d. d.credential)) e

pub issued_is_asked : IssuedIsAsked
issued_is_asked s alg signature may differing back bytes =
    let c = content_by alg s.key (marks s) (all_members s) signature in
    let computed = reads_computed (text_for s alg signature) c
    (issued_reads alg s.key (marks s) (all_members s) (may_issue s may differing) back.message back.disclosed
    signature bytes) in
    record {
      credential = c.credential;
      unbroken = computed.0;
      says = credential_of (text_for s alg signature) c computed.1;
      is_asked = record {
        tree = refl;
        kind = ap (λ o. unwrap_or (option_and_then as_str o) []) (written_at s may (codes "vct") refl refl
            ∙ get_kind s may);
        issuer = ap (λ o. kid_name (unwrap_or (option_and_then as_str o) []) s.key)
            (written_at s may (codes "iss") refl refl ∙ get_issuer s may) ∙ sym may.is_name;
        holder = ap (λ o. option_map jwk_name (option_and_then (get (codes "jwk")) o))
            (written_at s may (codes "cnf") refl refl ∙ get_holder s may) ∙ holder_read s.holder;
        first = ap (λ o. unwrap_or (option_and_then moment_of o) 0) (written_at s may (codes "nbf") refl refl
            ∙ get_first s may) ∙ ap (λ o. unwrap_or o 0) (moment_read s.from);
        past = ap (option_and_then moment_of) (written_at s may (codes "exp") refl refl ∙ get_past s may)
            ∙ moment_read s.until;
        algorithm = ap jose (named_algorithm alg s.key);
        message = refl;
        signature_is = refl;
      };
    }

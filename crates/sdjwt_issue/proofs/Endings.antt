-- A run of issuing ends by what the device holds before it and judges yes after it.
use Rattle.std.proofs.Common.{◌≡◌, Bool, true, false, [], ◌∷◌, Option, Some, None, inl, inr, refl, sym, ap}
use Rattle.std.proofs.Common.{ap₂, ◌∙◌, subst, if◌then◌else◌, IsSomeAnd}
use Rattle.base_forms.specs.Rules.{first}
use Rattle.base_forms.specs.Texts.{Utf8}
use Rattle.claim_tree.specs.declared.algorithm.SignAlg.{SignAlg}
use Rattle.key_device.specs.Calls.{Held}
use Rattle.key_device.specs.Device.{IsYes}
use Rattle.runs.specs.Runs.{Ending, value, refused, fault, out_of_memory, Runs}
use Rattle.runs.specs.Tree.{unless}
use Rattle.runs.specs.World.{World}
use Rattle.sdjwt_issue.specs.Spec.{Spec, IsSdJwtSpec}
use Rattle.sdjwt_issue.specs.Asked.{has_own_digests, input_for}
use Rattle.sdjwt_issue.specs.Issuing.{Refusal, shared_digest, key_rule, issue_rule, sign_tree}
use Rattle.sdjwt_issue.specs.Endings.{EndsAs, EndsAsAsked}
use Rattle.sdjwt_issue.proofs.Asked.{issued_is_asked}

rule_at : (held : Held) (s : Spec) (own : Bool) (key : Option SignAlg) → has_own_digests s ≡ own
    → held s.key_name ≡ key
    → issue_rule held s ≡ first ((if own then None else Some shared_digest) ∷ key_rule key ∷ [])
rule_at held s own key is_own is_key =
    ap₂ (λ (b : Bool) (k : Option SignAlg).
    first ((if b then None else Some shared_digest) ∷ key_rule k ∷ []))
    is_own is_key

-- where no digest is shared
sign_ends : (s : Spec) (key : Option SignAlg) (before after : World) (end : Ending Refusal Utf8)
    → IsSdJwtSpec s → has_own_digests s ≡ true → before.device.held s.key_name ≡ key
    → Runs (sign_tree s key) before after end → EndsAs s before.device.held after.device.judged end
unfolding Runs
sign_ends s None before after (value text) may own key run = absurd run.1
sign_ends s None before after (refused reason) may own key run =
    rule_at before.device.held s true None own key ∙ ap Some (sym run.1)
sign_ends s None before after (fault object) may own key run = absurd run.1
sign_ends s None before after out_of_memory may own key run = tt
sign_ends s (Some alg) before after (value text) may own key (inl (signature, mid, took, rest)) =
    let here : IsYes took.0.judged s.key_name alg (input_for s alg) signature =
    subst (λ (o : Option SignAlg). IsSomeAnd o (λ a. IsYes took.0.judged s.key_name a (input_for s alg)
    signature)) key took.2.signed in (
      rule_at before.device.held s true (Some alg) own key,
      record {
        sealed = record {
          alg = alg;
          signature = signature;
          holds = key;
          text_is = rest.1;
          yes = subst (λ (w : World). IsYes w.device.judged s.key_name alg (input_for s alg) signature)
              (sym (rest.0 ∙ took.1)) here;
        };
        reads = λ bytes back. issued_is_asked s alg signature may own back bytes;
      },
    )
sign_ends s (Some alg) before after (refused reason) may own key (inl (signature, mid, took, rest)) =
    absurd rest.1
sign_ends s (Some alg) before after (fault object) may own key (inl (signature, mid, took, rest)) =
    absurd rest.1
sign_ends s (Some alg) before after out_of_memory may own key (inl run) = tt
sign_ends s (Some alg) before after (value text) may own key (inr (inl faulted)) = absurd faulted.1
sign_ends s (Some alg) before after (refused reason) may own key (inr (inl faulted)) = absurd faulted.1
sign_ends s (Some alg) before after (fault object) may own key (inr (inl faulted)) =
    (rule_at before.device.held s true (Some alg) own key, faulted.1)
sign_ends s (Some alg) before after out_of_memory may own key (inr (inl faulted)) = tt
sign_ends s (Some alg) before after (value text) may own key (inr (inr given_up)) = absurd given_up.1
sign_ends s (Some alg) before after (refused reason) may own key (inr (inr given_up)) = absurd given_up.1
sign_ends s (Some alg) before after (fault object) may own key (inr (inr given_up)) = absurd given_up.1
sign_ends s (Some alg) before after out_of_memory may own key (inr (inr given_up)) = tt

ends_at : (s : Spec) (own : Bool) (before after : World) (end : Ending Refusal Utf8) → IsSdJwtSpec s
    → has_own_digests s ≡ own
    → Runs (unless (if own then None else Some shared_digest) (sign_tree s (before.device.held s.key_name)))
    before after end
    → EndsAs s before.device.held after.device.judged end
unfolding Runs
ends_at s true before after end may own run =
    sign_ends s (before.device.held s.key_name) before after end may own refl run
ends_at s false before after (value text) may own run = absurd run.1
ends_at s false before after (refused reason) may own run =
    rule_at before.device.held s false (before.device.held s.key_name) own refl ∙ ap Some (sym run.1)
ends_at s false before after (fault object) may own run = absurd run.1
ends_at s false before after out_of_memory may own run = tt

pub ends_as_asked : EndsAsAsked
ends_as_asked s before after end may run = ends_at s (has_own_digests s) before after end may refl run

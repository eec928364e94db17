-- A run of issuing ends by what the device holds before it and judges yes after it.
use Rattle.std.proofs.Common.{◌≡◌, ◌<◌, ◌^◌, ℕ, List, length, Option, Some, None, inl, inr, refl, sym, ap}
use Rattle.std.proofs.Common.{◌∙◌}
use Rattle.std.proofs.Common.{subst, IsSomeAnd, is_some}
use Rattle.claim_tree.specs.declared.algorithm.SignAlg.{SignAlg}
use Rattle.key_device.specs.Device.{IsYes}
use Rattle.runs.specs.Runs.{Ending, value, refused, fault, out_of_memory, Runs}
use Rattle.runs.specs.World.{World}
use Rattle.mdoc_view.specs.Laws.{ReadIsComputed}
use Rattle.mdoc_issue.specs.Endings.{EndsAs, EndsAsAsked}
use Rattle.mdoc_issue.specs.Issued.{message_for}
use Rattle.mdoc_issue.specs.Issuing.{Refusal, sign_tree}
use Rattle.mdoc_issue.specs.Spec.{Spec}
use Rattle.mdoc_issue.proofs.Law.{issued_is_asked}

module _ (computed : ReadIsComputed) (s : Spec) where
  sign_ends : (key : Option SignAlg) (before after : World) (end : Ending Refusal (List ℕ))
      → before.device.held s.key_name ≡ key → Runs (sign_tree s key) before after end
      → EndsAs s before.device.held after.device.judged end
  unfolding Runs
  sign_ends None before after (value bytes) key run = absurd run.1
  sign_ends None before after (refused reason) key run = (key, run.1)
  sign_ends None before after (fault object) key run = absurd run.1
  sign_ends None before after out_of_memory key run = tt
  sign_ends (Some alg) before after (value bytes) key (inl (signature, mid, took, rest)) =
      let here : IsYes took.0.judged s.key_name alg (message_for s alg) signature =
      subst (λ (o : Option SignAlg). IsSomeAnd o (λ a. IsYes took.0.judged s.key_name a (message_for s alg)
      signature)) key took.2.signed in
      record {
        alg = alg;
        signature = signature;
        holds = key;
        bytes_are = rest.1;
        yes = subst (λ (w : World). IsYes w.device.judged s.key_name alg (message_for s alg) signature)
            (sym (rest.0 ∙ took.1)) here;
        reads = λ is short. issued_is_asked computed s alg signature is
            (subst (λ (b : List ℕ). length b < 2 ^ 64) rest.1 short);
      }
  sign_ends (Some alg) before after (refused reason) key (inl (signature, mid, took, rest)) = absurd rest.1
  sign_ends (Some alg) before after (fault object) key (inl (signature, mid, took, rest)) = absurd rest.1
  sign_ends (Some alg) before after out_of_memory key (inl run) = tt
  sign_ends (Some alg) before after (value bytes) key (inr (inl faulted)) = absurd faulted.1
  sign_ends (Some alg) before after (refused reason) key (inr (inl faulted)) = absurd faulted.1
  sign_ends (Some alg) before after (fault object) key (inr (inl faulted)) =
      (ap is_some key, faulted.1)
  sign_ends (Some alg) before after out_of_memory key (inr (inl faulted)) = tt
  sign_ends (Some alg) before after (value bytes) key (inr (inr given_up)) = absurd given_up.1
  sign_ends (Some alg) before after (refused reason) key (inr (inr given_up)) = absurd given_up.1
  sign_ends (Some alg) before after (fault object) key (inr (inr given_up)) = absurd given_up.1
  sign_ends (Some alg) before after out_of_memory key (inr (inr given_up)) = tt

pub ends_as_asked : ReadIsComputed → EndsAsAsked
ends_as_asked computed s before after end run =
    sign_ends computed s (before.device.held s.key_name) before after end refl run

-- A run of a request's tree ends by what the text asks, as the device judges.
use Rattle.std.proofs.Common.{◌≡◌, [], ◌∷◌, List, Option, Some, None, Ok, Err, inl, inr, refl, sym, ap, subst}
use Rattle.base_forms.specs.Rules.{first, unless_broken}
use Rattle.jws_envelope.specs.Envelope.{Envelope}
use Rattle.runs.specs.Runs.{Ending, value, refused, fault, out_of_memory, Runs}
use Rattle.runs.specs.Tree.{gives, unless}
use Rattle.runs.specs.World.{World}
use Rattle.request_clients.specs.Clients.{Client}
use Rattle.request_object.specs.Front.{front_rule}
use Rattle.request_object.specs.Laws.{EndsAs, EndsAsAsked}
use Rattle.request_object.specs.Request.{Request, asked_by, is_signed, later_rule, judged_tree, message_of}
use Rattle.request_content.specs.declared.error.RequestRule.{RequestRule}

first_one : (r : Option RequestRule) → first (r ∷ []) ≡ r
first_one None = refl
first_one (Some rule) = refl

-- past the judgement
later_ends : (rule : Option RequestRule) (asked : Request) (before after : World)
    (end : Ending RequestRule Request)
    → Runs (unless rule (gives asked)) before after end → EndsAs None (unless_broken rule asked) end
unfolding Runs
later_ends None asked before after (value v) run = ap Ok (sym run.1)
later_ends None asked before after (refused r) run = absurd run.1
later_ends None asked before after (fault f) run = absurd run.1
later_ends None asked before after out_of_memory run = tt
later_ends (Some rule) asked before after (value v) run = absurd run.1
later_ends (Some rule) asked before after (refused r) run = ap Err (sym run.1)
later_ends (Some rule) asked before after (fault f) run = absurd run.1
later_ends (Some rule) asked before after out_of_memory run = tt

judged_ends : (clients : List Client) (e : Envelope) (before after : World) (end : Ending RequestRule Request)
    → Runs (judged_tree clients e) before after end
    → EndsAs None (unless_broken (later_rule (is_signed before.device.judged clients e) e.payload)
    (asked_by e.payload)) end
unfolding Runs
judged_ends clients e before after end (inl (answer, mid, took, rest)) =
    subst (λ said. EndsAs None (unless_broken (later_rule said e.payload) (asked_by e.payload)) end)
    took.2.verdict
    (later_ends (later_rule answer e.payload) (asked_by e.payload) mid after end rest)
judged_ends clients e before after (value v) (inr (inl faulted)) = absurd faulted.1
judged_ends clients e before after (refused r) (inr (inl faulted)) = absurd faulted.1
judged_ends clients e before after (fault f) (inr (inl faulted)) = (faulted.1, refl)
judged_ends clients e before after out_of_memory (inr (inl faulted)) = absurd faulted.1
judged_ends clients e before after (value v) (inr (inr given_up)) = absurd given_up.1
judged_ends clients e before after (refused r) (inr (inr given_up)) = absurd given_up.1
judged_ends clients e before after (fault f) (inr (inr given_up)) = absurd given_up.1
judged_ends clients e before after out_of_memory (inr (inr given_up)) = tt

front_ends : (front : Option RequestRule) (clients : List Client) (e : Envelope) (before after : World)
    (end : Ending RequestRule Request)
    → Runs (unless front (judged_tree clients e)) before after end
    → EndsAs front (unless_broken
    (first (front ∷ later_rule (is_signed before.device.judged clients e) e.payload ∷ []))
    (asked_by e.payload)) end
unfolding Runs
front_ends None clients e before after end run =
    subst (λ rule. EndsAs None (unless_broken rule (asked_by e.payload)) end)
    (sym (first_one (later_rule (is_signed before.device.judged clients e) e.payload)))
    (judged_ends clients e before after end run)
front_ends (Some rule) clients e before after (value v) run = absurd run.1
front_ends (Some rule) clients e before after (refused r) run = ap Err (sym run.1)
front_ends (Some rule) clients e before after (fault f) run = absurd run.1
front_ends (Some rule) clients e before after out_of_memory run = tt

pub ends_as_asked : EndsAsAsked
ends_as_asked clients text before after end run =
    front_ends (front_rule clients text) clients (message_of text) before after end run

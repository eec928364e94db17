-- What is answered to an event after a history.
--
-- The rule is this product's own; OpenID4VP 1.0, section 8.2, has the response posted and fixes no answer but
-- its success.
use Rattle.std.specs.Prelude.{ℕ, Bool, List, [], ◌∷◌, Option, Some, None, if◌then◌else◌}
use Rattle.verifier_sessions.specs.declared.event.Stand.{Stand}
use Rattle.verifier_sessions.specs.declared.event.Stand.TheVariants.{Unknown, Pending, Yes, Closed, Expired}
use Rattle.verifier_sessions.specs.declared.event.OpenRule.{OpenRule}
use Rattle.verifier_sessions.specs.declared.event.OpenRule.TheVariants as rule
use Rattle.verifier_sessions.specs.declared.event.Reply.{Reply}
use Rattle.verifier_sessions.specs.declared.event.Reply.TheVariants.{
  Opened,
  Full,
  DrawInUse,
  Turned,
  Counted,
  Stands,
}
use Rattle.verifier_sessions.specs.History.{
  Text,
  Event,
  Open,
  Post,
  Look,
  History,
  told,
  counted,
  kept,
  has_id,
  rule_of,
}
use Rattle.verifier_sessions.specs.Stands.{stand}

-- To an opening: opened, or the rule by which it is refused, with the text that is in use.
abbrev pub opening_reply : Option OpenRule → Text → Reply
opening_reply None in_use = Opened
opening_reply (Some rule.Full) in_use = Full
opening_reply (Some rule.DrawInUse) in_use = DrawInUse in_use

-- The text that is in use: the id where a session that is not forgotten has it, and else the nonce.
abbrev pub in_use : History → ℕ → Text → Text → Text
in_use h moment id nonce = if has_id id (kept (counted moment h) (told h)) then id else nonce

-- To a post: on a pending session it turns or counts, on any other it changes nothing.
abbrev pub post_reply : Bool → Stand → Reply
post_reply accepted Unknown = Stands Unknown
post_reply accepted (Pending refusals) = if accepted then Turned else Counted
post_reply accepted (Yes refusals) = Stands (Yes refusals)
post_reply accepted Closed = Stands Closed
post_reply accepted (Expired refusals) = Stands (Expired refusals)

abbrev pub reply_to : History → ℕ → Event → Reply
reply_to h moment (Open id nonce) = opening_reply (rule_of h moment id nonce) (in_use h moment id nonce)
reply_to h moment (Post id accepted) = post_reply accepted (stand h moment id)
reply_to h moment (Look id) = Stands (stand h moment id)

abbrev pub reply_of : History → ℕ × Event → Reply
reply_of h e = reply_to h e.0 e.1

-- A history after more events, which are given in their order, and the replies to these.
abbrev pub after : History → List (ℕ × Event) → History
after h [] = h
after h (e ∷ es) = after (e ∷ h) es

abbrev pub replies : History → List (ℕ × Event) → List Reply
replies h [] = []
replies h (e ∷ es) = reply_of h e ∷ replies (e ∷ h) es

-- How a run of a request's tree ends: by what the text asks (OpenID4VP 1.0, section 5), as the device judges.
use Rattle.std.specs.Prelude.{◌≡◌, List, Option, None, Result, Ok, Err, ⊤}
use Rattle.jws_envelope.specs.Compact.{Text}
use Rattle.runs.specs.Runs.{Ending, value, refused, fault, out_of_memory, Runs}
use Rattle.runs.specs.World.{World}
use Rattle.runs.specs.declared.fault.Fault.TheVariants.{Device}
use Rattle.request_clients.specs.Clients.{Client}
use Rattle.request_object.specs.Front.{front_rule}
use Rattle.request_object.specs.Request.{Request, request_of, request_tree}
use Rattle.request_content.specs.declared.error.RequestRule.{RequestRule}

-- With what is asked, or with the first broken rule. Where the device failed, none of the first rules is
-- broken; memory may run out.
abbrev pub EndsAs : Option RequestRule → Result Request RequestRule → Ending RequestRule Request → Type 0
EndsAs front meant (value request) = meant ≡ Ok request
EndsAs front meant (refused rule) = meant ≡ Err rule
EndsAs front meant (fault object) = (object ≡ Device) × (front ≡ None)
EndsAs front meant out_of_memory = ⊤

abbrev pub EndsAsAsked : Type 0
EndsAsAsked = (clients : List Client) (text : Text) (before after : World) (end : Ending RequestRule Request)
    → Runs (request_tree clients text) before after end
    → EndsAs (front_rule clients text) (request_of before.device.judged clients text) end

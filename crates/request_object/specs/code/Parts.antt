-- The reading of a request from the object on, and from the message on.
use Rattle.std.specs.Prelude.{List, Option}
use Rattle.jws_envelope.specs.Compact.{Text}
use Rattle.jws_envelope.specs.Envelope.{Envelope}
use Rattle.runs.specs.Tree.{Tree, unless}
use Rattle.request_clients.specs.Clients.{Client}
use Rattle.request_object.specs.Front.{envelope, client_rule, object_rule}
use Rattle.request_object.specs.Request.{Request, judged_tree}
use Rattle.request_content.specs.declared.error.RequestRule.{RequestRule}

-- rules 5 to 21, of a message with these parts
abbrev pub message_tree : List Client → Option Text → Envelope → Tree RequestRule Request
message_tree clients outer e = unless (client_rule clients outer e) (judged_tree clients e)

-- rules 4 to 21, of an object
abbrev pub object_tree : List Client → Option Text → Text → Tree RequestRule Request
object_tree clients outer object =
    unless (object_rule clients outer object) (judged_tree clients (envelope object))

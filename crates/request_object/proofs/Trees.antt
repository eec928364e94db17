-- From a message to the object that it is, and from an object to the text that it stands in.
use Rattle.std.proofs.Common.{◌≡◌, ◌∙◌, ℕ, Bool, true, false, List, [], ◌∷◌, Option, None, Some}
use Rattle.std.proofs.Common.{Ok, Err, Result}
use Rattle.std.proofs.Common.{refl, sym, ap, ap₂, subst, IfOk, IfErr, option_map, if◌then◌else◌}
use Rattle.serde_json.specs.Data.{Data}
use Rattle.base_forms.specs.Rules.{first, rule, unless_broken}
use Rattle.jws_envelope.specs.Compact.{Text, dot_parts}
use Rattle.jws_envelope.specs.Envelope.{Envelope, jws_rule, jws_of, envelope_of}
use Rattle.jws_envelope.specs.Refusal.{IsRefusal as IsMessageRefusal}
use Rattle.jws_envelope.specs.declared.error.Error as jws
use Rattle.jws_envelope.specs.declared.error.Error.TheVariants as jws_error
use Rattle.request_clients.specs.Clients.{Client}
use Rattle.request_links.specs.Link.{Link, is_link, parameters_rule, link_of}
use Rattle.request_links.specs.Refusal.{IsRead, IsRefusal as IsLinkRefusal}
use Rattle.request_links.specs.declared.error.Error as link
use Rattle.request_links.specs.declared.error.Error.TheVariants as link_error
use Rattle.runs.specs.Runs.{value, refused, Runs}
use Rattle.runs.specs.Tree.{Tree, gives, unless}
use Rattle.runs.specs.World.{World}
use Rattle.runs.proofs.Trees.{runs_out, runs_past, runs_broken, runs_gives}
use Rattle.request_content.specs.Content.{content_rule}
use Rattle.request_object.specs.Endings.{early, ending}
use Rattle.request_object.specs.Front.{envelope, client_rule, object_rule, front_rule}
use Rattle.request_object.specs.Request.{Request, later_rule, judged_tree, request_tree}
use Rattle.request_content.specs.Rules.{number, within}
use Rattle.request_object.specs.code.Errors.{link_refusal, message_refusal, IsRefusal}
use Rattle.request_object.specs.code.Parts.{message_tree, object_tree}
use Rattle.request_object.specs.declared.error.Error.{Error}
use Rattle.request_object.specs.declared.error.Error.TheVariants.{Refused, DeviceFault, NoMemory}
use Rattle.request_content.specs.declared.error.RequestRule.{RequestRule}
use Rattle.request_content.proofs.Contents.{first_of_one}

-- ---- after the judgement

later_no : (payload : Data) → later_rule false payload ≡ Some (number 9)
unfolding rule
later_no payload = refl

pub later_yes : (payload : Data) → later_rule true payload ≡ content_rule payload
unfolding rule
later_yes payload = first_of_one (content_rule payload)

-- the device said no
pub runs_no : (payload : Data) (request : Request) (broken : RequestRule) (now : World) → broken ≡ number 9
    → Runs (unless (later_rule false payload) (gives request)) now now (refused broken)
runs_no payload request broken now same =
    runs_broken (later_rule false payload) broken (gives request) now (later_no payload ∙ ap Some (sym same))

content_runs : (payload : Data) (wanted : Request) (result : Result Request Error) (now : World)
    → IfOk result (λ request. content_rule payload ≡ None) → IfOk result (λ request. request ≡ wanted)
    → IfErr result (λ error. IsRefusal (content_rule payload) error)
    → Runs (unless (later_rule true payload) (gives wanted)) now now (ending (λ request. request) result)
content_runs payload wanted (Ok request) now whole same refused_so =
    runs_past (later_rule true payload) (gives wanted) now now (value request) (later_yes payload ∙ whole)
    (runs_gives _ wanted request now same)
content_runs payload wanted (Err (Refused broken)) now whole same refused_so =
    runs_broken (later_rule true payload) broken (gives wanted) now (later_yes payload ∙ refused_so)
content_runs payload wanted (Err DeviceFault) now whole same refused_so = absurd refused_so
content_runs payload wanted (Err NoMemory) now whole same refused_so = runs_out _ now

-- the device said yes, and this came of the payload
pub runs_content : (read payload : Data) (wanted : Data → Request) (result : Result Request Error)
    (now : World)
    → read ≡ payload
    → IfOk result (λ request. content_rule read ≡ None) → IfOk result (λ request. request ≡ wanted read)
    → IfErr result (λ error. IsRefusal (content_rule read) error)
    → Runs (unless (later_rule true payload) (gives (wanted payload))) now now
    (ending (λ request. request) result)
runs_content read payload wanted result now is whole same refused_so =
    subst (λ (d : Data). Runs (unless (later_rule true d) (gives (wanted d))) now now
    (ending (λ request. request) result)) is
    (content_runs read (wanted read) result now whole same refused_so)

-- ---- the message of an object

pub whole_parts : (r : Option ℕ) (x y : Envelope) → unless_broken r x ≡ Ok y → (r ≡ None) × (x ≡ y)
whole_parts None x y is = (refl, cc is)
whole_parts (Some n) x y is = absurd (cc is)

pub same_front : (clients : List Client) (outer : Option Text) (object : Text) (e : Envelope)
    → jws_of object ≡ Ok e → object_rule clients outer object ≡ client_rule clients outer e
same_front clients outer object e is =
    let p = whole_parts (jws_rule object) (envelope_of (dot_parts object)) e is in
    ap₂ (λ (j : Option ℕ) (m : Envelope). first (within 4 j ∷ client_rule clients outer m ∷ [])) p.0 p.1
    ∙ first_of_one (client_rule clients outer e)

-- the tree of an object is that of its message
pub same_message : (clients : List Client) (outer : Option Text) (object : Text) (e : Envelope)
    → jws_of object ≡ Ok e → object_tree clients outer object ≡ message_tree clients outer e
same_message clients outer object e is =
    ap₂ (λ (r : Option RequestRule) (m : Envelope). unless r (judged_tree clients m))
    (same_front clients outer object e is)
    (whole_parts (jws_rule object) (envelope_of (dot_parts object)) e is).1

refused_front : (clients : List Client) (outer : Option Text) (object : Text) (n : ℕ)
    → jws_rule object ≡ Some n
    → object_rule clients outer object ≡ Some (record { number = 4; inner = n })
refused_front clients outer object n is = ap (λ (j : Option ℕ).
    first (within 4 j ∷ client_rule clients outer (envelope object) ∷ [])) is

-- it is no signed message
pub runs_no_message : (clients : List Client) (outer : Option Text) (object : Text) (error : jws.Error)
    (now : World)
    → IsMessageRefusal (jws_rule object) error
    → Runs (object_tree clients outer object) now now (early (message_refusal error))
runs_no_message clients outer object (jws_error.Refused n) now is =
    runs_broken _ _ _ now (refused_front clients outer object n is)
runs_no_message clients outer object jws_error.NoMemory now is = runs_out _ now

-- ---- the object of a text

front_by : List Client → Bool → Option ℕ → Link → Text → Option RequestRule
front_by clients is broken l text =
    first (option_map (λ n. number n) (if is then broken else None)
    ∷ object_rule clients (if is then Some l.client else None) (if is then l.object else text)
    ∷ [])

tree_by : List Client → Bool → Option ℕ → Link → Text → Tree RequestRule Request
tree_by clients is broken l text =
    unless (front_by clients is broken l text)
    (judged_tree clients (envelope (if is then l.object else text)))

tree_is : (clients : List Client) (text : Text)
    → request_tree clients text ≡ tree_by clients (is_link text) (parameters_rule text) (link_of text) text
unfolding tree_by front_by
tree_is clients text = refl

object_by : (clients : List Client) (is : Bool) (l : Link) (text : Text)
    → tree_by clients is None l text
    ≡ object_tree clients (if is then Some l.client else None) (if is then l.object else text)
unfolding tree_by front_by
object_by clients true l text = ap (λ (r : Option RequestRule).
    unless r (judged_tree clients (envelope l.object)))
    (first_of_one (object_rule clients (Some l.client) l.object))
object_by clients false l text = ap (λ (r : Option RequestRule).
    unless r (judged_tree clients (envelope text))) (first_of_one (object_rule clients None text))

some_of : {l m : Link} → Some m ≡ Some l → m ≡ l
some_of is = cc is

linked : (clients : List Client) (text : Text) (l : Link) (client object : Text)
    → is_link text ≡ true → parameters_rule text ≡ None → l ≡ link_of text → client ≡ l.client
    → object ≡ l.object
    → request_tree clients text ≡ object_tree clients (Some client) object
linked clients text l client object is whole same same_client same_object =
    tree_is clients text
    ∙ ap (λ (b : Bool). tree_by clients b (parameters_rule text) (link_of text) text) is
    ∙ ap₂ (λ (r : Option ℕ) (m : Link). tree_by clients true r m text) whole (sym same)
    ∙ object_by clients true l text
    ∙ sym (ap₂ (λ (c : Text) (o : Text). object_tree clients (Some c) o) same_client same_object)

-- the text is a link that breaks no rule
pub same_linked : (clients : List Client) (text : Text) (found : Option Link) (l : Link)
    (client object : Text)
    → found ≡ Some l → IsRead text found → client ≡ l.client → object ≡ l.object
    → request_tree clients text ≡ object_tree clients (Some client) object
same_linked clients text None l client object is read same_client same_object = absurd (cc is)
same_linked clients text (Some m) l client object is read same_client same_object =
    let same = some_of is in
    linked clients text m client object read.0 read.1 read.2
    (same_client ∙ ap (λ (k : Link). k.client) (sym same))
    (same_object ∙ ap (λ (k : Link). k.object) (sym same))

unlinked : (clients : List Client) (broken : Option ℕ) (l : Link) (text : Text)
    → tree_by clients false broken l text ≡ tree_by clients false None l text
unfolding tree_by front_by
unlinked clients broken l text = refl

-- the text is no link
pub same_plain : (clients : List Client) (text : Text) (found : Option Link)
    → found ≡ None → IsRead text found
    → request_tree clients text ≡ object_tree clients None text
same_plain clients text (Some l) none is = absurd (cc none)
same_plain clients text None none is =
    tree_is clients text
    ∙ ap (λ (b : Bool). tree_by clients b (parameters_rule text) (link_of text) text) is
    ∙ unlinked clients (parameters_rule text) (link_of text) text
    ∙ object_by clients false (link_of text) text

broken_link : (clients : List Client) (text : Text) (n : ℕ)
    → is_link text ≡ true → parameters_rule text ≡ Some n
    → front_rule clients text ≡ Some (number n)
unfolding front_by
broken_link clients text n is some =
    ap (λ (b : Bool). front_by clients b (parameters_rule text) (link_of text) text) is
    ∙ ap (λ (r : Option ℕ). front_by clients true r (link_of text) text) some

-- the text is a link that breaks a rule
pub runs_no_link : (clients : List Client) (text : Text) (error : link.Error) (now : World)
    → IsLinkRefusal text error
    → Runs (request_tree clients text) now now (early (link_refusal error))
runs_no_link clients text (link_error.Refused n) now is =
    runs_broken _ _ _ now (broken_link clients text n is.0 is.1)
runs_no_link clients text link_error.NoMemory now is = runs_out _ now

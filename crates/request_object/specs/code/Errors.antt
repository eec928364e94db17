-- Which error comes for the refusal of a link, a signed message or its parameters, and where nothing was
-- signed.
use Rattle.std.specs.Prelude.{◌≡◌, Option, Some, ⊤}
use Rattle.jws_envelope.specs.declared.error.Error as jws
use Rattle.jws_envelope.specs.declared.error.Error.TheVariants as jws_error
use Rattle.key_device.specs.declared.device.SignError.{SignError}
use Rattle.key_device.specs.declared.device.SignError.TheVariants as sign_error
use Rattle.request_links.specs.declared.error.Error as link
use Rattle.request_links.specs.declared.error.Error.TheVariants as link_error
use Rattle.request_content.specs.Rules.{number}
use Rattle.request_content.specs.declared.error.Error as content
use Rattle.request_content.specs.declared.error.Error.TheVariants as content_error
use Rattle.request_object.specs.declared.error.Error.{Error}
use Rattle.request_object.specs.declared.error.Error.TheVariants.{Refused, DeviceFault, NoMemory}
use Rattle.request_content.specs.declared.error.RequestRule.{RequestRule}

abbrev pub link_refusal : link.Error → Error
link_refusal (link_error.Refused n) = Refused (number n)
link_refusal link_error.NoMemory = NoMemory

abbrev pub message_refusal : jws.Error → Error
message_refusal (jws_error.Refused n) = Refused (record { number = 4; inner = n })
message_refusal jws_error.NoMemory = NoMemory

abbrev pub content_refusal : content.Error → Error
content_refusal (content_error.Refused rule) = Refused rule
content_refusal content_error.NoMemory = NoMemory

abbrev pub sign_refusal : SignError → Error
sign_refusal sign_error.Failed = DeviceFault
sign_refusal sign_error.NoMemory = NoMemory

-- the error names the broken rule, or is out of memory
abbrev pub IsRefusal : Option RequestRule → Error → Type 0
IsRefusal broken (Refused rule) = broken ≡ Some rule
IsRefusal broken DeviceFault = ⊥
IsRefusal broken NoMemory = ⊤

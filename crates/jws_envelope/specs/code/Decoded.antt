-- The bytes of the parts of a message, which are base64url of them (RFC 7515, section 7.1).
use Rattle.std.specs.Prelude.{◌≡◌, ◌&&◌, Bool, Some, is_some}
use Rattle.base_forms.specs.Url64.{url64_bytes}
use Rattle.jws_envelope.specs.Compact.{Text}
use Rattle.jws_envelope.specs.declared.parts.Decoded.{Decoded}

abbrev pub are_url64 : Text → Text → Text → Bool
are_url64 header payload signature =
    is_some (url64_bytes header) && (is_some (url64_bytes payload) && is_some (url64_bytes signature))

pub record AreDecoded (header payload signature : Text) (d : Decoded) : Type 0 where
  pub header_bytes : url64_bytes header ≡ Some d.header.items
  pub payload_bytes : url64_bytes payload ≡ Some d.payload.items
  pub signature_bytes : url64_bytes signature ≡ Some d.signature.items

-- Signed messages as they are written: a header and a payload in compact JSON, what is signed, and the
-- message with its signature (RFC 7515, sections 3.1, 5.1 and 7.1).
use Rattle.std.specs.Prelude.{◌≡◌, ℕ, List, ◌∷◌, ◌++◌, codes, Option, Some, None, Ok, string_bytes}
use Rattle.base64.specs.GeneralPurpose.{IsBytes}
use Rattle.serde_json.specs.Data.{Data, string, object, Members, no_members, member}
use Rattle.serde_json.specs.Written.{compact_text}
use Rattle.base_forms.specs.Url64.{url64_of}
use Rattle.claim_tree.specs.SignAlg.{jose_name}
use Rattle.claim_tree.specs.declared.algorithm.SignAlg.{SignAlg}
use Rattle.jws_envelope.specs.Compact.{Text}
use Rattle.jws_envelope.specs.Envelope.{Envelope, jws_of}
use Rattle.jws_envelope.specs.declared.draft.Draft.{Draft}

abbrev pub with_key : Option Text → Members → Members
with_key None ms = ms
with_key (Some kid) ms = member (codes "kid") (string kid) ms

-- the header: `alg`, `kid` where a key is named, and `typ`, in the byte order of their names
abbrev pub header_of : SignAlg → Text → Option Text → Data
header_of alg typ kid =
    object (member (codes "alg") (string (jose_name alg))
    (with_key kid (member (codes "typ") (string typ) no_members)))

-- what is signed
abbrev pub input_of : Data → Data → Text
input_of header payload = url64_of (compact_text header) ++ 46 ∷ url64_of (compact_text payload)

-- the message, once it is signed
abbrev pub message_of : Text → List ℕ → Text
message_of input signature = input ++ 46 ∷ url64_of signature

-- what was meant
abbrev pub meant : Data → Data → Text → List ℕ → Envelope
meant header payload input signature = record {
  header = header;
  payload = payload;
  signing_input = input;
  signature = signature;
}

-- With any signature the message breaks no rule, and says what was meant.
abbrev pub IsReadAs : Data → Data → Text → Type 0
IsReadAs header payload input =
    (signature : List ℕ) → IsBytes signature
    → jws_of (message_of input signature) ≡ Ok (meant header payload input signature)

-- what a draft in memory has to be signed
abbrev pub drafted : Draft → Text
drafted d = string_bytes d.signing_input

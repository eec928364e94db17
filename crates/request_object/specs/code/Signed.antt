-- A message that was signed, and is read as what was drafted.
use Rattle.std.specs.Prelude.{◌≡◌, ℕ, List, Ok}
use Rattle.serde_json.specs.Data.{Data}
use Rattle.jws_envelope.specs.Compact.{Text}
use Rattle.jws_envelope.specs.Draft.{meant, IsReadAs}
use Rattle.jws_envelope.specs.Envelope.{jws_of}
use Rattle.key_device.specs.Calls.{Held, Judges}
use Rattle.key_device.specs.Device.{IsGenuine}

-- It has a genuine signature, and says what was meant.
pub record SaysSigned (held : Held) (judged : Judges) (name : Text) (header payload : Data)
    (input text : Text) : Type 0 where
  pub signature : List ℕ
  pub says : jws_of text ≡ Ok (meant header payload input signature)
  pub genuine : IsGenuine held judged name input signature

-- It does so where a message with this input is read as that header and payload.
abbrev pub IsSignedText : Held → Judges → Text → Text → Text → Type 0
IsSignedText held judged name input text = (header payload : Data) → IsReadAs header payload input
    → SaysSigned held judged name header payload input text

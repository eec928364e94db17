use Rattle.std.proofs.Common.{option_map}
use Rattle.std.proofs.lemmas.Str.{IsUtf8-string_bytes}
use Rattle.serde_json.specs.View.{view}
use Rattle.sdjwt_hiding.proofs.Utf8Bytes.{utf8_bytes}
use Rattle.sdjwt_hiding.proofs.ReadBack.{disclosed_back}
use Rattle.sdjwt_hiding.proofs.disclosure_text.disclosure_text.Goals as goal

pub returns-clause-read : goal.returns-clause-read
returns-clause-read c =
    disclosed_back c.args.number (option_map (λ s. s.now) c.args.name) (view c.args.value)
    (view c.in_ok-salted_value.field-0) _ c.in_ok-salted_value.ensures c.in_ok-json.ensures.text
    (IsUtf8-string_bytes c.in_ok-json.json) (utf8_bytes _ (IsUtf8-string_bytes c.in_ok-json.json))
    c.in_ok-json.ensures.reads_back c.requires

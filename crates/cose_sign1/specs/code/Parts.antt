-- What the parts of a message in memory stand for.
use Rattle.std.specs.Prelude.{[], Option, Some, None, option_map}
use Rattle.cbor_core.specs.declared.item.Item.{Item}
use Rattle.cbor_core.specs.Seen.{span_of}
use Rattle.cbor_core.specs.Views.{entries_of}
use Rattle.cose_sign1.specs.Sign1.{Message, Headers}
use Rattle.cose_sign1.specs.declared.parts.Parts.{Parts}

abbrev pub said : Parts → Message
said p = record {
  protected = p.protected.now;
  unprotected = entries_of (span_of p.unprotected);
  payload = option_map (λ b. b.now) p.payload;
  signature = p.signature.now;
}

-- the headers of a map, and none where there is no map
abbrev pub headers_of : Option Item → Headers
headers_of None = []
headers_of (Some i) = entries_of (span_of i)

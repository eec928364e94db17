-- What a site asks, from what is passed in memory.
use Rattle.serde_json.specs.Data.{Data}
use Rattle.jws_envelope.specs.Compact.{Text}
use Rattle.request_object.specs.Made.{Asking}
use Rattle.request_object.specs.declared.request.Asked.{Asked}

abbrev pub asking : Asked → Data → Text → Asking
asking asked query state = record {
  client = asked.client.now;
  query = query;
  nonce = asked.nonce.now;
  uri = asked.uri.now;
  state = state;
}

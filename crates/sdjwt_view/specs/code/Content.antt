-- What the content of a credential in memory says.
use Rattle.std.specs.Prelude.{string_bytes}
use Rattle.jws_envelope.specs.Jws.{envelope}
use Rattle.jws_envelope.specs.Seal.{jws_seal}
use Rattle.owned_tree.specs.Owned.{tree_of}
use Rattle.claim_tree.specs.declared.facts.Format.TheVariants.{SdJwt}
use Rattle.sdjwt_view.specs.Reading.{Content}
use Rattle.sdjwt_view.specs.declared.content.Content as memory

abbrev pub content_in_memory : memory.Content → Content
content_in_memory c = record {
  jws = envelope c.jws;
  hash = c.hash;
  credential = record {
    format = SdJwt;
    kind = string_bytes c.kind;
    issuer = c.issuer;
    holder = c.holder;
    first = c.first;
    past = c.past;
    tree = tree_of c.root;
    seal = jws_seal (envelope c.jws);
  };
}

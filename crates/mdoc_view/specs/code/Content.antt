-- What the content of a document in memory stands for.
use Rattle.std.specs.Prelude.{[], unwrap_or}
use Rattle.owned_tree.specs.Owned.{tree_of}
use Rattle.claim_tree.specs.declared.facts.Format.TheVariants.{Mdoc}
use Rattle.cose_sign1.specs.Seal.{cose_seal}
use Rattle.cose_sign1.specs.code.Message.{message}
use Rattle.mdoc_view.specs.Reading.{Content as SaidContent}
use Rattle.mdoc_view.specs.declared.content.Content.{Content}

abbrev pub content_in_memory : Content → SaidContent
content_in_memory c = record {
  auth = message c.auth;
  credential = record {
    format = Mdoc;
    kind = c.kind.now;
    issuer = c.issuer;
    holder = c.holder;
    first = c.first;
    past = c.past;
    tree = tree_of c.root;
    seal = cose_seal (message c.auth) (unwrap_or (message c.auth).payload []);
  };
}

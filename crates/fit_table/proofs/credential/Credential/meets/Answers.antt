use Rattle.std.proofs.Common.{◌↔◌, IsTrue, sym, subst}
use Rattle.credential_matching.specs.Meets.{Meets}
use Rattle.mdoc_view.specs.Credential as mdoc
use Rattle.sdjwt_view.specs.Credential as sdjwt
use Rattle.fit_table.specs.Credential.{meaning}
use Rattle.fit_table.specs.declared.credential.Credential.{Credential}
use Rattle.fit_table.proofs.credential.Credential.meets.Goals as goal

pub returns-in-Sd : goal.returns-in-Sd
returns-in-Sd c =
    subst (λ (x : Credential). IsTrue c.meets.result ↔ Meets c.args.query.now c.args.set (meaning x))
    (sym c.in-Sd.is)
    (c.meets.ensures (sdjwt.meaning c.in-Sd.credential) (record {
      format = c.facts.ensures.format;
      kind = c.facts.ensures.kind;
      issuer = c.facts.ensures.issuer;
      holder = c.facts.ensures.holder;
      first = c.facts.ensures.first;
      past = c.facts.ensures.past;
      tree = c.root.ensures;
    }))

pub returns-in-Md : goal.returns-in-Md
returns-in-Md c =
    subst (λ (x : Credential). IsTrue c.meets-in-Md.result ↔ Meets c.args.query.now c.args.set (meaning x))
    (sym c.in-Md.is)
    (c.meets-in-Md.ensures (mdoc.meaning c.in-Md.credential) (record {
      format = c.facts-in-Md.ensures.format;
      kind = c.facts-in-Md.ensures.kind;
      issuer = c.facts-in-Md.ensures.issuer;
      holder = c.facts-in-Md.ensures.holder;
      first = c.facts-in-Md.ensures.first;
      past = c.facts-in-Md.ensures.past;
      tree = c.root-in-Md.ensures;
    }))

use Rattle.std.proofs.Common.{◌++◌, flat_map, string_bytes, ap, ap₂, ◌∙◌, append_assoc}
use Rattle.std.proofs.lemmas.Result.{IfOk-weaker}
use Rattle.credential_matching.specs.Shown.{shown}
use Rattle.fit_table.specs.Credential.{meaning}
use Rattle.option_texts.specs.Addresses.{address_line}
use Rattle.option_texts.specs.Lines.{credential_line}
use Rattle.option_texts.proofs.picks.add_credential.Goals as goal

pub returns : goal.returns
returns c =
    let q = c.args.query.now in
    let p = c.args.pick in
    let credential = meaning c.args.credential.now in
    let old = string_bytes c.args.text.now in
    let line = c.in_ok-add_credential_line.ensures
    ∙ ap (λ id. old ++ credential_line id p.credential credential) c.id.ensures.id in
    let addresses = c.deref.ensures.value ∙ c.in_ok-addresses.ensures in
    IfOk-weaker c.add_addresses.result _ _
    (λ u grown. grown ∙ (ap₂ (λ text found. text ++ flat_map address_line found) line addresses
    ∙ append_assoc old (credential_line q.id p.credential credential)
    (flat_map address_line (shown q p.set credential.tree)))) c.add_addresses.ensures

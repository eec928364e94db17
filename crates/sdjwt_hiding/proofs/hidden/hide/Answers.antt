use Rattle.std.proofs.Common.{◌++◌, ap, ◌∙◌, subst}
use Rattle.std.specs.List.{AllByRecursion}
use Rattle.serde_json.specs.View.{view}
use Rattle.serde_json.specs.Written.{has_float}
use Rattle.sdjwt_hiding.specs.Addresses.{number_in}
use Rattle.sdjwt_hiding.specs.Hiding.{Marks, hidden, met}
use Rattle.sdjwt_hiding.specs.Disclosing.{by_sha256, all_told, IsReadBack}
use Rattle.sdjwt_hiding.specs.Issued.{all_made}
use Rattle.sdjwt_hiding.specs.code.Walk.{marks_at}
use Rattle.sdjwt_hiding.specs.code.InOrder.{told_in_order}
use Rattle.sdjwt_hiding.proofs.Below.{at_root}
use Rattle.sdjwt_hiding.proofs.Floats.{hidden_whole}
use Rattle.sdjwt_hiding.proofs.Sorts.{told_by_number}
use Rattle.sdjwt_hiding.proofs.hidden.hide.Goals as goal

pub returns-clause-value : goal.returns-clause-value
returns-clause-value c =
    c.in_ok-value.ensures.value
    ∙ ap (λ (m : Marks). hidden by_sha256 m (view c.args.value.now))
    (at_root c.in_ok-marked.marked c.args.hide.now c.root-path.result c.root-path.ensures
    c.in_ok-marked.ensures)

pub returns-clause-read : goal.returns-clause-read
returns-clause-read c =
    subst (λ (m : Marks). AllByRecursion IsReadBack (met by_sha256 m (view c.args.value.now)))
    (at_root c.in_ok-marked.marked c.args.hide.now c.root-path.result c.root-path.ensures
    c.in_ok-marked.ensures)
    c.in_ok-value.ensures.read

pub returns-clause-disclosures : goal.returns-clause-disclosures
returns-clause-disclosures c =
    let all = c.in_ok-value.ensures.made
    ∙ ap (λ vs. all_made vs ++ all_told
    (met by_sha256 (marks_at c.in_ok-marked.marked c.root-path.result) (view c.args.value.now)))
    c.new-made.ensures.items
    ∙ ap (λ (m : Marks). all_told (met by_sha256 m (view c.args.value.now)))
    (at_root c.in_ok-marked.marked c.args.hide.now c.root-path.result c.root-path.ensures
    c.in_ok-marked.ensures) in
    c.in_ok-disclosures.ensures ∙ ap told_in_order all
    ∙ told_by_number (met by_sha256 (number_in c.args.hide.now) (view c.args.value.now))

pub returns-clause-whole : goal.returns-clause-whole
returns-clause-whole c =
    ap has_float c.in_ok-value.ensures.value
    ∙ hidden_whole by_sha256 (marks_at c.in_ok-marked.marked c.root-path.result) (view c.args.value.now)
    c.requires

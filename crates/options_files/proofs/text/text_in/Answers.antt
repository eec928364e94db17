use Rattle.std.proofs.Common.{rules, Some, ℕ, List, ap, ◌∙◌, sym, subst}
use Rattle.std.specs.Str.{IsUtf8}
use Rattle.std.proofs.lemmas.Str.{IsUtf8-string_bytes}
use Rattle.wallet_files.specs.CredentialFile.{without_feed}
use Rattle.options_files.proofs.Texts.{text_of_utf8, none_of_others}
use Rattle.options_files.proofs.text.text_in.Goals as goal

pub returns-in_default : goal.returns-in_default
returns-in_default c = sym (none_of_others c.args.bytes.items (λ u. search rules))

pub returns : goal.returns
returns c =
    let same = ap (λ v. v.items) c.in-Ok.ensures.ok in
    ap Some c.cut_feed.ensures
    ∙ ap (λ (bytes : List ℕ). Some (without_feed bytes)) same
    ∙ sym (text_of_utf8 c.args.bytes.items (subst IsUtf8 same (IsUtf8-string_bytes c.in-Ok.text)))

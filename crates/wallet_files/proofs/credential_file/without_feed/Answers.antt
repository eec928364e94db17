use Rattle.std.proofs.Common.{Some, None, sym, ap, ◌∙◌, arith}
use Rattle.std.proofs.lemmas.Str.Pattern.{strip_suffix_char}
use Rattle.wallet_files.specs.CredentialFile.{without_feed}
use Rattle.wallet_files.proofs.Feeds.{feed_is_cut, no_feed_stays}
use Rattle.wallet_files.proofs.credential_file.without_feed.Goals as goal

pub returns-in-Some : goal.returns-in-Some
returns-in-Some c =
    let cut = strip_suffix_char 10 c.args.text.now (Some c.in-Some.front) c.in-Some.ensures.cases
    (omega arith) in
    sym (feed_is_cut c.in-Some.front.now) ∙ ap without_feed (sym cut)

pub returns-in-None : goal.returns-in-None
returns-in-None c =
    sym (no_feed_stays c.args.text.now (strip_suffix_char 10 c.args.text.now None c.in-None.ensures.cases
    (omega arith)))

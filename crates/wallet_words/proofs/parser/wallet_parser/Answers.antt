use Rattle.std.proofs.lemmas.Result.{IfOk-weaker}
use Rattle.wallet_words.proofs.Parsers.{joined}
use Rattle.wallet_words.proofs.parser.wallet_parser.Goals as goal

pub returns : goal.returns
returns c =
    let with_try = joined c.bare_parser.ensures c.in_ok-try_parser.ensures c.in_ok-subcommand.ensures in
    IfOk-weaker c.subcommand-2.result _ _ (λ d h. joined with_try c.in_ok-options_parser.ensures h)
    c.subcommand-2.ensures

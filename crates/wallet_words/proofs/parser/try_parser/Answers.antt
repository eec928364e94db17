use Rattle.std.proofs.lemmas.Result.{IfOk-weaker}
use Rattle.wallet_words.proofs.Parsers.{argued}
use Rattle.wallet_words.proofs.parser.try_parser.Goals as goal

pub returns : goal.returns
returns c =
    let query = argued (c.new.ensures.app, c.new.ensures.local) c.file.ensures c.in_ok-arg.ensures in
    IfOk-weaker c.arg-2.result _ _ (λ d h. argued query c.file-2.ensures h) c.arg-2.ensures

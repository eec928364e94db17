use Rattle.std.proofs.lemmas.Result.{IfOk-weaker}
use Rattle.wallet_words.proofs.Parsers.{argued}
use Rattle.wallet_words.proofs.parser.options_parser.Goals as goal

pub returns : goal.returns
returns c =
    let request = argued (c.new.ensures.app, c.new.ensures.local) c.file.ensures c.in_ok-arg.ensures in
    let wallet = argued request c.file-2.ensures c.in_ok-arg-2.ensures in
    let clients = argued wallet c.file-3.ensures c.in_ok-arg-3.ensures in
    let after = argued clients c.option.ensures c.in_ok-arg-4.ensures in
    IfOk-weaker c.arg-5.result _ _ (λ d h. argued after c.option-2.ensures h) c.arg-5.ensures

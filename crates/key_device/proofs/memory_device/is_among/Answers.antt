use Rattle.std.proofs.Common.{rules, tests, string_bytes, bytes_eq}
use Rattle.std.proofs.lemmas.Iterator.{YieldsList-from_slice}
use Rattle.std.proofs.lemmas.Iterator.Search.{any_from_yields_List}
use Rattle.key_device.proofs.memory_device.is_among.Goals as goal

pub returns : goal.returns
returns c =
    any_from_yields_List (λ one. bytes_eq (string_bytes one) c.args.text.now) _ _ c.any.result
    c.any.ensures.ran (YieldsList-from_slice c.args.texts.now cc) (λ x b q k. search (rules, tests))

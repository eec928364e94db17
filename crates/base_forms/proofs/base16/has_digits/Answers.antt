use Rattle.std.proofs.Common.{rules, tests}
use Rattle.std.proofs.lemmas.Iterator.{YieldsList-from_slice}
use Rattle.std.proofs.lemmas.Iterator.Search.{all_from_yields_List}
use Rattle.base_forms.specs.Base16.{is_lower_hex}
use Rattle.base_forms.proofs.base16.has_digits.Goals as goal

pub returns : goal.returns
returns c =
    all_from_yields_List is_lower_hex _ _ c.all.result c.all.ensures.ran
    (YieldsList-from_slice c.args.text.now cc) (λ x b q k. search (rules, tests))

use Rattle.std.proofs.Common.{rules, tests}
use Rattle.std.proofs.lemmas.Iterator.{YieldsList-from_slice}
use Rattle.std.proofs.lemmas.Iterator.Search.{all_from_yields_List}
use Rattle.base_forms.specs.Url64.{is_url64}
use Rattle.base_forms.proofs.url64.has_alphabet.Goals as goal

pub returns : goal.returns
returns c =
    all_from_yields_List is_url64 _ _ c.all.result c.all.ensures.ran
    (YieldsList-from_slice c.args.text.now cc) (λ x b q k. search (rules, tests))

use Rattle.std.proofs.Common.{◌≡◌, drop, map}
use Rattle.sdjwt_digests.specs.Disclosures.{all_disclosed}
use Rattle.owned_tree.specs.Prefixed.{prefixed}
use Rattle.sdjwt_digests.specs.Disclosure.{said}
use Rattle.sdjwt_view.proofs.disclosure_list.read_all.Given as goal

abbrev pub invariant-loop-text : goal.invariant-loop-text
invariant-loop-text l =
    prefixed (map said l.list.items) (all_disclosed l.hash (map (λ s. s.now) (drop l.text-index l.texts)))
    ≡ all_disclosed l.hash (map (λ s. s.now) l.texts)

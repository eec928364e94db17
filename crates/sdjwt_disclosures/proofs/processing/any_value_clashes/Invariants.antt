use Rattle.std.proofs.Common.{◌≡◌, drop, map}
use Rattle.std.specs.List.{list_any}
use Rattle.sdjwt_digests.specs.Disclosure.{said}
use Rattle.sdjwt_digests.specs.code.Disclosures.{all_said}
use Rattle.sdjwt_disclosures.specs.MemberNames.{has_clash}
use Rattle.sdjwt_disclosures.proofs.processing.any_value_clashes.Given as goal

abbrev pub invariant-loop-disclosure : goal.invariant-loop-disclosure
invariant-loop-disclosure l =
    list_any (λ d. has_clash (all_said l.disclosures) d.value) (map said (drop l.disclosure-index l.list))
    ≡ list_any (λ d. has_clash (all_said l.disclosures) d.value) (map said l.list)

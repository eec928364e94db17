use Rattle.std.proofs.Common.{◌≡◌, take, map}
use Rattle.sdjwt_hiding.specs.Issued.{all_made}
use Rattle.sdjwt_hiding.proofs.hidden.has_own_digests.Given as goal

abbrev pub invariant-loop-disclosure : goal.invariant-loop-disclosure
invariant-loop-disclosure l =
    map (λ s. s.now) l.digests.items ≡ map (λ p. p.1) (all_made (take l.disclosure-index l.disclosures))

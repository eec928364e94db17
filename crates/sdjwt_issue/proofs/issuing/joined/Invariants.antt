use Rattle.std.proofs.Common.{◌≡◌, ◌∷◌, ◌++◌, drop, map, string_bytes}
use Rattle.sdjwt_issue.specs.Issued.{joined}
use Rattle.sdjwt_issue.proofs.issuing.joined.Given as goal

abbrev pub invariant-loop-disclosure : goal.invariant-loop-disclosure
invariant-loop-disclosure l =
    string_bytes l.text
    ++ joined (map (λ d. string_bytes d.text) (drop l.disclosure-index l.disclosures))
    ≡ joined (string_bytes l.fn.message ∷ map (λ d. string_bytes d.text) l.disclosures)

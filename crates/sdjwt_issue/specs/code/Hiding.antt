-- What the payload and the disclosures of a spec are in memory.
use Rattle.std.specs.Prelude.{◌≡◌, false}
use Rattle.std.specs.List.{AllByRecursion}
use Rattle.serde_json.specs.Data.{object}
use Rattle.serde_json.specs.View.{view}
use Rattle.serde_json.specs.Written.{has_float}
use Rattle.sdjwt_hiding.specs.Hiding.{met, by_number}
use Rattle.sdjwt_hiding.specs.Disclosing.{by_sha256, all_told, IsReadBack}
use Rattle.sdjwt_hiding.specs.Issued.{all_made}
use Rattle.sdjwt_hiding.specs.declared.hidden.Hidden.{Hidden}
use Rattle.sdjwt_issue.specs.Asked.{marks}
use Rattle.sdjwt_issue.specs.Issued.{payload_of}
use Rattle.sdjwt_issue.specs.Spec.{Spec, all_members}

-- the payload with the digests of what is hidden, and the disclosures in their order, which are read back
pub record IsHidden (s : Spec) (h : Hidden) : Type 0 where
  pub payload : view h.value ≡ payload_of (marks s) (all_members s)
  pub whole : has_float (view h.value) ≡ false
  pub disclosures : all_made h.disclosures.items
      ≡ all_told (by_number (met by_sha256 (marks s) (object (all_members s))))
  pub disclosed : AllByRecursion IsReadBack (met by_sha256 (marks s) (object (all_members s)))

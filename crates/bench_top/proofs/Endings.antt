-- How issuing ends, by what the calls below answer.
use Rattle.std.proofs.Common.{◌≡◌, ℕ, List, Some, option_map, refl, ap, subst}
use Rattle.base_forms.specs.Texts.{Utf8}
use Rattle.base_forms.specs.Url64.{url64_of}
use Rattle.key_device.specs.Calls.{Held}
use Rattle.runs.specs.Runs.{Ending, value, out_of_memory, Runs, map_ending}
use Rattle.runs.specs.World.{World}
use Rattle.runs.proofs.Trees.{IsEarly, runs_broken, runs_out, runs_mapped, runs_then, runs_gives, runs_early}
use Rattle.spec_forms.specs.Refusal.{IsRefusal}
use Rattle.spec_forms.specs.declared.error.Error as spec
use Rattle.spec_forms.specs.declared.error.Error.TheVariants as spec_error
use Rattle.issue_spec.specs.Spec.{spec_rule}
use Rattle.sdjwt_issue.specs.Endings as sdjwt
use Rattle.sdjwt_issue.specs.Issuing as sdjwt_issue
use Rattle.sdjwt_issue.specs.Spec.{Spec as SdJwtSpec}
use Rattle.sdjwt_issue.specs.declared.error.Error as sdjwt_own
use Rattle.sdjwt_issue.specs.declared.error.Error.TheVariants as sdjwt_error
use Rattle.mdoc_issue.specs.Issuing as mdoc
use Rattle.mdoc_issue.specs.Spec.{Spec as MdocSpec}
use Rattle.mdoc_issue.specs.declared.error.Error as mdoc_own
use Rattle.mdoc_issue.specs.declared.error.Error.TheVariants as mdoc_error
use Rattle.bench_top.specs.Issuing.{Refusal, broken, issue_tree, sdjwt_refusal, mdoc_refusal, sdjwt_tree}
use Rattle.bench_top.specs.Issuing.{mdoc_tree}
use Rattle.bench_top.specs.code.Endings.{early, by_spec, by_sdjwt, by_mdoc}

-- the spec is refused
pub runs_spec_refused : (held : Held) (text : List ℕ) (error : spec.Error) (now : World)
    → IsRefusal (spec_rule text) error → Runs (issue_tree held text) now now (early (by_spec error))
runs_spec_refused held text (spec_error.Refused rule) now is =
    runs_broken _ (broken rule) _ now (ap (option_map broken) is)
runs_spec_refused held text spec_error.NoMemory now is = runs_out _ now

-- ---- an SD-JWT

sdjwt_early : (error : sdjwt_own.Error)
    → map_ending sdjwt_refusal (sdjwt.early error) ≡ early (by_sdjwt error)
sdjwt_early sdjwt_error.SharedDigest = refl
sdjwt_early sdjwt_error.KeyMissing = refl
sdjwt_early sdjwt_error.DeviceFault = refl
sdjwt_early sdjwt_error.NoMemory = refl

pub runs_no_sdjwt : (held : Held) (s : SdJwtSpec) (before after : World) (error : sdjwt_own.Error)
    → Runs (sdjwt_issue.issue_tree held s) before after (sdjwt.early error)
    → Runs (sdjwt_tree held s) before after (early (by_sdjwt error))
runs_no_sdjwt held s before after error run =
    subst (λ (e : Ending Refusal Utf8). Runs (sdjwt_tree held s) before after e) (sdjwt_early error)
    (runs_mapped sdjwt_refusal _ before after (sdjwt.early error) run)

pub runs_sdjwt : (held : Held) (s : SdJwtSpec) (before after : World) (text : Utf8)
    → Runs (sdjwt_issue.issue_tree held s) before after (value text)
    → Runs (sdjwt_tree held s) before after (value text)
runs_sdjwt held s before after text run = runs_mapped sdjwt_refusal _ before after (value text) run

-- ---- a document

mdoc_early : (error : mdoc_own.Error)
    → IsEarly {B = Utf8} (map_ending mdoc_refusal (mdoc.early error)) (early (by_mdoc error))
mdoc_early mdoc_error.KeyMissing = refl
mdoc_early mdoc_error.DeviceFault = refl
mdoc_early mdoc_error.NoMemory = refl

module _ (held : Held) (s : MdocSpec) (before after : World) where
  pub runs_no_document : (error : mdoc_own.Error)
      → Runs (mdoc.issue_tree held s) before after (mdoc.early error)
      → Runs (mdoc_tree held s) before after (early (by_mdoc error))
  runs_no_document error run = runs_early _ _ before after _ _
      (runs_mapped mdoc_refusal _ before after (mdoc.early error) run) (mdoc_early error)

  -- memory ran out for the text
  pub runs_no_text : (bytes : List ℕ) → Runs (mdoc.issue_tree held s) before after (value bytes)
      → Runs (mdoc_tree held s) before after out_of_memory
  runs_no_text bytes run = runs_then _ _ before after after bytes out_of_memory
      (runs_mapped mdoc_refusal _ before after (value bytes) run) (runs_out _ after)

  pub runs_document : (bytes : List ℕ) (text : Utf8)
      → Runs (mdoc.issue_tree held s) before after (value bytes) → text ≡ url64_of bytes
      → Runs (mdoc_tree held s) before after (value text)
  runs_document bytes text run is = runs_then _ _ before after after bytes (value text)
      (runs_mapped mdoc_refusal _ before after (value bytes) run) (runs_gives _ _ text after is)

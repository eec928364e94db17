-- No command passes over a fault.
use Rattle.std.proofs.Common.{ℕ, List, Option, Some, None}
use Rattle.key_device.specs.Calls.{Held}
use Rattle.claim_tree.specs.declared.algorithm.SignAlg.{SignAlg}
use Rattle.outside.specs.Store.{File, whole, longer}
use Rattle.program_steps.specs.Files.{fitting, read_file}
use Rattle.runs.specs.Counts.{Insists}
use Rattle.runs.specs.Tree.{Tree}
use Rattle.runs.proofs.Insisting.{insists_bind, insists_gives, insists_stops, insists_unless, insists_mapped}
use Rattle.issue_spec.specs.Spec.{Asked, sdjwt as asks_sdjwt, mdoc as asks_mdoc, asked_in}
use Rattle.sdjwt_issue.specs.Issuing as sdjwt
use Rattle.sdjwt_issue.specs.Spec.{Spec as SdJwtSpec}
use Rattle.mdoc_issue.specs.Issuing as mdoc
use Rattle.mdoc_issue.specs.Spec.{Spec as MdocSpec}
use Rattle.bench_top.specs.Command.{text_tree, print_tree}
use Rattle.bench_top.specs.Issuing.{asked_tree, issue_tree}
use Rattle.bench_top.specs.Laws.{PassesNoFault}

fits : (name : List ℕ) (answer : File) → Insists (fitting name answer)
fits name (whole bytes) = insists_gives _ bytes
fits name longer = insists_stops _ _

reads : (limit : ℕ) (name : List ℕ) → Insists (read_file limit name)
unfolding Insists
reads limit name = fits name

signs_sdjwt : (s : SdJwtSpec) (alg : Option SignAlg) → Insists (sdjwt.sign_tree s alg)
unfolding Insists
signs_sdjwt s None = tt
signs_sdjwt s (Some alg) = λ signature. tt

signs_mdoc : (s : MdocSpec) (alg : Option SignAlg) → Insists (mdoc.sign_tree s alg)
unfolding Insists
signs_mdoc s None = tt
signs_mdoc s (Some alg) = λ signature. tt

asked : (held : Held) (a : Option Asked) → Insists (asked_tree held a)
asked held None = insists_stops _ _
asked held (Some (asks_sdjwt s)) = insists_mapped _ _ (insists_unless _ _ (signs_sdjwt s _))
asked held (Some (asks_mdoc s)) =
    insists_bind _ _ (insists_mapped _ _ (signs_mdoc s _)) (λ bytes. insists_gives _ _)

text : (held : Held) (name : List ℕ) (read : Option (List ℕ)) → Insists (text_tree held name read)
text held name None = insists_stops _ _
text held name (Some spec) =
    insists_bind _ _ (insists_mapped _ _ (insists_unless _ _ (asked held _)))
    (λ credential. insists_gives _ _)

pub passes_no_fault : PassesNoFault
passes_no_fault held name = insists_bind _ _ (reads _ name) (λ bytes. text held name _)

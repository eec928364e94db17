use Rattle.std.proofs.Common.{codes, ◌≡◌, ◌∙◌, IfOk, List, subst}
use Rattle.cbor_core.specs.Order.{Pair}
use Rattle.mdoc_written.specs.Containers.{map_bytes}
use Rattle.mdoc_object.proofs.Named.{six_named}
use Rattle.mdoc_object.proofs.security_object.object_bytes.Goals as goal

pub returns : goal.returns
returns c =
    subst (λ (ps : List Pair). IfOk c.named_map.result (λ v. v.items ≡ map_bytes ps))
    (six_named (codes "docType") (codes "version") (codes "validityInfo") (codes "valueDigests")
    (codes "deviceKeyInfo") (codes "digestAlgorithm")
    (c.deref.ensures.value ∙ c.in_ok-kind.ensures)
    (c.deref-2.ensures.value ∙ c.in_ok-version.ensures)
    (c.deref-3.ensures.value ∙ c.in_ok-validity.ensures)
    (c.deref-4.ensures.value ∙ c.in_ok-digests.ensures)
    (c.deref-5.ensures.value ∙ c.in_ok-key.ensures)
    (c.deref-6.ensures.value ∙ c.in_ok-hash.ensures))
    c.named_map.ensures

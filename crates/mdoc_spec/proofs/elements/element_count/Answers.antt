use Rattle.std.proofs.Common.{sym, ap, ◌∙◌}
use Rattle.serde_json.specs.View.{view}
use Rattle.serde_json.proofs.Views.{view-Object}
use Rattle.mdoc_object.specs.Namespaces.{elements_in, member_count}
use Rattle.mdoc_spec.proofs.Stored.{counted}
use Rattle.mdoc_spec.proofs.elements.element_count.Goals as goal

pub returns-in-Object : goal.returns-in-Object
returns-in-Object c =
    c.len.ensures.len ∙ sym (counted c.in-Object.elements.entries)
    ∙ sym (ap (λ d. member_count (elements_in d)) (ap view c.in-Object.is ∙ view-Object c.in-Object.elements))

use Rattle.std.proofs.Common.{string_bytes, sym, ap, ◌∙◌, subst}
use Rattle.serde_json.specs.View.{view, members_view}
use Rattle.mdoc_spec.specs.code.Texts.{IsStored}
use Rattle.mdoc_spec.proofs.Stored.{text_stored, stored_string, one_more}
use Rattle.mdoc_spec.proofs.integers.+fraction.Goals as goal

pub has_fraction-returns-in-String-clause-stored : goal.has_fraction-returns-in-String-clause-stored
has_fraction-returns-in-String-clause-stored t c = λ _.
    subst (λ v. IsStored (view v)) (sym c.in-String.is)
    (stored_string c.in-String._text)

pub members_have_fraction-loop-name-preserved : goal.members_have_fraction-loop-name-preserved
members_have_fraction-loop-name-preserved t c =
    one_more (string_bytes c.in-Some.name.now) (view c.in-Some.member.now) (members_view c.next.new.self)
    (members_view c.loop-name.name-iterator) (members_view c.args.object.now.entries)
    (ap members_view c.in-Some.ensures.steps) (text_stored c.in-Some.name.now)
    (sym c.has_fraction.ensures.fraction ∙ c.if-has_fraction.false)
    (c.has_fraction.ensures.stored c.if-has_fraction.false) c.loop-name.invariant

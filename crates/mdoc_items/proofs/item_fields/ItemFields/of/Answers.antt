use Rattle.std.proofs.Common.{codes, option_map, sym, ap, ◌∙◌}
use Rattle.std.specs.Option.{option_or}
use Rattle.cbor_core.specs.Seen.{span_of, entries_left}
use Rattle.cbor_core.specs.Views.{find_in}
use Rattle.mdoc_items.proofs.Naming.{past_named, past_unnamed, digest_id_fine, random_fine}
use Rattle.mdoc_items.proofs.Naming.{element_identifier_fine, element_value_fine}
use Rattle.mdoc_items.proofs.item_fields.ItemFields.of.Goals as goal

pub loop-key-preserved-in-Some-text : goal.loop-key-preserved-in-Some-text
loop-key-preserved-in-Some-text c =
    let key = span_of c.in-Some.key in
    let item = span_of c.in-Some.item in
    let rest = entries_left c.next.new.self in
    let found = c.loop-key.found in
    record {
      can_next = tt;
      is_finite = tt;
      digest_id = ap (λ o. option_or o (find_in (codes "digestID") rest)) c.or_named-found.ensures.digest_id
          ∙ past_named (codes "digestID") digest_id_fine key item rest
          (option_map span_of found.digest_id) c.in-Some-text.name.now (sym c.in-Some-text.ensures)
          ∙ ap (λ es. option_or (option_map span_of found.digest_id) (find_in (codes "digestID") es))
          (sym c.in-Some.ensures.steps)
          ∙ c.loop-key.invariant.digest_id;
      random = ap (λ o. option_or o (find_in (codes "random") rest)) c.or_named-found.ensures.random
          ∙ past_named (codes "random") random_fine key item rest
          (option_map span_of found.random) c.in-Some-text.name.now (sym c.in-Some-text.ensures)
          ∙ ap (λ es. option_or (option_map span_of found.random) (find_in (codes "random") es))
          (sym c.in-Some.ensures.steps)
          ∙ c.loop-key.invariant.random;
      element_identifier =
          ap (λ o. option_or o (find_in (codes "elementIdentifier") rest))
          c.or_named-found.ensures.element_identifier
          ∙ past_named (codes "elementIdentifier") element_identifier_fine key item rest
          (option_map span_of found.element_identifier) c.in-Some-text.name.now
          (sym c.in-Some-text.ensures)
          ∙ ap (λ es. option_or (option_map span_of found.element_identifier)
          (find_in (codes "elementIdentifier") es)) (sym c.in-Some.ensures.steps)
          ∙ c.loop-key.invariant.element_identifier;
      element_value =
          ap (λ o. option_or o (find_in (codes "elementValue") rest)) c.or_named-found.ensures.element_value
          ∙ past_named (codes "elementValue") element_value_fine key item rest
          (option_map span_of found.element_value) c.in-Some-text.name.now (sym c.in-Some-text.ensures)
          ∙ ap (λ es. option_or (option_map span_of found.element_value) (find_in (codes "elementValue") es))
          (sym c.in-Some.ensures.steps)
          ∙ c.loop-key.invariant.element_value;
    }

pub loop-key-preserved : goal.loop-key-preserved
loop-key-preserved c =
    let key = span_of c.in-Some.key in
    let item = span_of c.in-Some.item in
    let rest = entries_left c.next.new.self in
    let found = c.loop-key.found in
    record {
      can_next = tt;
      is_finite = tt;
      digest_id = past_unnamed (codes "digestID") digest_id_fine key item rest
          (option_map span_of found.digest_id) (sym c.in_default.ensures)
          ∙ ap (λ es. option_or (option_map span_of found.digest_id) (find_in (codes "digestID") es))
          (sym c.in-Some.ensures.steps)
          ∙ c.loop-key.invariant.digest_id;
      random = past_unnamed (codes "random") random_fine key item rest (option_map span_of found.random)
          (sym c.in_default.ensures)
          ∙ ap (λ es. option_or (option_map span_of found.random) (find_in (codes "random") es))
          (sym c.in-Some.ensures.steps)
          ∙ c.loop-key.invariant.random;
      element_identifier = past_unnamed (codes "elementIdentifier") element_identifier_fine key item rest
          (option_map span_of found.element_identifier) (sym c.in_default.ensures)
          ∙ ap (λ es. option_or (option_map span_of found.element_identifier)
          (find_in (codes "elementIdentifier") es)) (sym c.in-Some.ensures.steps)
          ∙ c.loop-key.invariant.element_identifier;
      element_value =
          past_unnamed (codes "elementValue") element_value_fine key item rest
          (option_map span_of found.element_value) (sym c.in_default.ensures)
          ∙ ap (λ es. option_or (option_map span_of found.element_value) (find_in (codes "elementValue") es))
          (sym c.in-Some.ensures.steps)
          ∙ c.loop-key.invariant.element_value;
    }

use Rattle.std.proofs.Common.{sym, ap, ◌∙◌, map}
use Rattle.serde_json.specs.View.{view, items_view}
use Rattle.sdjwt_digests.specs.DigestSites.{are_texts}
use Rattle.sdjwt_digests.specs.ReservedNames.{is_list_of_texts}
use Rattle.sdjwt_digests.proofs.ListedTexts.{texts_listed}
use Rattle.sdjwt_digests.proofs.reserved_names.is_list_of_texts.Goals as goal

pub returns-in-Some : goal.returns-in-Some
returns-in-Some c = rw (← c.in-Some.ensures, is_list_of_texts) (c.are_texts.ensures
    ∙ (sym (texts_listed (map view c.deref.result.now))
    ∙ ap (λ l. are_texts (items_view l)) c.deref.ensures.value))

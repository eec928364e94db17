use Rattle.std.proofs.Common.{◌≡◌, [], ◌++◌, Some, None, option_map, sym, ap, ◌∙◌, append-nil}
use Rattle.sdjwt_view.specs.Reading.{parts_of, pieces}
use Rattle.sdjwt_view.proofs.TextParts.{texts, parts_at, empty_end, full_end}
use Rattle.sdjwt_view.proofs.text_parts.split.Goals as goal

pub returns-then-not-is_empty : goal.returns-then-not-is_empty
returns-then-not-is_empty c =
    let whole : parts_of (pieces c.args.text.now) ≡ option_map (λ ts. (c.in-Some.jws.now.now, ts))
    (option_map (λ us. texts c.in-Some-split_last.disclosures.now ++ us) None) =
    ap parts_of (sym c.in_ok-pieces.ensures ∙ ap texts (sym c.deref.ensures.value))
    ∙ parts_at c.deref.result.now c.in-Some.jws.now c.in-Some-split_last.last.now c.in-Some.rest.now
    c.in-Some-split_last.disclosures.now (c.in-Some.ensures.cases).0
    (c.in-Some-split_last.ensures.cases).0
    ∙ ap (λ o. option_map (λ ts. (c.in-Some.jws.now.now, ts))
    (option_map (λ us. texts c.in-Some-split_last.disclosures.now ++ us) o))
    (full_end c.in-Some-split_last.last.now.now (sym c.is_empty.ensures ∙ c.if-not-is_empty.true)) in
    sym whole

pub returns : goal.returns
returns c =
    let whole : parts_of (pieces c.args.text.now) ≡ option_map (λ ts. (c.in-Some.jws.now.now, ts))
    (option_map (λ us. texts c.in-Some-split_last.disclosures.now ++ us) (Some [])) =
    ap parts_of (sym c.in_ok-pieces.ensures ∙ ap texts (sym c.deref.ensures.value))
    ∙ parts_at c.deref.result.now c.in-Some.jws.now c.in-Some-split_last.last.now c.in-Some.rest.now
    c.in-Some-split_last.disclosures.now (c.in-Some.ensures.cases).0
    (c.in-Some-split_last.ensures.cases).0
    ∙ ap (λ o. option_map (λ ts. (c.in-Some.jws.now.now, ts))
    (option_map (λ us. texts c.in-Some-split_last.disclosures.now ++ us) o))
    (empty_end c.in-Some-split_last.last.now.now (sym c.is_empty.ensures ∙ c.if-not-is_empty.false)) in
    ap (λ ds. Some (c.in-Some.jws.now.now, texts ds)) c.in_ok-from_slice.ensures.items
    ∙ ap (λ ts. Some (c.in-Some.jws.now.now, ts))
    (sym (append-nil (texts c.in-Some-split_last.disclosures.now)))
    ∙ sym whole

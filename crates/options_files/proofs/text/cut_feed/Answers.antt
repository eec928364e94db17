use Rattle.std.proofs.Common.{true, false, refl, sym, ◌∙◌, arith}
use Rattle.std.specs.String.{string_bytes, string_len}
use Rattle.std.proofs.lemmas.Bool.{true≢false}
use Rattle.std.proofs.lemmas.Str.Pattern.{ends_char}
use Rattle.wallet_files.proofs.Feeds.{no_feed_stays}
use Rattle.options_files.proofs.Texts.{feed_is_popped}
use Rattle.options_files.proofs.text.cut_feed.Goals as goal

pub returns-then-ends_with : goal.returns-then-ends_with
returns-then-ends_with c =
    let ends = (ends_char 10 c.as_str.result.now true c.if-ends_with.ensures.cases (omega arith)).0 refl in
    feed_is_popped (string_bytes c.args.text.now) (string_bytes c.pop.new.self)
    (string_len c.args.text.now) c.args.text.now.bytes.ok.0 (rw c.as_str.ensures.value at ends)
    c.pop.ensures.ascii_bytes

pub returns-else-ends_with : goal.returns-else-ends_with
returns-else-ends_with c =
    let none = (ends_char 10 c.as_str.result.now false c.if-ends_with.ensures.cases (omega arith)).1 in
    sym (no_feed_stays (string_bytes c.args.text.now) (λ front e.
    true≢false (sym (none front (c.as_str.ensures.value ∙ e)))))

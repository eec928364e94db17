use Rattle.std.proofs.Common.{◌≡◌, map, option_map, subst, sym, ap, ap₂, ◌∙◌, true, refl}
use Rattle.std.proofs.Common.{inr}
use Rattle.admitted_answers.specs.Admits.{Admits}
use Rattle.option_list.specs.Token.{entries_text, token_of}
use Rattle.option_list.specs.Form.{IsEntry, IsEach, Reads}
use Rattle.option_list.specs.Rules.{HasEntries, HasSmallPicks, IsOfNoAnswer}
use Rattle.option_list.proofs.Decided.{small_lists}
use Rattle.option_list.specs.code.Entries.{entry_in, are_known, lists_named}
use Rattle.option_list.proofs.Named.{nothing_read, unknown_read, answer_read, none_answers}
use Rattle.option_list.proofs.read.read_token.Goals as goal

pub returns-in_default-clause-back : goal.returns-in_default-clause-back
returns-in_default-clause-back c =
    nothing_read c.args.query.now c.args.fits.now c.args.text.now c.credentials-queries.ensures.well_formed
    (subst (λ o. Reads (IsEach IsEntry) entries_text c.args.text.now
    (option_map (λ v. map entry_in v.items) o))
    c.in_default.is c.in_ok-entries.ensures)

pub returns-then-not-are_known-clause-back : goal.returns-then-not-are_known-clause-back
returns-then-not-are_known-clause-back c =
    let q = c.args.query.now in
    let has : HasEntries c.args.text.now (map entry_in c.in-Some.entries.items) =
    subst (λ o. Reads (IsEach IsEntry) entries_text c.args.text.now
    (option_map (λ v. map entry_in v.items) o))
    c.in-Some.is c.in_ok-entries.ensures in
    unknown_read q c.args.fits.now c.args.text.now (map entry_in c.in-Some.entries.items)
    c.credentials-queries.ensures.well_formed has
    (ap (λ es. are_known q.credentials (map entry_in es)) (sym c.deref.ensures.value)
    ∙ sym c.are_known.ensures
    ∙ c.if-not-are_known.true)

pub returns-then-branch-clause-back : goal.returns-then-branch-clause-back
returns-then-branch-clause-back c =
    let q = c.args.query.now in
    let has : HasEntries c.args.text.now (map entry_in c.in-Some.entries.items) =
    subst (λ o. Reads (IsEach IsEntry) entries_text c.args.text.now
    (option_map (λ v. map entry_in v.items) o))
    c.in-Some.is c.in_ok-entries.ensures in
    answer_read q c.args.fits.now c.args.text.now (map entry_in c.in-Some.entries.items) c.in_ok-answer.answer
    c.credentials-queries.ensures.well_formed has
    (c.in_ok-answer.ensures
    ∙ ap₂ (λ qs es. lists_named qs (map entry_in es))
    c.credentials-queries.ensures.value c.deref-2.ensures.value)

pub returns-then-branch-clause-small : goal.returns-then-branch-clause-small
returns-then-branch-clause-small c =
    let q = c.args.query.now in
    let has : HasEntries c.args.text.now (map entry_in c.in-Some.entries.items) =
    subst (λ o. Reads (IsEach IsEntry) entries_text c.args.text.now
    (option_map (λ v. map entry_in v.items) o))
    c.in-Some.is c.in_ok-entries.ensures in
    subst HasSmallPicks (sym (c.in_ok-answer.ensures
    ∙ ap₂ (λ qs es. lists_named qs (map entry_in es))
    c.credentials-queries.ensures.value c.deref-2.ensures.value))
    (small_lists q.credentials (map entry_in c.in-Some.entries.items) has.0.1)

read : (c : goal.After-drop-entries-2) → Admits c.args.query.now c.args.fits.now c.in_ok-answer.answer
    → token_of c.args.query.now c.in_ok-answer.answer ≡ c.args.text.now → ⊥
read c admitted is =
    let told = c.in_ok-is_named.ensures.1 (admitted, is) in
    let other = c.if-branch.false in
    cc (told, other)

entries : (c : goal.After-drop-entries-2) → HasEntries c.args.text.now (map entry_in c.in-Some.entries.items)
entries c =
    subst (λ o. Reads (IsEach IsEntry) entries_text c.args.text.now
    (option_map (λ v. map entry_in v.items) o))
    c.in-Some.is c.in_ok-entries.ensures

none : (c : goal.After-drop-entries-2) → IsOfNoAnswer c.args.query.now c.args.fits.now c.args.text.now
none c =
    none_answers c.args.query.now c.args.fits.now c.args.text.now (map entry_in c.in-Some.entries.items)
    c.in_ok-answer.answer c.credentials-queries.ensures.well_formed (entries c)
    (c.in_ok-answer.ensures
    ∙ ap₂ (λ qs es. lists_named qs (map entry_in es))
    c.credentials-queries.ensures.value c.deref-2.ensures.value)
    (read c)

pub returns-clause-refused : goal.returns-clause-refused
returns-clause-refused c =
    let q = c.args.query.now in
    let es = map entry_in c.in-Some.entries.items in
    let known : are_known q.credentials es ≡ true =
    ap (λ vs. are_known q.credentials (map entry_in vs)) (sym c.deref.ensures.value) ∙ sym c.are_known.ensures
    ∙ c.if-not-are_known.false in
    inr (inr (refl, ((es, entries c, known), none c)))

pub returns-clause-back : goal.returns-clause-back
returns-clause-back c = none c

use Rattle.std.proofs.Common.{◌≡◌, ◌≤◌, ◌↔◌, ◌++◌, [], ◌∷◌, true, List, length, length-append}
use Rattle.std.proofs.Common.{◌+◌, sym, subst, ap, ◌∙◌, arith, take}
use Rattle.std.specs.Option.{option_copied, is_none}
use Rattle.dcql_answers.specs.declared.pick.Pick.{Pick}
use Rattle.dcql_answers.specs.Answer.{answer_cmp}
use Rattle.dcql_answers.proofs.Orders.{answer_order}
use Rattle.admitted_answers.specs.Admits.{Admits}
use Rattle.admitted_answers.specs.Least.{last_of, AreNext, IsLast, AreFollowing}
use Rattle.admitted_answers.proofs.Followed.{admitted_last, next_found, end_is, page_is, at_page}
use Rattle.admitted_answers.proofs.pages.page.Goals as goal

pub next_of-requires-clause-admitted : goal.next_of-requires-clause-admitted
next_of-requires-clause-admitted c =
    admitted_last (Admits c.args.query.now c.args.fits.now) answer_cmp (option_copied c.args.after)
    c.loop-i.answers.items c.as_slice.result.now _ c.requires.admitted c.loop-i.invariant.next c.last.ensures
    c.as_slice.ensures.value

pub loop-i-preserved : goal.loop-i-preserved
loop-i-preserved c =
    let before = c.loop-i.invariant.count in
    let items : c.push.new.self.items ≡ c.loop-i.answers.items ++ c.in-Some.answer ∷ [] =
    c.in_ok-push-in-Some.ensures.items in
    record {
      next =
          next_found (Admits c.args.query.now c.args.fits.now) answer_cmp (option_copied c.args.after)
          c.loop-i.answers.items c.as_slice.result.now c.push.new.self.items c.in-Some.answer _
          c.in_ok-answer.field-0 c.loop-i.invariant.next c.last.ensures c.as_slice.ensures.value
          c.in_ok-answer.ensures c.in-Some.is items;
      count =
          ap length items ∙ length-append c.loop-i.answers.items (c.in-Some.answer ∷ [])
          ∙ ap (λ n. n + 1) before;
    }

-- ---- at the last answer

within_none : (c : goal.After-page_of) → length c.loop-i.answers.items ≤ c.args.count
within_none c = let count = c.loop-i.invariant.count in omega arith

end_none : (c : goal.After-page_of) → (true ≡ true)
    ↔ IsLast (Admits c.args.query.now c.args.fits.now) answer_cmp
    (last_of (option_copied c.args.after) c.loop-i.answers.items)
end_none c =
    end_is (Admits c.args.query.now c.args.fits.now) answer_cmp (option_copied c.last.result)
    (last_of (option_copied c.args.after) c.loop-i.answers.items) c.in_ok-answer.field-0 true
    (c.last.ensures ∙ ap (last_of (option_copied c.args.after)) c.as_slice.ensures.value)
    (sym (ap is_none c.in-None.is)) c.in_ok-answer.ensures

pub returns-in-None-clause-next : goal.returns-in-None-clause-next
returns-in-None-clause-next c =
    subst (AreNext (Admits c.args.query.now c.args.fits.now) answer_cmp (option_copied c.args.after))
    (sym c.page_of.ensures.answers) c.loop-i.invariant.next

pub returns-in-None-clause-within : goal.returns-in-None-clause-within
returns-in-None-clause-within c =
    let low = within_none c in
    let same = ap length c.page_of.ensures.answers in
    omega arith

pub returns-in-None-clause-end : goal.returns-in-None-clause-end
returns-in-None-clause-end c =
    at_page (λ xs t. (t ≡ true)
    ↔ IsLast (Admits c.args.query.now c.args.fits.now) answer_cmp (last_of (option_copied c.args.after) xs))
    c.page_of.result.answers c.loop-i.answers.items c.page_of.result.end true c.page_of.ensures.answers
    c.page_of.ensures.end (end_none c)

pub returns-in-None-clause-following : goal.returns-in-None-clause-following
returns-in-None-clause-following c =
    let P = Admits c.args.query.now c.args.fits.now in
    let start = option_copied c.args.after in
    at_page (λ xs t. (all : List (List (List Pick))) → AreFollowing P answer_cmp start all
    → (xs ≡ take c.args.count all) × ((t ≡ true) ↔ (length all ≤ c.args.count))) c.page_of.result.answers
    c.loop-i.answers.items c.page_of.result.end true c.page_of.ensures.answers c.page_of.ensures.end
    (page_is answer_order P start c.loop-i.answers.items true c.args.count c.loop-i.invariant.next
    (within_none c) (λ e. absurd (cc e)) (end_none c))

-- ---- at a full page

pub is_last-end-requires-clause-admitted : goal.is_last-end-requires-clause-admitted
is_last-end-requires-clause-admitted c =
    admitted_last (Admits c.args.query.now c.args.fits.now) answer_cmp (option_copied c.args.after)
    c.loop-i.answers.items c.as_slice-2.result.now _ c.requires.admitted c.loop-i.invariant.next
    c.last-2.ensures c.as_slice-2.ensures.value

full : (c : goal.After-page_of-2) → length c.loop-i.answers.items ≡ c.args.count
full c = let count = c.loop-i.invariant.count in omega arith

end : (c : goal.After-page_of-2) → (c.is_last-end.result ≡ true)
    ↔ IsLast (Admits c.args.query.now c.args.fits.now) answer_cmp
    (last_of (option_copied c.args.after) c.loop-i.answers.items)
end c =
    subst (λ o. (c.is_last-end.result ≡ true) ↔ IsLast (Admits c.args.query.now c.args.fits.now) answer_cmp o)
    (c.last-2.ensures ∙ ap (last_of (option_copied c.args.after)) c.as_slice-2.ensures.value)
    c.is_last-end.ensures

pub returns-clause-next : goal.returns-clause-next
returns-clause-next c =
    subst (AreNext (Admits c.args.query.now c.args.fits.now) answer_cmp (option_copied c.args.after))
    (sym c.page_of-2.ensures.answers) c.loop-i.invariant.next

pub returns-clause-within : goal.returns-clause-within
returns-clause-within c =
    let all = full c in
    let same = ap length c.page_of-2.ensures.answers in
    omega arith

pub returns-clause-full : goal.returns-clause-full
returns-clause-full c = λ h. ap length c.page_of-2.ensures.answers ∙ full c

pub returns-clause-end : goal.returns-clause-end
returns-clause-end c =
    at_page (λ xs t. (t ≡ true)
    ↔ IsLast (Admits c.args.query.now c.args.fits.now) answer_cmp (last_of (option_copied c.args.after) xs))
    c.page_of-2.result.answers c.loop-i.answers.items c.page_of-2.result.end c.is_last-end.result
    c.page_of-2.ensures.answers c.page_of-2.ensures.end (end c)

pub returns-clause-following : goal.returns-clause-following
returns-clause-following c =
    let P = Admits c.args.query.now c.args.fits.now in
    let start = option_copied c.args.after in
    at_page (λ xs t. (all : List (List (List Pick))) → AreFollowing P answer_cmp start all
    → (xs ≡ take c.args.count all) × ((t ≡ true) ↔ (length all ≤ c.args.count))) c.page_of-2.result.answers
    c.loop-i.answers.items c.page_of-2.result.end c.is_last-end.result c.page_of-2.ensures.answers
    c.page_of-2.ensures.end
    (page_is answer_order P start c.loop-i.answers.items c.is_last-end.result c.args.count
    c.loop-i.invariant.next (let e = full c in omega arith) (λ h. full c) (end c))

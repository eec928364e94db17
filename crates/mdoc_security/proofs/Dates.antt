-- Texts that are no dates, and the last moment.
use Rattle.std.proofs.Common.{◌≡◌, ℕ, ◌+◌, ◌<◌, ◌≤◌, ◌^◌, ◌==◌, Bool, true, false, ◌&&◌, cond, List, Option}
use Rattle.std.proofs.Common.{Some, None, option_and_then, Result, Err, refl, sym, ap, subst, arith, inl, inr}
use Rattle.std.proofs.Common.{ℤ, pos, negsuc, unsigned_abs, slice_index}
use Rattle.std.specs.Prelude.{◌↔◌}
use Rattle.std.proofs.lemmas.Bool.{and_parts, cases_Bool}
use Rattle.std.proofs.lemmas.Bool.Decides.{nat_tests}
use Rattle.jiff_core.specs.Calendar.{IsCivilDate, days_from_civil, day_count}
use Rattle.jiff_core.proofs.CalendarLemmas.{day_count_bounds, days_from_civil-day_count}
use Rattle.jiff_core.proofs.SignedLemmas.{signed_arith}
use borrow.Author.Differences.{up, down}
use Rattle.base_forms.specs.Tdate.{tdate_form, tdate_of, is_tdate_form, exists_in, seconds_in, has_day}
use Rattle.base_forms.specs.Tdate.{has_time, days_to, digit_at, year_in, month_in, day_in, hour_in, minute_in}
use Rattle.base_forms.specs.Tdate.{second_in}
use Rattle.base_forms.specs.declared.tdate.DateRule.{DateRule}
use Rattle.base_forms.specs.declared.tdate.DateRule.TheVariants.{Form, NoSuch}
use Rattle.base_forms.proofs.Dates.{digit_in}
use Rattle.cbor_core.specs.Views.{find_in, tag_of, utf8_text_of}
use Rattle.mdoc_items.specs.MapFields.{Utf8, Entries}
use Rattle.mdoc_security.specs.MobileSecurityObject.{moment_of, moment_under, moment_at}

formless : (text : List ℕ) → is_tdate_form text ≡ false → None ≡ tdate_of text
unfolding tdate_of
formless text h = sym (ap (λ b. cond (b && exists_in text) (Some (seconds_in text)) None) h)

pub no_date : (text : List ℕ) (r : Result ℕ DateRule) (e : DateRule) → r ≡ Err e
    → (r ≡ Err Form ↔ (is_tdate_form text ≡ false))
    → (r ≡ Err NoSuch → (is_tdate_form text ≡ true) × (exists_in text ≡ false) × (tdate_of text ≡ None))
    → None ≡ tdate_of text
no_date text r Form is form no_such = formless text (form.0 is)
no_date text r NoSuch is form no_such = sym (no_such is).2

-- ---- the last moment is far below the greatest number of 64 bits

abs_small : (z : ℤ) (n : ℕ) → up z + 4_371_953 ≡ down z + n → n ≤ 7_304_849 → unsigned_abs z ≤ 7_304_849
abs_small (pos k) n h le = omega (arith, signed_arith)
abs_small (negsuc k) n h le = omega (arith, signed_arith)

days_small : (y m d : ℕ) → y ≤ 9999 → has_day y m d ≡ true → days_to y m d ≤ 7_304_849
days_small y m d to h =
    let date : IsCivilDate (pos y) m d = grind (arith, nat_tests, signed_arith) in
    abs_small (days_from_civil (pos y) m d) (day_count (pos y) m d) (days_from_civil-day_count (pos y) m d)
    (day_count_bounds (pos y) m d date).1

digit_small : (text : List ℕ) (i : ℕ) → is_tdate_form text ≡ true → i < 20 → slice_index tdate_form i ≡ 48
    → digit_at i text ≤ 9
digit_small text i form lt is = omega (arith, (digit_in text i form lt is).2)

year_small : (text : List ℕ) → is_tdate_form text ≡ true → year_in text ≤ 9999
year_small text form =
    omega (
      arith,
      digit_small text 0 form (omega arith) refl,
      digit_small text 1 form (omega arith) refl,
      digit_small text 2 form (omega arith) refl,
      digit_small text 3 form (omega arith) refl,
    )

seconds_small : (text : List ℕ) → is_tdate_form text ≡ true → exists_in text ≡ true → seconds_in text < 2 ^ 63
seconds_small text form there =
    let both = and_parts (has_day (year_in text) (month_in text) (day_in text))
    (has_time (hour_in text) (minute_in text) (second_in text)) there in
    let days = days_small (year_in text) (month_in text) (day_in text) (year_small text form) both.0 in
    let time : (hour_in text ≤ 23) × (minute_in text ≤ 59) × (second_in text ≤ 59) =
    grind (arith, nat_tests, both.1) in
    omega (arith, days, time.0, time.1, time.2)

some_is : (m n : ℕ) → Some m ≡ Some n → m ≡ n
some_is m n h = cc

small : (text : List ℕ) (n : ℕ) → tdate_of text ≡ Some n → n < 2 ^ 63
unfolding tdate_of
small text n h = elim (cases_Bool (is_tdate_form text && exists_in text)) [
  | inl there ↦
      let both = and_parts (is_tdate_form text) (exists_in text) there in
      let is : Some (seconds_in text) ≡ Some n = (rw there at h) in
      subst (λ k. k < 2 ^ 63) (some_is (seconds_in text) n is) (seconds_small text both.0 both.1)
  | inr none ↦ absurd (cc (rw none at h))
]

and_then_some : {A B : Type 0} (f : A → Option B) (o : Option A) (b : B) (P : Type 0)
    → ((a : A) → f a ≡ Some b → P) → option_and_then f o ≡ Some b → P
and_then_some f None b P k h = absurd (cc h)
and_then_some f (Some a) b P k h = k a h

cond_some : {B : Type 0} (c : Bool) (o : Option B) (b : B) (P : Type 0) → (o ≡ Some b → P)
    → cond c o None ≡ Some b → P
cond_some true o b P k h = k h
cond_some false o b P k h = absurd (cc h)

pub moment_small : (name : Utf8) (es : Entries) (n : ℕ) → moment_at name es ≡ Some n → n < 2 ^ 63
moment_small name es n =
    and_then_some moment_of (find_in name es) n (n < 2 ^ 63) (λ item.
    and_then_some moment_under (tag_of item) n (n < 2 ^ 63) (λ t.
    cond_some (t.0 == 0) (option_and_then tdate_of (utf8_text_of t.1)) n (n < 2 ^ 63)
    (and_then_some tdate_of (utf8_text_of t.1) n (n < 2 ^ 63) (λ text. small text n))))

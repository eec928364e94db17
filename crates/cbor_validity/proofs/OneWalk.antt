-- One walk over an item and the items inside it.
use Rattle.std.proofs.Common.{◌≡◌, ◌≢◌, ℕ, zero, suc, ◌+◌, ◌-◌, ◌<◌, ◌≤◌, ◌&&◌, Bool, true, false, eqb, ◌⊎◌}
use Rattle.std.proofs.Common.{inl, inr, List, [], ◌∷◌, ◌++◌, length, take, drop, Option, Some, None}
use Rattle.std.proofs.Common.{Ok, Err, refl, sym, ap, ap₂, subst, ◌∙◌, append_assoc, arith, IsTrue}
use Rattle.std.specs.Prelude.{if◌then◌else◌, option_map, option_and_then}
use Rattle.std.specs.List.{list_all, concat}
use Rattle.std.proofs.lemmas.Bool.{cases_Bool, ne_eqb, lt-ltb, le-ltb}
use Rattle.std.proofs.lemmas.List.{take_at, take-append-drop, length-append, append-nil, nil_from_length}
use Rattle.std.specs.Str.{is_utf8}
use Rattle.cbor_validity.specs.declared.head.Fault.{Fault}
use Rattle.cbor_validity.specs.declared.head.Fault.TheVariants.{Short, Reserved, Deep}
use Rattle.cbor_validity.specs.declared.head.TheConstants.{MAX_DEPTH}
use Rattle.cbor_validity.specs.declared.head.Head.{Head}
use Rattle.cbor_validity.specs.declared.head.Head.TheVariants as head
use Rattle.cbor_validity.specs.Head.{◌>>=◌, head_at}
use Rattle.cbor_validity.specs.Item.{Reader, string_at, pair_at, times, up_to_break, is_nest, behind}
use Rattle.cbor_validity.specs.Item.{too_deep}
use Rattle.cbor_validity.specs.Item.{item_at}
use Rattle.cbor_validity.specs.Grammar.{IsPair, IsItem, AreParts, AreOpenParts}
use Rattle.cbor_validity.specs.Parts.{before, before_break, items_in, pair_up, inside_by, inside_of}
use Rattle.cbor_validity.specs.Parts.{is_item}
use Rattle.cbor_validity.specs.Keys.{KeyMeaning, key_of, keys_differ, keys_in}
use Rattle.cbor_validity.specs.Fine.{each_below, is_fine_item, checked, is_fine, fine_at}
use Rattle.cbor_validity.specs.code.FineParts.{are_fine, are_entries_fine, fine_list_at, fine_map_at}
use Rattle.cbor_validity.specs.code.FineParts.{fine_entry_at}
use Rattle.cbor_validity.proofs.Fronts.{bind_ok, done, ok_is, head_front}
use Rattle.cbor_validity.proofs.Reading.{Taken, Reads, item_reads, pair_reads, times_takes, break_takes}
use Rattle.cbor_validity.proofs.Reading.{string_takes}
use Rattle.cbor_validity.proofs.Cutting.{either, cut_nil, cut_first, first_shorter, item_from_grammar}
use Rattle.cbor_validity.proofs.Inside.{and_truth, text_fine, list_fine, flat_fine, map_fine}
use Rattle.cbor_validity.proofs.Deeper.{deeper}
use Rattle.cbor_validity.proofs.Steps.{break_short, break_done}

-- ---- a test of what is read

pub through : (test other : List ℕ → Bool) (read same : Reader) (bytes back : List ℕ) → read bytes ≡ same back
    → ((rest : List ℕ) → same back ≡ Ok rest → test (before rest bytes) ≡ other (before rest back))
    → checked test read bytes ≡ checked other same back
through test other read same bytes back e h =
    elim (either (same back)) [
      | inl r ↦ rw (e, r.1, h r.0 r.1) refl
      | inr r ↦ rw (e, r.1) refl
    ]

pub never : (test : List ℕ → Bool) (read : Reader) (bytes : List ℕ)
    → ((rest : List ℕ) → read bytes ≡ Ok rest → test (before rest bytes) ≡ false)
    → checked test read bytes ≡ None
never test read bytes h =
    elim (either (read bytes)) [
      | inl r ↦ rw (r.1, h r.0 r.1) refl
      | inr r ↦ rw r.1 refl
    ]

pub unread : (test : List ℕ → Bool) (read : Reader) (bytes : List ℕ) (f : Fault) → read bytes ≡ Err f
    → checked test read bytes ≡ None
unread test read bytes f e = rw e refl

-- what passed was read, and its test holds
pub record Passed (test : List ℕ → Bool) (read : Reader) (bytes rest : List ℕ) : Type 0 where
  pub is_read : read bytes ≡ Ok rest
  pub holds : test (before rest bytes) ≡ true

some_is : (b : Bool) (x y : List ℕ) → (if b then Some x else None) ≡ Some y → (b ≡ true) × (x ≡ y)
some_is true x y e = (refl, cc)
some_is false x y e = absurd cc

pub passed : (test : List ℕ → Bool) (read : Reader) (bytes rest : List ℕ)
    → checked test read bytes ≡ Some rest → Passed test read bytes rest
passed test read bytes rest e =
    elim (either (read bytes)) [
      | inl r ↦
          let shown : (if test (before r.0 bytes) then Some r.0 else None) ≡ Some rest =
          sym (let s : checked test read bytes ≡
          (if test (before r.0 bytes) then Some r.0 else None) = rw r.1 refl in s) ∙ e in
          let s = some_is (test (before r.0 bytes)) r.0 rest shown in
          record {
            is_read = r.1
                ∙ ap (λ (x : List ℕ). Ok x) s.1;
            holds =
                subst (λ (x : List ℕ). test (before x bytes) ≡ true) s.1 s.0;
          }
      | inr r ↦ absurd (let s : checked test read bytes ≡ None = unread test read bytes r.0 r.1 in cc)
    ]

-- what did not pass, though it was read, fails the test
pub failed : (test : List ℕ → Bool) (read : Reader) (bytes rest : List ℕ) → checked test read bytes ≡ None
    → read bytes ≡ Ok rest → test (before rest bytes) ≡ false
failed test read bytes rest e r =
    elim (cases_Bool (test (before rest bytes))) [
      | inl t ↦ absurd (let s : checked test read bytes ≡ Some rest = rw (r, t) refl in cc)
      | inr t ↦ t
    ]

-- ---- what is before the rest

pub whole_before : (bytes part rest : List ℕ) → bytes ≡ part ++ rest → before rest bytes ≡ part
whole_before bytes part rest e =
    ap (before rest) e ∙ take_at part rest (length (part ++ rest) - length rest)
    (omega (arith, length-append part rest))

before_both : (bytes part after inner rest : List ℕ) → bytes ≡ part ++ after → after ≡ inner ++ rest
    → before rest bytes ≡ part ++ inner
before_both bytes part after inner rest e f =
    whole_before bytes (part ++ inner) rest
    (e ∙ ap (λ (x : List ℕ). part ++ x) f ∙ sym (append_assoc part inner rest))

-- What a reader leaves is the end of what it reads, and what it takes is cut into the same items behind
-- others.
pub record Tail (read : Reader) (inner : List ℕ → List ℕ) : Type 0 where
  pub ends : (bytes rest : List ℕ) → read bytes ≡ Ok rest → bytes ≡ before rest bytes ++ rest
  pub behind_all : (bytes rest front : List ℕ) → read bytes ≡ Ok rest
      → inner (front ++ before rest bytes) ≡ front ++ inner (before rest bytes)

taken_ends : (Part : List ℕ → Type 0) (bytes rest : List ℕ) (t : Taken Part bytes rest)
    → bytes ≡ before rest bytes ++ rest
taken_ends Part bytes rest t =
    t.whole ∙ ap (λ (x : List ℕ). x ++ rest) (sym (whole_before bytes t.part rest t.whole))

without_last : (front : List ℕ) → before_break (front ++ (255 ∷ [])) ≡ front
without_last front =
    take_at front (255 ∷ []) (length (front ++ (255 ∷ [])) - 1)
    (omega (arith, length-append front (255 ∷ [])))

module _ (read : Reader) (Part : List ℕ → Type 0) (reads : Reads read Part) where
  part_ends : (bytes rest : List ℕ) → read bytes ≡ Ok rest → bytes ≡ before rest bytes ++ rest
  part_ends bytes rest e = taken_ends Part bytes rest (reads.takes bytes rest e)

  times_tail : (n : ℕ) → Tail (times read n) (λ c. c)
  times_tail n = record {
    ends = λ bytes rest e. taken_ends (AreParts Part n) bytes rest
        (times_takes read Part reads n bytes rest e);
    behind_all = λ bytes rest front e. refl;
  }

  break_tail : (turns : ℕ) → Tail (up_to_break read turns) before_break
  break_tail turns = record {
    ends = λ bytes rest e. taken_ends (AreOpenParts Part) bytes rest
        (break_takes read Part reads turns bytes rest e);
    behind_all = λ bytes rest front e.
        let t = break_takes read Part reads turns bytes rest e in
        let is : before rest bytes ≡ concat t.is_part.0 ++ (255 ∷ []) = whole_before bytes t.part rest t.whole
        ∙ t.is_part.2 in
        ap (λ (x : List ℕ). before_break (front ++ x)) is
        ∙ ap before_break (sym (append_assoc front (concat t.is_part.0) (255 ∷ [])))
        ∙ without_last (front ++ concat t.is_part.0)
        ∙ ap (λ (x : List ℕ). front ++ x) (sym (ap before_break is ∙ without_last (concat t.is_part.0)));
  }

-- ---- items

item_ends : (depth : ℕ) (bytes rest : List ℕ) → item_at depth bytes ≡ Ok rest
    → bytes ≡ before rest bytes ++ rest
item_ends depth = part_ends (item_at depth) (IsItem depth) (item_reads depth)

-- an item and what follows are cut into the item and the items of what follows
item_and_more : (depth : ℕ) (bytes rest more : List ℕ) → depth ≤ MAX_DEPTH → item_at depth bytes ≡ Ok rest
    → items_in (before rest bytes ++ more) ≡ before rest bytes ∷ items_in more
unfolding items_in
item_and_more depth bytes rest more le e =
    let t = (item_reads depth).takes bytes rest e in
    let is : before rest bytes ≡ t.part = whole_before bytes t.part rest t.whole in
    let again : item_at MAX_DEPTH (t.part ++ more) ≡ Ok more =
    (item_reads MAX_DEPTH).again t.part more (deeper depth MAX_DEPTH t.part le t.is_part) in
    ap (λ (x : List ℕ). items_in (x ++ more)) is
    ∙ cut_first (item_at MAX_DEPTH) (IsItem MAX_DEPTH) (item_reads MAX_DEPTH) (t.part ++ more) more again
    ∙ ap (λ (x : List ℕ). x ∷ items_in more) (whole_before (t.part ++ more) t.part more refl ∙ sym is)

module _ (depth : ℕ) (le : depth ≤ MAX_DEPTH) (later : Reader) (inner : List ℕ → List ℕ)
    (tail : Tail later inner) where
  -- the items of one item and of what is read later
  first_cut : (bytes after rest : List ℕ) → item_at depth bytes ≡ Ok after → later after ≡ Ok rest
      → items_in (inner (before rest bytes)) ≡ before after bytes ∷ items_in (inner (before rest after))
  first_cut bytes after rest e f =
      let both : before rest bytes ≡ before after bytes ++ before rest after =
      before_both bytes (before after bytes) after (before rest after) rest
      (item_ends depth bytes after e) (tail.ends after rest f) in
      ap (λ (x : List ℕ). items_in (inner x)) both
      ∙ ap items_in (tail.behind_all after rest (before after bytes) f)
      ∙ item_and_more depth bytes after (inner (before rest after)) le e

  more_tail : Tail (λ bytes. item_at depth bytes >>= later) inner
  more_tail = record {
    ends = λ bytes rest e.
        let s = bind_ok (item_at depth bytes) later rest e in
        let both : before rest bytes ≡ before s.0 bytes ++ before rest s.0 =
        before_both bytes (before s.0 bytes) s.0 (before rest s.0) rest (item_ends depth bytes s.0 s.1)
        (tail.ends s.0 rest s.2) in
        item_ends depth bytes s.0 s.1
        ∙ ap (λ (x : List ℕ). before s.0 bytes ++ x) (tail.ends s.0 rest s.2)
        ∙ sym (append_assoc (before s.0 bytes) (before rest s.0) rest)
        ∙ ap (λ (x : List ℕ). x ++ rest) (sym both);
    behind_all = λ bytes rest front e.
        let s = bind_ok (item_at depth bytes) later rest e in
        let both : before rest bytes ≡ before s.0 bytes ++ before rest s.0 =
        before_both bytes (before s.0 bytes) s.0 (before rest s.0) rest (item_ends depth bytes s.0 s.1)
        (tail.ends s.0 rest s.2) in
        ap (λ (x : List ℕ). inner (front ++ x)) both
        ∙ ap inner (sym (append_assoc front (before s.0 bytes) (before rest s.0)))
        ∙ tail.behind_all s.0 rest (front ++ before s.0 bytes) s.2
        ∙ append_assoc front (before s.0 bytes) (inner (before rest s.0))
        ∙ ap (λ (x : List ℕ). front ++ x)
        (sym (ap inner both ∙ tail.behind_all s.0 rest (before s.0 bytes) s.2));
  }

  pub list_step : (read : Reader) (bytes after : List ℕ) → read bytes ≡ (item_at depth bytes >>= later)
      → fine_at depth bytes ≡ Some after
      → checked (λ c. are_fine depth (inner c)) read bytes ≡ checked
      (λ c. are_fine depth (inner c)) later after
  list_step read bytes after e f =
      let p = passed (is_fine depth) (item_at depth) bytes after f in
      let step : read bytes ≡ later after = e ∙ rw p.is_read refl in
      through (λ c. are_fine depth (inner c)) (λ c. are_fine depth (inner c)) read later bytes after step
      (λ rest r.
      ap (list_all (is_fine depth)) (first_cut bytes after rest p.is_read r)
      ∙ ap (λ (b : Bool). b && are_fine depth (inner (before rest after))) p.holds)

  pub list_fails : (read : Reader) (bytes : List ℕ) → read bytes ≡ (item_at depth bytes >>= later)
      → fine_at depth bytes ≡ None → checked (λ c. are_fine depth (inner c)) read bytes ≡ None
  list_fails read bytes e f =
      never (λ c. are_fine depth (inner c)) read bytes (λ rest r.
      let s = bind_ok (item_at depth bytes) later rest (sym e ∙ r) in
      let wrong = failed (is_fine depth) (item_at depth) bytes s.0 f s.1 in
      ap (list_all (is_fine depth)) (first_cut bytes s.0 rest s.1 s.2)
      ∙ ap (λ (b : Bool). b && are_fine depth (inner (before rest s.0))) wrong)

-- ---- strings

string_before : (n : ℕ) (bytes : List ℕ) → n ≤ length bytes → before (drop n bytes) bytes ≡ take n bytes
string_before n bytes le = whole_before bytes (take n bytes) (drop n bytes) (sym (take-append-drop n bytes))

pub short_text : (n : ℕ) (bytes : List ℕ) → length bytes < n → checked is_utf8 (string_at n) bytes ≡ None
unfolding string_at
short_text n bytes lt = rw (lt-ltb (length bytes) n lt) refl

long_text : (n : ℕ) (bytes : List ℕ) → n ≤ length bytes
    → checked is_utf8 (string_at n) bytes ≡ (if is_utf8 (take n bytes) then Some (drop n bytes) else None)
unfolding string_at
long_text n bytes le =
    rw (le-ltb (length bytes) n le)
    (ap (λ (x : List ℕ). if is_utf8 x then Some (drop n bytes) else None) (string_before n bytes le))

pub right_text : (n : ℕ) (bytes : List ℕ) → n ≤ length bytes → is_utf8 (take n bytes) ≡ true
    → checked is_utf8 (string_at n) bytes ≡ Some (drop n bytes)
right_text n bytes le e = long_text n bytes le ∙ rw e refl

pub wrong_text : (n : ℕ) (bytes : List ℕ) → n ≤ length bytes → is_utf8 (take n bytes) ≡ false
    → checked is_utf8 (string_at n) bytes ≡ None
wrong_text n bytes le e = long_text n bytes le ∙ rw e refl

-- ---- ends of loops

before_all : (bytes : List ℕ) → before bytes bytes ≡ []
before_all bytes = whole_before bytes [] bytes refl

no_items : items_in [] ≡ []
unfolding items_in
no_items = cut_nil (item_at MAX_DEPTH) 0

-- keys that stand before those of entries
abbrev pub entries_after : ℕ → List KeyMeaning → List ℕ → Bool
entries_after depth keys bytes =
    are_fine depth bytes && keys_differ (keys ++ keys_in (pair_up (items_in bytes)))

nothing_fine : (depth : ℕ) (bytes : List ℕ) → bytes ≡ [] → are_fine depth bytes ≡ true
nothing_fine depth bytes e = ap (are_fine depth) e ∙ ap (list_all (is_fine depth)) no_items

nothing_after : (depth : ℕ) (keys : List KeyMeaning) (bytes : List ℕ) → bytes ≡ []
    → entries_after depth keys bytes ≡ keys_differ keys
nothing_after depth keys bytes e =
    ap (entries_after depth keys) e
    ∙ ap (λ (xs : List (List ℕ)). list_all (is_fine depth) xs && keys_differ (keys ++ keys_in (pair_up xs)))
    no_items
    ∙ ap keys_differ (append-nil keys)

pub list_end : (depth : ℕ) (read : Reader) (bytes rest : List ℕ) (inner : List ℕ → List ℕ)
    → read bytes ≡ Ok rest → inner (before rest bytes) ≡ []
    → checked (λ c. are_fine depth (inner c)) read bytes ≡ Some rest
list_end depth read bytes rest inner e n = rw (e, nothing_fine depth (inner (before rest bytes)) n) refl

pub entries_end : (depth : ℕ) (keys : List KeyMeaning) (read : Reader) (bytes rest : List ℕ)
    (inner : List ℕ → List ℕ) → read bytes ≡ Ok rest → inner (before rest bytes) ≡ []
    → checked (λ c. entries_after depth keys (inner c)) read bytes ≡
    (if keys_differ keys then Some rest else None)
entries_end depth keys read bytes rest inner e n =
    rw (e, nothing_after depth keys (inner (before rest bytes)) n) refl

-- ---- entries

option_both : {A B : Type 0} (o : Option A) (f : A → Option B) (y : B) → option_and_then f o ≡ Some y
    → (x : A) × (o ≡ Some x) × (f x ≡ Some y)
option_both (Some x) f y e = (x, refl, e)
option_both None f y e = absurd cc

option_mapped : {A B : Type 0} (o : Option A) (f : A → B) (y : B) → option_map f o ≡ Some y
    → (x : A) × (o ≡ Some x) × (f x ≡ y)
option_mapped (Some x) f y e = (x, refl, cc)
option_mapped None f y e = absurd cc

option_either : {A : Type 0} (o : Option A) → ((x : A) × (o ≡ Some x)) ⊎ (o ≡ None)
option_either (Some x) = inl (x, refl)
option_either None = inr refl

pub record Entry (depth : ℕ) (bytes after : List ℕ) (key : KeyMeaning) : Type 0 where
  pub back : List ℕ
  pub key_read : Passed (is_fine depth) (item_at depth) bytes back
  pub value_read : Passed (is_fine depth) (item_at depth) back after
  pub key_is : key_of (before back bytes) ≡ key

entry_read : (depth : ℕ) (bytes after : List ℕ) (key : KeyMeaning)
    → fine_entry_at depth bytes ≡ Some (key, after) → Entry depth bytes after key
entry_read depth bytes after key e =
    let s = option_both (fine_at depth bytes)
    (λ back. option_map (λ rest. (key_of (before back bytes), rest)) (fine_at depth back))
    (key, after) e in
    let t = option_mapped (fine_at depth s.0) (λ (rest : List ℕ). (key_of (before s.0 bytes), rest))
    (key, after) s.2 in
    record {
      back = s.0;
      key_read = passed (is_fine depth) (item_at depth) bytes s.0 s.1;
      value_read = passed (is_fine depth) (item_at depth) s.0 after
          (t.1 ∙ ap (λ (p : KeyMeaning × List ℕ). Some p.1) t.2);
      key_is = ap (λ (p : KeyMeaning × List ℕ). p.0) t.2;
    }

second_false : (a b : Bool) → (a && (false && b)) ≡ false
second_false true b = refl
second_false false b = refl

unfine_pair : (depth : ℕ) (bytes back after : List ℕ) (others : Bool) → item_at depth bytes ≡ Ok back
    → item_at depth back ≡ Ok after → fine_entry_at depth bytes ≡ None
    → (is_fine depth (before back bytes) && (is_fine depth (before after back) && others)) ≡ false
unfine_pair depth bytes back after others e f none =
    elim (cases_Bool (is_fine depth (before back bytes))) [
      | inl key ↦ elim (cases_Bool (is_fine depth (before after back))) [
        | inl value ↦ absurd (
            let first : fine_at depth bytes ≡ Some back = rw (e, key) refl in
            let second : fine_at depth back ≡ Some after = rw (f, value) refl in
            let some : fine_entry_at depth bytes ≡ Some (key_of (before back bytes), after) =
            rw (first, second) refl in
            cc)
        | inr value ↦ ap (λ (b : Bool). is_fine depth (before back bytes) && (b && others)) value
            ∙ second_false (is_fine depth (before back bytes)) others
      ]
      | inr key ↦ ap (λ (b : Bool). b && (is_fine depth (before after back) && others)) key
    ]

module _ (depth : ℕ) (le : depth ≤ MAX_DEPTH) (later : Reader) (inner : List ℕ → List ℕ)
    (tail : Tail later inner) where
  two_cut : (bytes back after rest : List ℕ) → item_at depth bytes ≡ Ok back → item_at depth back ≡ Ok after
      → later after ≡ Ok rest
      → items_in (inner (before rest bytes)) ≡ before back bytes ∷ before after back ∷ items_in
      (inner (before rest after))
  two_cut bytes back after rest e f r =
      let later_read : (item_at depth back >>= later) ≡ Ok rest = rw f r in
      first_cut depth le (λ b. item_at depth b >>= later) inner
      (more_tail depth le later inner tail) bytes back rest e later_read
      ∙ ap (λ (xs : List (List ℕ)). before back bytes ∷ xs)
      (first_cut depth le later inner tail back after rest f r)

  pub entries_step : (read : Reader) (keys : List KeyMeaning) (key : KeyMeaning) (bytes after : List ℕ)
      → read bytes ≡ (pair_at (item_at depth) bytes >>= later) → fine_entry_at depth bytes ≡ Some (key, after)
      → checked (λ c. entries_after depth keys (inner c)) read bytes ≡ checked
      (λ c. entries_after depth (keys ++ (key ∷ [])) (inner c)) later after
  entries_step read keys key bytes after e f =
      let entry = entry_read depth bytes after key f in
      let step : read bytes ≡ later after = e ∙ rw (entry.key_read.is_read, entry.value_read.is_read) refl in
      through (λ c. entries_after depth keys (inner c))
      (λ c. entries_after depth (keys ++ (key ∷ [])) (inner c)) read later bytes after step (λ rest r.
      let others = items_in (inner (before rest after)) in
      ap (λ (xs : List (List ℕ)). list_all (is_fine depth) xs && keys_differ (keys ++ keys_in (pair_up xs)))
      (two_cut bytes entry.back after rest entry.key_read.is_read entry.value_read.is_read r)
      ∙ ap₂ (λ (a b : Bool). (a && (b && list_all (is_fine depth) others)) && keys_differ
      (keys ++ (key_of (before entry.back bytes) ∷ keys_in (pair_up others)))) entry.key_read.holds
      entry.value_read.holds
      ∙ ap (λ (ks : List KeyMeaning). list_all (is_fine depth) others && keys_differ ks)
      (ap (λ (k : KeyMeaning). keys ++ (k ∷ keys_in (pair_up others))) entry.key_is
      ∙ sym (append_assoc keys (key ∷ []) (keys_in (pair_up others)))))

  pub entries_fail : (read : Reader) (keys : List KeyMeaning) (bytes : List ℕ)
      → read bytes ≡ (pair_at (item_at depth) bytes >>= later) → fine_entry_at depth bytes ≡ None
      → checked (λ c. entries_after depth keys (inner c)) read bytes ≡ None
  entries_fail read keys bytes e f =
      never (λ c. entries_after depth keys (inner c)) read bytes (λ rest r.
      let s = bind_ok (pair_at (item_at depth) bytes) later rest (sym e ∙ r) in
      let p = bind_ok (item_at depth bytes) (item_at depth) s.0 s.1 in
      let others = items_in (inner (before rest s.0)) in
      let all : (are_fine depth (inner (before rest bytes))) ≡ false =
      ap (list_all (is_fine depth)) (two_cut bytes p.0 s.0 rest p.1 p.2 s.2)
      ∙ unfine_pair depth bytes p.0 s.0 (list_all (is_fine depth) others) p.1 p.2 f in
      ap (λ (b : Bool). b && keys_differ (keys ++ keys_in (pair_up (items_in (inner (before rest bytes))))))
      all)

-- ---- the loops

item_parts : (depth : ℕ) (n : ℕ) → Tail (times (item_at depth) n) (λ c. c)
item_parts depth = times_tail (item_at depth) (IsItem depth) (item_reads depth)

open_parts : (depth : ℕ) (turns : ℕ) → Tail (up_to_break (item_at depth) turns) before_break
open_parts depth = break_tail (item_at depth) (IsItem depth) (item_reads depth)

pair_parts : (depth : ℕ) (n : ℕ) → Tail (times (pair_at (item_at depth)) n) (λ c. c)
pair_parts depth =
    times_tail (pair_at (item_at depth)) (IsPair (IsItem depth))
    (pair_reads (item_at depth) (IsItem depth) (item_reads depth))

open_pairs : (depth : ℕ) (turns : ℕ) → Tail (up_to_break (pair_at (item_at depth)) turns) before_break
open_pairs depth =
    break_tail (pair_at (item_at depth)) (IsPair (IsItem depth))
    (pair_reads (item_at depth) (IsItem depth) (item_reads depth))

one_more : (read : Reader) (n i : ℕ) (bytes : List ℕ) → i < n
    → times read (n - i) bytes ≡ (read bytes >>= times read (n - (i + 1)))
unfolding times
one_more read n i bytes lt = let k : n - i ≡ suc (n - (i + 1)) = omega arith in rw k refl

no_more : (read : Reader) (n i : ℕ) (bytes : List ℕ) → n ≤ i → times read (n - i) bytes ≡ Ok bytes
unfolding times
no_more read n i bytes le = let k : n - i ≡ 0 = omega arith in rw k refl

one_more_open : (read : Reader) (n i b : ℕ) (tail bytes : List ℕ) → i < n → bytes ≡ b ∷ tail → b ≢ 255
    → up_to_break read (n - i) bytes ≡ (read bytes >>= up_to_break read (n - (i + 1)))
unfolding up_to_break
one_more_open read n i b tail bytes lt is ne =
    let k : n - i ≡ suc (n - (i + 1)) = omega arith in
    let test : eqb b 255 ≡ false = ne_eqb b 255 ne in
    rw (k, is, test) refl

at_break : (read : Reader) (n i b : ℕ) (tail bytes : List ℕ) → i < n → bytes ≡ b ∷ tail → b ≡ 255
    → up_to_break read (n - i) bytes ≡ Ok tail
unfolding up_to_break
at_break read n i b tail bytes lt is e = let k : n - i ≡ suc (n - (i + 1)) = omega arith in rw (k, is, e) refl

only_break : (b : ℕ) (tail bytes : List ℕ) → bytes ≡ b ∷ tail → before_break (before tail bytes) ≡ []
only_break b tail bytes is = ap before_break (whole_before bytes (b ∷ []) tail is)

pub items_step : (depth n i : ℕ) (bytes after : List ℕ) (total : Option (List ℕ)) → depth ≤ MAX_DEPTH → i < n
    → fine_at depth bytes ≡ Some after
    → checked (are_fine depth) (times (item_at depth) (n - i)) bytes ≡ total
    → checked (are_fine depth) (times (item_at depth) (n - (i + 1))) after ≡ total
items_step depth n i bytes after total le lt f so_far =
    sym (list_step depth le (times (item_at depth) (n - (i + 1))) (λ c. c) (item_parts depth (n - (i + 1)))
    (times (item_at depth) (n - i)) bytes after (one_more (item_at depth) n i bytes lt) f) ∙ so_far

pub items_fail : (depth n i : ℕ) (bytes : List ℕ) (total : Option (List ℕ)) → depth ≤ MAX_DEPTH → i < n
    → fine_at depth bytes ≡ None → checked (are_fine depth) (times (item_at depth) (n - i)) bytes ≡ total
    → None ≡ total
items_fail depth n i bytes total le lt f so_far =
    sym (list_fails depth le (times (item_at depth) (n - (i + 1))) (λ c. c) (item_parts depth (n - (i + 1)))
    (times (item_at depth) (n - i)) bytes (one_more (item_at depth) n i bytes lt) f) ∙ so_far

pub items_done : (depth n i : ℕ) (bytes : List ℕ) (total : Option (List ℕ)) → n ≤ i
    → checked (are_fine depth) (times (item_at depth) (n - i)) bytes ≡ total → Some bytes ≡ total
items_done depth n i bytes total le so_far =
    sym (list_end depth (times (item_at depth) (n - i)) bytes bytes (λ c. c)
    (no_more (item_at depth) n i bytes le) (before_all bytes)) ∙ so_far

pub open_step : (depth n i b : ℕ) (tail bytes after : List ℕ) (total : Option (List ℕ)) → depth ≤ MAX_DEPTH
    → i < n → bytes ≡ b ∷ tail → b ≢ 255 → fine_at depth bytes ≡ Some after
    → checked (λ c. are_fine depth (before_break c)) (up_to_break (item_at depth) (n - i)) bytes ≡ total
    → checked (λ c. are_fine depth (before_break c)) (up_to_break (item_at depth) (n - (i + 1))) after ≡ total
open_step depth n i b tail bytes after total le lt is ne f so_far =
    sym (list_step depth le (up_to_break (item_at depth) (n - (i + 1))) before_break
    (open_parts depth (n - (i + 1))) (up_to_break (item_at depth) (n - i)) bytes after
    (one_more_open (item_at depth) n i b tail bytes lt is ne) f) ∙ so_far

pub open_fail : (depth n i b : ℕ) (tail bytes : List ℕ) (total : Option (List ℕ)) → depth ≤ MAX_DEPTH → i < n
    → bytes ≡ b ∷ tail → b ≢ 255 → fine_at depth bytes ≡ None
    → checked (λ c. are_fine depth (before_break c)) (up_to_break (item_at depth) (n - i)) bytes ≡ total
    → None ≡ total
open_fail depth n i b tail bytes total le lt is ne f so_far =
    sym (list_fails depth le (up_to_break (item_at depth) (n - (i + 1))) before_break
    (open_parts depth (n - (i + 1))) (up_to_break (item_at depth) (n - i)) bytes
    (one_more_open (item_at depth) n i b tail bytes lt is ne) f) ∙ so_far

pub open_done : (depth n i b : ℕ) (tail bytes : List ℕ) (total : Option (List ℕ)) → i < n → bytes ≡ b ∷ tail
    → b ≡ 255 → checked (λ c. are_fine depth (before_break c)) (up_to_break (item_at depth) (n - i)) bytes
    ≡ total → Some tail ≡ total
open_done depth n i b tail bytes total lt is e so_far =
    sym (list_end depth (up_to_break (item_at depth) (n - i)) bytes tail before_break
    (at_break (item_at depth) n i b tail bytes lt is e) (only_break b tail bytes is)) ∙ so_far

-- the bytes end before the break, or no turns are left
pub no_break : (test : List ℕ → Bool) (read : Reader) (turns : ℕ) (bytes : List ℕ) (total : Option (List ℕ))
    → (length bytes ≡ 0) ⊎ (turns ≡ 0) → checked test (up_to_break read turns) bytes ≡ total → None ≡ total
no_break test read turns bytes total (inl e) so_far =
    sym (unread test (up_to_break read turns) bytes Short
    (break_short read turns bytes (up_to_break read turns bytes) e refl)) ∙ so_far
no_break test read turns bytes total (inr e) so_far =
    sym (unread test (up_to_break read turns) bytes Short
    (break_done read 0 0 bytes (up_to_break read turns bytes) (omega arith)
    (ap (λ (n : ℕ). up_to_break read n bytes) (sym e)))) ∙ so_far

pub entries_next : (depth n i : ℕ) (keys : List KeyMeaning) (key : KeyMeaning) (bytes after : List ℕ)
    (total : Option (List ℕ)) → depth ≤ MAX_DEPTH → i < n → fine_entry_at depth bytes ≡ Some (key, after)
    → checked (entries_after depth keys) (times (pair_at (item_at depth)) (n - i)) bytes ≡ total
    → checked (entries_after depth (keys ++ (key ∷ []))) (times (pair_at (item_at depth)) (n - (i + 1))) after
    ≡ total
entries_next depth n i keys key bytes after total le lt f so_far =
    sym (entries_step depth le (times (pair_at (item_at depth)) (n - (i + 1))) (λ c. c)
    (pair_parts depth (n - (i + 1))) (times (pair_at (item_at depth)) (n - i)) keys key bytes after
    (one_more (pair_at (item_at depth)) n i bytes lt) f) ∙ so_far

pub entries_stop : (depth n i : ℕ) (keys : List KeyMeaning) (bytes : List ℕ) (total : Option (List ℕ))
    → depth ≤ MAX_DEPTH → i < n → fine_entry_at depth bytes ≡ None
    → checked (entries_after depth keys) (times (pair_at (item_at depth)) (n - i)) bytes ≡ total
    → None ≡ total
entries_stop depth n i keys bytes total le lt f so_far =
    sym (entries_fail depth le (times (pair_at (item_at depth)) (n - (i + 1))) (λ c. c)
    (pair_parts depth (n - (i + 1))) (times (pair_at (item_at depth)) (n - i)) keys bytes
    (one_more (pair_at (item_at depth)) n i bytes lt) f) ∙ so_far

pub entries_done : (depth n i : ℕ) (keys : List KeyMeaning) (bytes : List ℕ) (total : Option (List ℕ)) → n ≤ i
    → checked (entries_after depth keys) (times (pair_at (item_at depth)) (n - i)) bytes ≡ total
    → (if keys_differ keys then Some bytes else None) ≡ total
entries_done depth n i keys bytes total le so_far =
    sym (entries_end depth keys (times (pair_at (item_at depth)) (n - i)) bytes bytes (λ c. c)
    (no_more (pair_at (item_at depth)) n i bytes le) (before_all bytes)) ∙ so_far

pub open_entries_next : (depth n i b : ℕ) (keys : List KeyMeaning) (key : KeyMeaning)
    (tail bytes after : List ℕ) (total : Option (List ℕ)) → depth ≤ MAX_DEPTH → i < n → bytes ≡ b ∷ tail
    → b ≢ 255 → fine_entry_at depth bytes ≡ Some (key, after)
    → checked (λ c. entries_after depth keys (before_break c))
    (up_to_break (pair_at (item_at depth)) (n - i)) bytes ≡ total
    → checked (λ c. entries_after depth (keys ++ (key ∷ [])) (before_break c))
    (up_to_break (pair_at (item_at depth)) (n - (i + 1))) after ≡ total
open_entries_next depth n i b keys key tail bytes after total le lt is ne f so_far =
    sym (entries_step depth le (up_to_break (pair_at (item_at depth)) (n - (i + 1))) before_break
    (open_pairs depth (n - (i + 1))) (up_to_break (pair_at (item_at depth)) (n - i)) keys key bytes after
    (one_more_open (pair_at (item_at depth)) n i b tail bytes lt is ne) f) ∙ so_far

pub open_entries_stop : (depth n i b : ℕ) (keys : List KeyMeaning) (tail bytes : List ℕ)
    (total : Option (List ℕ)) → depth ≤ MAX_DEPTH → i < n → bytes ≡ b ∷ tail → b ≢ 255
    → fine_entry_at depth bytes ≡ None
    → checked (λ c. entries_after depth keys (before_break c))
    (up_to_break (pair_at (item_at depth)) (n - i)) bytes ≡ total → None ≡ total
open_entries_stop depth n i b keys tail bytes total le lt is ne f so_far =
    sym (entries_fail depth le (up_to_break (pair_at (item_at depth)) (n - (i + 1))) before_break
    (open_pairs depth (n - (i + 1))) (up_to_break (pair_at (item_at depth)) (n - i)) keys bytes
    (one_more_open (pair_at (item_at depth)) n i b tail bytes lt is ne) f) ∙ so_far

pub open_entries_done : (depth n i b : ℕ) (keys : List KeyMeaning) (tail bytes : List ℕ)
    (total : Option (List ℕ)) → i < n → bytes ≡ b ∷ tail → b ≡ 255
    → checked (λ c. entries_after depth keys (before_break c))
    (up_to_break (pair_at (item_at depth)) (n - i)) bytes ≡ total
    → (if keys_differ keys then Some tail else None) ≡ total
open_entries_done depth n i b keys tail bytes total lt is e so_far =
    sym (entries_end depth keys (up_to_break (pair_at (item_at depth)) (n - i)) bytes tail before_break
    (at_break (pair_at (item_at depth)) n i b tail bytes lt is e) (only_break b tail bytes is)) ∙ so_far

-- ---- by the head

head_before : (bytes : List ℕ) (h : Head) (back inner rest : List ℕ) → head_at bytes ≡ Ok (h, back)
    → back ≡ inner ++ rest → head_at (before rest bytes) ≡ Ok (h, inner)
head_before bytes h back inner rest e is =
    let f = head_front bytes h back e in
    let whole : bytes ≡ (f.first ∷ (f.others ++ inner)) ++ rest =
    f.parts ∙ ap (λ (x : List ℕ). f.first ∷ (f.others ++ x)) is
    ∙ ap (λ (x : List ℕ). f.first ∷ x) (sym (append_assoc f.others inner rest)) in
    ap head_at (whole_before bytes (f.first ∷ (f.others ++ inner)) rest whole) ∙ f.again inner

pub headless : (depth : ℕ) (bytes : List ℕ) (f : Fault) → head_at bytes ≡ Err f → fine_at depth bytes ≡ None
unfolding item_at
headless zero bytes f e = unread (is_fine zero) (item_at zero) bytes f (rw e refl)
headless (suc depth) bytes f e = unread (is_fine (suc depth)) (item_at (suc depth)) bytes f (rw e refl)

behind_head : (depth : ℕ) (bytes : List ℕ) (h : Head) (back : List ℕ) → head_at bytes ≡ Ok (h, back)
    → is_nest h ≡ false → item_at depth bytes ≡ behind too_deep h back
unfolding item_at behind
behind_head zero bytes h back e n = rw (e, n) refl
behind_head (suc depth) bytes (head.Unsigned n) back e flat = rw e refl
behind_head (suc depth) bytes (head.Negative n) back e flat = rw e refl
behind_head (suc depth) bytes (head.Bytes n) back e flat = rw e refl
behind_head (suc depth) bytes (head.Text n) back e flat = rw e refl
behind_head (suc depth) bytes (head.List n) back e flat = absurd cc
behind_head (suc depth) bytes (head.Map n) back e flat = absurd cc
behind_head (suc depth) bytes (head.Tag n) back e flat = absurd cc
behind_head (suc depth) bytes (head.Simple n) back e flat = rw e refl
behind_head (suc depth) bytes head.Float back e flat = rw e refl
behind_head (suc depth) bytes head.Break back e flat = rw e refl

pub too_deep_fine : (bytes : List ℕ) (h : Head) (back : List ℕ) → head_at bytes ≡ Ok (h, back)
    → is_nest h ≡ true → fine_at zero bytes ≡ None
unfolding item_at
too_deep_fine bytes h back e n = unread (is_fine zero) (item_at zero) bytes Deep (rw (e, n) refl)

deep_behind : (depth : ℕ) (bytes : List ℕ) (h : Head) (back : List ℕ) → 0 < depth
    → head_at bytes ≡ Ok (h, back) → item_at depth bytes ≡ behind (item_at (depth - 1)) h back
unfolding item_at
deep_behind zero bytes h back lt e = absurd (omega arith)
deep_behind (suc depth) bytes h back lt e = let d : suc depth - 1 ≡ depth = omega arith in rw (e, d) refl

below_is : (depth : ℕ) → 0 < depth → each_below is_fine_item depth ≡ is_fine (depth - 1)
below_is zero lt = absurd (omega arith)
below_is (suc depth) lt = let d : suc depth - 1 ≡ depth = omega arith in rw d refl

pub fine_shorter : (depth : ℕ) (bytes rest : List ℕ) → fine_at depth bytes ≡ Some rest
    → length rest ≤ length bytes
fine_shorter depth bytes rest e =
    let p = passed (is_fine depth) (item_at depth) bytes rest e in
    let less : length rest < length bytes = first_shorter depth bytes rest p.is_read in
    omega arith

-- ---- what the head decides

-- What stands behind a head that is read and tested as the whole item is.
module _ (depth : ℕ) (bytes : List ℕ) (h : Head) (back : List ℕ) (at : head_at bytes ≡ Ok (h, back)) where
  by_head : (test : List ℕ → Bool) (read : Reader) → item_at depth bytes ≡ read back
      → ((rest : List ℕ) → read back ≡ Ok rest → back ≡ before rest back ++ rest)
      → ((item inner : List ℕ) → head_at item ≡ Ok (h, inner) → is_fine depth item ≡ test inner)
      → fine_at depth bytes ≡ checked test read back
  by_head test read e ends same =
      through (is_fine depth) test (item_at depth) read bytes back e
      (λ rest r. same (before rest bytes) (before rest back)
      (head_before bytes h back (before rest back) rest at (ends rest r)))

string_ends : (n : ℕ) (bytes rest : List ℕ) → string_at n bytes ≡ Ok rest → bytes ≡ before rest bytes ++ rest
string_ends n bytes rest e = taken_ends (λ x. length x ≡ n) bytes rest (string_takes n bytes rest e)

nothing_ends : (bytes rest : List ℕ) → done bytes ≡ done rest → bytes ≡ before rest bytes ++ rest
nothing_ends bytes rest e = let same : bytes ≡ rest =
    ok_is bytes rest e in same
    ∙ sym (ap (λ (x : List ℕ). before rest x ++ rest) same ∙ ap (λ (x : List ℕ). x ++ rest) (before_all rest))

-- a whole number, a simple value or a float
pub flat_head : (depth : ℕ) (bytes : List ℕ) (h : Head) (back : List ℕ) → head_at bytes ≡ Ok (h, back)
    → ((n : ℕ) × (h ≡ head.Unsigned n))
    ⊎ (((n : ℕ) × (h ≡ head.Negative n)) ⊎ (((n : ℕ) × (h ≡ head.Simple n)) ⊎ (h ≡ head.Float)))
    → Some back ≡ fine_at depth bytes
unfolding behind
flat_head depth bytes h back at is =
    let nest : is_nest h ≡ false = elim is [
      | inl x ↦ ap is_nest x.1
      | inr (inl x) ↦ ap is_nest x.1
      | inr (inr (inl x)) ↦ ap is_nest x.1
      | inr (inr (inr x)) ↦ ap is_nest x
    ] in
    let nothing : behind too_deep h back ≡ Ok back = elim is [
      | inl x ↦ ap (λ (y : Head). behind too_deep y back) x.1
      | inr (inl x) ↦ ap (λ (y : Head). behind too_deep y back) x.1
      | inr (inr (inl x)) ↦ ap (λ (y : Head). behind too_deep y back) x.1
      | inr (inr (inr x)) ↦ ap (λ (y : Head). behind too_deep y back) x
    ] in
    let kinds : ((n : ℕ) × (h ≡ head.Unsigned n))
    ⊎ (((n : ℕ) × (h ≡ head.Negative n))
    ⊎ (((n : ℕ) × (h ≡ head.Bytes n))
    ⊎ (((n : ℕ) × (h ≡ head.Simple n)) ⊎ ((h ≡ head.Float) ⊎ (h ≡ head.Break))))) = elim is [
      | inl x ↦ inl x
      | inr (inl x) ↦ inr (inl x)
      | inr (inr (inl x)) ↦ inr (inr (inr (inl x)))
      | inr (inr (inr x)) ↦ inr (inr (inr (inr (inl x))))
    ] in
    sym (by_head depth bytes h back at (λ _. true) (λ b. Ok b) (behind_head depth bytes h back at nest
    ∙ nothing) (nothing_ends back) (λ item inner e. flat_fine depth item item inner h refl e kinds))

pub bytes_head : (depth n : ℕ) (bytes : List ℕ) (h : Head) (back : List ℕ) → head_at bytes ≡ Ok (h, back)
    → h ≡ head.Bytes n → checked (λ _. true) (string_at n) back ≡ fine_at depth bytes
unfolding behind
bytes_head depth n bytes h back at is =
    sym (by_head depth bytes h back at (λ _. true) (string_at n)
    (behind_head depth bytes h back at (ap is_nest is) ∙ ap (λ (y : Head). behind too_deep y back) is)
    (string_ends n back)
    (λ item inner e. flat_fine depth item item inner h refl e (inr (inr (inl (n, is))))))

pub text_head : (depth n : ℕ) (bytes : List ℕ) (h : Head) (back : List ℕ) → head_at bytes ≡ Ok (h, back)
    → h ≡ head.Text n → checked is_utf8 (string_at n) back ≡ fine_at depth bytes
unfolding behind
text_head depth n bytes h back at is =
    sym (by_head depth bytes h back at is_utf8 (string_at n)
    (behind_head depth bytes h back at (ap is_nest is) ∙ ap (λ (y : Head). behind too_deep y back) is)
    (string_ends n back) (λ item inner e. text_fine depth n item item inner h refl e is))

pub break_head : (depth : ℕ) (bytes : List ℕ) (h : Head) (back : List ℕ) → head_at bytes ≡ Ok (h, back)
    → h ≡ head.Break → None ≡ fine_at depth bytes
unfolding behind
break_head depth bytes h back at is =
    sym (unread (is_fine depth) (item_at depth) bytes Reserved
    (behind_head depth bytes h back at (ap is_nest is) ∙ ap (λ (y : Head). behind too_deep y back) is))

module _ (depth : ℕ) (bytes : List ℕ) (h : Head) (back : List ℕ) (some : 0 < depth)
    (at : head_at bytes ≡ Ok (h, back)) where
  deep_test : (xs : List (List ℕ))
      → list_all (each_below is_fine_item depth) xs ≡ list_all (is_fine (depth - 1)) xs
  deep_test xs = ap (λ (f : List ℕ → Bool). list_all f xs) (below_is depth some)

  inside_is : (said : Head) (item inner : List ℕ) → h ≡ said → head_at item ≡ Ok (h, inner)
      → inside_of item ≡ inside_by said inner
  unfolding inside_of
  inside_is said item inner is e = rw e (ap (λ (y : Head). inside_by y inner) is)

  counted_list_head : (n : ℕ) → h ≡ head.List (Some n)
      → checked (are_fine (depth - 1)) (times (item_at (depth - 1)) n) back ≡ fine_at depth bytes
  unfolding behind
  counted_list_head n is =
      sym (by_head depth bytes h back at (are_fine (depth - 1)) (times (item_at (depth - 1)) n)
      (deep_behind depth bytes h back some at ∙ ap (λ (y : Head). behind (item_at (depth - 1)) y back) is)
      ((item_parts (depth - 1) n).ends back) (λ item inner e.
      list_fine depth item item inner h refl e (inl (Some n, is)) ∙ deep_test (items_in (inside_of item))
      ∙ ap (λ (x : List ℕ). are_fine (depth - 1) x) (inside_is (head.List (Some n)) item inner is e)))

  open_list_head : h ≡ head.List None
      → checked (λ c. are_fine (depth - 1) (before_break c))
      (up_to_break (item_at (depth - 1)) (length back)) back ≡ fine_at depth bytes
  unfolding behind
  open_list_head is =
      sym (by_head depth bytes h back at (λ c. are_fine (depth - 1) (before_break c))
      (λ b. up_to_break (item_at (depth - 1)) (length b) b) (deep_behind depth bytes h back some at
      ∙ ap (λ (y : Head). behind (item_at (depth - 1)) y back) is)
      ((open_parts (depth - 1) (length back)).ends back) (λ item inner e.
      list_fine depth item item inner h refl e (inl (None, is)) ∙ deep_test (items_in (inside_of item))
      ∙ ap (λ (x : List ℕ). are_fine (depth - 1) x) (inside_is (head.List None) item inner is e)))

  pub list_head : (count : Option ℕ) → h ≡ head.List count
      → fine_list_at (depth - 1) count back ≡ fine_at depth bytes
  list_head (Some n) is = counted_list_head n is
  list_head None is = open_list_head is

  pub tag_head : (n : ℕ) → depth ≤ MAX_DEPTH → h ≡ head.Tag n → fine_at (depth - 1) back ≡ fine_at depth bytes
  unfolding behind
  tag_head n le is =
      sym (through (is_fine depth) (is_fine (depth - 1)) (item_at depth) (item_at (depth - 1)) bytes back
      (deep_behind depth bytes h back some at ∙ ap (λ (y : Head). behind (item_at (depth - 1)) y back) is)
      (λ rest r.
      let item = before rest bytes in
      let inner = before rest back in
      let e = head_before bytes h back inner rest at (item_ends (depth - 1) back rest r) in
      let one : items_in inner ≡ inner ∷ [] = ap items_in (sym (append-nil inner))
      ∙ item_and_more (depth - 1) back rest [] (omega arith) r
      ∙ ap (λ (xs : List (List ℕ)). inner ∷ xs) no_items in
      list_fine depth item item inner h refl e (inr (n, is)) ∙ deep_test (items_in (inside_of item))
      ∙ ap (λ (x : List ℕ). are_fine (depth - 1) x) (inside_is (head.Tag n) item inner is e)
      ∙ ap (list_all (is_fine (depth - 1))) one ∙ and_truth (is_fine (depth - 1) inner)))

  counted_map_head : (n : ℕ) → h ≡ head.Map (Some n)
      → checked (are_entries_fine (depth - 1)) (times (pair_at (item_at (depth - 1))) n) back
      ≡ fine_at depth bytes
  unfolding behind
  counted_map_head n is =
      sym (by_head depth bytes h back at (are_entries_fine (depth - 1))
      (times (pair_at (item_at (depth - 1))) n) (deep_behind depth bytes h back some at
      ∙ ap (λ (y : Head). behind (item_at (depth - 1)) y back) is) ((pair_parts (depth - 1) n).ends back)
      (λ item inner e.
      map_fine depth item item inner (Some n) h refl e is
      ∙ ap (λ (b : Bool). b && keys_differ (keys_in (pair_up (items_in (inside_of item)))))
      (deep_test (items_in (inside_of item))) ∙ ap (λ (x : List ℕ). are_entries_fine (depth - 1) x)
      (inside_is (head.Map (Some n)) item inner is e)))

  open_map_head : h ≡ head.Map None
      → checked (λ c. are_entries_fine (depth - 1) (before_break c))
      (up_to_break (pair_at (item_at (depth - 1))) (length back)) back ≡ fine_at depth bytes
  unfolding behind
  open_map_head is =
      sym (by_head depth bytes h back at (λ c. are_entries_fine (depth - 1) (before_break c))
      (λ b. up_to_break (pair_at (item_at (depth - 1))) (length b) b)
      (deep_behind depth bytes h back some at ∙ ap (λ (y : Head). behind (item_at (depth - 1)) y back) is)
      ((open_pairs (depth - 1) (length back)).ends back) (λ item inner e.
      map_fine depth item item inner None h refl e is
      ∙ ap (λ (b : Bool). b && keys_differ (keys_in (pair_up (items_in (inside_of item)))))
      (deep_test (items_in (inside_of item))) ∙ ap (λ (x : List ℕ). are_entries_fine (depth - 1) x)
      (inside_is (head.Map None) item inner is e)))

  pub map_head : (count : Option ℕ) → h ≡ head.Map count
      → fine_map_at (depth - 1) count back ≡ fine_at depth bytes
  map_head (Some n) is = counted_map_head n is
  map_head None is = open_map_head is

pub whole_item : (depth : ℕ) (bytes rest : List ℕ) → depth ≤ MAX_DEPTH → fine_at depth bytes ≡ Some rest
    → length rest < 1 → IsTrue (is_item bytes)
whole_item depth bytes rest le e short =
    let p = passed (is_fine depth) (item_at depth) bytes rest e in
    let t = (item_reads depth).takes bytes rest p.is_read in
    let nothing : rest ≡ [] = nil_from_length rest (omega arith) in
    let whole : bytes ≡ t.part = t.whole ∙ ap (λ (x : List ℕ). t.part ++ x) nothing ∙ append-nil t.part in
    item_from_grammar bytes (deeper depth MAX_DEPTH bytes le (subst (IsItem depth) (sym whole) t.is_part))

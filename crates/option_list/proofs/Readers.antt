-- What is read of any text: it is of the form, or not.
use Rattle.std.proofs.Common.{◌≡◌, ℕ, zero, suc, ◌<◌, ◌⊎◌, inl, inr, Bool, true, false, List, [], ◌∷◌}
use Rattle.std.proofs.Common.{map, Option, Some, None, refl, sym, ap, ap₂, ◌∙◌, ◌^◌, arith, slice_get}
use Rattle.std.proofs.Common.{decimal}
use Rattle.std.specs.Prelude.{◌==◌, bytes_eq}
use Rattle.std.specs.Bool.{Decides}
use Rattle.std.specs.List.{AllByRecursion, join_with_byte, slice_split}
use Rattle.std.proofs.lemmas.Bool.{cases_eq, eqb-true}
use Rattle.std.proofs.lemmas.Slice.Eq.{bytes_eq-Decides}
use Rattle.dcql_rules.specs.Ids.{is_id}
use Rattle.option_list.specs.Token.{pick_text, picks_text, entry_text, entries_text}
use Rattle.option_list.specs.Form.{IsSmallNumber, IsSmall, IsEach, IsEntry, Reads}
use Rattle.option_list.proofs.Lacks.{Lacks, pick_lacks, entry_lacks}
use Rattle.option_list.proofs.Lists.{none_read, all_read}
use Rattle.option_list.proofs.Parts.{AreHalves, pick_uncut, no_credential, no_set, one_pick}
use Rattle.option_list.proofs.Parts.{entry_uncut, no_id, no_picks, one_entry}

abbrev pub Reading : {A : Type 0} → (A → Type 0) → (A → List ℕ) → List ℕ → Type 0
Reading {A} Good write text = (r : Option A) × Reads Good write text r

-- ---- numbers, each of which is tried

below : (text : List ℕ) (k : ℕ) → Reading (λ n. n < k) decimal text
below text zero = (None, λ n low is. absurd (omega (arith, low)))
below text (suc k) = by (below text k) (bytes_eq (decimal k) text) (bytes_eq-Decides (decimal k) text) where
  other : (t : Bool) → t ≡ false → Decides t (decimal k ≡ text) → decimal k ≡ text → ⊥
  other t differs d is = let f = d.1 is in cc (f, differs)

  by : Reading (λ n. n < k) decimal text → (t : Bool) → Decides t (decimal k ≡ text)
      → Reading (λ n. n < suc k) decimal text
  by (Some n, read) t d = (Some n, (omega (arith, read.0), read.1))
  by (None, none) true d = (Some k, (omega arith, d.0 refl))
  by (None, none) false d = (
    None,
    λ n low is. elim (cases_eq n k) [
      | inl same ↦ other false refl d (ap decimal (sym same) ∙ is)
      | inr differs ↦ none n (omega (arith, low, differs)) is
    ],
  )

number : (text : List ℕ) → Reading IsSmallNumber decimal text
number text = below text (2 ^ 16)

-- ---- parts

abbrev AllRead : {A : Type 0} → (A → Type 0) → (A → List ℕ) → List (List ℕ) → Type 0
AllRead {A} Good write ts = (xs : List A) × (map write xs ≡ ts) × AllByRecursion Good xs

abbrev OneUnread : {A : Type 0} → (A → Type 0) → (A → List ℕ) → List (List ℕ) → Type 0
OneUnread Good write ts = (i : ℕ) × (t : List ℕ) × (slice_get ts i ≡ Some t) × Reads Good write t None

each_part : {A : Type 0} (Good : A → Type 0) (write : A → List ℕ) → ((t : List ℕ) → Reading Good write t)
    → (ts : List (List ℕ)) → AllRead Good write ts ⊎ OneUnread Good write ts
each_part Good write read [] = inl ([], refl, tt)
each_part Good write read (t ∷ ts) = by (read t) (each_part Good write read ts) where
  by : Reading Good write t → AllRead Good write ts ⊎ OneUnread Good write ts
      → AllRead Good write (t ∷ ts) ⊎ OneUnread Good write (t ∷ ts)
  by (None, none) rest = inr (0, t, refl, none)
  by (Some x, good) (inl (xs, same, all)) = inl (x ∷ xs, ap₂ (λ u us. u ∷ us) good.1 same, (good.0, all))
  by (Some x, good) (inr (i, u, there, none)) = inr (suc i, u, there, none)

joined : {A : Type 0} (Good : A → Type 0) (write : A → List ℕ) (c : ℕ)
    → ((x : A) → Good x → Lacks c (write x)) → ((t : List ℕ) → Reading Good write t) → (text : List ℕ)
    → Reading (IsEach Good) (λ xs. join_with_byte c (map write xs)) text
joined {A} Good write c lacks read text =
    by (each_part Good write read (slice_split (λ b. b == c) text)) where
      by : AllRead Good write (slice_split (λ b. b == c) text) ⊎
          OneUnread Good write (slice_split (λ b. b == c) text)
          → Reading (IsEach Good) (λ xs. join_with_byte c (map write xs)) text
      by (inl (xs, same, all)) = (Some xs, all_read Good write c text xs same all)
      by (inr (i, t, there, none)) = (None, none_read Good write c lacks text i t there none)

abbrev Cut : ℕ → List ℕ → Type 0
Cut c text = (xs : List ℕ) × (ys : List ℕ) × AreHalves c text xs ys

cut : (c : ℕ) (text : List ℕ) → Cut c text ⊎ Lacks c text
cut c [] = inr tt
cut c (b ∷ text) = by (b == c) refl (cut c text) where
  by : (t : Bool) → (b == c) ≡ t → Cut c text ⊎ Lacks c text → Cut c (b ∷ text) ⊎ Lacks c (b ∷ text)
  by true e rest = inl ([], text, (tt, ap (λ x. x ∷ text) (eqb-true b c e)))
  by false e (inl (xs, ys, halves)) = inl (b ∷ xs, ys, ((e, halves.0), ap (λ t. b ∷ t) halves.1))
  by false e (inr lacks) = inr (e, lacks)

-- ---- picks and entries

pick : (text : List ℕ) → Reading IsSmall pick_text text
pick text = by (cut 46 text) where
  both : (xs ys : List ℕ) → AreHalves 46 text xs ys → Reading IsSmallNumber decimal xs
      → Reading IsSmallNumber decimal ys → Reading IsSmall pick_text text
  both xs ys halves (None, none) second = (None, no_credential text xs ys halves none)
  both xs ys halves (Some c, first) (None, none) = (None, no_set text xs ys halves none)
  both xs ys halves (Some c, first) (Some s, second) =
      (Some (record { credential = c; set = s }), one_pick text xs ys c s halves first second)

  by : Cut 46 text ⊎ Lacks 46 text → Reading IsSmall pick_text text
  by (inl (xs, ys, halves)) = both xs ys halves (number xs) (number ys)
  by (inr lacks) = (None, pick_uncut text lacks)

picks : (text : List ℕ) → Reading (IsEach IsSmall) picks_text text
picks text = joined IsSmall pick_text 44 (pick_lacks 44 (inl (omega arith)) refl) pick text

entry : (text : List ℕ) → Reading IsEntry entry_text text
entry text = by (cut 58 text) where
  both : (xs ys : List ℕ) → AreHalves 58 text xs ys → (t : Bool) → is_id xs ≡ t
      → Reading (IsEach IsSmall) picks_text ys → Reading IsEntry entry_text text
  both xs ys halves false wrong read = (None, no_id text xs ys halves wrong)
  both xs ys halves true right (None, none) = (None, no_picks text xs ys halves none)
  both xs ys halves true right (Some ps, read) =
      (Some (record { id = xs; picks = ps }), one_entry text xs ys ps halves right read)

  by : Cut 58 text ⊎ Lacks 58 text → Reading IsEntry entry_text text
  by (inl (xs, ys, halves)) = both xs ys halves (is_id xs) refl (picks ys)
  by (inr lacks) = (None, entry_uncut text lacks)

pub entries : (text : List ℕ) → Reading (IsEach IsEntry) entries_text text
entries text = joined IsEntry entry_text 43 entry_lacks entry text

-- Reading what is joined at a byte, part by part.
use Rattle.std.proofs.Common.{◌≡◌, ℕ, zero, suc, ◌+◌, ◌<◌, ◌≤◌, List, [], ◌∷◌, ◌++◌, map}
use Rattle.std.proofs.Common.{length}
use Rattle.std.proofs.Common.{take, Some, None, Option, option_map, refl, sym, ap, ap₂, ◌∙◌, arith, slice_get}
use Rattle.std.proofs.Common.{subst}
use Rattle.std.proofs.Common.{get_or}
use Rattle.std.specs.Prelude.{◌==◌}
use Rattle.std.specs.List.{AllByRecursion, join_with_byte, slice_split}
use Rattle.std.proofs.lemmas.List.{length-map, map-append, take_all}
use Rattle.std.proofs.lemmas.Option.{slice_get-map, slice_get-get_or}
use Rattle.std.proofs.lemmas.List.Splits.{join_with_byte-slice_split, length-slice_split}
use Rattle.option_list.specs.Form.{IsEach, Reads}
use Rattle.option_list.proofs.Lacks.{Lacks, cut_written}

good_at : {A : Type 0} (Good : A → Type 0) (write : A → List ℕ) (xs : List A) (i : ℕ) (t : List ℕ)
    → AllByRecursion Good xs → slice_get (map write xs) i ≡ Some t → (x : A) × Good x × (write x ≡ t)
good_at Good write [] i t all h = absurd (cc h)
good_at Good write (x ∷ xs) zero t all h = (x, all.0, cc h)
good_at Good write (x ∷ xs) (suc i) t all h = good_at Good write xs i t all.1 h

-- a part that no good thing is written as
pub none_read : {A : Type 0} (Good : A → Type 0) (write : A → List ℕ) (c : ℕ)
    → ((x : A) → Good x → Lacks c (write x)) → (text : List ℕ) (i : ℕ) (t : List ℕ)
    → slice_get (slice_split (λ b. b == c) text) i ≡ Some t → Reads Good write t None
    → Reads (IsEach Good) (λ xs. join_with_byte c (map write xs)) text None
none_read Good write c lacks text i t there none = λ xs each is.
    let cut : slice_split (λ b. b == c) text ≡ map write xs =
    ap (slice_split (λ b. b == c)) (sym is) ∙ cut_written Good write c lacks xs each in
    let good = good_at Good write xs i t each.1 (sym (ap (λ ts. slice_get ts i) cut) ∙ there) in
    none good.0 good.1 good.2

-- every part is read
pub all_read : {A : Type 0} (Good : A → Type 0) (write : A → List ℕ) (c : ℕ) (text : List ℕ) (xs : List A)
    → map write xs ≡ slice_split (λ b. b == c) text → AllByRecursion Good xs
    → Reads (IsEach Good) (λ ys. join_with_byte c (map write ys)) text (Some xs)
all_read Good write c text xs e all =
    let n = ap length e in
    let m = length-map xs write in
    let k = length-slice_split (λ b. b == c) text in
    ((omega arith, all), ap (join_with_byte c) e ∙ join_with_byte-slice_split c text)

-- ---- the loop over the parts, which are f of what is at hand

-- what was read of the parts so far
pub record SoFar {A : Type 0} (Good : A → Type 0) (write : A → List ℕ) (parts : List (List ℕ)) (i : ℕ)
    (xs : List A) : Type 0 where
  pub same : map write xs ≡ take i parts
  pub good : AllByRecursion Good xs

pub none_so_far : {A : Type 0} (Good : A → Type 0) (write : A → List ℕ) (parts : List (List ℕ)) (xs : List A)
    → xs ≡ [] → SoFar Good write parts 0 xs
none_so_far Good write parts xs e = subst (SoFar Good write parts 0) (sym e)
    (record { same = refl; good = tt })

good_push : {A : Type 0} (Good : A → Type 0) (xs : List A) (x : A) → AllByRecursion Good xs → Good x
    → AllByRecursion Good (xs ++ x ∷ [])
good_push Good [] x h k = (k, tt)
good_push Good (y ∷ ys) x h k = (h.0, good_push Good ys x h.1 k)

take_more : (ts : List (List ℕ)) (i : ℕ) (t : List ℕ) → slice_get ts i ≡ Some t
    → take (i + 1) ts ≡ take i ts ++ t ∷ []
take_more [] i t h = absurd (cc h)
take_more (u ∷ ts) zero t h = let e : u ≡ t = cc h in ap (λ x. x ∷ []) e
take_more (u ∷ ts) (suc i) t h =
    let n : suc i + 1 ≡ suc (i + 1) = omega arith in
    ap (λ k. take k (u ∷ ts)) n ∙ ap (λ us. u ∷ us) (take_more ts i t h)

part_at : {B : Type 0} (f : B → List ℕ) (bs : List B) (i : ℕ) (d : B) → i < length bs
    → slice_get (map f bs) i ≡ Some (f (get_or bs i d))
part_at f bs i d low = slice_get-map f bs i ∙ ap (option_map f) (slice_get-get_or bs i d low)

pub one_more : {A B : Type 0} (f : B → List ℕ) (Good : A → Type 0) (write : A → List ℕ) (bs : List B) (i : ℕ)
    (d : B) (xs ys : List A) (x : A) → i < length bs → SoFar Good write (map f bs) i xs
    → Reads Good write (f (get_or bs i d)) (Some x) → ys ≡ xs ++ x ∷ []
    → SoFar Good write (map f bs) (i + 1) ys
one_more f Good write bs i d xs ys x low before read e =
    subst (SoFar Good write (map f bs) (i + 1)) (sym e) (record {
      same =
          map-append write xs (x ∷ []) ∙ ap₂ (λ a b. a ++ b ∷ []) before.same read.1
          ∙ sym (take_more (map f bs) i _ (part_at f bs i d low));
      good = good_push Good xs x before.good read.0;
    })

pub none_at : {A B : Type 0} (f : B → List ℕ) (Good : A → Type 0) (write : A → List ℕ) (c : ℕ)
    → ((x : A) → Good x → Lacks c (write x)) → (bs : List B) (text : List ℕ) (i : ℕ) (d : B) → i < length bs
    → map f bs ≡ slice_split (λ b. b == c) text → Reads Good write (f (get_or bs i d)) None
    → Reads (IsEach Good) (λ xs. join_with_byte c (map write xs)) text None
none_at f Good write c lacks bs text i d low cut none =
    none_read Good write c lacks text i (f (get_or bs i d))
    (sym (ap (λ ts. slice_get ts i) cut) ∙ part_at f bs i d low) none

pub all_at : {A B : Type 0} (f : B → List ℕ) (Good : A → Type 0) (write : A → List ℕ) (c : ℕ) (bs : List B)
    (text : List ℕ) (i : ℕ) (xs : List A) → length bs ≤ i → map f bs ≡ slice_split (λ b. b == c) text
    → SoFar Good write (map f bs) i xs → Reads (IsEach Good) (λ ys. join_with_byte c (map write ys)) text
    (Some xs)
all_at f Good write c bs text i xs past cut so_far =
    let n = length-map bs f in
    let whole : take i (map f bs) ≡ map f bs = take_all i (map f bs) (omega arith) in
    all_read Good write c text xs (so_far.same ∙ whole ∙ cut) so_far.good

-- ---- that what is written tells what was written

abbrev pub Distinct : {A : Type 0} → (A → Type 0) → (A → List ℕ) → Type 0
Distinct {A} Good write = (x y : A) → Good x → Good y → write x ≡ write y → x ≡ y

mapped_same : {A : Type 0} (Good : A → Type 0) (write : A → List ℕ) → Distinct Good write → (xs ys : List A)
    → AllByRecursion Good xs → AllByRecursion Good ys → map write xs ≡ map write ys → xs ≡ ys
mapped_same Good write same [] [] h k e = refl
mapped_same Good write same [] (y ∷ ys) h k e = absurd (cc e)
mapped_same Good write same (x ∷ xs) [] h k e = absurd (cc e)
mapped_same Good write same (x ∷ xs) (y ∷ ys) h k e =
    ap₂ (λ z zs. z ∷ zs) (same x y h.0 k.0 (cc e)) (mapped_same Good write same xs ys h.1 k.1 (cc e))

pub joined_same : {A : Type 0} (Good : A → Type 0) (write : A → List ℕ) (c : ℕ)
    → ((x : A) → Good x → Lacks c (write x)) → Distinct Good write
    → Distinct (IsEach Good) (λ xs. join_with_byte c (map write xs))
joined_same Good write c lacks same xs ys h k e =
    mapped_same Good write same xs ys h.1 k.1
    (sym (cut_written Good write c lacks xs h) ∙ ap (slice_split (λ b. b == c)) e
    ∙ cut_written Good write c lacks ys k)

-- what a call gave is what is known of it
pub read_as : {A B : Type 0} (Good : A → Type 0) (write : A → List ℕ) (f : B → A) (o r : Option B)
    → (text : List ℕ) → Reads Good write text (option_map f o) → o ≡ r
    → Reads Good write text (option_map f r)
read_as Good write f o r text h e = subst (λ x. Reads Good write text (option_map f x)) e h

-- Texts that lack a byte, so that they can be cut at it.
use Rattle.std.proofs.Common.{◌≡◌, ℕ, ◌<◌, ◌≤◌, ◌⊎◌, inl, inr, true, false, List, [], ◌∷◌, ◌++◌}
use Rattle.std.proofs.Common.{map}
use Rattle.std.proofs.Common.{refl, ap, ◌∙◌, arith, decimal}
use Rattle.std.specs.Prelude.{◌==◌}
use Rattle.std.specs.List.{AllByRecursion, All, list_all, join_with_byte, slice_split}
use Rattle.std.specs.Int.{IsInRange}
use Rattle.std.specs.Str.Parse.{AllDigits}
use Rattle.std.proofs.lemmas.Bool.{ne_eqb, eq-eqb, and_parts}
use Rattle.std.proofs.lemmas.List.Elements.{All-cons, All-nil}
use Rattle.std.proofs.lemmas.List.Splits.{slice_split_none, slice_split_at}
use Rattle.std.proofs.lemmas.Fmt.{decimal_is_IsNumeral}
use Rattle.std.proofs.lemmas.Str.Parse.{digit_at}
use Rattle.dcql_answers.specs.declared.pick.Pick.{Pick}
use Rattle.dcql_rules.specs.Ids.{is_id, is_id_byte}
use Rattle.option_list.specs.Token.{pick_text, picks_text, Entry, entry_text}
use Rattle.option_list.specs.Form.{IsSmallNumber, IsSmall, IsEach, IsEntry}

abbrev pub Lacks : ℕ → List ℕ → Type 0
Lacks c t = AllByRecursion (λ b. (b == c) ≡ false) t

-- ---- what is written

pub lacks_append : (c : ℕ) (xs ys : List ℕ) → Lacks c xs → Lacks c ys → Lacks c (xs ++ ys)
lacks_append c [] ys h k = k
lacks_append c (x ∷ xs) ys h k = (h.0, lacks_append c xs ys h.1 k)

lacks_joined : (c s : ℕ) (ts : List (List ℕ)) → (s == c) ≡ false → AllByRecursion (Lacks c) ts
    → Lacks c (join_with_byte s ts)
lacks_joined c s [] e h = tt
lacks_joined c s (t ∷ []) e h = h.0
lacks_joined c s (t ∷ u ∷ ts) e h =
    lacks_append c t (s ∷ join_with_byte s (u ∷ ts)) h.0 (e, lacks_joined c s (u ∷ ts) e h.1)

lacks_digits : (c : ℕ) → (c < 48) ⊎ (57 < c) → (ds : List ℕ) → AllDigits 10 ds → Lacks c ds
lacks_digits c far [] h = tt
lacks_digits c far (d ∷ ds) h =
    let near : IsInRange 48 57 d = digit_at (d ∷ ds) 0 h (omega arith) in
    let low : 48 ≤ d = near.0 in
    let high : d ≤ 57 = near.1 in
    (ne_eqb d c (λ e. elim far [ inl l ↦ omega arith | inr r ↦ omega arith ]), lacks_digits c far ds h.1)

pub number_lacks : (c : ℕ) → (c < 48) ⊎ (57 < c) → (n : ℕ) → IsSmallNumber n → Lacks c (decimal n)
number_lacks c far n h = lacks_digits c far (decimal n) (decimal_is_IsNumeral n (omega arith)).0.1

pub pick_lacks : (c : ℕ) → (c < 48) ⊎ (57 < c) → (46 == c) ≡ false → (p : Pick) → IsSmall p
    → Lacks c (pick_text p)
pick_lacks c far e p h =
    lacks_append c (decimal p.credential) (46 ∷ decimal p.set) (number_lacks c far p.credential h.0)
    (e, number_lacks c far p.set h.1)

lacks_mapped : {A : Type 0} (Good : A → Type 0) (write : A → List ℕ) (c : ℕ)
    → ((x : A) → Good x → Lacks c (write x)) → (xs : List A) → AllByRecursion Good xs
    → AllByRecursion (Lacks c) (map write xs)
lacks_mapped Good write c lacks [] h = tt
lacks_mapped Good write c lacks (x ∷ xs) h = (lacks x h.0, lacks_mapped Good write c lacks xs h.1)

picks_lack : (c : ℕ) → (c < 48) ⊎ (57 < c) → (46 == c) ≡ false → (44 == c) ≡ false → (ps : List Pick)
    → AllByRecursion IsSmall ps → Lacks c (picks_text ps)
picks_lack c far e f ps h =
    lacks_joined c 44 (map pick_text ps) f (lacks_mapped IsSmall pick_text c (pick_lacks c far e) ps h)

id_byte_lacks : (c b : ℕ) → is_id_byte c ≡ false → is_id_byte b ≡ true → (b == c) ≡ false
id_byte_lacks c b e h = ne_eqb b c (λ same. let f = ap is_id_byte same in cc (e, h, f))

lacks_id_bytes : (c : ℕ) → is_id_byte c ≡ false → (s : List ℕ) → list_all is_id_byte s ≡ true → Lacks c s
lacks_id_bytes c e [] h = tt
lacks_id_bytes c e (b ∷ s) h =
    let both = and_parts (is_id_byte b) (list_all is_id_byte s) h in
    (id_byte_lacks c b e both.0, lacks_id_bytes c e s both.1)

pub id_lacks : (c : ℕ) → is_id_byte c ≡ false → (s : List ℕ) → is_id s ≡ true → Lacks c s
id_lacks c e s h = lacks_id_bytes c e s (and_parts _ (list_all is_id_byte s) h).1

pub entry_lacks : (e : Entry) → IsEntry e → Lacks 43 (entry_text e)
entry_lacks e h =
    lacks_append 43 e.id (58 ∷ picks_text e.picks) (id_lacks 43 refl e.id h.0)
    (refl, picks_lack 43 (inl (omega arith)) refl refl e.picks h.1.1)

-- ---- cutting

all_pass : (c : ℕ) (t : List ℕ) → Lacks c t → All (λ b. (b == c) ≡ false) t
all_pass c [] h = All-nil (λ b. (b == c) ≡ false)
all_pass c (b ∷ t) h = All-cons (λ b. (b == c) ≡ false) b t h.0 (all_pass c t h.1)

-- what is joined at a byte is cut at it again
pub cut_joined : (c : ℕ) (t : List ℕ) (ts : List (List ℕ)) → AllByRecursion (Lacks c) (t ∷ ts)
    → slice_split (λ b. b == c) (join_with_byte c (t ∷ ts)) ≡ t ∷ ts
cut_joined c t [] h = slice_split_none (λ b. b == c) t (all_pass c t h.0)
cut_joined c t (u ∷ ts) h =
    slice_split_at (λ b. b == c) t c (join_with_byte c (u ∷ ts)) (all_pass c t h.0) (eq-eqb c c refl)
    ∙ ap (λ us. t ∷ us) (cut_joined c u ts h.1)

pub cut_written : {A : Type 0} (Good : A → Type 0) (write : A → List ℕ) (c : ℕ)
    → ((x : A) → Good x → Lacks c (write x)) → (xs : List A) → IsEach Good xs
    → slice_split (λ b. b == c) (join_with_byte c (map write xs)) ≡ map write xs
cut_written Good write c lacks [] h = absurd (omega (arith, h.0))
cut_written Good write c lacks (x ∷ xs) h =
    cut_joined c (write x) (map write xs) (lacks_mapped Good write c lacks (x ∷ xs) h.1)

-- texts that lack a byte end where it first stands
pub same_front : (c : ℕ) (xs ys us vs : List ℕ) → Lacks c xs → Lacks c ys → xs ++ c ∷ us ≡ ys ++ c ∷ vs
    → (xs ≡ ys) × (us ≡ vs)
same_front c [] [] us vs h k e = (refl, cc e)
same_front c [] (y ∷ ys) us vs h k e =
    let same : y ≡ c = cc e in
    let is = eq-eqb y c same in
    absurd (let f = k.0 in cc (is, f))
same_front c (x ∷ xs) [] us vs h k e =
    let same : x ≡ c = cc e in
    let is = eq-eqb x c same in
    absurd (let f = h.0 in cc (is, f))
same_front c (x ∷ xs) (y ∷ ys) us vs h k e =
    let rest : xs ++ c ∷ us ≡ ys ++ c ∷ vs = cc e in
    let first : x ≡ y = cc e in
    let both = same_front c xs ys us vs h.1 k.1 rest in
    let all = both.0 in
    (cc (first, all), both.1)

-- A walk from several elements is the walks from each, one after another.
use Rattle.std.proofs.Common.{◌≡◌, ℕ, suc, ◌+◌, ◌<◌, ◌≤◌, Bool, true, false, ◌||◌, cond, List, [], ◌∷◌, ◌++◌}
use Rattle.std.proofs.Common.{length, take, Option, Some, None, option_map, option_and_then, map, nat_lt}
use Rattle.std.proofs.Common.{refl, sym, ap, ◌∙◌, append_assoc, append-nil, add-zero, arith}
use Rattle.std.specs.List.{slice_get, list_any, filter}
use Rattle.std.specs.Option.{option_to_list}
use Rattle.std.proofs.lemmas.List.Folds.{list_any-append}
use Rattle.std.proofs.lemmas.List.{take_more}
use Rattle.std.proofs.lemmas.Option.{slice_get_within, get_or_from_slice_get, slice_get_past}
use Rattle.std.proofs.Math.ListN.{length-map}
use Rattle.std.proofs.lemmas.Bool.{lt-ltb, ltb-true}
use Rattle.std.specs.Option.{unwrap_or}
use Rattle.claim_tree.specs.Tree.{Tree, ListOf, RecordOf, Text, Whole, Truth, Null, Bytes, Other, parts}
use Rattle.claim_tree.specs.Tree.{shape_of, is_loose, part_named}
use Rattle.claim_tree.specs.declared.shape.Shape.TheVariants as shape
use Rattle.claim_names.specs.declared.address.Step.TheVariants as to
use Rattle.claim_path.specs.declared.path.Scalar.{Scalar}
use Rattle.claim_path.specs.declared.path.PathStep.{PathStep}
use Rattle.claim_path.specs.declared.path.PathStep.TheVariants.{Member, Place}
use Rattle.claim_path.specs.declared.any_hit.WalkEnd.{WalkEnd}
use Rattle.claim_path.specs.declared.any_hit.WalkEnd.TheVariants.{Wrong, NoHit, Hit}
use Rattle.claim_path.specs.Select.{Address, Spot, spots_from, step, joined, step_all, walk, unless_empty}
use Rattle.claim_path.specs.Hits.{is_match, hits}
use Rattle.claim_path.specs.code.WalkEnd.{end_of, both_ends}

-- ---- `joined`

joined-none : {A : Type 0} (x : Option (List A)) → joined x None ≡ None
joined-none None = refl
joined-none (Some xs) = refl

joined-nothing : {A : Type 0} (x : Option (List A)) → joined x (Some []) ≡ x
joined-nothing None = refl
joined-nothing (Some xs) = ap Some (append-nil xs)

nothing-joined : {A : Type 0} (x : Option (List A)) → joined (Some []) x ≡ x
nothing-joined None = refl
nothing-joined (Some xs) = refl

joined-assoc : {A : Type 0} (x y z : Option (List A)) → joined (joined x y) z ≡ joined x (joined y z)
joined-assoc None y z = refl
joined-assoc (Some xs) None z = refl
joined-assoc (Some xs) (Some ys) None = refl
joined-assoc (Some xs) (Some ys) (Some zs) = ap Some (append_assoc xs ys zs)

-- ---- walks

step_all-append : (p : PathStep) (xs ys : List Spot)
    → step_all p (xs ++ ys) ≡ joined (step_all p xs) (step_all p ys)
step_all-append p [] ys = sym (nothing-joined (step_all p ys))
step_all-append p (x ∷ xs) ys = ap (joined (step p x)) (step_all-append p xs ys)
    ∙ sym (joined-assoc (step p x) (step_all p xs) (step_all p ys))

walk-joined : (ps : List PathStep) → ((xs ys : List Spot)
    → walk ps (xs ++ ys) ≡ joined (walk ps xs) (walk ps ys))
    → (x y : Option (List Spot)) → option_and_then (walk ps) (joined x y)
    ≡ joined (option_and_then (walk ps) x) (option_and_then (walk ps) y)
walk-joined ps both None y = refl
walk-joined ps both (Some xs) None = sym (joined-none (walk ps xs))
walk-joined ps both (Some xs) (Some ys) = both xs ys

pub walk-append : (ps : List PathStep) (xs ys : List Spot)
    → walk ps (xs ++ ys) ≡ joined (walk ps xs) (walk ps ys)
walk-append [] xs ys = refl
walk-append (p ∷ ps) xs ys = ap (option_and_then (walk ps)) (step_all-append p xs ys)
    ∙ walk-joined ps (walk-append ps) (step_all p xs) (step_all p ys)

pub walk-nothing : (ps : List PathStep) → walk ps [] ≡ Some []
walk-nothing [] = refl
walk-nothing (p ∷ ps) = walk-nothing ps

-- a walk from one element
pub walk-one : (p : PathStep) (ps : List PathStep) (s : Spot)
    → walk (p ∷ ps) (s ∷ []) ≡ option_and_then (walk ps) (step p s)
walk-one p ps s = ap (option_and_then (walk ps)) (joined-nothing (step p s))

-- ---- how a walk ends

both-wrong : (x : WalkEnd) → both_ends x Wrong ≡ Wrong
both-wrong Wrong = refl
both-wrong NoHit = refl
both-wrong Hit = refl

abbrev end_if : Bool → WalkEnd
end_if b = cond b Hit NoHit

end_if-or : (b c : Bool) → end_if (b || c) ≡ both_ends (end_if b) (end_if c)
end_if-or true true = refl
end_if-or true false = refl
end_if-or false true = refl
end_if-or false false = refl

pub end_of-joined : (values : Option (List Scalar)) (x y : Option (List Spot))
    → end_of values (joined x y) ≡ both_ends (end_of values x) (end_of values y)
end_of-joined values None y = refl
end_of-joined values (Some xs) None = sym (both-wrong (end_of values (Some xs)))
end_of-joined values (Some xs) (Some ys) =
    ap end_if (list_any-append (λ s. is_match values s.1) xs ys)
    ∙ end_if-or (list_any (λ s. is_match values s.1) xs) (list_any (λ s. is_match values s.1) ys)

-- ---- the elements of a list, one more at a time

pub spots_from-append : (a : Address) (n : ℕ) (xs ys : List Tree)
    → spots_from a n (xs ++ ys) ≡ spots_from a n xs ++ spots_from a (n + length xs) ys
spots_from-append a n [] ys = ap (λ k. spots_from a k ys) (sym (add-zero n))
spots_from-append a n (x ∷ xs) ys =
    let k : (n + 1) + length xs ≡ n + suc (length xs) = omega arith in
    ap (λ r. (a ++ to.Place n ∷ [], x) ∷ r) (spots_from-append a (n + 1) xs ys
    ∙ ap (λ m. spots_from a (n + 1) xs ++ spots_from a m ys) k)

pub end_of-one_more : (values : Option (List Scalar)) (ps : List PathStep) (a : Address) (ts : List Tree)
    (i : ℕ) (t : Tree) → slice_get ts i ≡ Some t
    → end_of values (walk ps (spots_from a 0 (take (i + 1) ts)))
    ≡ both_ends (end_of values (walk ps (spots_from a 0 (take i ts))))
    (end_of values (walk ps ((a ++ to.Place (0 + length (take i ts)) ∷ [], t) ∷ [])))
end_of-one_more values ps a ts i t e =
    let within : i < length ts = slice_get_within ts i t e in
    let more : take (i + 1) ts ≡ take i ts ++ t ∷ [] = take_more ts i t within
    ∙ ap (λ u. take i ts ++ u ∷ []) (get_or_from_slice_get ts i t t e) in
    ap (λ us. end_of values (walk ps (spots_from a 0 us))) more
    ∙ ap (λ ss. end_of values (walk ps ss)) (spots_from-append a 0 (take i ts) (t ∷ []))
    ∙ ap (end_of values) (walk-append ps (spots_from a 0 (take i ts))
    ((a ++ to.Place (0 + length (take i ts)) ∷ [], t) ∷ []))
    ∙ end_of-joined values (walk ps (spots_from a 0 (take i ts)))
    (walk ps ((a ++ to.Place (0 + length (take i ts)) ∷ [], t) ∷ []))

-- ---- what a step comes to, by the shape of the element

pub member-in_record : (k : List ℕ) (a : Address) (t : Tree) → shape_of t ≡ shape.Record
    → step (Member k) (a, t) ≡ Some (option_to_list
    (option_map (λ u. (a ++ to.Name k ∷ [], u)) (part_named k t)))
member-in_record k a (RecordOf ms) e = refl
member-in_record k a (ListOf l es) e = cc
member-in_record k a (Text s) e = cc
member-in_record k a (Whole z) e = cc
member-in_record k a (Truth b) e = cc
member-in_record k a Null e = cc
member-in_record k a (Bytes b) e = cc
member-in_record k a Other e = cc

pub place-past : (i : ℕ) (a : Address) (t : Tree) → shape_of t ≡ shape.List → length (parts t) ≤ i
    → step (Place i) (a, t) ≡ Some []
place-past i a (ListOf true es) e h = refl
place-past i a (ListOf false es) e h =
    ap (λ o. Some (option_to_list (option_map (λ u. (a ++ to.Place i ∷ [], u)) o)))
    (slice_get_past (parts (ListOf false es)) i h)
place-past i a (RecordOf ms) e h = cc
place-past i a (Text s) e h = cc
place-past i a (Whole z) e h = cc
place-past i a (Truth b) e h = cc
place-past i a Null e h = cc
place-past i a (Bytes b) e h = cc
place-past i a Other e h = cc

pub place-loose : (i : ℕ) (a : Address) (t : Tree) → shape_of t ≡ shape.List → is_loose t ≡ true
    → step (Place i) (a, t) ≡ Some []
place-loose i a (ListOf true es) e h = refl
place-loose i a (ListOf false es) e h = cc
place-loose i a (RecordOf ms) e h = cc
place-loose i a (Text s) e h = cc
place-loose i a (Whole z) e h = cc
place-loose i a (Truth b) e h = cc
place-loose i a Null e h = cc
place-loose i a (Bytes b) e h = cc
place-loose i a Other e h = cc

-- where the first step of a path drops the element
pub no_hit-dropped : (values : Option (List Scalar)) (steps : List PathStep) (p : PathStep)
    (ps : List PathStep) (s : Spot) → steps ≡ p ∷ ps → step p s ≡ Some []
    → NoHit ≡ end_of values (walk steps (s ∷ []))
no_hit-dropped values steps p ps s e h =
    sym (ap (λ ss. end_of values (walk ss (s ∷ []))) e
    ∙ ap (end_of values) (walk-one p ps s ∙ ap (option_and_then (walk ps)) h ∙ walk-nothing ps))

-- ---- hits

kept_if : (b : Bool) (x : Spot) (xs : List Spot) (c : Bool) → nat_lt 0 (length xs) ≡ c
    → nat_lt 0 (length (cond b (x ∷ xs) xs)) ≡ (b || c)
kept_if true x xs c h = lt-ltb 0 (suc (length xs)) (omega arith)
kept_if false x xs c h = h

any-filter : (f : Spot → Bool) (xs : List Spot) → nat_lt 0 (length (filter f xs)) ≡ list_any f xs
any-filter f [] = refl
any-filter f (x ∷ xs) = kept_if (f x) x (filter f xs) (list_any f xs) (any-filter f xs)

abbrev hits_of : Option (List Scalar) → Option (List Spot) → List Address
hits_of values w =
    map (λ s. s.0) (filter (λ s. is_match values s.1) (unwrap_or (option_and_then unless_empty w) []))

abbrev is_hit : WalkEnd → Bool
is_hit Hit = true
is_hit NoHit = false
is_hit Wrong = false

is_hit-if : (b : Bool) → is_hit (end_if b) ≡ b
is_hit-if true = refl
is_hit-if false = refl

some_hits : (values : Option (List Scalar)) (w : Option (List Spot))
    → is_hit (end_of values w) ≡ nat_lt 0 (length (hits_of values w))
some_hits values None = refl
some_hits values (Some []) = refl
some_hits values (Some (s ∷ ss)) =
    is_hit-if (list_any (λ x. is_match values x.1) (s ∷ ss))
    ∙ sym (any-filter (λ x. is_match values x.1) (s ∷ ss))
    ∙ ap (nat_lt 0) (sym (length-map (filter (λ x. is_match values x.1) (s ∷ ss)) (λ x. x.0)))

pub hits-of_end : (path : List PathStep) (values : Option (List Scalar)) (t : Tree) (r : WalkEnd)
    → r ≡ end_of values (walk path (([], t) ∷ [])) → is_hit r ≡ nat_lt 0 (length (hits path values t))
hits-of_end path values t r e = ap is_hit e ∙ some_hits values (walk path (([], t) ∷ []))

pub hits-from_hit : (path : List PathStep) (values : Option (List Scalar)) (t : Tree) (r : WalkEnd)
    → r ≡ end_of values (walk path (([], t) ∷ [])) → r ≡ Hit → 0 < length (hits path values t)
hits-from_hit path values t r e h = ltb-true 0 (length (hits path values t))
    (sym (hits-of_end path values t r e) ∙ ap is_hit h)

not_hit : (r : WalkEnd) → (r ≡ Hit → ⊥) → is_hit r ≡ true → ⊥
not_hit Hit h e = h refl
not_hit NoHit h e = cc
not_hit Wrong h e = cc

pub hit_from-hits : (path : List PathStep) (values : Option (List Scalar)) (t : Tree) (r : WalkEnd)
    → r ≡ end_of values (walk path (([], t) ∷ [])) → (r ≡ Hit → ⊥) → 0 < length (hits path values t) → ⊥
hit_from-hits path values t r e h some = not_hit r h (hits-of_end path values t r e
    ∙ lt-ltb 0 (length (hits path values t)) some)

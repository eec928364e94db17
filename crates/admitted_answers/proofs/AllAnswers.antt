-- There is a list of all admitted answers that follow.
use Rattle.std.proofs.Common.{◌≡◌, ℕ, ◌+◌, ◌<◌, ◌≤◌, ◌-◌, ◌^◌, zero, suc, max, Bool, true, false, List, []}
use Rattle.std.proofs.Common.{◌∷◌, length, Option, Some, None, refl, sym, ap, ◌∙◌, subst, ◌⊎◌, inl, inr}
use Rattle.std.proofs.Common.{arith}
use Rattle.std.specs.Prelude.{◌==◌, ◌&&◌, nat_lt, nat_le, bit_or}
use Rattle.std.specs.declared.cmp.Ordering.{Ordering}
use Rattle.std.specs.declared.cmp.Ordering.TheVariants.{Less, Equal, Greater}
use Rattle.std.specs.Ordering.{is_lt}
use Rattle.std.proofs.lemmas.Bool.{and_parts, and_from, eqb-true, eq-eqb, leb-true, le-leb, ltb-true, lt-ltb}
use Rattle.dcql_answers.specs.declared.pick.Pick.{Pick}
use Rattle.dcql_answers.specs.declared.fits.Fit.{Fit}
use Rattle.dcql_query.specs.Query.{Credential, CredentialSet, Query}
use Rattle.dcql_answers.specs.Answer.{answered, answer_cmp}
use Rattle.answered_sets.specs.Answered.{IsIn, union, IsUnion, IsWanted, IsAnswered}
use Rattle.admitted_answers.specs.Admits.{IsPickList, ArePickLists, bits_of, Admits}
use Rattle.admitted_answers.specs.Least.{Follows, AreFollowing}
use Rattle.dcql_answers.specs.Fits.{pick_of}
use Rattle.dcql_answers.proofs.Orders.{answer_order}
use Rattle.admitted_answers.proofs.OneQuery.{fit_at, Heads, Tails, Valid}
use Rattle.admitted_answers.proofs.Spelled.{valid, spelled}
use Rattle.admitted_answers.proofs.Listed.{Listed, listed_like, listed_members, listed_one, listed_none}
use Rattle.admitted_answers.proofs.Listed.{listed_either, listed_map, listed_pairs, listed_where, has_number}
use Rattle.admitted_answers.proofs.Listed.{has_in, in_has, ordered}

-- ---- picks of one query

is_head : ℕ → ℕ → Fit → Bool
is_head i c f = (f.query == i) && nat_le c f.credential

listed_heads : (fits : List Fit) (i c : ℕ) → Listed (Heads fits i c)
unfolding is_head
listed_heads fits i c =
    listed_like (λ p. (f : Fit) × (IsIn f fits × (is_head i c f ≡ true)) × (p ≡ pick_of f)) (Heads fits i c)
    there (λ p h. (fit_at i p, (h.0, and_from _ _ (eq-eqb i i refl) (le-leb c p.credential h.1)), refl))
    (listed_map pick_of (λ f. IsIn f fits × (is_head i c f ≡ true))
    (listed_where (is_head i c) (λ f. IsIn f fits) (listed_members fits))) where
      there : (p : Pick) → (f : Fit) × (IsIn f fits × (is_head i c f ≡ true)) × (p ≡ pick_of f)
          → Heads fits i c p
      there p (f, (among, test), e) =
          let both = and_parts (f.query == i) (nat_le c f.credential) test in
          let with_query : ℕ → Fit = λ q. record { query = q; credential = f.credential; set = f.set } in
          let same : fit_at i (pick_of f) ≡ f = ap with_query (sym (eqb-true f.query i both.0)) in
          subst (Heads fits i c) (sym e) (
            subst (λ g. IsIn g fits) (sym same) among,
            leb-true c f.credential both.1,
          )

abbrev ShortTails : List Fit → ℕ → Bool → ℕ → Pick → List Pick → Type 0
ShortTails fits i m n p ps = Tails fits i m p ps × (length ps ≤ n)

abbrev Short : List Fit → ℕ → Bool → ℕ → ℕ → List Pick → Type 0
Short fits i m n c ps = Valid fits i m c ps × (length ps ≤ n)

tails_by : (fits : List Fit) (i : ℕ) (m : Bool) (n : ℕ) (p : Pick)
    → Listed (Short fits i m n (p.credential + 1)) → Listed (ShortTails fits i m n p)
tails_by fits i true n p l =
    listed_like (Short fits i true n (p.credential + 1)) (ShortTails fits i true n p)
    (λ ps h. (((λ e. absurd (cc e)), h.0), h.1)) (λ ps h. (h.0.1, h.1)) l
tails_by fits i false n p l =
    listed_like (λ ps. ps ≡ []) (ShortTails fits i false n p) there (λ ps h. h.0.0 refl) (listed_one []) where
      there : (ps : List Pick) → ps ≡ [] → ShortTails fits i false n p ps
      there ps e = subst (ShortTails fits i false n p) (sym e) (((λ x. refl), tt), omega arith)

listed_short : (fits : List Fit) (i : ℕ) (m : Bool) (n c : ℕ) → Listed (Short fits i m n c)
listed_short fits i m zero c = listed_like (λ ps. ps ≡ []) (Short fits i m 0 c) there back (listed_one [])
  where
    there : (ps : List Pick) → ps ≡ [] → Short fits i m 0 c ps
    there ps e = subst (Short fits i m 0 c) (sym e) (tt, omega arith)

    back : (ps : List Pick) → Short fits i m 0 c ps → ps ≡ []
    back [] h = refl
    back (p ∷ ps) h = absurd (let l : length (p ∷ ps) ≤ 0 = h.1 in omega arith)
listed_short fits i m (suc n) c =
    listed_like (λ ps. (ps ≡ []) ⊎ Joined ps) (Short fits i m (suc n) c) there back
    (listed_either (λ ps. ps ≡ []) Joined (listed_one [])
    (listed_pairs (λ p ps. p ∷ ps) (Heads fits i c) (ShortTails fits i m n) (listed_heads fits i c)
    (λ p. tails_by fits i m n p (listed_short fits i m n (p.credential + 1))))) where
      Joined : List Pick → Type 0
      Joined z = (p : Pick) × (ps : List Pick) × Heads fits i c p × ShortTails fits i m n p ps × (z ≡ p ∷ ps)

      there : (ps : List Pick) → (ps ≡ []) ⊎ Joined ps → Short fits i m (suc n) c ps
      there ps (inl e) = subst (Short fits i m (suc n) c) (sym e) (tt, omega arith)
      there z (inr (p, ps, head, tail, e)) =
          subst (Short fits i m (suc n) c) (sym e) (
            (head, tail.0),
            let l : length ps ≤ n =
                tail.1 in omega arith,
          )

      back : (ps : List Pick) → Short fits i m (suc n) c ps → (ps ≡ []) ⊎ Joined ps
      back [] h = inl refl
      back (p ∷ ps) h = inr (
        p,
        ps,
        h.0.0,
        (
          h.0.1,
          let l : length (p ∷ ps) ≤ suc n =
              h.1 in omega arith,
        ),
        refl,
      )

-- no list is longer than the credentials that fit
bound : List Fit → ℕ
bound [] = 0
bound (f ∷ fs) = max (f.credential + 1) (bound fs)

below_bound : (f : Fit) (fits : List Fit) → IsIn f fits → f.credential < bound fits
unfolding bound
below_bound f [] h = absurd h
below_bound f (g ∷ fs) (inl e) = let c : f.credential ≡ g.credential = ap (λ x. x.credential) e in omega arith
below_bound f (g ∷ fs) (inr h) = let low = below_bound f fs h in omega arith

short : (fits : List Fit) (i : ℕ) (m : Bool) (c : ℕ) (ps : List Pick) → Valid fits i m c ps → c ≤ bound fits
    → c + length ps ≤ bound fits
short fits i m c [] h low = omega arith
short fits i m c (p ∷ ps) h low =
    let under : p.credential < bound fits = below_bound (fit_at i p) fits h.0.0 in
    let from : c ≤ p.credential = h.0.1 in
    let rest : p.credential + 1 + length ps ≤ bound fits =
    short fits i m (p.credential + 1) ps h.1.1 (omega arith) in
    omega arith

listed_picks : (fits : List Fit) (i : ℕ) (m : Bool) → Listed (IsPickList fits i m)
listed_picks fits i m =
    listed_like (Short fits i m (bound fits) 0) (IsPickList fits i m) (λ ps h. spelled fits i m ps h.0)
    (λ ps h. let v = valid fits i m ps h in (
      v,
      let s =
          short fits i m 0 ps v (omega arith) in omega arith,
    ))
    (listed_short fits i m (bound fits) 0)

listed_lists : (fits : List Fit) (i : ℕ) (ms : List Credential) → Listed (ArePickLists fits i ms)
listed_lists fits i [] = listed_like (λ a. a ≡ []) (ArePickLists fits i []) there back (listed_one []) where
  there : (a : List (List Pick)) → a ≡ [] → ArePickLists fits i [] a
  there a e = subst (ArePickLists fits i []) (sym e) tt

  back : (a : List (List Pick)) → ArePickLists fits i [] a → a ≡ []
  back [] h = refl
  back (ps ∷ a) h = absurd h
listed_lists fits i (m ∷ ms) =
    listed_like Joined (ArePickLists fits i (m ∷ ms)) there back
    (listed_pairs (λ ps a. ps ∷ a) (IsPickList fits i m.multiple) (λ ps. ArePickLists fits (i + 1) ms)
    (listed_picks fits i m.multiple) (λ ps. listed_lists fits (i + 1) ms)) where
      Joined : List (List Pick) → Type 0
      Joined z = (ps : List Pick) × (a : List (List Pick)) × IsPickList fits i m.multiple ps
          × ArePickLists fits (i + 1) ms a × (z ≡ ps ∷ a)

      there : (z : List (List Pick)) → Joined z → ArePickLists fits i (m ∷ ms) z
      there z (ps, a, head, tail, e) = subst (ArePickLists fits i (m ∷ ms)) (sym e) (head, tail)

      back : (z : List (List Pick)) → ArePickLists fits i (m ∷ ms) z → Joined z
      back [] h = absurd h
      back (ps ∷ a) h = (ps, a, h.0, h.1, refl)

-- ---- answered sets

listed_unions : (ss : List CredentialSet) → Listed (IsUnion ss)
listed_unions [] = listed_like (λ a. a ≡ 0) (IsUnion []) (λ a e. ([], tt, sym e)) back (listed_one 0) where
  back : (a : ℕ) → IsUnion [] a → a ≡ 0
  back a ([], choice, e) = sym e
  back a (o ∷ os, choice, e) = absurd choice
listed_unions (s ∷ ss) =
    listed_like (λ a. Joined a ⊎ Free a) (IsUnion (s ∷ ss)) there back
    (listed_either Joined Free (listed_pairs bit_or (λ o. IsIn o s.options) (λ o. IsUnion ss)
    (listed_members s.options) (λ o. listed_unions ss)) (free s.required (listed_unions ss))) where
      Joined : ℕ → Type 0
      Joined a = (o : ℕ) × (u : ℕ) × IsIn o s.options × IsUnion ss u × (a ≡ bit_or o u)

      Free : ℕ → Type 0
      Free a = (s.required ≡ false) × IsUnion ss a

      free : (b : Bool) → Listed (IsUnion ss) → Listed (λ a. (b ≡ false) × IsUnion ss a)
      free true l = listed_none (λ a. (true ≡ false) × IsUnion ss a) (λ a h. let e = h.0 in cc e)
      free false l = listed_like (IsUnion ss) (λ a. (false ≡ false) × IsUnion ss a) (λ a h. (refl, h))
          (λ a h. h.1) l

      there : (a : ℕ) → Joined a ⊎ Free a → IsUnion (s ∷ ss) a
      there a (inl (o, u, among, (os, choice, e), f)) =
          (Some o ∷ os, (among, choice), ap (bit_or o) e ∙ sym f)
      there a (inr (r, (os, choice, e))) = (None ∷ os, (r, choice), e)

      back : (a : ℕ) → IsUnion (s ∷ ss) a → Joined a ⊎ Free a
      back a ([], choice, e) = absurd choice
      back a (Some o ∷ os, choice, e) = inl (o, union os, choice.0, (os, choice.1, refl), sym e)
      back a (None ∷ os, choice, e) = inr (choice.0, (os, choice.1, e))

listed_wanted : (n : ℕ) (o : Option (List CredentialSet)) → Listed (IsWanted n o)
listed_wanted n None = listed_one (2 ^ n - 1)
listed_wanted n (Some ss) = listed_unions ss

listed_sets : (q : Query) → Listed (IsAnswered q)
listed_sets q =
    let Wanted : ℕ → Type 0 = IsWanted (length q.credentials) q.sets in
    listed_like (λ a. Wanted a × (nat_lt 0 a ≡ true)) (IsAnswered q) (λ a h. (ltb-true 0 a h.1, h.0))
    (λ a h. (h.1, lt-ltb 0 a h.0))
    (listed_where (λ a. nat_lt 0 a) Wanted (listed_wanted (length q.credentials) q.sets))

-- ---- answers

pub listed_answers : (q : Query) (fits : List Fit) → Listed (Admits q fits)
listed_answers q fits =
    let sets = listed_sets q in
    listed_like (λ a. ArePickLists fits 0 q.credentials a
    × (has_number (bits_of (answered a)) sets.all ≡ true)) (Admits q fits)
    (λ a h. record { lists = h.0; set = sets.only _ (has_in _ sets.all h.1) })
    (λ a h. (h.lists, in_has _ sets.all (sets.here _ h.set)))
    (listed_where (λ a. has_number (bits_of (answered a)) sets.all) (ArePickLists fits 0 q.credentials)
    (listed_lists fits 0 q.credentials))

lt_less : (o : Ordering) → is_lt o ≡ true → o ≡ Less
lt_less Less h = refl
lt_less Equal h = absurd (cc h)
lt_less Greater h = absurd (cc h)

listed_following : (q : Query) (fits : List Fit) (a : Option (List (List Pick)))
    → Listed (Follows (Admits q fits) answer_cmp a)
listed_following q fits None = listed_like (Admits q fits) (Follows (Admits q fits) answer_cmp None)
    (λ x h. (h, tt)) (λ x h. h.0) (listed_answers q fits)
listed_following q fits (Some a) =
    listed_like (λ x. Admits q fits x × (is_lt (answer_cmp a x) ≡ true))
    (Follows (Admits q fits) answer_cmp (Some a)) (λ x h. (h.0, lt_less (answer_cmp a x) h.1))
    (λ x h. (h.0, ap is_lt h.1))
    (listed_where (λ x. is_lt (answer_cmp a x)) (Admits q fits) (listed_answers q fits))

pub following : (q : Query) (fits : List Fit) (a : Option (List (List Pick)))
    → (xs : List (List (List Pick))) × AreFollowing (Admits q fits) answer_cmp a xs
following q fits a =
    let r = ordered answer_order (Follows (Admits q fits) answer_cmp a) (listed_following q fits a) in
    (r.0, record { ascends = r.1; all = r.2; only = r.3 })

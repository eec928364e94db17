-- What may be deeper.
use Rattle.std.proofs.Common.{◌≡◌, ℕ, zero, suc, ◌+◌, ◌-◌, ◌≤◌, List, [], ◌∷◌, Some, None, subst, arith}
use Rattle.std.specs.List.{AllByRecursion}
use Rattle.cbor_validity.specs.declared.head.Head.{Head}
use Rattle.cbor_validity.specs.declared.head.Head.TheVariants as head
use Rattle.cbor_validity.specs.Grammar.{IsPair, IsContent, IsItem}

module _ (P Q : List ℕ → Type 0) (weaker : (bytes : List ℕ) → P bytes → Q bytes) where
  pub all_weaker : (parts : List (List ℕ)) → AllByRecursion P parts → AllByRecursion Q parts
  all_weaker [] all = tt
  all_weaker (p ∷ ps) all = (weaker p all.0, all_weaker ps all.1)

  pair_weaker : (bytes : List ℕ) → IsPair P bytes → IsPair Q bytes
  pair_weaker bytes i = (i.0, i.1, weaker i.0 i.2, weaker i.1 i.3, i.4)

module _ (P Q : List ℕ → Type 0) (weaker : (bytes : List ℕ) → P bytes → Q bytes) where
  content_weaker : (h : Head) (bytes : List ℕ) → IsContent P h bytes → IsContent Q h bytes
  content_weaker (head.Unsigned n) bytes c = c
  content_weaker (head.Negative n) bytes c = c
  content_weaker (head.Bytes n) bytes c = c
  content_weaker (head.Text n) bytes c = c
  content_weaker (head.List (Some n)) bytes c = (c.0, all_weaker P Q weaker c.0 c.1, c.2, c.3)
  content_weaker (head.List None) bytes c = (c.0, all_weaker P Q weaker c.0 c.1, c.2)
  content_weaker (head.Map (Some n)) bytes c =
      (c.0, all_weaker (IsPair P) (IsPair Q) (pair_weaker P Q weaker) c.0 c.1, c.2, c.3)
  content_weaker (head.Map None) bytes c =
      (c.0, all_weaker (IsPair P) (IsPair Q) (pair_weaker P Q weaker) c.0 c.1, c.2)
  content_weaker (head.Tag n) bytes c = weaker bytes c
  content_weaker (head.Simple n) bytes c = c
  content_weaker head.Float bytes c = c
  content_weaker head.Break bytes c = c

one_deeper : (depth : ℕ) (bytes : List ℕ) → IsItem depth bytes → IsItem (suc depth) bytes
one_deeper zero bytes i =
    (i.0, i.1, i.2, tt, i.4, content_weaker (λ _. ⊥) (IsItem zero) (λ b h. absurd h) i.0 i.2 i.5, i.6)
one_deeper (suc depth) bytes i = (
  i.0,
  i.1,
  i.2,
  tt,
  i.4,
  content_weaker (IsItem depth) (IsItem (suc depth))
      (one_deeper depth) i.0 i.2 i.5,
  i.6,
)

more_deep : (more depth : ℕ) (bytes : List ℕ) → IsItem depth bytes → IsItem (more + depth) bytes
more_deep zero depth bytes i =
    subst (λ (d : ℕ). IsItem d bytes) (let e : depth ≡ 0 + depth = omega arith in e) i
more_deep (suc more) depth bytes i =
    subst (λ (d : ℕ). IsItem d bytes) (let e : suc (more + depth) ≡ suc more + depth = omega arith in e)
    (one_deeper (more + depth) bytes (more_deep more depth bytes i))

pub deeper : (depth limit : ℕ) (bytes : List ℕ) → depth ≤ limit → IsItem depth bytes → IsItem limit bytes
deeper depth limit bytes le i =
    subst (λ (d : ℕ). IsItem d bytes) (let e : (limit - depth) + depth ≡ limit = omega arith in e)
    (more_deep (limit - depth) depth bytes i)

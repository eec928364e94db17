-- Digests of an object's hidden members, sorted, with what each of them stands for.
use Rattle.std.proofs.Common.{◌≡◌, Bool, true, false, not, ◌||◌, List, [], ◌∷◌, ◌++◌, map, Some, Ordering}
use Rattle.std.proofs.Common.{Less, Equal, Greater, nat_cmp, refl, ap, ◌∙◌, arith}
use Rattle.std.specs.List.{AllByRecursion, list_any}
use Rattle.std.specs.Ordering.{match_ordering}
use Rattle.std.specs.Cmp.Lexicographic.{slice_cmp}
use Rattle.std.specs.Str.{bytes_eq}
use Rattle.std.proofs.lemmas.Bool.{and_parts, or_parts, or_from}
use Rattle.claim_tree.specs.Tree.{Tree}
use Rattle.claim_tree.specs.Parts.{Named}
use Rattle.sdjwt_disclosures.specs.PutMember.{put_member}
use Rattle.base_forms.specs.Texts.{Utf8, is_among, differ}
use Rattle.base_forms.proofs.Differing.{bytes_eq-flip}
use Rattle.sdjwt_digests.specs.Disclosures.{Disclosed, found}
use Rattle.sdjwt_disclosures.specs.Spelling.{Way, SpellHeld, put_members, times}
use Rattle.sdjwt_disclosures.proofs.Counting.{times-append, times_differ, differ_times}
use Rattle.sdjwt_hiding.specs.Hiding.{insert, sorted}
use Rattle.sdjwt_hiding.proofs.Orders.{swapped}

-- a digest, the member that it stands for, and what that member's value uses
pub record One : Type 0 where
  pub digest : Utf8
  pub name : Utf8
  pub tree : Tree
  pub uses : List Utf8

-- the disclosure of that digest has that name, and its value spells that tree
pub record Holds (Inner : Way) (ls : List Disclosed) (o : One) : Type 0 where
  pub disclosure : Disclosed
  pub is : found o.digest ls ≡ Some disclosure
  pub has_name : disclosure.name ≡ Some o.name
  pub spells : Inner disclosure.value o.tree o.uses

abbrev pub named : One → Named
named o = (o.name, true, o.tree)

abbrev pub digests : List One → List Utf8
digests os = map (λ o. o.digest) os

abbrev pub names : List One → List Utf8
names os = map (λ o. o.name) os

abbrev pub members : List One → List Named
members os = map named os

abbrev pub all_uses : List One → List Utf8
all_uses [] = []
all_uses (o ∷ os) = o.digest ∷ o.uses ++ all_uses os

pub spell_held : (Inner : Way) (ls : List Disclosed) (os : List One) → AllByRecursion (Holds Inner ls) os
    → SpellHeld Inner ls (digests os) (members os) (all_uses os)
spell_held Inner ls [] h = SpellHeld.no_more
spell_held Inner ls (o ∷ os) h =
    SpellHeld.disclosed h.0.is h.0.has_name h.0.spells (spell_held Inner ls os h.1)

-- ---- sorted by digest

abbrev pub put_one : One → List One → List One
put_one o [] = o ∷ []
put_one o (p ∷ ps) = match_ordering (slice_cmp nat_cmp o.digest p.digest) (o ∷ p ∷ ps) (o ∷ p ∷ ps) (p
    ∷ put_one o ps)

abbrev pub ordered : List One → List One
ordered [] = []
ordered (o ∷ os) = put_one o (ordered os)

-- what holds of one order of two neighbours, and of both
one_more : (P : List One → Type 0) (r : Ordering) (o p : One) (ps : List One) → P (o ∷ p ∷ ps)
    → P (p ∷ put_one o ps) → P (match_ordering r (o ∷ p ∷ ps) (o ∷ p ∷ ps) (p ∷ put_one o ps))
one_more P Less o p ps a b = a
one_more P Equal o p ps a b = a
one_more P Greater o p ps a b = b

insert_digest_at : (r : Ordering) (o p : One) (ps : List One)
    → digests (put_one o ps) ≡ insert o.digest (digests ps)
    → digests (match_ordering r (o ∷ p ∷ ps) (o ∷ p ∷ ps) (p ∷ put_one o ps)) ≡ match_ordering r (o.digest
    ∷ p.digest ∷ digests ps) (o.digest ∷ p.digest ∷ digests ps) (p.digest ∷ insert o.digest (digests ps))
insert_digest_at Less o p ps e = refl
insert_digest_at Equal o p ps e = refl
insert_digest_at Greater o p ps e = ap (λ xs. p.digest ∷ xs) e

insert_digest : (o : One) (ps : List One) → digests (put_one o ps) ≡ insert o.digest (digests ps)
insert_digest o [] = refl
insert_digest o (p ∷ ps) = insert_digest_at (slice_cmp nat_cmp o.digest p.digest) o p ps (insert_digest o ps)

pub ordered_digests : (os : List One) → digests (ordered os) ≡ sorted (digests os)
ordered_digests [] = refl
ordered_digests (o ∷ os) = insert_digest o (ordered os) ∙ ap (insert o.digest) (ordered_digests os)

put_all : (P : One → Type 0) (o : One) (ps : List One) → P o → AllByRecursion P ps
    → AllByRecursion P (put_one o ps)
put_all P o [] a b = (a, tt)
put_all P o (p ∷ ps) a b = one_more (AllByRecursion P) (slice_cmp nat_cmp o.digest p.digest) o p ps (a, b)
    (b.0, put_all P o ps a b.1)

pub ordered_all : (P : One → Type 0) (os : List One) → AllByRecursion P os → AllByRecursion P (ordered os)
ordered_all P [] h = tt
ordered_all P (o ∷ os) h = put_all P o (ordered os) h.0 (ordered_all P os h.1)

put_uses : (x : Utf8) (o : One) (ps : List One)
    → times x (all_uses (put_one o ps)) ≡ times x (all_uses (o ∷ ps))
put_uses x o [] = refl
put_uses x o (p ∷ ps) = one_more (λ qs. times x (all_uses qs) ≡ times x (all_uses (o ∷ p ∷ ps)))
    (slice_cmp nat_cmp o.digest p.digest) o p ps refl
    (omega (
      arith,
      put_uses x o ps,
      times-append x p.uses (all_uses (put_one o ps)),
      times-append x o.uses
          (all_uses ps),
      times-append x p.uses (all_uses ps),
      times-append x o.uses (p.digest
          ∷ p.uses ++ all_uses ps),
    ))

pub ordered_uses : (x : Utf8) (os : List One) → times x (all_uses (ordered os)) ≡ times x (all_uses os)
ordered_uses x [] = refl
ordered_uses x (o ∷ os) = omega (
  arith,
  put_uses x o (ordered os),
  times-append x o.uses (all_uses (ordered os)),
  times-append x o.uses
      (all_uses os),
  ordered_uses x os,
)

-- ---- names

put_names : (x : Utf8) (o : One) (ps : List One) → times x (names (put_one o ps)) ≡ times x (names (o ∷ ps))
put_names x o [] = refl
put_names x o (p ∷ ps) = one_more (λ qs. times x (names qs) ≡ times x (names (o ∷ p ∷ ps)))
    (slice_cmp nat_cmp o.digest p.digest) o p ps refl (omega (arith, put_names x o ps))

pub ordered_names : (x : Utf8) (os : List One) → times x (names (ordered os)) ≡ times x (names os)
ordered_names x [] = refl
ordered_names x (o ∷ os) = omega (arith, put_names x o (ordered os), ordered_names x os)

pub ordered_differ : (os : List One) → differ (names os) ≡ true → differ (names (ordered os)) ≡ true
ordered_differ os h = times_differ (names (ordered os))
    (λ x. omega (arith, ordered_names x os, differ_times (names os) h x))

put_any : (p : Utf8 → Bool) (o : One) (ps : List One) → p o.name ≡ false → list_any p (names ps) ≡ false
    → list_any p (names (put_one o ps)) ≡ false
put_any p o [] a b = or_from (p o.name) false a refl
put_any p o (q ∷ ps) a b =
    let both = or_parts (p q.name) (list_any p (names ps)) b in
    one_more (λ qs. list_any p (names qs) ≡ false) (slice_cmp nat_cmp o.digest q.digest) o q ps
    (or_from (p o.name) (p q.name || list_any p (names ps)) a b)
    (or_from (p q.name) (list_any p (names (put_one o ps))) both.0 (put_any p o ps a both.1))

pub ordered_any : (p : Utf8 → Bool) (os : List One) → list_any p (names os) ≡ false
    → list_any p (names (ordered os)) ≡ false
ordered_any p [] h = refl
ordered_any p (o ∷ os) h =
    let both = or_parts (p o.name) (list_any p (names os)) h in
    put_any p o (ordered os) both.0 (ordered_any p os both.1)

-- ---- members

put_put : (o : One) (ps : List One) (ns : List Named) → is_among o.name (names ps) ≡ false
    → put_members (members (put_one o ps)) ns ≡ put_members (members (o ∷ ps)) ns
put_put o [] ns h = refl
put_put o (p ∷ ps) ns h =
    let both = or_parts (bytes_eq p.name o.name) (is_among o.name (names ps)) h in
    one_more (λ qs. put_members (members qs) ns ≡ put_members (members (o ∷ p ∷ ps)) ns)
    (slice_cmp nat_cmp o.digest p.digest) o p ps refl
    (put_put o ps (put_member (named p) ns) both.1
    ∙ ap (put_members (members ps))
    (swapped (named o) (named p) ns (bytes_eq-flip o.name p.name ∙ both.0)))

not_true : (b : Bool) → not b ≡ true → b ≡ false
not_true true e = cc
not_true false e = refl

pub ordered_members : (os : List One) (ns : List Named) → differ (names os) ≡ true
    → put_members (members (ordered os)) ns ≡ put_members (members os) ns
ordered_members [] ns h = refl
ordered_members (o ∷ os) ns h =
    let both = and_parts (not (is_among o.name (names os))) (differ (names os)) h in
    put_put o (ordered os) ns (ordered_any (λ y. bytes_eq y o.name) os
    (not_true (is_among o.name (names os)) both.0)) ∙ ordered_members os (put_member (named o) ns) both.1

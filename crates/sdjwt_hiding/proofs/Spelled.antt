-- The value with parts hidden spells the tree that is meant, and uses the disclosures of all that is hidden,
-- each as often as it is met.
use Rattle.std.proofs.Common.{◌≡◌, ◌≤◌, ℕ, zero, suc, ◌+◌, Bool, true, false, not, ◌&&◌, ◌||◌, List, [], ◌∷◌}
use Rattle.std.proofs.Common.{◌++◌, map, Option, Some, None, refl, sym, ap, ◌∙◌, subst, arith}
use Rattle.std.specs.Prelude.{is_some}
use Rattle.std.specs.List.{AllByRecursion, list_any}
use Rattle.std.specs.Str.{bytes_eq}
use Rattle.std.proofs.lemmas.Bool.{and_parts, or_parts, or_from}
use Rattle.serde_json.specs.Data.{Data, null, boolean, number, string, array, object, Items, no_items, item}
use Rattle.serde_json.specs.Data.{Members as Fields, no_members as no_fields, member as field, depth}
use Rattle.serde_json.specs.Data.{items_depth, members_depth}
use Rattle.serde_json.specs.Find.{get_member}
use Rattle.claim_tree.specs.Tree.{Tree, ListOf, ascend, is_claim, are_claims, hold_claims, element_marks}
use Rattle.claim_tree.specs.Plain.{plain, plain_elements, plain_members as plain_fields}
use Rattle.claim_tree.specs.Parts.{Part, Named, elements_of}
use Rattle.claim_tree.specs.Ascending.{names_of}
use Rattle.claim_names.specs.declared.address.Step.TheVariants.{Name, Place}
use Rattle.base_forms.specs.Texts.{Utf8, is_among, differ}
use Rattle.base_forms.proofs.Differing.{bytes_eq-flip}
use Rattle.sdjwt_digests.specs.Disclosures.{Disclosed, found}
use Rattle.sdjwt_digests.specs.DigestSites.{sd, dots, placeholder, own_digests as digests_of}
use Rattle.sdjwt_disclosures.specs.MemberNames.{gets_clash}
use Rattle.sdjwt_digests.specs.ReservedNames.{is_reserved_name}
use Rattle.sdjwt_disclosures.specs.DisclosedTree.{left_out}
use Rattle.sdjwt_disclosures.specs.Spelling.{Way, SpellElements, SpellPlain, SpellHeld, SpellMembers, Spells}
use Rattle.sdjwt_disclosures.specs.Spelling.{put_members, times}
use Rattle.sdjwt_disclosures.proofs.Claims.{IsSound}
use Rattle.sdjwt_disclosures.proofs.Counting.{times-append}
use Rattle.sdjwt_hiding.specs.Hiding.{Marks, under, at, Digests, sorted, with_digests, standing, with_member}
use Rattle.sdjwt_hiding.specs.Hiding.{with_digest, hidden, hidden_items, left_members, own_digests, Numbered}
use Rattle.sdjwt_hiding.specs.Hiding.{taken, met, met_items, met_members, is_free, are_free, has_free}
use Rattle.sdjwt_hiding.specs.Meant.{meant, meant_elements, meant_members}
use Rattle.sdjwt_hiding.proofs.Orders.{held_of, staying_of, rejoined, ascend_differ, held_ascend}
use Rattle.sdjwt_hiding.proofs.Sorting.{One, Holds, digests, names, members, all_uses, spell_held, ordered}
use Rattle.sdjwt_hiding.proofs.Sorting.{ordered_digests, ordered_all, ordered_uses, ordered_differ}
use Rattle.sdjwt_hiding.proofs.Sorting.{ordered_any, ordered_members}
use Rattle.sdjwt_hiding.proofs.Written.{field_names, plain_with, digests_read, no_placeholder}
use Rattle.sdjwt_hiding.proofs.Written.{loose_where_held, meant_names, none_stays, free_sd, none_clashes}

-- each disclosure is the one that is found by its digest
abbrev pub AreFound : List Disclosed → List Numbered → Type 0
AreFound ls ps = AllByRecursion (λ p. found p.1.digest ls ≡ Some p.1) ps

abbrev pub met_digests : List Numbered → List Utf8
met_digests ps = map (λ p. p.1.digest) ps

-- how often the digest of a disclosure stands among those of some
abbrev pub tally : Utf8 → List Numbered → ℕ
tally y ps = times y (met_digests ps)

pub tally-append : (y : Utf8) (ps qs : List Numbered) → tally y (ps ++ qs) ≡ tally y ps + tally y qs
tally-append y [] qs = omega arith
tally-append y (p ∷ ps) qs = omega (arith, tally-append y ps qs)

all_front : {X : Type 0} (P : X → Type 0) (xs ys : List X) → AllByRecursion P (xs ++ ys) → AllByRecursion P xs
all_front P [] ys h = tt
all_front P (x ∷ xs) ys h = (h.0, all_front P xs ys h.1)

all_back : {X : Type 0} (P : X → Type 0) (xs ys : List X) → AllByRecursion P (xs ++ ys) → AllByRecursion P ys
all_back P [] ys h = h
all_back P (x ∷ xs) ys h = all_back P xs ys h.1

-- the value spells the tree, with these disclosures
pub record Made (Inner : Way) (d : Data) (t : Tree) (ps : List Numbered) : Type 0 where
  pub uses : List Utf8
  pub spells : Inner d t uses
  pub counted : (y : Utf8) → times y uses ≡ tally y ps

pub record MadeList (Inner : Way) (ls : List Disclosed) (ds : Items) (es : List Part) (ps : List Numbered)
    : Type 0 where
  pub uses : List Utf8
  pub spells : SpellElements Inner ls ds es uses
  pub counted : (y : Utf8) → times y uses ≡ tally y ps

-- the members that stay are spelled, and each digest is that of a hidden one
pub record MadeParts (Inner : Way) (ls : List Disclosed) (left : List Utf8) (ms : Fields) (xs : List Utf8)
    (ns : List Named) (ps : List Numbered) : Type 0 where
  pub uses : List Utf8
  pub spells : SpellPlain Inner left ms (staying_of ns) uses
  pub ones : List One
  pub hold : AllByRecursion (Holds Inner ls) ones
  pub are_digests : digests ones ≡ xs
  pub are_held : members ones ≡ held_of ns
  pub counted : (y : Utf8) → times y uses + times y (all_uses ones) ≡ tally y ps

-- all members are spelled; those that are held are those of the members that are meant
pub record MadeMembers (is_payload : Bool) (Inner : Way) (ls : List Disclosed) (ms : Fields) (ns : List Named)
    (ps : List Numbered) : Type 0 where
  pub uses : List Utf8
  pub spells : SpellMembers is_payload Inner ls ms ns uses
  pub counted : (y : Utf8) → times y uses ≡ tally y ps
  pub none_held : (p : Utf8 → Bool) → list_any p (names_of (held_of ns)) ≡ false
      → list_any p (map (λ n. n.0) spells.held) ≡ false

-- ---- one level, over the values inside

module _ (x : Digests) (ls : List Disclosed) (Inner : Way) where
  element_made : (o : Option ℕ) (v : Data) (t : Tree) (ds : Items) (es : List Part) (ps qs : List Numbered)
      → placeholder v ≡ None → AreFound ls (taken x o None v) → Made Inner v t ps → MadeList Inner ls ds es qs
      → MadeList Inner ls (item (standing x o v) ds) ((is_some o, t) ∷ es) (ps ++ (taken x o None v ++ qs))
  element_made None v t ds es ps qs plain told a b = record {
    uses = a.uses ++ b.uses;
    spells = SpellElements.plain plain a.spells b.spells;
    counted = λ y. omega (
      arith,
      times-append y a.uses b.uses,
      tally-append y ps qs,
      a.counted y,
      b.counted
          y,
    );
  }
  element_made (Some n) v t ds es ps qs plain told a b = record {
    uses = x n None v ∷ a.uses ++ b.uses;
    spells = SpellElements.disclosed refl told.0 refl a.spells b.spells;
    counted = λ y. omega (
      arith,
      times-append y a.uses b.uses,
      tally-append y ps
          (taken x (Some n) None v ++ qs),
      a.counted y,
      b.counted y,
    );
  }

  member_made : (left : List Utf8) (o : Option ℕ) (k : Utf8) (v : Data) (t : Tree) (ms : Fields)
      (xs : List Utf8) (ns : List Named) (ps qs : List Numbered) → is_among k left ≡ false
      → AreFound ls (taken x o (Some k) v) → Made Inner v t ps
      → MadeParts Inner ls left ms xs ns qs
      → MadeParts Inner ls left (with_member o k v ms) (with_digest x o k v xs) ((k, is_some o, t)
      ∷ ns) (ps ++ (taken x o (Some k) v ++ qs))
  member_made left None k v t ms xs ns ps qs stays told a b = record {
    uses = a.uses ++ b.uses;
    spells = SpellPlain.plain stays a.spells b.spells;
    ones = b.ones;
    hold = b.hold;
    are_digests = b.are_digests;
    are_held = b.are_held;
    counted = λ y. omega (
      arith,
      times-append y a.uses b.uses,
      tally-append y ps qs,
      a.counted y,
      b.counted
          y,
    );
  }
  member_made left (Some n) k v t ms xs ns ps qs stays told a b =
      let one : One = record { digest = x n (Some k) v; name = k; tree = t; uses = a.uses } in
      record {
        uses = b.uses;
        spells = b.spells;
        ones = one ∷ b.ones;
        hold = (
          record {
            disclosure = record { digest = x n (Some k) v; name = Some k; value = v };
            is =
                told.0;
            has_name = refl;
            spells = a.spells;
          },
          b.hold,
        );
        are_digests = ap (λ ys. x n (Some k) v ∷ ys) b.are_digests;
        are_held = ap (λ ys. (k, true, t) ∷ ys) b.are_held;
        counted = λ y. omega (
          arith,
          times-append y a.uses (all_uses b.ones),
          tally-append y ps
              (taken x (Some n) (Some k) v ++ qs),
          a.counted y,
          b.counted y,
        );
      }

-- ---- all of a list, and all of an object

-- what is to be shown of each value with at most n levels
abbrev pub Makes : Digests → List Disclosed → ℕ → Way → Type 0
Makes x ls n Inner = (m : Marks) (d : Data) → depth d ≤ n → IsSound d → is_free d ≡ true
    → AreFound ls (met x m d) → Made Inner (hidden x m d) (meant m d) (met x m d)

module _ (x : Digests) (ls : List Disclosed) (Inner : Way) (n : ℕ) (makes : Makes x ls n Inner) where
  items_made : (m : Marks) (i : ℕ) (ds : Items) → items_depth ds ≤ n → are_claims (plain_elements ds) ≡ true
      → are_free ds ≡ true → AreFound ls (met_items x m i ds)
      → MadeList Inner ls (hidden_items x m i ds) (meant_elements m i ds) (met_items x m i ds)
  items_made m i no_items deep claims free told =
      record { uses = []; spells = SpellElements.no_more; counted = λ y. refl }
  items_made m i (item d ds) deep claims free told =
      let c = and_parts (is_claim (plain d)) (are_claims (plain_elements ds)) claims in
      let f = and_parts (is_free d) (are_free ds) free in
      let v = hidden x (under (Place i) m) d in
      let own = taken x (at (Place i) m) None v in
      let inner = met x (under (Place i) m) d in
      let rest = met_items x m (suc i) ds in
      let back = all_back (λ p. found p.1.digest ls ≡ Some p.1) inner (own ++ rest) told in
      let here : depth d ≤ n = omega arith in
      let there : items_depth ds ≤ n = omega arith in
      element_made x ls Inner (at (Place i) m) v (meant (under (Place i) m) d) (hidden_items x m (suc i) ds)
      (meant_elements m (suc i) ds) inner rest (no_placeholder x (under (Place i) m) d f.0)
      (all_front (λ p. found p.1.digest ls ≡ Some p.1) own rest back)
      (makes (under (Place i) m) d here c.0 f.0
      (all_front (λ p. found p.1.digest ls ≡ Some p.1) inner (own ++ rest) told))
      (items_made m (suc i) ds there c.1 f.1 (all_back (λ p. found p.1.digest ls ≡ Some p.1) own rest back))

  parts_made : (left : List Utf8) (m : Marks) (ms : Fields) → members_depth ms ≤ n
      → hold_claims (plain_fields ms) ≡ true → has_free ms ≡ true
      → list_any (λ k. is_among k left) (field_names ms) ≡ false → AreFound ls (met_members x m ms)
      → MadeParts Inner ls left (left_members x m ms) (own_digests x m ms) (meant_members m ms)
      (met_members x m ms)
  parts_made left m no_fields deep claims free apart told =
      record {
        uses = [];
        spells = SpellPlain.no_more;
        ones = [];
        hold = tt;
        are_digests = refl;
        are_held =
            refl;
        counted = λ y. refl;
      }
  parts_made left m (field k d ms) deep claims free apart told =
      let c = and_parts (is_claim (plain d)) (hold_claims (plain_fields ms)) claims in
      let f = and_parts (is_free d) (has_free ms)
      (and_parts (not (is_reserved_name k)) (is_free d && has_free ms) free).1 in
      let a = or_parts (is_among k left) (list_any (λ j. is_among j left) (field_names ms)) apart in
      let v = hidden x (under (Name k) m) d in
      let own = taken x (at (Name k) m) (Some k) v in
      let inner = met x (under (Name k) m) d in
      let rest = met_members x m ms in
      let back = all_back (λ p. found p.1.digest ls ≡ Some p.1) inner (own ++ rest) told in
      let here : depth d ≤ n = omega arith in
      let there : members_depth ms ≤ n = omega arith in
      member_made x ls Inner left (at (Name k) m) k v (meant (under (Name k) m) d) (left_members x m ms)
      (own_digests x m ms) (meant_members m ms) inner rest a.0
      (all_front (λ p. found p.1.digest ls ≡ Some p.1) own rest back)
      (makes (under (Name k) m) d here c.0 f.0
      (all_front (λ p. found p.1.digest ls ≡ Some p.1) inner (own ++ rest) told))
      (parts_made left m ms there c.1 f.1 a.1 (all_back (λ p. found p.1.digest ls ≡ Some p.1) own rest back))

  names_are : (os : List One) → map (λ n. n.0) (members os) ≡ names os
  names_are [] = refl
  names_are (o ∷ os) = ap (λ ks. o.name ∷ ks) (names_are os)

  named_are : (os : List One) → names_of (members os) ≡ names os
  named_are [] = refl
  named_are (o ∷ os) = ap (λ ks. o.name ∷ ks) (named_are os)

  neither : (a b : Bool) → a ≡ true → b ≡ false → (not a || b) ≡ false
  neither true b e f = f
  neither false b e f = cc

  -- the members of an object are spelled, with the digests of those that are hidden in the order of their
  -- bytes
  pub members_made : (is_payload : Bool) (m : Marks) (ms : Fields) → members_depth ms ≤ n
      → IsSound (object ms) → has_free ms ≡ true
      → list_any (λ k. is_among k (left_out is_payload)) (field_names ms) ≡ false
      → is_among sd (left_out is_payload) ≡ true
      → AreFound ls (met_members x m ms)
      → MadeMembers is_payload Inner ls (with_digests (own_digests x m ms) (left_members x m ms))
      (meant_members m ms) (met_members x m ms)
  members_made is_payload m ms deep sound free apart has_sd told =
      let both = and_parts (ascend (field_names ms)) (hold_claims (plain_fields ms)) sound in
      let p = parts_made (left_out is_payload) m ms deep both.1 free apart told in
      let xs = own_digests x m ms in
      let written = with_digests xs (left_members x m ms) in
      let os = ordered p.ones in
      let up : ascend (names_of (meant_members m ms)) ≡ true = ap ascend (meant_names m ms) ∙ both.0 in
      let none = none_stays x m sd ms (free_sd ms free) in
      let ones_named : names p.ones ≡ names_of (held_of (meant_members m ms)) = sym (named_are p.ones)
      ∙ ap names_of p.are_held in
      let differing : differ (names p.ones) ≡ true = ap differ ones_named
      ∙ ascend_differ (names_of (held_of (meant_members m ms))) (held_ascend (meant_members m ms) up) in
      let unclashing : list_any (λ k. is_some (get_member k written)) (names p.ones) ≡ false =
      ap (list_any (λ k. is_some (get_member k written))) ones_named
      ∙ none_clashes x m ms xs both.0 (free_sd ms free) in
      let read : digests_of written ≡ digests os = digests_read xs (left_members x m ms) none
      ∙ ap sorted (sym p.are_digests) ∙ sym (ordered_digests p.ones) in
      let held = spell_held Inner ls os (ordered_all (Holds Inner ls) p.ones p.hold) in
      let together : meant_members m ms ≡ put_members (members os) (staying_of (meant_members m ms)) =
      rejoined (meant_members m ms) up
      ∙ ap (λ hs. put_members hs (staying_of (meant_members m ms))) (sym p.are_held)
      ∙ sym (ordered_members p.ones (staying_of (meant_members m ms)) differing) in
      record {
        uses = p.uses ++ all_uses os;
        spells = record {
          plain = staying_of (meant_members m ms);
          held = members os;
          plain_uses = p.uses;
          held_uses = all_uses os;
          spells_plain = plain_with Inner (left_out is_payload) xs has_sd p.spells none;
          spells_held = subst (λ ys. SpellHeld Inner ls ys (members os) (all_uses os)) (sym read) held;
          names_differ = ap (λ ks. gets_clash ks written) (names_are os)
              ∙ neither (differ (names os)) (list_any (λ k. is_some (get_member k written)) (names os))
              (ordered_differ p.ones differing)
              (ordered_any (λ k. is_some (get_member k written)) p.ones unclashing);
          are_members = together;
          are_uses = refl;
        };
        counted = λ y. omega (arith, times-append y p.uses (all_uses os), ordered_uses y p.ones, p.counted y);
        none_held = λ q h. ap (list_any q) (names_are os)
            ∙ ordered_any q p.ones (ap (list_any q) ones_named ∙ h);
      }

-- ---- values

-- no member is named as one that is left out of an inner object
inner_apart : (ms : Fields) → has_free ms ≡ true
    → list_any (λ k. is_among k (left_out false)) (field_names ms) ≡ false
inner_apart no_fields h = refl
inner_apart (field k d ms) h =
    let a = and_parts (not (is_reserved_name k)) (is_free d && has_free ms) h in
    let b = and_parts (is_free d) (has_free ms) a.1 in
    or_from (bytes_eq sd k || false) (list_any (λ j. is_among j (left_out false)) (field_names ms))
    (or_from (bytes_eq sd k) false (bytes_eq-flip sd k
    ∙ (or_parts (bytes_eq k sd) (bytes_eq k dots) (not_true (is_reserved_name k) a.0)).0) refl)
    (inner_apart ms b.1)
  where
    not_true : (b : Bool) → not b ≡ true → b ≡ false
    not_true true e = cc
    not_true false e = refl

pub values_made : (x : Digests) (ls : List Disclosed) (n : ℕ) → Makes x ls n (Spells n ls)
values_made x ls n m null deep sound free told =
    record { uses = []; spells = (refl, refl); counted = λ y. refl }
values_made x ls n m (boolean b) deep sound free told =
    record { uses = []; spells = (refl, refl); counted = λ y. refl }
values_made x ls n m (number k) deep sound free told =
    record { uses = []; spells = (refl, refl); counted = λ y. refl }
values_made x ls n m (string s) deep sound free told =
    record { uses = []; spells = (refl, refl); counted = λ y. refl }
values_made x ls zero m (array ds) deep sound free told = absurd (omega arith)
values_made x ls zero m (object ms) deep sound free told = absurd (omega arith)
values_made x ls (suc n) m (array ds) deep sound free told =
    let claims = (and_parts (not (list_any (λ h. h) (element_marks (plain_elements ds))) || false)
    (are_claims (plain_elements ds)) sound).1 in
    let shallow : items_depth ds ≤ n = omega arith in
    let made = items_made x ls (Spells n ls) n (values_made x ls n) m 0 ds shallow claims free told in
    record {
      uses = made.uses;
      spells = (
        meant_elements m 0 ds,
        made.spells,
        ap (λ l. ListOf l (elements_of (meant_elements m 0 ds)))
            (sym (loose_where_held x m 0 ds free)),
      );
      counted = made.counted;
    }
values_made x ls (suc n) m (object ms) deep sound free told =
    let shallow : members_depth ms ≤ n = omega arith in
    let made = members_made x ls (Spells n ls) n (values_made x ls n) false m ms shallow sound free
    (inner_apart ms free) refl told in
    record { uses = made.uses; spells = (meant_members m ms, made.spells, refl); counted = made.counted }

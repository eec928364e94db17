-- The claim tree that a JSON value spells, case by case, and the disclosures that it uses (RFC 9901, sections
-- 4.2, 7.1 and 7.3).
use Rattle.std.specs.Prelude.{◌≡◌, ℕ, zero, suc, ◌+◌, Bool, true, false, List, [], ◌∷◌, ◌++◌, map, Some, None}
use Rattle.std.specs.Prelude.{if◌then◌else◌}
use Rattle.std.specs.List.{AllByRecursion, list_any}
use Rattle.std.specs.Str.{bytes_eq}
use Rattle.serde_json.specs.Data.{Data, null, boolean, number, string, array, object, Items, no_items, item}
use Rattle.serde_json.specs.Data.{Members as Fields, no_members as no_fields, member as field}
use Rattle.serde_json.specs.Find.{as_object}
use Rattle.claim_tree.specs.Tree.{Tree, Text, Truth, Null, ListOf, RecordOf}
use Rattle.claim_tree.specs.Plain.{plain_number}
use Rattle.claim_tree.specs.Parts.{Part, Named, elements_of, members_of}
use Rattle.base_forms.specs.Texts.{Utf8, is_among, differ}
use Rattle.sdjwt_disclosures.specs.PutMember.{put_member}
use Rattle.sdjwt_digests.specs.Disclosures.{Disclosed, found}
use Rattle.sdjwt_digests.specs.DigestSites.{placeholder, own_digests}
use Rattle.sdjwt_disclosures.specs.MemberNames.{gets_clash, plain_only}
use Rattle.sdjwt_disclosures.specs.DisclosedTree.{has_placeholder, left_out}

-- ---- what a value spells

-- Which value spells which tree, and uses the disclosures of these digests, each as often as its digest is
-- met, in the order of the walk.
abbrev pub Way : Type 1
Way = Data → Tree → List Utf8 → Type 0

-- The elements of a list in order (sections 4.2.4.2 and 7.1, step 3): a plain one is not held. A placeholder
-- with the digest of a disclosure without a name gives an element that is held and spelled by the
-- disclosure's value. One whose digest no disclosure has gives nothing. For the digest of a disclosure with a
-- name there is no case.
pub data SpellElements (Inner : Way) (ls : List Disclosed) : Items → List Part → List Utf8 → Type 0 where
  no_more : SpellElements Inner ls no_items [] []
  plain : {d : Data} {ds : Items} {t : Tree} {es : List Part} {us vs : List Utf8} → placeholder d ≡ None
      → Inner d t us → SpellElements Inner ls ds es vs
      → SpellElements Inner ls (item d ds) ((false, t) ∷ es) (us ++ vs)
  disclosed : {d : Data} {ds : Items} {x : Utf8} {l : Disclosed} {t : Tree} {es : List Part}
      {us vs : List Utf8} → placeholder d ≡ Some x → found x ls ≡ Some l → l.name ≡ None → Inner l.value t us
      → SpellElements Inner ls ds es vs
      → SpellElements Inner ls (item d ds) ((true, t) ∷ es) (x ∷ us ++ vs)
  undisclosed : {d : Data} {ds : Items} {x : Utf8} {es : List Part} {vs : List Utf8} → placeholder d ≡ Some x
      → found x ls ≡ None → SpellElements Inner ls ds es vs → SpellElements Inner ls (item d ds) es vs

-- The members of an object as they stand, not held: each but `_sd` and, in the payload, `_sd_alg` (section
-- 7.1, step 3).
pub data SpellPlain (Inner : Way) (left : List Utf8) : Fields → List Named → List Utf8 → Type 0 where
  no_more : SpellPlain Inner left no_fields [] []
  no_claim : {k : Utf8} {d : Data} {ms : Fields} {ns : List Named} {us : List Utf8} → is_among k left ≡ true
      → SpellPlain Inner left ms ns us → SpellPlain Inner left (field k d ms) ns us
  plain : {k : Utf8} {d : Data} {ms : Fields} {t : Tree} {ns : List Named} {us vs : List Utf8}
      → is_among k left ≡ false → Inner d t us → SpellPlain Inner left ms ns vs
      → SpellPlain Inner left (field k d ms) ((k, false, t) ∷ ns) (us ++ vs)

-- The members that an object gets by the digests of its `_sd` (sections 4.2.4.1 and 7.1, step 3): each digest
-- of a disclosure with a name gives a member of that name, held and spelled by the disclosure's value. One
-- that no disclosure has gives nothing. For the digest of a disclosure without a name there is no case.
pub data SpellHeld (Inner : Way) (ls : List Disclosed) : List Utf8 → List Named → List Utf8 → Type 0 where
  no_more : SpellHeld Inner ls [] [] []
  disclosed : {x : Utf8} {xs : List Utf8} {l : Disclosed} {k : Utf8} {t : Tree} {ns : List Named}
      {us vs : List Utf8} → found x ls ≡ Some l → l.name ≡ Some k → Inner l.value t us
      → SpellHeld Inner ls xs ns vs
      → SpellHeld Inner ls (x ∷ xs) ((k, true, t) ∷ ns) (x ∷ us ++ vs)
  undisclosed : {x : Utf8} {xs : List Utf8} {ns : List Named} {vs : List Utf8} → found x ls ≡ None
      → SpellHeld Inner ls xs ns vs → SpellHeld Inner ls (x ∷ xs) ns vs

-- plain members and others, in the order of their names
abbrev pub put_members : List Named → List Named → List Named
put_members [] ns = ns
put_members (h ∷ hs) ns = put_members hs (put_member h ns)

-- The members of an object: its plain ones and those that come by its digests. The names of the latter differ
-- from each other and from that of each member.
pub record SpellMembers (is_payload : Bool) (Inner : Way) (ls : List Disclosed) (ms : Fields)
    (ns : List Named) (us : List Utf8) : Type 0 where
  pub plain : List Named
  pub held : List Named
  pub plain_uses : List Utf8
  pub held_uses : List Utf8
  pub spells_plain : SpellPlain Inner (left_out is_payload) ms plain plain_uses
  pub spells_held : SpellHeld Inner ls (own_digests ms) held held_uses
  pub names_differ : gets_clash (map (λ n. n.0) held) ms ≡ false
  pub are_members : ns ≡ put_members held plain
  pub are_uses : us ≡ plain_uses ++ held_uses

-- A value with at most n lists and records inside one another. A string, a number, a boolean and null spell
-- the tree of that kind. A list is loose exactly where it has a placeholder.
abbrev pub Spells : ℕ → List Disclosed → Way
Spells n ls null t us = (t ≡ Null) × (us ≡ [])
Spells n ls (boolean b) t us = (t ≡ Truth b) × (us ≡ [])
Spells n ls (number x) t us = (t ≡ plain_number x) × (us ≡ [])
Spells n ls (string s) t us = (t ≡ Text s) × (us ≡ [])
Spells zero ls (array ds) t us = ⊥
Spells zero ls (object ms) t us = ⊥
Spells (suc n) ls (array ds) t us = (es : List Part) × SpellElements (Spells n ls) ls ds es us
    × (t ≡ ListOf (has_placeholder ds) (elements_of es))
Spells (suc n) ls (object ms) t us = (ns : List Named) × SpellMembers false (Spells n ls) ls ms ns us
    × (t ≡ RecordOf (members_of ns))

-- The payload is an object with at most 64 lists and records inside one another, itself among them. No member
-- that comes by a digest has a name of those that stand in the payload as signed or not at all.
pub record SpellsPayload (ls : List Disclosed) (payload : Data) (ns : List Named)
    (us : List Utf8) : Type 0 where
  pub fields : Fields
  pub is_object : as_object payload ≡ Some fields
  pub spells : SpellMembers true (Spells 63 ls) ls fields ns us
  pub none_plain_only : list_any (λ k. is_among k plain_only) (map (λ n. n.0) spells.held) ≡ false

-- ---- how often disclosures are used

-- how often a text stands among some
abbrev pub times : Utf8 → List Utf8 → ℕ
times x [] = 0
times x (u ∷ us) = (if bytes_eq u x then 1 else 0) + times x us

-- no two disclosures have one digest, and each is used once (section 7.1, step 5)
abbrev pub UsesEach : List Disclosed → List Utf8 → Type 0
UsesEach ls us = (differ (map (λ l. l.digest) ls) ≡ true) × AllByRecursion (λ l. times l.digest us ≡ 1) ls

-- What spells by the relation is computed.
use Rattle.std.proofs.Common.{◌≡◌, ℕ, zero, suc, Bool, true, false, cond, List, [], ◌∷◌, ◌++◌, Option, Some}
use Rattle.std.proofs.Common.{None, option_map, option_and_then, refl, sym, ap, ◌∙◌}
use Rattle.serde_json.specs.Data.{Data, null, boolean, number, string, array, object, Items}
use Rattle.serde_json.specs.Data.{Members as Fields}
use Rattle.claim_tree.specs.Tree.{Tree, ListOf, RecordOf}
use Rattle.claim_tree.specs.Parts.{Part, Named, elements_of, members_of}
use Rattle.sdjwt_disclosures.specs.PutMember.{put_member}
use Rattle.base_forms.specs.Texts.{Utf8}
use Rattle.sdjwt_digests.specs.Disclosures.{Disclosed, found}
use Rattle.sdjwt_digests.specs.DigestSites.{placeholder, own_digests}
use Rattle.sdjwt_disclosures.specs.DisclosedTree.{has_placeholder, left_out, disclosed_element}
use Rattle.sdjwt_disclosures.specs.DisclosedTree.{spelled_element}
use Rattle.sdjwt_disclosures.specs.DisclosedTree.{spelled_elements, plain_members, with_disclosure}
use Rattle.sdjwt_disclosures.specs.DisclosedTree.{with_disclosures}
use Rattle.sdjwt_disclosures.specs.DisclosedTree.{spelled_members, spelled, spelled_payload}
use Rattle.sdjwt_disclosures.specs.Spelling.{Way, SpellElements, SpellPlain, SpellHeld, put_members}
use Rattle.sdjwt_disclosures.specs.Spelling.{SpellMembers}
use Rattle.sdjwt_disclosures.specs.Spelling.{Spells, SpellsPayload}

abbrev pub Computes : Way → (Data → Option Tree) → Type 0
Computes Inner inner = (d : Data) (t : Tree) (us : List Utf8) → Inner d t us → inner d ≡ Some t

joined : (a : Option (List Part)) (b : Option (List Part)) (e es : List Part) → a ≡ Some e → b ≡ Some es
    → option_and_then (λ f. option_map (λ fs. f ++ fs) b) a ≡ Some (e ++ es)
joined a b e es p q = rw (p, q) refl

plain_element : (inner : Data → Option Tree) (ls : List Disclosed) (d : Data) (t : Tree)
    → placeholder d ≡ None → inner d ≡ Some t → spelled_element inner ls d ≡ Some ((false, t) ∷ [])
plain_element inner ls d t e i = rw (e, spelled_element) (ap (option_map (λ u. (false, u) ∷ [])) i)

held_element : (inner : Data → Option Tree) (ls : List Disclosed) (d : Data) (x : Utf8) (l : Disclosed)
    (t : Tree) → placeholder d ≡ Some x → found x ls ≡ Some l → l.name ≡ None → inner l.value ≡ Some t
    → spelled_element inner ls d ≡ Some ((true, t) ∷ [])
held_element inner ls d x l t e f nameless i =
    rw (e, spelled_element)
    (rw f (rw (nameless, disclosed_element) (ap (option_map (λ u. (true, u) ∷ [])) i)))

no_element : (inner : Data → Option Tree) (ls : List Disclosed) (d : Data) (x : Utf8) → placeholder d ≡ Some x
    → found x ls ≡ None → spelled_element inner ls d ≡ Some []
no_element inner ls d x e f = rw (e, spelled_element) (rw f refl)

elements_computed : (Inner : Way) (inner : Data → Option Tree) (ls : List Disclosed) → Computes Inner inner
    → {ds : Items} {es : List Part} {us : List Utf8} → SpellElements Inner ls ds es us
    → spelled_elements inner ls ds ≡ Some es
elements_computed Inner inner ls c SpellElements.no_more = refl
elements_computed Inner inner ls c (SpellElements.plain {d = d} {ds = ds} {t = t} {es = es} {us = us} e i r) =
    joined (spelled_element inner ls d) (spelled_elements inner ls ds) ((false, t) ∷ []) es
    (plain_element inner ls d t e (c d t us i)) (elements_computed Inner inner ls c r)
elements_computed Inner inner ls c
    (SpellElements.disclosed {d = d} {ds = ds} {x = x} {l = l} {t = t} {es = es} {us = us} e f nameless i r) =
    joined (spelled_element inner ls d) (spelled_elements inner ls ds) ((true, t) ∷ []) es
    (held_element inner ls d x l t e f nameless (c l.value t us i)) (elements_computed Inner inner ls c r)
elements_computed Inner inner ls c (SpellElements.undisclosed {d = d} {ds = ds} {x = x} {es = es} e f r) =
    joined (spelled_element inner ls d) (spelled_elements inner ls ds) [] es (no_element inner ls d x e f)
    (elements_computed Inner inner ls c r)

held_member : (inner : Data → Option Tree) (ls : List Disclosed) (x : Utf8) (l : Disclosed) (k : Utf8)
    (t : Tree) (ms : List Named) → found x ls ≡ Some l → l.name ≡ Some k → inner l.value ≡ Some t
    → with_disclosure inner (found x ls) ms ≡ Some (put_member (k, true, t) ms)
held_member inner ls x l k t ms f named i =
    rw f (rw (named, with_disclosure) (ap (option_map (λ u. put_member (k, true, u) ms)) i))

held_computed : (Inner : Way) (inner : Data → Option Tree) (ls : List Disclosed) → Computes Inner inner
    → {xs : List Utf8} {ns : List Named} {us : List Utf8} → SpellHeld Inner ls xs ns us → (ms : List Named)
    → with_disclosures inner ls xs ms ≡ Some (put_members ns ms)
held_computed Inner inner ls c SpellHeld.no_more ms = refl
held_computed Inner inner ls c
    (SpellHeld.disclosed {x = x} {xs = xs} {l = l} {k = k} {t = t} {us = us} f named i r) ms =
    ap (option_and_then (with_disclosures inner ls xs))
    (held_member inner ls x l k t ms f named (c l.value t us i))
    ∙ held_computed Inner inner ls c r (put_member (k, true, t) ms)
held_computed Inner inner ls c (SpellHeld.undisclosed {x = x} {xs = xs} f r) ms =
    ap (λ o. option_and_then (with_disclosures inner ls xs) (with_disclosure inner o ms)) f
    ∙ held_computed Inner inner ls c r ms

one_plain : (k : Utf8) (a : Option Tree) (b : Option (List Named)) (t : Tree) (ns : List Named) → a ≡ Some t
    → b ≡ Some ns → option_and_then (λ u. option_map (λ os. (k, false, u) ∷ os) b) a ≡ Some
    ((k, false, t) ∷ ns)
one_plain k a b t ns p q = rw (p, q) refl

plain_computed : (Inner : Way) (inner : Data → Option Tree) → Computes Inner inner → (is_payload : Bool)
    → {ms : Fields} {ns : List Named} {us : List Utf8} → SpellPlain Inner (left_out is_payload) ms ns us
    → plain_members is_payload inner ms ≡ Some ns
plain_computed Inner inner c is_payload SpellPlain.no_more = refl
plain_computed Inner inner c is_payload (SpellPlain.no_claim {k = k} {d = d} {ms = ms} e r) =
    ap (λ b. cond b (plain_members is_payload inner ms)
    (option_and_then (λ u. option_map (λ os. (k, false, u) ∷ os) (plain_members is_payload inner ms))
    (inner d))) e ∙ plain_computed Inner inner c is_payload r
plain_computed Inner inner c is_payload
    (SpellPlain.plain {k = k} {d = d} {ms = ms} {t = t} {ns = ns} {us = us} e i r) =
    ap (λ b. cond b (plain_members is_payload inner ms)
    (option_and_then (λ u. option_map (λ os. (k, false, u) ∷ os) (plain_members is_payload inner ms))
    (inner d))) e
    ∙ one_plain k (inner d) (plain_members is_payload inner ms) t ns (c d t us i)
    (plain_computed Inner inner c is_payload r)

pub members_computed : (is_payload : Bool) (Inner : Way) (inner : Data → Option Tree) (ls : List Disclosed)
    → Computes Inner inner → (ms : Fields) (ns : List Named) (us : List Utf8)
    → SpellMembers is_payload Inner ls ms ns us
    → spelled_members is_payload inner ls ms ≡ Some ns
members_computed is_payload Inner inner ls c ms ns us s =
    ap (option_and_then (with_disclosures inner ls (own_digests ms)))
    (plain_computed Inner inner c is_payload s.spells_plain)
    ∙ held_computed Inner inner ls c s.spells_held s.plain ∙ ap Some (sym s.are_members)

pub spells_computed : (n : ℕ) (ls : List Disclosed) → Computes (Spells n ls) (spelled n ls)
spells_computed n ls null t us s = ap Some (sym s.0)
spells_computed n ls (boolean b) t us s = ap Some (sym s.0)
spells_computed n ls (number x) t us s = ap Some (sym s.0)
spells_computed n ls (string x) t us s = ap Some (sym s.0)
spells_computed zero ls (array ds) t us s = absurd s
spells_computed zero ls (object ms) t us s = absurd s
spells_computed (suc n) ls (array ds) t us s =
    ap (option_map (λ es. ListOf (has_placeholder ds) (elements_of es)))
    (elements_computed (Spells n ls) (spelled n ls) ls (spells_computed n ls) s.1) ∙ ap Some (sym s.2)
spells_computed (suc n) ls (object ms) t us s =
    ap (option_map (λ ns. RecordOf (members_of ns)))
    (members_computed false (Spells n ls) (spelled n ls) ls (spells_computed n ls) ms s.0 us s.1)
    ∙ ap Some (sym s.2)

pub payload_computed : (ls : List Disclosed) (d : Data) (ns : List Named) (us : List Utf8)
    → SpellsPayload ls d ns us → spelled_payload ls d ≡ Some ns
unfolding spelled_payload
payload_computed ls d ns us s =
    ap (option_and_then (λ ms. spelled_members true (spelled 63 ls) ls ms)) s.is_object
    ∙ members_computed true (Spells 63 ls) (spelled 63 ls) ls
    (spells_computed 63 ls) s.fields ns us s.spells

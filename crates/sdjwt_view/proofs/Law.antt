-- A text reads as a credential by the relation exactly where it breaks no rule and says that credential.
use Rattle.std.proofs.Common.{◌≡◌, ◌≤◌, ℕ, Bool, true, false, not, ◌&&◌, List, [], ◌∷◌, length, map, Option}
use Rattle.std.proofs.Common.{Some, None, option_map, option_and_then, refl, sym, ap, ◌∙◌, subst}
use Rattle.std.specs.Prelude.{nat_lt, is_none, unwrap_or}
use Rattle.std.specs.Option.{is_some, option_map_or}
use Rattle.std.specs.List.{list_any, list_all}
use Rattle.std.proofs.lemmas.Bool.{and_parts, and_from, ltb-false, le-ltb}
use Rattle.serde_json.specs.Data.{Data, null, boolean, number, string, array, object, Members as Fields}
use Rattle.serde_json.specs.Find.{as_object, as_str}
use Rattle.base_forms.specs.Rules.{rule, first}
use Rattle.base_forms.specs.Hash.{hash_named}
use Rattle.base_forms.specs.declared.hash.HashName.{HashName}
use Rattle.base_forms.specs.declared.hash.HashName.TheVariants.{Sha256}
use Rattle.json_forms.specs.Look.{elements_of as listed_in}
use Rattle.jws_envelope.specs.Compact.{dot_parts}
use Rattle.jws_envelope.specs.Envelope.{Envelope, envelope_of, jws_rule}
use Rattle.claim_tree.specs.Tree.{ascend, hold_claims, member_names}
use Rattle.claim_tree.specs.Plain.{plain_members as plain_fields}
use Rattle.claim_tree.specs.Parts.{Named}
use Rattle.base_forms.specs.Texts.{Utf8, is_among, differ}
use Rattle.sdjwt_digests.specs.Disclosures.{Disclosed, salted, json_in, digest_of, disclosed}
use Rattle.sdjwt_digests.specs.Disclosures.{all_disclosed}
use Rattle.sdjwt_digests.specs.DigestSites.{digest_at, all_sites}
use Rattle.sdjwt_disclosures.specs.DisclosureRules.{is_mismatch}
use Rattle.sdjwt_digests.specs.ReservedNames.{is_sound}
use Rattle.sdjwt_digests.specs.ReservedNames.{has_reserved_name, reserved_names_rule}
use Rattle.sdjwt_disclosures.specs.MemberNames.{plain_only, top_names, any_clash}
use Rattle.sdjwt_disclosures.specs.DisclosureRules.{double_rule, reach_rule, names_rule}
use Rattle.sdjwt_disclosures.specs.DisclosureRules.{depth_rule, own_site_rule, processing_rule}
use Rattle.sdjwt_disclosures.specs.DisclosedTree.{sd_alg, left_out, spelled, spelled_members, spelled_payload}
use Rattle.sdjwt_facts.specs.Facts.{facts_rule}
use Rattle.sdjwt_view.specs.Reading.{Content, pieces, parts_of, has_sd_type, named_hash, hash_of}
use Rattle.sdjwt_view.specs.Reading.{most_disclosures, disclosures_of, forms_rule, later_rule, inner_rule}
use Rattle.sdjwt_view.specs.Reading.{either_rule, refusal_of_parts, refusal_of, content_with, members_with}
use Rattle.sdjwt_view.specs.Reading.{content_from, content_in}
use Rattle.sdjwt_disclosures.specs.Spelling.{Spells, SpellMembers, SpellsPayload, UsesEach}
use Rattle.sdjwt_view.specs.Relation.{Says, Reads}
use Rattle.sdjwt_disclosures.proofs.Built.{split_joined, split_map}
use Rattle.sdjwt_digests.proofs.ValueClaims.{IsSound, AreSound}
use Rattle.sdjwt_disclosures.proofs.Computed.{payload_computed}
use Rattle.sdjwt_disclosures.proofs.Fields.{LeavesTexts, has_one, leaves_hash}
use Rattle.sdjwt_disclosures.proofs.ProcessingSteps.{first_past}
use Rattle.sdjwt_view.proofs.ReadSteps.{envelope_sound}
use Rattle.sdjwt_disclosures.proofs.Uses.{HoldFlat, flat_holds, relation_holds}
use Rattle.sdjwt_digests.proofs.ValueClaims.{json_in-claim, salted-claim}
use Rattle.sdjwt_disclosures.proofs.Walks.{held_names}

-- ---- tables of rules

rule_held : (n : ℕ) (b : Bool) → b ≡ false → rule n b ≡ None
unfolding rule
rule_held n b e = rw e refl

held_rule : (n : ℕ) (b : Bool) → rule n b ≡ None → b ≡ false
unfolding rule
held_rule n true e = cc
held_rule n false e = refl

all_held : (a : Option ℕ) (rest : List (Option ℕ)) → first (a ∷ rest) ≡ None
    → (a ≡ None) × (first rest ≡ None)
all_held None rest e = (refl, e)
all_held (Some n) rest e = cc

held_on : (a : Option ℕ) (rest : List (Option ℕ)) → a ≡ None → first rest ≡ None → first (a ∷ rest) ≡ None
held_on a rest e f = first_past a rest e ∙ f

not_true : (b : Bool) → not b ≡ false → b ≡ true
not_true true e = refl
not_true false e = cc

none_not : {A : Type 0} (o : Option A) → is_none o ≡ false → (a : A) × (o ≡ Some a)
none_not None e = absurd (cc)
none_not (Some a) e = (a, refl)

-- ---- what was read is sound

one_sound : (hash : HashName) (text : Utf8) (l : Disclosed) → disclosed hash text ≡ Some l → IsSound l.value
one_sound hash text l e =
    let a = split_map
    (λ (p : Option Utf8 × Data). record { digest = digest_of hash text; name = p.0; value = p.1 })
    (option_and_then (λ d. salted (listed_in d)) (json_in text)) l e in
    let b = split_joined (λ d. salted (listed_in d)) (json_in text) a.0 a.1 in
    subst (λ (m : Disclosed). IsSound m.value) a.2 (salted-claim b.0 a.0 (json_in-claim text b.0 b.1) b.2)

all_sound : (hash : HashName) (texts : List Utf8) (ls : List Disclosed) → all_disclosed hash texts ≡ Some ls
    → AreSound ls
all_sound hash [] ls e = let same : [] ≡ ls = cc in subst AreSound same tt
all_sound hash (t ∷ ts) ls e =
    let a = split_joined (λ d. option_map (λ ds. d ∷ ds) (all_disclosed hash ts)) (disclosed hash t) ls e in
    let b = split_map (λ ds. a.0 ∷ ds) (all_disclosed hash ts) ls a.2 in
    subst AreSound b.2 (one_sound hash t a.0 a.1, all_sound hash ts b.0 b.1)

object_is : (d : Data) (ms : Fields) → as_object d ≡ Some ms → d ≡ object ms
object_is null ms e = cc
object_is (boolean b) ms e = cc
object_is (number n) ms e = cc
object_is (string s) ms e = cc
object_is (array ds) ms e = cc
object_is (object ns) ms e = cc

hash_is_text : (o : Option Utf8) (hash : HashName) → option_and_then hash_named o ≡ Some hash
    → is_some o ≡ true
hash_is_text None hash e = cc
hash_is_text (Some s) hash e = refl

payload_leaves : (ms : Fields) (hash : HashName) → IsSound (object ms) → named_hash (object ms) ≡ Some hash
    → LeavesTexts (left_out true) ms
payload_leaves ms hash sound e =
    let both = and_parts (ascend (member_names (plain_fields ms))) (hold_claims (plain_fields ms)) sound in
    leaves_hash ms (has_one sd_alg ms both.0)
    (λ d here. hash_is_text (as_str d) hash
    (sym (ap (λ o. option_map_or (λ v. option_and_then hash_named (as_str v)) o (Some Sha256)) here) ∙ e))

-- ---- placing

flat_at : (payload : Data) (ls : List Disclosed) (ns : List Named) (us : List Utf8) (hash : HashName)
    → AreSound ls → IsSound payload → named_hash payload ≡ Some hash → SpellsPayload ls payload ns us
    → UsesEach ls us → HoldFlat payload ls
flat_at payload ls ns us hash all sound named s each =
    let is = object_is payload s.fields s.is_object in
    let whole : IsSound (object s.fields) = subst IsSound is sound in
    let texts = payload_leaves s.fields hash whole (ap named_hash (sym is) ∙ named) in
    subst (λ d. HoldFlat d ls) (sym is) (flat_holds ls s.fields ns us all whole texts s.spells each)

-- the names that come to the top object are those of the members that are held
top_held : (payload : Data) (ls : List Disclosed) (ms : Fields) (ns : List Named) (us : List Utf8)
    → as_object payload ≡ Some ms → (s : SpellMembers true (Spells 63 ls) ls ms ns us)
    → top_names ls payload ≡ map (λ n. n.0) s.held
top_held payload ls ms ns us e s = rw (e, top_names) (held_names ls (Spells 63 ls) s.spells_held)

relation_at : (payload : Data) (ls : List Disclosed) (ns : List Named) (hash : HashName) → AreSound ls
    → IsSound payload → named_hash payload ≡ Some hash → differ (map digest_at (all_sites payload ls)) ≡ true
    → HoldFlat payload ls
    → list_any (λ k. is_among k plain_only) (top_names ls payload) ≡ false
    → spelled_payload ls payload ≡ Some ns → (us : List Utf8) × SpellsPayload ls payload ns us
    × UsesEach ls us
unfolding spelled_payload
relation_at payload ls ns hash all sound named apart flat kept h =
    let a = split_joined (λ ms. spelled_members true (spelled 63 ls) ls ms) (as_object payload) ns h in
    let is = object_is payload a.0 a.1 in
    let whole : IsSound (object a.0) = subst IsSound is sound in
    let texts = payload_leaves a.0 hash whole (ap named_hash (sym is) ∙ named) in
    let r = relation_holds ls a.0 ns all whole texts
    (subst (λ d. differ (map digest_at (all_sites d ls)) ≡ true) is apart)
    (subst (λ d. HoldFlat d ls) is flat) a.2 in
    let free = ap (list_any (λ k. is_among k plain_only)) (sym (top_held payload ls a.0 ns r.0 a.1 r.1))
    ∙ kept in
    (r.0, record { fields = a.0; is_object = a.1; spells = r.1; none_plain_only = free }, r.2)

-- ---- from the relation

module _ (e : Envelope) (texts : List Utf8) (c : Content) (r : Says e texts c) where
  hash_is : hash_of e.payload ≡ r.hash
  hash_is = ap (λ o. unwrap_or o Sha256) r.names_hash

  list_is : all_disclosed (hash_of e.payload) texts ≡ Some r.disclosures
  list_is = ap (λ h. all_disclosed h texts) hash_is ∙ r.are_disclosed

  disclosures_are : disclosures_of e texts ≡ r.disclosures
  disclosures_are = ap (λ o. unwrap_or o []) list_is

  spelled_is : spelled_payload r.disclosures e.payload ≡ Some r.members
  spelled_is = payload_computed r.disclosures e.payload r.members r.used r.spells

  forms_held : forms_rule e texts ≡ None
  unfolding forms_rule
  forms_held =
      held_on (rule 3 (not (has_sd_type e.header))) _ (rule_held 3 _ (ap not r.is_typed))
      (held_on (rule 4 (is_none (named_hash e.payload))) _ (rule_held 4 _ (ap is_none r.names_hash))
      (held_on (rule 5 (nat_lt most_disclosures (length texts))) _
      (rule_held 5 _ (le-ltb most_disclosures (length texts) r.few))
      (held_on (rule 6 (is_none (all_disclosed (hash_of e.payload) texts))) []
      (rule_held 6 _ (ap is_none list_is)) refl)))

  reserved_names_held : reserved_names_rule e.payload r.disclosures ≡ None
  unfolding reserved_names_rule
  reserved_names_held =
      held_on (rule 7 (list_any has_reserved_name r.disclosures)) _ (rule_held 7 _ r.none_reserved)
      (held_on (rule 8 (not (is_sound e.payload && list_all (λ l. is_sound l.value) r.disclosures))) []
      (rule_held 8 _
      (ap not (and_from (is_sound e.payload)
      (list_all (λ l. is_sound l.value) r.disclosures) r.sound r.sound_values))) refl)

  double_held : double_rule e.payload r.disclosures ≡ None
  unfolding double_rule
  double_held = rule_held 9 _ (ap not r.apart)

  none_kept : list_any (λ k. is_among k plain_only) (top_names r.disclosures e.payload) ≡ false
  none_kept = ap (list_any (λ k. is_among k plain_only))
      (top_held e.payload r.disclosures r.spells.fields r.members r.used r.spells.is_object r.spells.spells)
      ∙ r.spells.none_plain_only

  own_held : HoldFlat e.payload r.disclosures → own_site_rule e.payload r.disclosures ≡ None
  unfolding reach_rule names_rule depth_rule
  own_held flat =
      held_on (reach_rule e.payload r.disclosures) _ (rule_held 10 _ (ap not flat.0))
      (held_on (names_rule e.payload r.disclosures) _
      (held_on (rule 11 (list_any (is_mismatch r.disclosures) (all_sites e.payload r.disclosures))) _
      (rule_held 11 _ flat.1)
      (held_on (rule 12 (any_clash e.payload r.disclosures)) _ (rule_held 12 _ flat.2)
      (held_on (rule 13 (list_any (λ k. is_among k plain_only) (top_names r.disclosures e.payload))) []
      (rule_held 13 _ none_kept) refl)))
      (held_on (depth_rule e.payload r.disclosures) [] (rule_held 14 _ (ap is_none spelled_is)) refl))

  later_held : IsSound e.payload → later_rule e.payload r.disclosures ≡ None
  unfolding processing_rule
  later_held sound =
      let flat = flat_at e.payload r.disclosures r.members r.used r.hash
      (all_sound r.hash texts r.disclosures r.are_disclosed) sound r.names_hash r.spells r.uses_each in
      held_on (processing_rule e.payload r.disclosures) _
      (held_on (reserved_names_rule e.payload r.disclosures) _ reserved_names_held
      (held_on (double_rule e.payload r.disclosures) _ double_held
      (held_on (own_site_rule e.payload r.disclosures) [] (own_held flat) refl)))
      (held_on (facts_rule e.payload) [] r.facts refl)

  inner_held : IsSound e.payload → inner_rule e texts ≡ None
  inner_held sound =
      held_on (forms_rule e texts) _ forms_held
      (held_on (later_rule e.payload (disclosures_of e texts)) [] (ap (later_rule e.payload) disclosures_are
      ∙ later_held sound) refl)

  says_is : content_from e texts ≡ c
  says_is =
      ap (λ h. content_with e h (members_with e.payload (disclosures_of e texts))) hash_is
      ∙ ap (λ ls. content_with e r.hash (members_with e.payload ls)) disclosures_are
      ∙ ap (λ o. content_with e r.hash (unwrap_or o [])) spelled_is
      ∙ sym r.says

pub reads_computed : (text : Utf8) (c : Content) → Reads text c
    → (refusal_of text ≡ None) × (content_in text ≡ Some c)
unfolding refusal_of content_in
reads_computed text c r =
    let e = envelope_of (dot_parts r.0) in (
      ap refusal_of_parts r.2 ∙ ap (λ o. either_rule o (inner_rule (envelope_of (dot_parts r.0)) r.1)) r.3
          ∙ ap (either_rule None) (inner_held (envelope_of (dot_parts r.0)) r.1 c r.4 (envelope_sound r.0)),
      ap (option_map (λ p. content_from (envelope_of (dot_parts p.0)) p.1)) r.2
          ∙ ap Some (says_is (envelope_of (dot_parts r.0)) r.1 c r.4),
    )

pub reads_one : (text : Utf8) (c d : Content) → Reads text c → Reads text d → c ≡ d
reads_one text c d r s =
    let same : Some c ≡ Some d = sym (reads_computed text c r).1 ∙ (reads_computed text d s).1 in
    cc

-- ---- to the relation

forms_parts : (e : Envelope) (texts : List Utf8) → forms_rule e texts ≡ None
    → (has_sd_type e.header ≡ true) × (is_none (named_hash e.payload) ≡ false)
    × (length texts ≤ most_disclosures) × (is_none (all_disclosed (hash_of e.payload) texts) ≡ false)
unfolding forms_rule
forms_parts e texts h =
    let a = all_held (rule 3 (not (has_sd_type e.header))) _ h in
    let b = all_held (rule 4 (is_none (named_hash e.payload))) _ a.1 in
    let d = all_held (rule 5 (nat_lt most_disclosures (length texts))) _ b.1 in
    let f = all_held (rule 6 (is_none (all_disclosed (hash_of e.payload) texts))) [] d.1 in (
      not_true _ (held_rule 3 _ a.0),
      held_rule 4 _ b.0,
      ltb-false most_disclosures (length texts)
          (held_rule 5 _ d.0),
      held_rule 6 _ f.0,
    )

reserved_names_parts : (payload : Data) (ls : List Disclosed) → reserved_names_rule payload ls ≡ None
    → (list_any has_reserved_name ls ≡ false) × (is_sound payload ≡ true)
    × (list_all (λ l. is_sound l.value) ls ≡ true)
unfolding reserved_names_rule
reserved_names_parts payload ls h =
    let a = all_held (rule 7 (list_any has_reserved_name ls)) _ h in
    let b = all_held (rule 8 (not (is_sound payload && list_all (λ l. is_sound l.value) ls))) [] a.1 in
    let both = and_parts (is_sound payload) (list_all (λ l. is_sound l.value) ls)
    (not_true _ (held_rule 8 _ b.0)) in
    (held_rule 7 _ a.0, both.0, both.1)

double_part : (payload : Data) (ls : List Disclosed) → double_rule payload ls ≡ None
    → differ (map digest_at (all_sites payload ls)) ≡ true
unfolding double_rule
double_part payload ls h = not_true _ (held_rule 9 _ h)

own_parts : (payload : Data) (ls : List Disclosed) → own_site_rule payload ls ≡ None
    → HoldFlat payload ls × (list_any (λ k. is_among k plain_only) (top_names ls payload) ≡ false)
    × (is_none (spelled_payload ls payload) ≡ false)
unfolding reach_rule names_rule depth_rule
own_parts payload ls h =
    let a = all_held (reach_rule payload ls) _ h in
    let b = all_held (names_rule payload ls) _ a.1 in
    let d = all_held (depth_rule payload ls) [] b.1 in
    let k = all_held (rule 11 (list_any (is_mismatch ls) (all_sites payload ls))) _ b.0 in
    let m = all_held (rule 12 (any_clash payload ls)) _ k.1 in
    let n = all_held (rule 13 (list_any (λ k. is_among k plain_only) (top_names ls payload))) [] m.1 in (
      (not_true _ (held_rule 10 _ a.0), held_rule 11 _ k.0, held_rule 12 _ m.0),
      held_rule 13 _ n.0,
      held_rule 14 _ d.0,
    )

processing_parts : (payload : Data) (ls : List Disclosed) → processing_rule payload ls ≡ None
    → (reserved_names_rule payload ls ≡ None) × (double_rule payload ls ≡ None)
    × (own_site_rule payload ls ≡ None)
unfolding processing_rule
processing_parts payload ls h =
    let a = all_held (reserved_names_rule payload ls) _ h in
    let b = all_held (double_rule payload ls) _ a.1 in
    let d = all_held (own_site_rule payload ls) [] b.1 in
    (a.0, b.0, d.0)

says_computed : (e : Envelope) (texts : List Utf8) → IsSound e.payload → inner_rule e texts ≡ None
    → Says e texts (content_from e texts)
says_computed e texts sound h =
    let a = all_held (forms_rule e texts) _ h in
    let b = all_held (later_rule e.payload (disclosures_of e texts)) [] a.1 in
    let forms = forms_parts e texts a.0 in
    let hash = none_not (named_hash e.payload) forms.1 in
    let list = none_not (all_disclosed (hash_of e.payload) texts) forms.3 in
    let is_hash : hash_of e.payload ≡ hash.0 = ap (λ o. unwrap_or o Sha256) hash.1 in
    let is_list : disclosures_of e texts ≡ list.0 = ap (λ o. unwrap_or o []) list.1 in
    let later = all_held (processing_rule e.payload (disclosures_of e texts)) _ b.0 in
    let facts = all_held (facts_rule e.payload) [] later.1 in
    let processing =
    processing_parts e.payload list.0 (sym (ap (processing_rule e.payload) is_list) ∙ later.0) in
    let kept = reserved_names_parts e.payload list.0 processing.0 in
    let apart = double_part e.payload list.0 processing.1 in
    let own = own_parts e.payload list.0 processing.2 in
    let members = none_not (spelled_payload list.0 e.payload) own.2 in
    let read : all_disclosed hash.0 texts ≡ Some list.0 = sym (ap (λ k. all_disclosed k texts) is_hash)
    ∙ list.1 in
    let r = relation_at e.payload list.0 members.0 hash.0
    (all_sound hash.0 texts list.0 read) sound hash.1 apart own.0 own.1 members.1 in
    record {
      is_typed = forms.0;
      hash = hash.0;
      names_hash = hash.1;
      few = forms.2;
      disclosures = list.0;
      are_disclosed = read;
      none_reserved = kept.0;
      sound = kept.1;
      sound_values = kept.2;
      apart = apart;
      members = members.0;
      used = r.0;
      spells = r.1;
      uses_each = r.2;
      facts = facts.0;
      says = ap (λ k. content_with e k (members_with e.payload (disclosures_of e texts))) is_hash
          ∙ ap (λ ls. content_with e hash.0 (members_with e.payload ls)) is_list
          ∙ ap (λ o. content_with e hash.0 (unwrap_or o [])) members.1;
    }

rules_held : (a b : Option ℕ) → either_rule a b ≡ None → (a ≡ None) × (b ≡ None)
rules_held None None e = (refl, refl)
rules_held None (Some n) e = absurd (cc)
rules_held (Some n) b e = absurd (cc)

computed_at : (text : Utf8) (c : Content) (o : Option (Utf8 × List Utf8)) → parts_of (pieces text) ≡ o
    → refusal_of_parts o ≡ None → option_map (λ p. content_from (envelope_of (dot_parts p.0)) p.1) o ≡ Some c
    → Reads text c
computed_at text c None e h k = absurd (cc)
computed_at text c (Some p) e h k =
    let both = rules_held (jws_rule p.0) (inner_rule (envelope_of (dot_parts p.0)) p.1) h in
    let is : content_from (envelope_of (dot_parts p.0)) p.1 ≡ c = cc in (
      p.0,
      p.1,
      e,
      both.0,
      subst (Says (envelope_of (dot_parts p.0)) p.1) is
          (says_computed (envelope_of (dot_parts p.0)) p.1 (envelope_sound p.0) both.1),
    )

pub computed_reads : (text : Utf8) (c : Content) → refusal_of text ≡ None → content_in text ≡ Some c
    → Reads text c
unfolding refusal_of content_in
computed_reads text c h k = computed_at text c (parts_of (pieces text)) refl h k

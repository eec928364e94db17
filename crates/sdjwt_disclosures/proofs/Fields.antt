-- The places under an object: those of its plain members and those of its `_sd`.
use Rattle.std.proofs.Common.{◌≡◌, ℕ, ◌+◌, Bool, true, false, cond, ◌||◌, List, [], ◌++◌, map, Some, None}
use Rattle.std.proofs.Common.{Ordering, Less, Equal, Greater, nat_cmp, refl, sym, ap, ◌∙◌, arith, inl, inr}
use Rattle.std.specs.Prelude.{⊤}
use Rattle.std.specs.Option.{is_some}
use Rattle.std.specs.List.{list_all}
use Rattle.std.specs.Ordering.{match_ordering, is_lt, is_eq}
use Rattle.std.specs.Cmp.Lexicographic.{slice_cmp}
use Rattle.std.specs.Str.{bytes_eq}
use Rattle.std.proofs.lemmas.Bool.{cases_Bool, and_parts}
use Rattle.std.proofs.lemmas.Map.Text.{is_eq-slice_cmp}
use Rattle.serde_json.specs.Data.{Data, string, Members as Fields, no_members as no_fields, member as field}
use Rattle.serde_json.specs.Find.{as_str, get_member}
use Rattle.claim_tree.specs.Tree.{Name, ascend, member_names}
use Rattle.claim_tree.specs.Plain.{plain_members as plain_fields}
use Rattle.base_forms.specs.Texts.{Utf8, is_among}
use Rattle.sdjwt_digests.specs.DigestSites.{sd, Site, in_object, listed, own_digests, sites_in}
use Rattle.sdjwt_digests.specs.DigestSites.{sites_in_members}
use Rattle.sdjwt_disclosures.specs.DisclosedTree.{sd_alg, left_out}
use Rattle.base_forms.proofs.Differing.{same_from, bytes_eq-flip}

-- ---- looking up a member

found_equal : {A : Type 0} (o : Ordering) (a b : A) → is_eq o ≡ true → match_ordering o a b a ≡ b
found_equal Less a b e = cc
found_equal Equal a b e = refl
found_equal Greater a b e = cc

found_other : {A : Type 0} (o : Ordering) (a b : A) → is_eq o ≡ false → match_ordering o a b a ≡ a
found_other Less a b e = refl
found_other Equal a b e = cc
found_other Greater a b e = refl

pub member_here : (x k : Utf8) (d : Data) (ms : Fields) → bytes_eq k x ≡ true
    → get_member x (field k d ms) ≡ Some d
member_here x k d ms e =
    found_equal (slice_cmp nat_cmp x k) (get_member x ms) (Some d) (is_eq-slice_cmp x k ∙ bytes_eq-flip x k
    ∙ e)

pub member_past : (x k : Utf8) (d : Data) (ms : Fields) → bytes_eq k x ≡ false
    → get_member x (field k d ms) ≡ get_member x ms
member_past x k d ms e =
    found_other (slice_cmp nat_cmp x k) (get_member x ms) (Some d) (is_eq-slice_cmp x k ∙ bytes_eq-flip x k
    ∙ e)

-- ---- names that come once

-- no member has the name
abbrev pub HasNo : Utf8 → Fields → Type 0
HasNo x no_fields = ⊤
HasNo x (field k d ms) = (bytes_eq k x ≡ false) × HasNo x ms

-- at most one member has the name
abbrev pub HasOne : Utf8 → Fields → Type 0
HasOne x no_fields = ⊤
HasOne x (field k d ms) = (bytes_eq k x ≡ true → HasNo x ms) × HasOne x ms

abbrev below : Name → Name → Bool
below k l = is_lt (slice_cmp nat_cmp k l)

less_apart : (o : Ordering) → is_lt o ≡ true → is_eq o ≡ false
less_apart Less e = refl
less_apart Equal e = cc
less_apart Greater e = cc

no_more : (x k : Utf8) (ms : Fields) → bytes_eq k x ≡ true
    → list_all (below k) (member_names (plain_fields ms)) ≡ true → HasNo x ms
no_more x k no_fields e h = tt
no_more x k (field l d ms) e h =
    let both = and_parts (below k l) (list_all (below k) (member_names (plain_fields ms))) h in
    let apart : bytes_eq k l ≡ false =
    sym (is_eq-slice_cmp k l) ∙ less_apart (slice_cmp nat_cmp k l) both.0 in
    let is : k ≡ x = same_from k x e in
    (bytes_eq-flip l x ∙ ap (λ z. bytes_eq z l) (sym is) ∙ apart, no_more x k ms e both.1)

pub has_one : (x : Utf8) (ms : Fields) → ascend (member_names (plain_fields ms)) ≡ true → HasOne x ms
has_one x no_fields h = tt
has_one x (field k d ms) h =
    let both = and_parts (list_all (below k) (member_names (plain_fields ms)))
    (ascend (member_names (plain_fields ms))) h in
    (λ e. no_more x k ms e both.0, has_one x ms both.1)

-- ---- members that are left out

-- each member that is left out and is not `_sd` is a text
abbrev pub LeavesTexts : List Utf8 → Fields → Type 0
LeavesTexts left no_fields = ⊤
LeavesTexts left (field k d ms) = (is_among k left ≡ true → bytes_eq k sd ≡ false → is_some (as_str d) ≡ true)
    × LeavesTexts left ms

pub sd_left : (is_payload : Bool) (k : Utf8) → bytes_eq k sd ≡ true → is_among k (left_out is_payload) ≡ true
sd_left true k e = ap (λ b. b || (bytes_eq sd_alg k || false)) (bytes_eq-flip sd k ∙ e)
sd_left false k e = ap (λ b. b || false) (bytes_eq-flip sd k ∙ e)

only_sd : (b : Bool) → (b || false) ≡ true → b ≡ true
only_sd true e = refl
only_sd false e = cc

pub leaves_inner : (ms : Fields) → LeavesTexts (left_out false) ms
leaves_inner no_fields = tt
leaves_inner (field k d ms) = (
  λ e f. absurd (clash (bytes_eq k sd) (bytes_eq-flip k sd ∙ only_sd (bytes_eq sd k) e) f),
  leaves_inner ms,
) where
  clash : (b : Bool) → b ≡ true → b ≡ false → ⊥
  clash b e f = cc

either_left : (a b : Bool) → (a || (b || false)) ≡ true → a ≡ false → b ≡ true
either_left true b e f = cc
either_left false true e f = refl
either_left false false e f = cc

leaves_none : (ms : Fields) → HasNo sd_alg ms → LeavesTexts (left_out true) ms
leaves_none no_fields h = tt
leaves_none (field k d ms) h = (
  λ e f. absurd
      (clash (bytes_eq k sd_alg) (bytes_eq-flip k sd_alg
      ∙ either_left (bytes_eq sd k) (bytes_eq sd_alg k) e (bytes_eq-flip sd k ∙ f)) h.0),
  leaves_none ms h.1,
) where
  clash : (b : Bool) → b ≡ true → b ≡ false → ⊥
  clash b e f = cc

-- the name of the hash is a text
pub leaves_hash : (ms : Fields) → HasOne sd_alg ms
    → ((d : Data) → get_member sd_alg ms ≡ Some d → is_some (as_str d) ≡ true)
    → LeavesTexts (left_out true) ms
leaves_hash no_fields one text = tt
leaves_hash (field k d ms) one text = (
  λ e f. text d (member_here sd_alg k d ms (bytes_eq-flip k sd_alg
      ∙ either_left (bytes_eq sd k) (bytes_eq sd_alg k) e (bytes_eq-flip sd k ∙ f))),
  elim (cases_Bool (bytes_eq k sd_alg)) [
    | inl here ↦ leaves_none ms (one.0 here)
    | inr past ↦ leaves_hash ms one.1 (λ v e. text v (member_past sd_alg k d ms past ∙ e))
  ],
)

pub text_has_none : (d : Data) → is_some (as_str d) ≡ true → sites_in d ≡ []
text_has_none (string s) e = refl
text_has_none _ e = cc

-- ---- the places, in two parts

abbrev pub plain_sites : List Utf8 → Fields → List Site
plain_sites left no_fields = []
plain_sites left (field k d ms) = cond (is_among k left) [] (sites_in d) ++ plain_sites left ms

own_none : (ms : Fields) → HasNo sd ms → get_member sd ms ≡ None
own_none no_fields h = refl
own_none (field k d ms) h = member_past sd k d ms h.0 ∙ own_none ms h.1

pub own_here : (k : Utf8) (d : Data) (ms : Fields) → bytes_eq k sd ≡ true
    → own_digests (field k d ms) ≡ listed d
own_here k d ms e = rw (member_here sd k d ms e) refl

pub own_past : (k : Utf8) (d : Data) (ms : Fields) → bytes_eq k sd ≡ false
    → own_digests (field k d ms) ≡ own_digests ms
own_past k d ms e = rw (member_past sd k d ms e) refl

pub own_empty : (ms : Fields) → HasNo sd ms → own_digests ms ≡ []
own_empty ms h = rw (own_none ms h, own_digests) refl

-- what is added up over the places under an object is so over both parts
pub under_parts : (F : List Site → ℕ) → ((ps qs : List Site) → F (ps ++ qs) ≡ F ps + F qs) → F [] ≡ 0
    → (left : List Utf8) → ((k : Utf8) → bytes_eq k sd ≡ true → is_among k left ≡ true)
    → (ms : Fields) → HasOne sd ms → LeavesTexts left ms
    → F (sites_in_members ms) ≡ F (plain_sites left ms) + F (map in_object (own_digests ms))
under_parts F more none left has no_fields one texts = omega (arith, none)
under_parts F more none left has (field k d ms) one texts = elim (cases_Bool (bytes_eq k sd)) [
  | inl here ↦
      let sites : sites_in_members (field k d ms) ≡ map in_object (listed d) ++ sites_in_members ms =
      ap (λ b. cond b (map in_object (listed d)) (sites_in d) ++ sites_in_members ms) here in
      let plain : plain_sites left (field k d ms) ≡ plain_sites left ms =
      ap (λ b. cond b [] (sites_in d) ++ plain_sites left ms) (has k here) in
      omega (
        arith,
        ap F sites,
        more (map in_object (listed d)) (sites_in_members ms),
        ap F plain,
        ap (λ xs. F (map in_object xs)) (own_here k d ms here),
        ap (λ xs. F (map in_object xs)) (own_empty ms (one.0 here)),
        under_parts F more none left has ms one.1 texts.1,
        none,
      )
  | inr past ↦
      let sites : sites_in_members (field k d ms) ≡ sites_in d ++ sites_in_members ms =
      ap (λ b. cond b (map in_object (listed d)) (sites_in d) ++ sites_in_members ms) past in
      omega (
        arith,
        ap F sites,
        more (sites_in d) (sites_in_members ms),
        more (cond (is_among k left) [] (sites_in d)) (plain_sites left ms),
        kept past,
        ap (λ xs. F (map in_object xs)) (own_past k d ms past),
        under_parts F more none left has ms one.1 texts.1,
      )
] where
  kept : bytes_eq k sd ≡ false → F (cond (is_among k left) [] (sites_in d)) ≡ F (sites_in d)
  kept past = elim (cases_Bool (is_among k left)) [
    | inl out ↦ ap (λ b. F (cond b [] (sites_in d))) out ∙ ap F (sym (text_has_none d (texts.0 out past)))
    | inr in_it ↦ ap (λ b. F (cond b [] (sites_in d))) in_it
  ]

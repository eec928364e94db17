-- How many entries a map has: no more than the openings to which it is tied.
use Rattle.std.proofs.Common.{◌≡◌, ℕ, refl, ap, sym, ◌∙◌, ◌≤◌, Bool, true, false, ◌||◌, cond, List, [], ◌∷◌}
use Rattle.std.proofs.Common.{length, map, Option, Some, None, is_some, arith, inl, inr, bytes_eq}
use Rattle.std.proofs.Common.{String, string_bytes, string_cmp, true≢false}
use Rattle.std.specs.List.{IsDistinct, AllByRecursion}
use Rattle.std.specs.Set.{is_member}
use Rattle.std.specs.Map.{lookup, keys_of}
use Rattle.std.specs.BTreeMap.{BTreeMap, get_by_text, btree_map_len, is_at, IsOrdered}
use Rattle.std.specs.Ordering.{eq_by_cmp}
use Rattle.std.specs.Cmp.Lexicographic.{nat_list_eq_equiv}
use Rattle.std.proofs.Math.Bool.{or-true}
use Rattle.std.proofs.lemmas.List.{length-map}
use Rattle.std.proofs.lemmas.Map.Keys.{
  IsDistinct-cons,
  IsDistinct-head,
  IsDistinct-tail,
  IsDistinct-from_sorted,
}
use Rattle.std.proofs.lemmas.Map.Made.{length-le_from_is_member}
use Rattle.std.proofs.lemmas.Map.Text.{is_eq-slice_cmp, text_cmp}
use Rattle.std.proofs.lemmas.Slice.Eq.{bytes_eq-Decides}
use Rattle.verifier_sessions.specs.declared.table.Opening.{Opening}
use Rattle.verifier_sessions.specs.History.{Text}
use Rattle.verifier_sessions.specs.code.Queue.{IsQueued, AreQueued}

-- The test that looks a text up.
abbrev finds : {A : Type 0} → List ℕ → String A → Bool
finds bs k = is_at (text_cmp bs) k

finds_is : {A : Type 0} (bs : List ℕ) (k : String A) → finds bs k ≡ bytes_eq bs (string_bytes k)
finds_is bs k = is_eq-slice_cmp bs (string_bytes k)

abbrev key_texts : {A X : Type 0} → List (String A × X) → List Text
key_texts es = map (λ e. string_bytes e.0) es

texts_apart : {A X : Type 0} (k : String A) (es : List (String A × X))
    → AllByRecursion (λ y. eq_by_cmp string_cmp k y ≡ false) (keys_of es)
    → AllByRecursion (λ y. bytes_eq (string_bytes k) y ≡ false) (key_texts es)
texts_apart k [] f = tt
texts_apart k (e ∷ es) f = (
  sym (is_eq-slice_cmp (string_bytes k) (string_bytes e.0))
      ∙ f.0,
  texts_apart k es f.1,
)

texts_distinct : {A X : Type 0} (es : List (String A × X)) → IsDistinct (eq_by_cmp string_cmp) (keys_of es)
    → IsDistinct bytes_eq (key_texts es)
unfolding IsDistinct
texts_distinct [] d = tt
texts_distinct (e ∷ es) d = IsDistinct-cons bytes_eq (string_bytes e.0) (key_texts es)
    (texts_apart e.0 es (IsDistinct-head (eq_by_cmp string_cmp) e.0 (keys_of es) d))
    (texts_distinct es (IsDistinct-tail (eq_by_cmp string_cmp) e.0 (keys_of es) d))

texts_member : {A X : Type 0} (q : Text) (es : List (String A × X)) → is_member bytes_eq (key_texts es) q
    ≡ is_some (lookup (finds q) es)
texts_member q [] = refl
texts_member q (e ∷ es) = rw (finds_is q e.0) (go (bytes_eq q (string_bytes e.0)) (texts_member q es)) where
  go : (b : Bool) → is_member bytes_eq (key_texts es) q ≡ is_some (lookup (finds q) es)
      → (b || is_member bytes_eq (key_texts es) q) ≡ is_some (cond b (Some e.1) (lookup (finds q) es))
  go true ih = refl
  go false ih = ih

queued_member : (text : Opening → Text) (os : List Opening) (q : Text) (m : ℕ) → IsQueued text os q m
    → is_member bytes_eq (map text os) q ≡ true
queued_member text [] q m i = absurd i
queued_member text (o ∷ os) q m i = elim i [
  | inl s ↦ ap (λ b. b || is_member bytes_eq (map text os) q) ((bytes_eq-Decides q (text o)).1 (sym s.0))
  | inr r ↦ ap (λ b. bytes_eq q (text o) || b) (queued_member text os q m r)
      ∙ or-true (bytes_eq q (text o))
]

-- A map of which every text is that of an opening has no more entries than there are openings.
pub no_more : {A X : Type 0} (text : Opening → Text) (os : List Opening) (m : BTreeMap (String A) X)
    (at : Text → Option ℕ) (moment : X → ℕ)
    → ((q : Text) (x : X) → get_by_text m q ≡ Some x → at q ≡ Some (moment x)) → IsOrdered string_cmp m
    → AreQueued text os at → btree_map_len m ≤ length os
no_more {X = X} text os m at moment there d a =
    let most : length (key_texts m.entries) ≤ length (map text os) =
    length-le_from_is_member nat_list_eq_equiv (key_texts m.entries) (map text os)
    (texts_distinct m.entries (IsDistinct-from_sorted string_cmp (keys_of m.entries) d))
    (λ q e. go q (get_by_text m q) refl (sym (texts_member q m.entries) ∙ e)) in
    let keys : length (key_texts m.entries) ≡ btree_map_len m =
    length-map m.entries (λ e. string_bytes e.0) in
    let queue : length (map text os) ≡ length os = length-map os text in
    omega arith where
      go : (q : Text) (o : Option X) → get_by_text m q ≡ o → is_some o ≡ true
          → is_member bytes_eq (map text os) q ≡ true
      go q None e s = absurd (true≢false (sym s))
      go q (Some x) e s = queued_member text os q (moment x) (a q (moment x) (there q x e))

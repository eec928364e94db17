-- The sessions that a history keeps have different ids.
use Rattle.std.proofs.Common.{◌≡◌, ℕ, refl, ap, sym, ◌∙◌, ◌≤◌, Bool, true, false, ◌&&◌, ◌||◌, cond, List, []}
use Rattle.std.proofs.Common.{◌∷◌, length, map, Option, Some, None, is_some, is_none, nat_le, if◌then◌else◌}
use Rattle.std.proofs.Common.{arith, bytes_eq, true≢false}
use Rattle.std.specs.Bool.{one_answer}
use Rattle.std.specs.List.{IsDistinct, AllByRecursion}
use Rattle.std.proofs.lemmas.Bool.{or_parts}
use Rattle.std.proofs.lemmas.Map.Keys.{IsDistinct-cons}
use Rattle.std.proofs.lemmas.Slice.Eq.{bytes_eq-Decides}
use Rattle.verifier_sessions.specs.declared.event.OpenRule.TheVariants as rule
use Rattle.verifier_sessions.specs.History.{Text, History, Told, Event, Open, Post, Look, told, latest}
use Rattle.verifier_sessions.specs.History.{counted, is_kept, kept, id_of, has_id, has_nonce, does_open}
use Rattle.verifier_sessions.specs.code.Records.{Record, record_of, kept_record}
use Rattle.verifier_sessions.proofs.Later.{kept_record-later}
use Rattle.verifier_sessions.proofs.Told.{has_id-kept}

bytes_eq-sym : (x y : List ℕ) → bytes_eq x y ≡ bytes_eq y x
bytes_eq-sym x y = one_answer (bytes_eq x y) (bytes_eq y x) (bytes_eq-Decides x y)
    (λ e. sym ((bytes_eq-Decides y x).0 e), λ e. (bytes_eq-Decides y x).1 (sym e))

abbrev pub ids : List Told → List Text
ids ts = map (λ t. id_of t.event) ts

ids_apart : (q : Text) (ts : List Told) → has_id q ts ≡ false
    → AllByRecursion (λ y. bytes_eq q y ≡ false) (ids ts)
ids_apart q [] e = tt
ids_apart q (t ∷ ts) e = let parts : (bytes_eq (id_of t.event) q ≡ false) × (has_id q ts ≡ false) =
    or_parts (bytes_eq (id_of t.event) q) (has_id q ts) e in
    (bytes_eq-sym q (id_of t.event) ∙ parts.0, ids_apart q ts parts.1)

none_later : (l now : ℕ) (o : Option Record) → l ≤ now → is_some (kept_record l o) ≡ false
    → is_some (kept_record now o) ≡ false
none_later l now o h e = ap is_some (sym (kept_record-later l now o h)) ∙ go (kept_record l o) e where
  go : (p : Option Record) → is_some p ≡ false → is_some (kept_record now p) ≡ false
  go None e = refl
  go (Some r) e = absurd (true≢false e)

-- An opening that opens brings an id that no kept opening has.
fresh_id : (e : Event) (openings : List Told) → does_open e openings ≡ true → has_id (id_of e) openings
    ≡ false
fresh_id (Post id a) openings o = absurd (true≢false (sym o))
fresh_id (Look id) openings o = absurd (true≢false (sym o))
fresh_id (Open id nonce) openings o =
    go (nat_le 1024 (length openings)) (has_id id openings) (has_nonce nonce openings) o where
      go : (full i n : Bool) → is_none (if full then Some rule.Full else
          (if i || n then Some rule.DrawInUse else None)) ≡ true → i ≡ false
      go true i n o = absurd (true≢false (sym o))
      go false true n o = absurd (true≢false (sym o))
      go false false n o = refl

pub ids_distinct : (h : History) (now : ℕ) → latest h ≤ now → IsDistinct bytes_eq (ids (kept now (told h)))
unfolding IsDistinct
ids_distinct [] now le = tt
ids_distinct (e ∷ h) now le = go (does_open e.1 (kept (counted e.0 h) (told h)))
    (is_kept now (counted e.0 h)) refl (ids_distinct h now (omega arith)) where
      go : (o k : Bool) → does_open e.1 (kept (counted e.0 h) (told h)) ≡ o
          → IsDistinct bytes_eq (ids (kept now (told h)))
          → IsDistinct bytes_eq (ids (cond (o && k)
          (record {
            moment = counted e.0 h;
            event = e.1;
            opens =
                o;
          } ∷ kept now (told h)) (kept now (told h))))
      go false k f ih = ih
      go true false f ih = ih
      go true true f ih = IsDistinct-cons bytes_eq (id_of e.1) (ids (kept now (told h)))
          (ids_apart (id_of e.1) (kept now (told h))
          (has_id-kept h now (id_of e.1) ∙ none_later (counted e.0 h) now (record_of h (id_of e.1)) le
          (sym (has_id-kept h (counted e.0 h) (id_of e.1))
          ∙ fresh_id e.1 (kept (counted e.0 h) (told h)) f))) ih

-- The queue of a table's openings, and what ties its two maps to it. Only the crate's own proofs read this.
use Rattle.std.specs.Prelude.{ℕ, ◌≡◌, ◌+◌, ◌≤◌, ◌⊎◌, Bool, false, ◌&&◌, List, [], ◌∷◌, length, drop, Option}
use Rattle.std.specs.Prelude.{Some, nat_le, if◌then◌else◌, String, string_bytes, string_cmp}
use Rattle.std.specs.Option.{option_map}
use Rattle.std.specs.BTreeMap.{BTreeMap, get_by_text, IsOrdered}
use Rattle.verifier_sessions.specs.declared.session.Session.{Session}
use Rattle.verifier_sessions.specs.declared.table.Opening.{Opening}
use Rattle.verifier_sessions.specs.History.{Text, is_kept}
use Rattle.verifier_sessions.specs.code.Records.{held}

-- The queue is full where it has 1,024 openings and the oldest is not forgotten.
abbrev pub is_oldest_kept : ℕ → List Opening → Bool
is_oldest_kept now [] = false
is_oldest_kept now (o ∷ os) = is_kept now o.opened

abbrev pub is_full : ℕ → List Opening → Bool
is_full now os = nat_le 1024 (length os) && is_oldest_kept now os

-- The queue with room for one opening more.
abbrev pub without_oldest : List Opening → List Opening
without_oldest os = if nat_le 1024 (length os) then drop 1 os else os

-- How many openings are not forgotten.
abbrev pub kept_count : ℕ → List Opening → ℕ
kept_count now [] = 0
kept_count now (o ∷ os) = (if is_kept now o.opened then 1 else 0) + kept_count now os

-- The moments ascend up to a bound.
abbrev pub Ascend : ℕ → List Opening → Type 0
Ascend top [] = Unit {0}
Ascend top (o ∷ []) = o.opened ≤ top
Ascend top (o ∷ p ∷ os) = (o.opened ≤ p.opened) × Ascend top (p ∷ os)

-- One of the openings has the text, which is its id or its nonce, and the moment.
abbrev pub id_text : Opening → Text
id_text o = string_bytes o.id

abbrev pub nonce_text : Opening → Text
nonce_text o = string_bytes o.nonce

abbrev pub IsQueued : (Opening → Text) → List Opening → Text → ℕ → Type 0
IsQueued text [] q m = ⊥
IsQueued text (o ∷ os) q m = ((text o ≡ q) × (o.opened ≡ m)) ⊎ IsQueued text os q m

-- What a map has at a text, by the moment, is that of an opening.
abbrev pub AreQueued : (Opening → Text) → List Opening → (Text → Option ℕ) → Type 0
AreQueued text os at = (q : Text) (m : ℕ) → at q ≡ Some m → IsQueued text os q m

-- The moments of the openings of sessions.
abbrev pub moment_at : {A : Type 0} → BTreeMap (String A) Session → Text → Option ℕ
moment_at sessions q = option_map (λ r. r.opened) (held sessions q)

-- Two maps, in their keys' order, whose sessions and nonces are those of the openings, which ascend.
pub record FitsQueue {A B : Type 0} (top : ℕ) (sessions : BTreeMap (String A) Session)
    (nonces : BTreeMap (String B) ℕ) (os : List Opening) : Type 0 where
  pub ids_are : AreQueued id_text os (moment_at sessions)
  pub nonces_are : AreQueued nonce_text os (get_by_text nonces)
  pub ascend : Ascend top os
  pub sessions_ordered : IsOrdered string_cmp sessions
  pub nonces_ordered : IsOrdered string_cmp nonces

-- An opening at a moment was added to a queue that was not full.
abbrev pub Adds : ℕ → List Opening → List Opening → Type 0
Adds now os ns = is_full now os ≡ false → length os ≤ 1024
    → (length ns ≤ 1024) × ((n : ℕ) → now ≤ n
    → kept_count n ns ≡ (if is_kept n now then 1 else 0) + kept_count n os)

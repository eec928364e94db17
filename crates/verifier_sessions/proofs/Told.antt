-- The events that a history tells, and the openings of them that are kept.
use Rattle.std.proofs.Common.{◌≡◌, ℕ, refl, ap, sym, ◌∙◌, ◌+◌, ◌≤◌, max, Bool, true, false, ◌&&◌, cond, List}
use Rattle.std.proofs.Common.{[], ◌∷◌, Option, Some, None, option_map, is_some, arith, ltb-false, le-ltb}
use Rattle.std.proofs.Common.{filter, find, bytes_eq}
use Rattle.std.specs.List.{list_any}
use Rattle.verifier_sessions.specs.History.{Text, History, Told, told, latest, is_kept, kept, id_of, nonce_of}
use Rattle.verifier_sessions.specs.History.{has_id, has_nonce}
use Rattle.verifier_sessions.specs.Stands.{events_of, last_opening}
use Rattle.verifier_sessions.specs.code.Records.{record_among, record_of, drawn, moment_in, kept_record}
use Rattle.verifier_sessions.specs.code.Records.{kept_moment}
use Rattle.verifier_sessions.proofs.Later.{is_some-kept}

-- The moments of events fall along the list, from a bound on.
abbrev pub Falls : ℕ → List Told → Type 0
Falls bound [] = Unit {0}
Falls bound (t ∷ ts) = (t.moment ≤ bound) × Falls t.moment ts

falls_from : (b c : ℕ) (ts : List Told) → b ≤ c → Falls b ts → Falls c ts
falls_from b c [] h f = tt
falls_from b c (t ∷ ts) h f = (let k : t.moment ≤ b = f.0 in omega arith, f.1)

pub told_falls : (h : History) → Falls (latest h) (told h)
told_falls [] = tt
told_falls (e ∷ h) = (
  omega arith,
  falls_from (latest h) (max e.0 (latest h)) (told h) (omega arith)
      (told_falls h),
)

-- Where the bound is forgotten, nothing is kept.
pub kept-none : (now b : ℕ) (ts : List Told) → Falls b ts → is_kept now b ≡ false → kept now ts ≡ []
kept-none now b [] f e = refl
kept-none now b (t ∷ ts) f e =
    let k : b + 3600 ≤ now = ltb-false now (b + 3600) e in
    let m : t.moment ≤ b = f.0 in
    let g : is_kept now t.moment ≡ false = le-ltb now (t.moment + 3600) (omega arith) in
    rw g (elim t.opens as (λ p. cond (p && false) (t ∷ kept now ts) (kept now ts) ≡ []) [
      | true ↦ kept-none now t.moment ts f.1 g
      | false ↦ kept-none now t.moment ts f.1 g
    ])

-- Whether one of the openings that are kept passes a test: the last opening that passes it decides.
any_step : (p : Told → Bool) (now : ℕ) (t : Told) (openings : List Told) (last : Option Told) (o k e : Bool)
    → is_kept now t.moment ≡ k → p t ≡ e → (k ≡ false → list_any p openings ≡ false)
    → list_any p openings ≡ is_some (kept_moment now (moment_in last))
    → list_any p (cond (o && k) (t ∷ openings) openings)
    ≡ is_some (kept_moment now (moment_in (cond (o && e) (Some t) last)))
any_step p now t openings last false k e h g none ih = ih
any_step p now t openings last true true true h g none ih = rw (g, h) refl
any_step p now t openings last true true false h g none ih = rw g ih
any_step p now t openings last true false true h g none ih = rw h (none refl)
any_step p now t openings last true false false h g none ih = ih

pub any_kept : (p : Told → Bool) (now b : ℕ) (ts : List Told) → Falls b ts
    → list_any p (kept now ts) ≡ is_some (kept_moment now (moment_in (find (λ t. t.opens && p t) ts)))
any_kept p now b [] f = refl
any_kept p now b (t ∷ ts) f = any_step p now t (kept now ts) (find (λ t. t.opens && p t) ts) t.opens
    (is_kept now t.moment) (p t)
    refl refl (λ k. ap (list_any p) (kept-none now t.moment ts f.1 k)) (any_kept p now t.moment ts f.1)

-- The last opening of an id, found among its events or among all.
pub last_opening-events : (id : Text) (ts : List Told)
    → find (λ t. t.opens) (filter (λ t. bytes_eq (id_of t.event) id) ts)
    ≡ find (λ t. t.opens && bytes_eq (id_of t.event) id) ts
last_opening-events id [] = refl
last_opening-events id (t ∷ ts) =
    last_step t (find (λ t. t.opens) (filter (λ t. bytes_eq (id_of t.event) id) ts)) _
    (filter (λ t. bytes_eq (id_of t.event) id) ts)
    t.opens (bytes_eq (id_of t.event) id) refl refl (last_opening-events id ts) where
      last_step : (t : Told) (first last : Option Told) (rest : List Told) (o e : Bool) → t.opens ≡ o
          → find (λ t. t.opens) rest ≡ first → first ≡ last
          → find (λ t. t.opens) (cond e (t ∷ rest) rest) ≡ cond (o && e) (Some t) last
      last_step t first last rest true true h f ih = rw h refl
      last_step t first last rest true false h f ih = f ∙ ih
      last_step t first last rest false true h f ih = rw h (f ∙ ih)
      last_step t first last rest false false h f ih = f ∙ ih

opened-record : (ts : List Told) (o : Option Told) → option_map (λ r. r.opened) (record_among ts o)
    ≡ moment_in o
opened-record ts None = refl
opened-record ts (Some t) = refl

-- Whether an id or a nonce is in use.
pub has_id-kept : (h : History) (now : ℕ) (id : Text) → has_id id (kept now (told h))
    ≡ is_some (kept_record now (record_of h id))
has_id-kept h now id = any_kept (λ t. bytes_eq (id_of t.event) id) now (latest h) (told h) (told_falls h)
    ∙ (ap (λ o. is_some (kept_moment now (moment_in o))) (sym (last_opening-events id (told h)))
    ∙ (ap (λ o. is_some (kept_moment now o)) (sym
    (opened-record (events_of id h) (last_opening (events_of id h))))
    ∙ sym (is_some-kept now (record_of h id))))

pub has_nonce-kept : (h : History) (now : ℕ) (nonce : Text) → has_nonce nonce (kept now (told h))
    ≡ is_some (kept_moment now (drawn h nonce))
has_nonce-kept h now nonce = any_kept (λ t. bytes_eq (nonce_of t.event) nonce) now (latest h) (told h)
    (told_falls h)

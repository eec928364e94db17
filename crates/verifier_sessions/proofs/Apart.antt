-- Sessions do not touch one another.
use Rattle.std.proofs.Common.{◌≡◌, ◌≢◌, ℕ, refl, ap, ap₂, sym, ◌∙◌, max, false, cond, [], ◌∷◌, None, is_none}
use Rattle.std.proofs.Common.{bytes_eq, inl, inr}
use Rattle.std.proofs.lemmas.Bool.{false_from_ne_true}
use Rattle.std.proofs.lemmas.Slice.Eq.{bytes_eq-Decides}
use Rattle.verifier_sessions.specs.declared.event.Reply.TheVariants.{Stands}
use Rattle.verifier_sessions.specs.History.{Text, Event, Open, Post, Look, History, told, latest, counted}
use Rattle.verifier_sessions.specs.History.{kept, id_of, does_open, rule_of}
use Rattle.verifier_sessions.specs.Stands.{stand, stand_among, events_of, last_opening}
use Rattle.verifier_sessions.specs.Replies.{post_reply, reply_to}
use Rattle.verifier_sessions.specs.Laws.{StandApart, Agree, NoneRefused, replies_to}

pub same_latest : (id : Text) (h k : History) → Agree id h k → latest h ≡ latest k
same_latest id [] [] a = refl
same_latest id [] (f ∷ k) a = absurd a
same_latest id (e ∷ h) [] a = absurd a
same_latest id (e ∷ h) (f ∷ k) a = ap₂ max a.0 (same_latest id h k a.2)

other : (id e : Text) → e ≢ id → bytes_eq e id ≡ false
other id e n = false_from_ne_true (bytes_eq e id) (λ t. n ((bytes_eq-Decides e id).0 t))

-- Whether an event of an id opens does not depend on the history, where none is refused.
same_opens : (id : Text) (e : Event) (m n : ℕ) (h k : History) → id_of e ≡ id
    → ((nonce : Text) → e ≡ Open id nonce → rule_of h m id nonce ≡ None)
    → ((nonce : Text) → e ≡ Open id nonce → rule_of k n id nonce ≡ None)
    → does_open e (kept (counted m h) (told h)) ≡ does_open e (kept (counted n k) (told k))
same_opens id (Post i a) m n h k of r s = refl
same_opens id (Look i) m n h k of r s = refl
same_opens id (Open i w) m n h k of r s =
    rw of (ap is_none (r w (ap (λ x. Open x w) of)) ∙ ap is_none (sym (s w (ap (λ x. Open x w) of))))

pub same_events : (id : Text) (h k : History) → Agree id h k → NoneRefused id h → NoneRefused id k
    → events_of id h ≡ events_of id k
same_events id [] [] a r s = refl
same_events id [] (f ∷ k) a r s = absurd a
same_events id (e ∷ h) [] a r s = absurd a
same_events id (e ∷ h) (f ∷ k) a r s = elim a.1 [
  | inr n ↦ rw (other id (id_of e.1) n.0, other id (id_of f.1) n.1) (same_events id h k a.2 r.1 s.1)
  | inl b ↦ go e.1 f.1 b.0 b.1 r.0 s.0 (same_events id h k a.2 r.1 s.1)
] where
  go : (x y : Event) → x ≡ y → id_of x ≡ id
      → ((nonce : Text) → x ≡ Open id nonce → rule_of h e.0 id nonce ≡ None)
      → ((nonce : Text) → y ≡ Open id nonce → rule_of k f.0 id nonce ≡ None)
      → events_of id h ≡ events_of id k
      → cond (bytes_eq (id_of x) id) (record {
        moment = counted e.0 h;
        event = x;
        opens =
            does_open x (kept (counted e.0 h) (told h));
      } ∷ events_of id h) (events_of id h)
      ≡ cond (bytes_eq (id_of y) id) (record {
        moment = counted f.0 k;
        event = y;
        opens =
            does_open y (kept (counted f.0 k) (told k));
      } ∷ events_of id k) (events_of id k)
  go x y same of r s ih = rw (← same, ← ih)
      (ap₂ (λ m o. cond (bytes_eq (id_of x) id)
      (record { moment = m; event = x; opens = o } ∷ events_of id h) (events_of id h))
      (ap₂ max a.0 (same_latest id h k a.2)) (same_opens id x e.0 f.0 h k of r (λ w t. s w (sym same ∙ t))))

same_stand : (id : Text) (m n : ℕ) (h k : History) → m ≡ n → latest h ≡ latest k → events_of id h
    ≡ events_of id k → stand h m id ≡ stand k n id
same_stand id m n h k e l v = ap₂ (λ c ts. stand_among c ts (last_opening ts)) (ap₂ max e l) v

same_reply : (id : Text) (x : Event) (m n : ℕ) (h k : History) → id_of x ≡ id → m ≡ n → latest h ≡ latest k
    → events_of id h ≡ events_of id k
    → ((nonce : Text) → x ≡ Open id nonce → rule_of h m id nonce ≡ None)
    → ((nonce : Text) → x ≡ Open id nonce → rule_of k n id nonce ≡ None)
    → reply_to h m x ≡ reply_to k n x
same_reply id (Open i w) m n h k of e l v r s =
    rw of (rw (r w (ap (λ x. Open x w) of), s w (ap (λ x. Open x w) of)) refl)
same_reply id (Post i b) m n h k of e l v r s = rw of (ap (post_reply b) (same_stand id m n h k e l v))
same_reply id (Look i) m n h k of e l v r s = rw of (ap Stands (same_stand id m n h k e l v))

pub stand_apart : StandApart
stand_apart id [] [] a r s = refl
stand_apart id [] (f ∷ k) a r s = absurd a
stand_apart id (e ∷ h) [] a r s = absurd a
stand_apart id (e ∷ h) (f ∷ k) a r s = elim a.1 [
  | inr n ↦ rw (other id (id_of e.1) n.0, other id (id_of f.1) n.1) (stand_apart id h k a.2 r.1 s.1)
  | inl b ↦ go e.1 f.1 b.0 b.1 r.0 s.0 (same_events id h k a.2 r.1 s.1) (stand_apart id h k a.2 r.1 s.1)
] where
  go : (x y : Event) → x ≡ y → id_of x ≡ id
      → ((nonce : Text) → x ≡ Open id nonce → rule_of h e.0 id nonce ≡ None)
      → ((nonce : Text) → y ≡ Open id nonce → rule_of k f.0 id nonce ≡ None)
      → events_of id h ≡ events_of id k → replies_to id h ≡ replies_to id k
      → cond (bytes_eq (id_of x) id) (reply_to h e.0 x ∷ replies_to id h) (replies_to id h)
      ≡ cond (bytes_eq (id_of y) id) (reply_to k f.0 y ∷ replies_to id k) (replies_to id k)
  go x y same of r s events ih = rw (← same, ← ih)
      (ap (λ t. cond (bytes_eq (id_of x) id) (t ∷ replies_to id h) (replies_to id h))
      (same_reply id x e.0 f.0 h k of a.0 (same_latest id h k a.2) events r (λ w t. s w (sym same ∙ t))))

-- A history and its replies after one event more, and where the events end early.
use Rattle.std.proofs.Common.{◌≡◌, ℕ, refl, ap, sym, ◌∙◌, ◌+◌, ◌<◌, List, [], ◌∷◌, ◌++◌, length, take, drop}
use Rattle.std.proofs.Common.{get_or, take-append-drop, drop-cons, inl, inr, Result, Ok, Err, OnErr}
use Rattle.std.proofs.lemmas.List.{map_more, map-append}
use Rattle.verifier_sessions.specs.declared.events.Entry.{Entry}
use Rattle.verifier_sessions.specs.declared.table.Table.{Table}
use Rattle.verifier_sessions.specs.History.{History, Event}
use Rattle.verifier_sessions.specs.Replies.{reply_of, after, replies}
use Rattle.verifier_sessions.specs.Table.{StandsFor, StandsAfterSome, IsOpening, NextOpens}
use Rattle.verifier_sessions.specs.code.Owned.{event_in, events_in}

pub after-push : (h : History) (es : List (ℕ × Event)) (e : ℕ × Event) → after h (es ++ e ∷ [])
    ≡ e ∷ after h es
after-push h [] e = refl
after-push h (x ∷ es) e = after-push (x ∷ h) es e

pub replies-push : (h : History) (es : List (ℕ × Event)) (e : ℕ × Event) → replies h (es ++ e ∷ [])
    ≡ replies h es ++ reply_of (after h es) e ∷ []
replies-push h [] e = refl
replies-push h (x ∷ es) e = ap (λ rs. reply_of h x ∷ rs) (replies-push (x ∷ h) es e)

pub events-more : (entries : List Entry) (i : ℕ) (x : Entry) → i < length entries → x ≡ get_or entries i x
    → events_in (take (i + 1) entries) ≡ events_in (take i entries) ++ (x.moment, event_in x.owned) ∷ []
events-more entries i x h e = map_more (λ y. (y.moment, event_in y.owned)) entries i x h
    ∙ ap (λ y. events_in (take i entries) ++ (y.moment, event_in y.owned) ∷ []) (sym e)

next_opens : (entries : List Entry) (i : ℕ) (x : Entry) → i < length entries → x ≡ get_or entries i x
    → IsOpening (event_in x.owned)
    → NextOpens (events_in (drop i entries))
next_opens entries i x h e o = rw (drop-cons entries i x h, ← e) o

pub some_done : (t : Table) (h : History) (events : List (ℕ × Event)) (entries : List Entry) (i : ℕ)
    (x : Entry) → events ≡ events_in entries
    → i < length entries → x ≡ get_or entries i x → IsOpening (event_in x.owned)
    → StandsFor t (after h (events_in (take i entries))) → StandsAfterSome t h events
some_done t h events entries i x e l g o s = record {
  done = events_in (take i entries);
  rest = events_in (drop i entries);
  parts = e ∙ (ap events_in (sym (take-append-drop i entries))
      ∙ map-append (λ y. (y.moment, event_in y.owned)) (take i entries) (drop i entries));
  stands = s;
  stopped = inr (next_opens entries i x l g o);
}

pub none_done : (t : Table) (h : History) (events : List (ℕ × Event)) → StandsFor t h
    → StandsAfterSome t h events
none_done t h events s = record { done = []; rest = events; parts = refl; stands = s; stopped = inl refl }

pub on_err : {T E P : Type 0} (r : Result T E) → P → OnErr r P
on_err (Ok x) p = tt
on_err (Err e) p = p

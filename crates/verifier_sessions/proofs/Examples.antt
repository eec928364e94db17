-- The definitions at examples.
use Rattle.std.proofs.Common.{◌≡◌, refl, [], ◌∷◌}
use Rattle.std.specs.Prelude.{true, false}
use Rattle.verifier_sessions.specs.declared.event.Stand.TheVariants.{Unknown, Pending, Yes, Closed, Expired}
use Rattle.verifier_sessions.specs.declared.event.Reply.TheVariants.{
  Opened,
  DrawInUse,
  Turned,
  Counted,
  Stands,
}
use Rattle.verifier_sessions.specs.History.{Text, Open, Post, Look}
use Rattle.verifier_sessions.specs.Replies.{replies}

abbrev a : Text
a = 97 ∷ []

abbrev b : Text
b = 98 ∷ []

abbrev x : Text
x = 120 ∷ []

in_use_counted_expired : replies [] ((10, Open a x) ∷ (11, Open b x) ∷ (309, Post a false) ∷
    (310, Post a true) ∷ (5, Look a) ∷ [])
    ≡ Opened ∷ DrawInUse x ∷ Counted ∷ Stands (Expired 1) ∷ Stands (Expired 1) ∷ []
in_use_counted_expired = refl

-- Eight refusals close a session, a ninth post changes nothing, and so does an accepted one.
closed_by_eight : replies [] ((0, Open a x) ∷ (1, Post a false) ∷ (1, Post a false) ∷ (1, Post a false)
    ∷ (1, Post a false) ∷ (1, Post a false) ∷ (1, Post a false) ∷ (1, Post a false) ∷ (1, Post a false)
    ∷ (1, Post a false) ∷ (1, Post a true) ∷ [])
    ≡ Opened ∷ Counted ∷ Counted ∷ Counted ∷ Counted ∷ Counted ∷ Counted ∷ Counted ∷ Counted
    ∷ Stands Closed ∷ Stands Closed ∷ []
closed_by_eight = refl

-- An accepted post turns a session once; it is yes until it is forgotten.
turned_once : replies [] ((10, Open a x) ∷ (20, Post a true) ∷ (21, Post a true) ∷ (3609, Look a) ∷
    (3610, Look a) ∷ [])
    ≡ Opened ∷ Turned ∷ Stands (Yes 0) ∷ Stands (Yes 0) ∷ Stands Unknown ∷ []
turned_once = refl

-- A moment that goes back counts as the latest, and a session that is expired stays so.
moment_goes_back : replies [] ((1000, Open a x) ∷ (1299, Look a) ∷ (1300, Look a) ∷ (1290, Look a) ∷ [])
    ≡ Opened ∷ Stands (Pending 0) ∷ Stands (Expired 0) ∷ Stands (Expired 0) ∷ []
moment_goes_back = refl

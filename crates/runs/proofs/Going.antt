-- Parts of what was answered.
use Rattle.std.proofs.Common.{◌≡◌, ◌∙◌, ◌++◌, inl, inr, List, [], ◌∷◌, Some, refl, sym, ap, append_assoc}
use Rattle.key_device.specs.Calls.{Held, Judges}
use Rattle.runs.specs.Asked.{Answered, answered, Goes}
use Rattle.runs.specs.Runs.{value}
use Rattle.runs.specs.Signed.{Signature, signature_of, signatures, AreGenuine}
use Rattle.runs.specs.Tree.{Tree, gives, stops, needs, tries, bind, map_stops}

-- a tree that is followed by another went to its value, and then the other
pub goes_through : {R A B : Type 0} (t : Tree R A) (k : A → Tree R B) (log : List Answered) (b : B)
    → Goes (bind t k) log (value b)
    → (a : A) × (one : List Answered) × (two : List Answered) × (log ≡ one ++ two) × Goes t one (value a)
    × Goes (k a) two (value b)
unfolding bind Goes
goes_through (gives v) k log b goes = (v, [], log, refl, (refl, refl), goes)
goes_through (stops refusal) k log b goes = absurd goes.1
goes_through (needs q next) k log b (inl (answer, rest, is, goes)) =
    let p = goes_through (next answer) k rest b goes in (
      p.0,
      answered q (Some answer) ∷ p.1,
      p.2,
      is ∙ ap (λ (l : List Answered). answered q (Some answer) ∷ l) p.3,
      inl (answer, p.1, refl, p.4),
      p.5,
    )
goes_through (needs q next) k log b (inr (inl faulted)) = absurd faulted.1
goes_through (needs q next) k log b (inr (inr given_up)) = absurd given_up.1
goes_through (tries q next) k log b (inl (answer, rest, is, goes)) =
    let p = goes_through (next answer) k rest b goes in (
      p.0,
      answered q answer ∷ p.1,
      p.2,
      is ∙ ap (λ (l : List Answered). answered q answer ∷ l) p.3,
      inl (answer, p.1, refl, p.4),
      p.5,
    )
goes_through (tries q next) k log b (inr given_up) = absurd given_up.1

-- a tree with other refusals went to a value, and so did the tree
pub goes_unmapped : {R S A : Type 0} (f : R → S) (t : Tree R A) (log : List Answered) (a : A)
    → Goes (map_stops f t) log (value a) → Goes t log (value a)
unfolding map_stops Goes
goes_unmapped f (gives v) log a goes = goes
goes_unmapped f (stops refusal) log a goes = absurd goes.1
goes_unmapped f (needs q next) log a (inl (answer, rest, is, goes)) =
    inl (answer, rest, is, goes_unmapped f (next answer) rest a goes)
goes_unmapped f (needs q next) log a (inr (inl faulted)) = absurd faulted.1
goes_unmapped f (needs q next) log a (inr (inr given_up)) = absurd given_up.1
goes_unmapped f (tries q next) log a (inl (answer, rest, is, goes)) =
    inl (answer, rest, is, goes_unmapped f (next answer) rest a goes)
goes_unmapped f (tries q next) log a (inr given_up) = absurd given_up.1

-- the signatures of two parts
pub signatures_of_both : (one two : List Answered)
    → signatures (one ++ two) ≡ signatures one ++ signatures two
signatures_of_both [] two = refl
signatures_of_both (answered q answer ∷ one) two =
    ap (λ (ss : List Signature). signature_of q answer ++ ss) (signatures_of_both one two)
    ∙ sym (append_assoc (signature_of q answer) (signatures one) (signatures two))

genuine_drop : (held : Held) (judged : Judges) (first second : List Signature)
    → AreGenuine held judged (first ++ second) → AreGenuine held judged second
genuine_drop held judged [] second all = all
genuine_drop held judged (s ∷ ss) second all = genuine_drop held judged ss second all.1

-- the signatures of a later part
pub genuine_rest : (held : Held) (judged : Judges) (one two : List Answered)
    → AreGenuine held judged (signatures (one ++ two)) → AreGenuine held judged (signatures two)
genuine_rest held judged [] two all = all
genuine_rest held judged (answered q answer ∷ one) two all =
    genuine_rest held judged one two
    (genuine_drop held judged (signature_of q answer) (signatures (one ++ two)) all)

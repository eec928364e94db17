-- One tree after another, for the members of a list.
use Rattle.std.proofs.Common.{◌≡◌, ◌<◌, ◌≤◌, ◌+◌, ◌++◌, ◌∙◌, ℕ, List, [], ◌∷◌, length, drop, get_or, map}
use Rattle.std.proofs.Common.{refl, sym, ap, subst, append_assoc, append-nil}
use Rattle.std.proofs.lemmas.List.{at_drop_more, at_drop_all}
use Rattle.runs.specs.Runs.{Ending, value, refused, fault, out_of_memory, Runs}
use Rattle.runs.specs.Tree.{Tree, each}
use Rattle.runs.specs.World.{World}
use Rattle.runs.proofs.Trees.{IsEarly, runs_then, runs_early, runs_gives}

-- an ending whose list has these before it
abbrev pub with_front : {R Y : Type 0} → List Y → Ending R (List Y) → Ending R (List Y)
with_front ys (value more) = value (ys ++ more)
with_front ys (refused refusal) = refused refusal
with_front ys (fault f) = fault f
with_front ys out_of_memory = out_of_memory

-- one was run to its value, and then the others
runs_each : {R X Y : Type 0} (tree : X → Tree R Y) (x : X) (xs : List X) (before mid after : World) (y : Y)
    (end : Ending R (List Y))
    → Runs (tree x) before mid (value y) → Runs (each tree xs) mid after end
    → Runs (each tree (x ∷ xs)) before after (with_front (y ∷ []) end)
unfolding each
runs_each tree x xs before mid after y (value ys) one two =
    runs_then _ _ _ _ _ _ _ one (runs_then _ _ _ _ _ _ _ two (runs_gives _ (y ∷ ys) (y ∷ ys) after refl))
runs_each tree x xs before mid after y (refused refusal) one two =
    runs_then _ _ _ _ _ _ _ one (runs_early _ _ _ _ (refused refusal) _ two refl)
runs_each tree x xs before mid after y (fault f) one two =
    runs_then _ _ _ _ _ _ _ one (runs_early _ _ _ _ (fault f) _ two refl)
runs_each tree x xs before mid after y out_of_memory one two =
    runs_then _ _ _ _ _ _ _ one (runs_early _ _ _ _ out_of_memory _ two refl)

left_is : {V : Type 0} (vs : List V) (i : ℕ) (item : V) → i < length vs → item ≡ get_or vs i item
    → drop i vs ≡ item ∷ drop (i + 1) vs
left_is vs i item more is = at_drop_more (λ l. l) vs i item more
    ∙ ap (λ (v : _). v ∷ drop (i + 1) vs) (sym is)

front_of_both : {R Y : Type 0} (done : List Y) (y : Y) (end : Ending R (List Y))
    → with_front done (with_front (y ∷ []) end) ≡ with_front (done ++ y ∷ []) end
front_of_both done y (value more) = ap value (sym (append_assoc done (y ∷ []) more))
front_of_both done y (refused refusal) = refl
front_of_both done y (fault f) = refl
front_of_both done y out_of_memory = refl

front_of_early : {R Y : Type 0} (done : List Y) (end : Ending R Y) (other : Ending R (List Y))
    → IsEarly end other → with_front done other ≡ other
front_of_early done (value v) other early = absurd early
front_of_early done (refused refusal) other early = ap (with_front done) early ∙ sym early
front_of_early done (fault f) other early = ap (with_front done) early ∙ sym early
front_of_early done out_of_memory other early = ap (with_front done) early ∙ sym early

-- a run of what is left from here is a run of the whole
abbrev pub IsRest : {R V X Y : Type 0} → (V → X) → (X → Tree R Y) → List V → ℕ → List Y → World → World
    → Type 0
IsRest {R = R} {Y = Y} item_of tree vs i done first before = (after : World) (end : Ending R (List Y))
    → Runs (each tree (map item_of (drop i vs))) before after end
    → Runs (each tree (map item_of vs)) first after (with_front done end)

pub one_more : {R V X Y : Type 0} (item_of : V → X) (tree : X → Tree R Y) (vs : List V) (i : ℕ) (item : V)
    (done more : List Y) (y : Y) (first before mid : World)
    → i < length vs → item ≡ get_or vs i item → more ≡ done ++ y ∷ []
    → IsRest item_of tree vs i done first before
    → Runs (tree (item_of item)) before mid (value y) → IsRest item_of tree vs (i + 1) more first mid
one_more item_of tree vs i item done more y first before mid within is pushed rest one after end two =
    let whole = rest after (with_front (y ∷ []) end)
    (subst (λ (l : List _). Runs (each tree (map item_of l)) before after (with_front (y ∷ []) end))
    (sym (left_is vs i item within is))
    (runs_each tree (item_of item) (map item_of (drop (i + 1) vs)) before mid after y end one two)) in
    subst (λ (e : Ending _ _). Runs (each tree (map item_of vs)) first after e) (front_of_both done y end
    ∙ ap (λ (l : List _). with_front l end) (sym pushed)) whole

pub one_stop : {R V X Y : Type 0} (item_of : V → X) (tree : X → Tree R Y) (vs : List V) (i : ℕ) (item : V)
    (done : List Y) (first before after : World)
    (end : Ending R Y) (other : Ending R (List Y)) → i < length vs → item ≡ get_or vs i item
    → IsRest item_of tree vs i done first before
    → Runs (tree (item_of item)) before after end → IsEarly end other
    → Runs (each tree (map item_of vs)) first after other
unfolding each
one_stop item_of tree vs i item done first before after end other within is rest one early =
    subst (λ (e : Ending _ _). Runs (each tree (map item_of vs)) first after e)
    (front_of_early done end other early)
    (rest after other (subst (λ (l : List _). Runs (each tree (map item_of l)) before after other)
    (sym (left_is vs i item within is))
    (runs_early (tree (item_of item)) _ before after end other one early)))

pub none_left : {R V X Y : Type 0} (item_of : V → X) (tree : X
    → Tree R Y) (vs : List V) (i : ℕ) (done : List Y) (first after : World)
    → length vs ≤ i → IsRest item_of tree vs i done first after
    → Runs (each tree (map item_of vs)) first after (value done)
unfolding each
none_left item_of tree vs i done first after all rest =
    subst (λ (l : List _). Runs (each tree (map item_of vs)) first after (value l)) (append-nil done)
    (rest after (value []) (subst (λ (l : List _). Runs (each tree (map item_of l)) after after (value []))
    (sym (at_drop_all (λ l. l) vs i all)) (runs_gives _ [] [] after refl)))

use Rattle.std.proofs.Common.{◌≡◌, ℕ, suc, ◌+◌, ◌<◌, Bool, true, ◌&&◌, List, length, drop, get_or}
use Rattle.std.proofs.Common.{rules, sym, ap, ◌∙◌, add-one, drop-cons, refl}
use Rattle.std.specs.List.{list_all}
use Rattle.credential_query.specs.Claims.{has_hits_at}
use Rattle.credential_query.proofs.claims.have_hits.Goals as goal

-- a place that passes leaves the answer to those after it
next_place : (test : ℕ → Bool) (xs : List ℕ) (i : ℕ) → i < length xs → test (get_or xs i 0) ≡ true
    → list_all test (drop (i + 1) xs) ≡ list_all test (drop i xs)
next_place test xs i h passes =
    sym (ap (list_all test) (drop-cons xs i 0 h)
    ∙ ap (λ b. b && list_all test (drop (suc i) xs)) passes
    ∙ rw add-one refl)

pub loop-place-preserved : goal.loop-place-preserved
loop-place-preserved g c =
    let test = has_hits_at c.args.claims.now (g.V.ClaimNode.tree c.args.view) in
    let i = c.loop-place.place-index in
    let passes : test (get_or c.args.places.now i 0) ≡ true = search rules in
    next_place test c.args.places.now i c.loop-place-test.true passes ∙ c.loop-place.invariant

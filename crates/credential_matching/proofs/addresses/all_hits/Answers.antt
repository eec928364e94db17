use Rattle.std.proofs.Common.{◌≡◌, ◌∙◌, ℕ, ◌+◌, ◌<◌, List, [], ◌++◌, length, take, get_or, ap, ap₂, sym}
use Rattle.std.specs.List.{flat_map}
use Rattle.std.proofs.lemmas.List.{flat_map_more, take_more}
use Rattle.claim_path.specs.Select.{Address}
use Rattle.credential_matching.specs.Shown.{hits_at}
use Rattle.credential_matching.proofs.addresses.all_hits.Goals as goal

next_place : (f : ℕ → List Address) (places : List ℕ) (i : ℕ) → i < length places
    → flat_map f (take i places) ++ f (get_or places i 0) ≡ flat_map f (take (i + 1) places)
next_place f places i h = flat_map_more f [] (take i places) (get_or places i 0)
    ∙ ap (flat_map f) (sym (take_more places i 0 h))

pub loop-place-preserved : goal.loop-place-preserved
loop-place-preserved g c =
    c.in_ok-append.ensures.items
    ∙ ap₂ (λ before more. before ++ more) c.loop-place.invariant c.in_ok-hits_at.ensures
    ∙ next_place (hits_at c.args.claims.now (g.V.ClaimNode.tree c.args.view)) c.args.places.now
    c.loop-place.place-index c.loop-place-test.true

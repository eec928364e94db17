use Rattle.std.proofs.Common.{◌≡◌, [], ◌∷◌, ap, ◌∙◌, refl}
use Rattle.std.specs.Option.{option_copied}
use Rattle.claim_path.specs.Select.{walk}
use Rattle.claim_path.specs.code.WalkEnd.{end_of}
use Rattle.claim_path.proofs.Walks.{hits-from_hit, hit_from-hits}
use Rattle.claim_path.proofs.any_hit.has_hit.Goals as goal

pub returns-in-Hit : goal.returns-in-Hit
returns-in-Hit g c =
    let v = g.V.ClaimNode.tree c.args.view in
    let vs = option_copied c.args.values in
    let e : c.walk_end.result ≡ end_of vs (walk c.args.path.now (([], v) ∷ [])) = c.walk_end.ensures []
    ∙ ap (λ ps. end_of vs (walk ps (([], v) ∷ []))) (c.as_slice.ensures.value ∙ c.path.view_is) in
    (λ _. hits-from_hit c.args.path.now vs v c.walk_end.result e c.in-Hit.is, λ _. refl)

pub returns-in_default : goal.returns-in_default
returns-in_default g c =
    let v = g.V.ClaimNode.tree c.args.view in
    let vs = option_copied c.args.values in
    let e : c.walk_end.result ≡ end_of vs (walk c.args.path.now (([], v) ∷ [])) = c.walk_end.ensures []
    ∙ ap (λ ps. end_of vs (walk ps (([], v) ∷ []))) (c.as_slice.ensures.value ∙ c.path.view_is) in (
      λ h. cc,
      λ some. absurd (hit_from-hits c.args.path.now vs v c.walk_end.result e c.in_default.not-Hit
          some),
    )

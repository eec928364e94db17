use Rattle.std.proofs.Common.{ap, sym, ◌∙◌, ◌==◌}
use Rattle.serde_json.proofs.Views.{members_len-members_view}
use Rattle.sdjwt_digests.proofs.digest_sites.is_alone.Goals as goal

pub returns : goal.returns
returns c = ap (λ n. n == 1) (c.len.ensures.len ∙ sym (members_len-members_view c.args.map.now.entries))

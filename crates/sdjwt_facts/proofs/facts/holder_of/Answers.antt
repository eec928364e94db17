use Rattle.std.proofs.Common.{sym}
use Rattle.serde_json.specs.View.{view}
use Rattle.sdjwt_facts.proofs.HolderKeys.{key_is_whole}
use Rattle.sdjwt_facts.proofs.facts.holder_of.Goals as goal

pub jwk_name-requires : goal.jwk_name-requires
jwk_name-requires c =
    key_is_whole (view c.args.payload.now) (view c.in-Some.cnf.now) (view c.in-Some-get.jwk.now) c.requires
    (sym c.in-Some.ensures) (sym c.in-Some-get.ensures)

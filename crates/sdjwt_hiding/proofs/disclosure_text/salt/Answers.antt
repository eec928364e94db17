use Rattle.std.proofs.Common.{ap, ◌∙◌}
use Rattle.std.specs.Int.{w128, to_be_bytes}
use Rattle.base_forms.specs.Url64.{url64_of}
use Rattle.sdjwt_hiding.proofs.disclosure_text.salt.Goals as goal

pub returns : goal.returns
returns c = c.in_ok-to_url64.ensures
    ∙ ap url64_of (c.to_be_bytes-bytes.ensures ∙ ap (to_be_bytes w128) c.from.ensures)

-- What the JSON of a credential query must be to be read without a look at its rules.
use Rattle.std.specs.Prelude.{Bool, not, ◌&&◌, is_none, List, codes}
use Rattle.std.specs.List.{list_all}
use Rattle.serde_json.specs.Data.{Data}
use Rattle.serde_json.specs.Find.{get}
use Rattle.json_forms.specs.Look.{is_wrong}
use Rattle.dcql_rules.specs.Ids.{has_id}
use Rattle.dcql_rules.specs.Rules.{is_wrong_path, are_right_values, credential_rule}

-- a claim has a path, and right values if any
abbrev pub is_readable_claim : Data → Bool
is_readable_claim c = not (is_wrong_path (get (codes "path") c))
    && not (is_wrong are_right_values (get (codes "values") c))

abbrev pub are_readable_claims : List Data → Bool
are_readable_claims cs = list_all is_readable_claim cs

-- a credential query has an id and breaks no rule
unfoldable pub is_readable_credential : Data → Bool
is_readable_credential q = has_id q && is_none (credential_rule q)

use Rattle.cbor_core.proofs.Valid.{valid_items, valid_entries, valid_tagged, valid_keys, valid_deeper}
use Rattle.cbor_core.proofs.laws.parts_are_valid.Goals as goal

pub returns : goal.returns
returns c = record {
  items = valid_items;
  entries = valid_entries;
  tagged = valid_tagged;
  keys = valid_keys;
  deeper = valid_deeper;
}

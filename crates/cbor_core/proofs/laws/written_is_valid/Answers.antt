use Rattle.cbor_core.proofs.Valid.{valid_whole, valid_text, valid_bytes, valid_truth, valid_null, valid_tag}
use Rattle.cbor_core.proofs.Valid.{valid_list, valid_map}
use Rattle.cbor_core.proofs.laws.written_is_valid.Goals as goal

pub returns : goal.returns
returns c = record {
  whole = valid_whole;
  text = valid_text;
  bytes = valid_bytes;
  truth = valid_truth;
  null = valid_null;
  tag = valid_tag;
  list = valid_list;
  map = valid_map;
}

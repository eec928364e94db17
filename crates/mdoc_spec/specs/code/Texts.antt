-- What holds of every JSON value in memory: its texts are UTF-8, and its integers have 64 bits.
use Rattle.std.specs.Prelude.{◌<◌, ◌^◌, ⊤}
use Rattle.serde_json.specs.Data.{Num, unsigned, negative, float, Data, null, boolean, number, string, array}
use Rattle.serde_json.specs.Data.{object, Items, no_items, item, Members as Fields, no_members as no_fields}
use Rattle.serde_json.specs.Data.{member as field}
use Rattle.cbor_core.specs.Laws.{IsWhole}
use Rattle.mdoc_written.specs.Laws.{IsText}

abbrev pub IsSized : Num → Type 0
IsSized (unsigned n) = n < 2 ^ 64
IsSized (negative z) = IsWhole z
IsSized (float x) = ⊤

abbrev mutual
  pub IsStored : Data → Type 0
  IsStored null = ⊤
  IsStored (boolean b) = ⊤
  IsStored (number n) = IsSized n
  IsStored (string s) = IsText s
  IsStored (array ds) = AreStored ds
  IsStored (object ms) = HoldStored ms

  pub AreStored : Items → Type 0
  AreStored no_items = ⊤
  AreStored (item d ds) = IsStored d × AreStored ds

  pub HoldStored : Fields → Type 0
  HoldStored no_fields = ⊤
  HoldStored (field k d ms) = IsText k × IsStored d × HoldStored ms

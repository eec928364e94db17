-- The keys that a device of the bench has in memory, and what reading a file of them comes to.
use Rattle.std.specs.Prelude.{◌≡◌, ℕ, List, map, string_bytes, Result, Ok, Err, ⊤}
use Rattle.outside.specs.Calls.{Given, gave, failed, exhausted}
use Rattle.outside.specs.Store.{File, whole, longer}
use Rattle.bench_device.specs.Bench.{Key, key}
use Rattle.bench_device.specs.KeysFile.{keys_in_file}
use Rattle.bench_device.specs.declared.bench_device.BenchDevice.{BenchDevice}
use Rattle.bench_device.specs.declared.error.KeysError.{KeysError}
use Rattle.bench_device.specs.declared.error.KeysError.TheVariants.{ReadFault, TooLong, Line, NoMemory}
use Rattle.bench_device.specs.declared.key.Key as code

abbrev pub meant : code.Key → Key
meant k = key (string_bytes k.name) k.secret.items k.is_held

abbrev pub all_meant : List code.Key → List Key
all_meant keys = map meant keys

abbrev pub keys_of : BenchDevice → List Key
keys_of device = all_meant device.keys.items

-- a device of these keys, or the refusal of this line; memory may run out
abbrev pub ReadsFile : Result (List Key) ℕ → Result BenchDevice KeysError → Type 0
ReadsFile read (Ok device) = read ≡ Ok (keys_of device)
ReadsFile read (Err (Line number)) = read ≡ Err number
ReadsFile read (Err ReadFault) = ⊥
ReadsFile read (Err TooLong) = ⊥
ReadsFile read (Err NoMemory) = ⊤

-- what the store gave decides: a file, that it is longer than its limit, a fault, or that memory ran out
abbrev pub Loads : Given File → Result BenchDevice KeysError → Type 0
Loads (gave (whole bytes)) result = ReadsFile (keys_in_file bytes) result
Loads (gave longer) result = result ≡ Err TooLong
Loads failed result = result ≡ Err ReadFault
Loads exhausted result = result ≡ Err NoMemory

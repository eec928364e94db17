-- What a device in memory holds, judges yes and was asked, and what its calls answer.
use Rattle.std.specs.Prelude.{◌≡◌, ℕ, ◌==◌, ◌&&◌, ◌||◌, Bool, true, false, List, ◌++◌, map, replicate, Option}
use Rattle.std.specs.Prelude.{Some, None, option_map, Vec, String, string_bytes, if◌then◌else◌}
use Rattle.std.specs.Int.{to_be_bytes, w64}
use Rattle.std.specs.List.{list_any}
use Rattle.std.specs.Str.{bytes_eq}
use Rattle.std.specs.declared.alloc.Global.{Global}
use Rattle.claim_tree.specs.declared.algorithm.SignAlg.TheVariants.{Bench256}
use Rattle.outside.specs.Calls.{Given, gave, failed, exhausted}
use Rattle.outside.specs.Faults.{next}
use Rattle.claim_tree.specs.Credential.{Algorithm, jose, cose}
use Rattle.key_device.specs.Calls.{Call, signs, judges, Held}
use Rattle.key_device.specs.Device.{DeviceState}
use Rattle.key_device.specs.declared.allowed.Allowed.{Allowed}
use Rattle.key_device.specs.declared.asked.Asked.{Asked}
use Rattle.key_device.specs.declared.asked.Asked.TheVariants.{Sign, Judge}
use Rattle.key_device.specs.declared.asked.NamedAlg.{NamedAlg}
use Rattle.key_device.specs.declared.asked.NamedAlg.TheVariants.{Jose, Cose}
use Rattle.key_device.specs.declared.memory_device.MemoryDevice.{MemoryDevice}

abbrev pub algorithm_of : NamedAlg → Algorithm
algorithm_of (Jose text) = jose (string_bytes text)
algorithm_of (Cose number) = cose number

-- a call that is on record, as it was made
abbrev pub meant : Asked → Call
meant (Sign name message given) = signs (string_bytes name) message.items
    (option_map (λ signature. signature.items) given)
meant (Judge name alg message signature) = judges (string_bytes name) (algorithm_of alg) message.items
    signature.items

-- whether this signature of this message is among those that are judged yes under this name
abbrev pub is_allowed : List Allowed → List ℕ → List ℕ → List ℕ → Bool
is_allowed allowed name message signature =
    list_any (λ one. bytes_eq (string_bytes one.name) name
    && (bytes_eq one.message.items message && bytes_eq one.signature.items signature)) allowed

-- each of these names is held for the algorithm of the bench
abbrev pub held_in : List (String Global) → Held
held_in names name = if list_any (λ one. bytes_eq (string_bytes one) name) names then Some Bench256 else None

-- the calls of a record, where there is one
abbrev pub calls_in : Option (Vec Asked Global) → Option (List Call)
calls_in asked = option_map (λ calls. map meant calls.items) asked

-- ---- the device

-- the names that it holds
abbrev pub names_in : MemoryDevice → List (List ℕ)
names_in device = map string_bytes device.names.items

-- the signatures that it judges yes
abbrev pub allowed_in : MemoryDevice → List Allowed
allowed_in device = device.allowed.items

-- it judges this signature of this message yes under this name, whatever the algorithm
abbrev pub allows : MemoryDevice → List ℕ → List ℕ → List ℕ → Bool
allows device name message signature = is_allowed (allowed_in device) name message signature

-- the calls that were made, where they are on record
abbrev pub record_in : MemoryDevice → Option (List Call)
record_in device = calls_in device.asked

-- how many calls were made, up to 2^64 - 1, which is the number of the next
abbrev pub calls_of : MemoryDevice → ℕ
calls_of device = device.calls

-- the numbers of the calls that are to fail
abbrev pub failing_in : MemoryDevice → List ℕ
failing_in device = device.failing.items

-- how many signatures were given, up to 2^64 - 1, which is the number of the next
abbrev pub given_of : MemoryDevice → ℕ
given_of device = device.given

-- how many calls failed, up to 2^64 - 1
abbrev pub faults_of : MemoryDevice → ℕ
faults_of device = device.faults

-- It tells all.
abbrev pub state_of : MemoryDevice → DeviceState
state_of device = record {
  held = held_in device.names.items;
  judged = λ name _ message signature. allows device name message signature;
  calls = record_in device;
  faults = faults_of device;
}

-- ---- its calls

-- nothing but the signatures that it judges yes is another
abbrev pub ChangesAllowed : MemoryDevice → MemoryDevice → Type 0
ChangesAllowed old new = new ≡ record old { allowed = new.allowed }

-- nothing but the numbers of the calls that are to fail is another
abbrev pub ChangesFailing : MemoryDevice → MemoryDevice → Type 0
ChangesFailing old new = new ≡ record old { failing = new.failing }

-- what it judges yes, and this signature of this message under this name
abbrev pub with_one : MemoryDevice → (name message signature : List ℕ) → List ℕ → List ℕ → List ℕ → Bool
with_one device name message signature n m s = allows device n m s
    || (bytes_eq name n && (bytes_eq message m && bytes_eq signature s))

-- the signature with this number: 24 zeros, and the number in eight bytes, the high byte first
abbrev pub numbered : ℕ → List ℕ
numbered number = replicate 24 0 ++ to_be_bytes w64 number

-- whether the next call is to fail
abbrev pub fails : MemoryDevice → Bool
fails device = list_any (λ number. number == calls_of device) (failing_in device)

-- the count of faults after the next call
abbrev pub faults_after : MemoryDevice → ℕ
faults_after device = if fails device then next (faults_of device) else faults_of device

-- A signing fails exactly where it was made a fault. Else it gives the next signature, which alone is judged
-- yes beside what was, or memory runs out.
abbrev pub Signs : MemoryDevice → MemoryDevice → List ℕ → List ℕ → Given (List ℕ) → Type 0
Signs old new name message (gave signature) = (fails old ≡ false) × (signature ≡ numbered (given_of old))
    × (given_of new ≡ next (given_of old))
    × ((n m s : List ℕ) → allows new n m s ≡ with_one old name message signature n m s)
Signs old new name message failed = (fails old ≡ true) × (given_of new ≡ given_of old)
    × (allowed_in new ≡ allowed_in old)
Signs old new name message exhausted = (fails old ≡ false) × (given_of new ≡ given_of old)
    × (allowed_in new ≡ allowed_in old)

-- what it says of a signature: it fails exactly where the call was made a fault
abbrev pub verdict : MemoryDevice → List ℕ → List ℕ → List ℕ → Given Bool
verdict device name message signature =
    if fails device then failed else gave (allows device name message signature)

-- The device of the bench: the keys that it has, and what it judges yes by them.
use Rattle.std.specs.Prelude.{ℕ, ◌&&◌, Bool, false, List, [], ◌∷◌, ◌++◌, Option, Some, None, if◌then◌else◌}
use Rattle.std.specs.Option.{option_map_or}
use Rattle.std.specs.Ordering.{int_eq}
use Rattle.std.specs.Str.{bytes_eq}
use Rattle.sha2.specs.Sha256.{sha256}
use Rattle.claim_tree.specs.SignAlg.{jose_name, cose_number}
use Rattle.claim_tree.specs.declared.algorithm.SignAlg.{SignAlg}
use Rattle.claim_tree.specs.declared.algorithm.SignAlg.TheVariants.{Bench256}
use Rattle.claim_tree.specs.Credential.{Algorithm, jose, cose}
use Rattle.key_device.specs.Calls.{Held, Judges}
use Rattle.key_device.specs.Device.{DeviceState}
use Rattle.key_device.specs.declared.device.Judged.{Judged}
use Rattle.key_device.specs.declared.device.Judged.TheVariants.{Yes, No}

-- a key: its name, its secret, and whether it is held
pub record Key : Type 0 where
  pub name : List ℕ
  pub secret : List ℕ
  pub is_held : Bool

abbrev pub key : List ℕ → List ℕ → Bool → Key
key name secret is_held = record { name = name; secret = secret; is_held = is_held }

-- the first key of this name
abbrev pub find_key : List Key → List ℕ → Option Key
find_key [] name = None
find_key (k ∷ keys) name = if bytes_eq k.name name then Some k else find_key keys name

abbrev pub if_held : Option Key → Option SignAlg
if_held None = None
if_held (Some k) = if k.is_held then Some Bench256 else None

-- the keys that are held, each for the algorithm of the bench
abbrev pub held_by : List Key → Held
held_by keys name = if_held (find_key keys name)

-- BENCH256, by its name in a JWS or its number in a COSE message
abbrev pub is_bench : Algorithm → Bool
is_bench (jose text) = bytes_eq text (jose_name Bench256)
is_bench (cose number) = int_eq number (cose_number Bench256)

-- the signature of a message: the SHA-256 digest (FIPS 180-4) of the secret and then the message
abbrev pub signed_by : Key → List ℕ → List ℕ
signed_by k message = sha256 (k.secret ++ message)

-- The algorithm is the bench's, there is a key of this name, held or known, and the signature is the one by
-- it.
abbrev pub judged_by : List Key → Judges
judged_by keys name alg message signature =
    is_bench alg && option_map_or (λ k. bytes_eq (signed_by k message) signature) (find_key keys name) false

abbrev pub verdict : List Key → List ℕ → Algorithm → List ℕ → List ℕ → Judged
verdict keys name alg message signature = if judged_by keys name alg message signature then Yes else No

-- It has not failed, and tells no calls.
abbrev pub bench_state : List Key → DeviceState
bench_state keys = record { held = held_by keys; judged = judged_by keys; calls = None; faults = 0 }

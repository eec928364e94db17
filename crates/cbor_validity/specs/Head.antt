-- The head of an item (RFC 8949, section 3): three bits of major type, five bits of additional information,
-- and the argument, in the bytes after it where it is 24 or more.
use Rattle.std.specs.Prelude.{◌≡◌, ℕ, zero, suc, ◌/◌, ◌%◌, List, [], ◌∷◌, length, take, drop, Some, None}
use Rattle.std.specs.Prelude.{Result, Ok, Err, nat_lt, ◌==◌, if◌then◌else◌, ◌&&◌}
use Rattle.std.specs.Int.{Width, w8, w16, w32, w64, byte_len, from_be_bytes}
use Rattle.cbor_validity.specs.declared.head.Fault.{Fault}
use Rattle.cbor_validity.specs.declared.head.Fault.TheVariants.{Short, Reserved, Chunked}
use Rattle.cbor_validity.specs.declared.head.Head.{Head}
use Rattle.cbor_validity.specs.declared.head.Head.TheVariants as head

infixl 10 ◌>>=◌
abbrev pub ◌>>=◌ : {A B : Type 0} → Result A Fault → (A → Result B Fault) → Result B Fault
(Ok x) >>= f = f x
(Err e) >>= f = Err e

-- The result, by its view, is what is read.
abbrev pub Gives : {X Y : Type 0} → (X → Y) → Result X Fault → Result Y Fault → Type 0
Gives view (Ok x) read = read ≡ Ok (view x)
Gives view (Err f) read = read ≡ Err f

-- a number of the width's bytes, and the bytes after it
abbrev pub number_at : Width → List ℕ → Result (ℕ × List ℕ) Fault
number_at w bytes =
    if nat_lt (length bytes) (byte_len w) then Err Short else Ok (
      from_be_bytes w (take (byte_len w) bytes),
      drop (byte_len w) bytes,
    )

-- the argument, by the additional information
unfoldable pub argument_at : ℕ → List ℕ → Result (ℕ × List ℕ) Fault
argument_at info bytes =
    if nat_lt info 24 then Ok (info, bytes)
    else if info == 24 then number_at w8 bytes
    else if info == 25 then number_at w16 bytes
    else if info == 26 then number_at w32 bytes
    else if info == 27 then number_at w64 bytes
    else Err Reserved

-- the head of a major type with an argument; a simple value below 32 in two bytes is reserved
unfoldable pub head_of : ℕ → ℕ → ℕ → Result Head Fault
head_of zero info n = Ok (head.Unsigned n)
head_of (suc zero) info n = Ok (head.Negative n)
head_of (suc (suc zero)) info n = Ok (head.Bytes n)
head_of (suc (suc (suc zero))) info n = Ok (head.Text n)
head_of (suc (suc (suc (suc zero)))) info n = Ok (head.List (Some n))
head_of (suc (suc (suc (suc (suc zero))))) info n = Ok (head.Map (Some n))
head_of (suc (suc (suc (suc (suc (suc zero)))))) info n = Ok (head.Tag n)
head_of (suc (suc (suc (suc (suc (suc (suc major))))))) info n =
    if info == 24 && nat_lt n 32 then Err Reserved
    else if nat_lt info 25 then Ok (head.Simple n)
    else Ok head.Float

-- the head of a major type with no argument: a list or a map up to a break, or the break
unfoldable pub open_head_of : ℕ → Result Head Fault
open_head_of major =
    if major == 2 then Err Chunked
    else if major == 3 then Err Chunked
    else if major == 4 then Ok (head.List None)
    else if major == 5 then Ok (head.Map None)
    else if major == 7 then Ok head.Break
    else Err Reserved

-- the head at the front, and the bytes after it
unfoldable pub head_at : List ℕ → Result (Head × List ℕ) Fault
head_at [] = Err Short
head_at (first ∷ bytes) =
    if first % 32 == 31
    then (open_head_of (first / 32) >>= λ h. Ok (h, bytes))
    else (argument_at (first % 32) bytes >>= λ a. head_of (first / 32) (first % 32) a.0 >>= λ h. Ok (h, a.1))

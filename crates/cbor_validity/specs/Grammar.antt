-- The grammar of items (RFC 8949, section 3). Heads may have any length. Strings in chunks (section 3.2.3)
-- are left out.
use Rattle.std.specs.Prelude.{◌≡◌, ℕ, zero, suc, List, [], ◌∷◌, ◌++◌, length, false, Some, None, Ok}
use Rattle.std.specs.List.{concat, AllByRecursion}
use Rattle.cbor_validity.specs.declared.head.Head.{Head}
use Rattle.cbor_validity.specs.declared.head.Head.TheVariants as head
use Rattle.cbor_validity.specs.Head.{head_at}
use Rattle.cbor_validity.specs.Item.{is_nest}

-- a language: a set of byte sequences
abbrev pub Language : Type 1
Language = List ℕ → Type 0

-- a head alone
abbrev pub IsHead : Head → Language
IsHead h bytes = head_at bytes ≡ Ok (h, [])

-- a key and its value
abbrev pub IsPair : Language → Language
IsPair Part bytes = (key : List ℕ) × (value : List ℕ) × Part key × Part value × (bytes ≡ key ++ value)

-- n parts, one after another
abbrev pub AreParts : Language → ℕ → Language
AreParts Part n bytes = (parts : List (List ℕ)) × AllByRecursion Part parts × (length parts ≡ n)
    × (bytes ≡ concat parts)

-- parts, one after another, and a break
abbrev pub AreOpenParts : Language → Language
AreOpenParts Part bytes = (parts : List (List ℕ)) × AllByRecursion Part parts
    × (bytes ≡ concat parts ++ (255 ∷ []))

-- the bytes after a head, where the items inside are of the language Part
abbrev pub IsContent : Language → Head → Language
IsContent Part (head.Unsigned n) bytes = bytes ≡ []
IsContent Part (head.Negative n) bytes = bytes ≡ []
IsContent Part (head.Bytes n) bytes = length bytes ≡ n
IsContent Part (head.Text n) bytes = length bytes ≡ n
IsContent Part (head.List (Some n)) bytes = AreParts Part n bytes
IsContent Part (head.List None) bytes = AreOpenParts Part bytes
IsContent Part (head.Map (Some n)) bytes = AreParts (IsPair Part) n bytes
IsContent Part (head.Map None) bytes = AreOpenParts (IsPair Part) bytes
IsContent Part (head.Tag n) bytes = Part bytes
IsContent Part (head.Simple n) bytes = bytes ≡ []
IsContent Part head.Float bytes = bytes ≡ []
IsContent Part head.Break bytes = ⊥

-- a head and the bytes after it
abbrev pub IsHeaded : Language → (Head → Type 0) → Language
IsHeaded Part Allowed bytes = (h : Head) × (front : List ℕ) × (back : List ℕ) × Allowed h × IsHead h front
    × IsContent Part h back × (bytes ≡ front ++ back)

-- an item with at most depth lists, maps and tags inside one another
abbrev pub IsItem : ℕ → Language
IsItem zero bytes = IsHeaded (λ _. ⊥) (λ h. is_nest h ≡ false) bytes
IsItem (suc depth) bytes = IsHeaded (IsItem depth) (λ _. Unit {0}) bytes

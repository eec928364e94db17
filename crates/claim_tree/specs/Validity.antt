-- When a credential is valid: from `nbf` and before `exp` of an SD-JWT VC (RFC 7519, 4.1.5 and 4.1.4),
-- or from `validFrom` to `validUntil` of a mobile document (ISO/IEC 18013-5, 9.1.2.4).
use Rattle.std.specs.Prelude.{ℕ, ◌<◌, ◌≤◌, Option, IfSome}

-- the second `now` is `first` or after it, and before `past` where there is one
abbrev pub IsValidAt : ℕ → Option ℕ → ℕ → Type 0
IsValidAt first past now = (first ≤ now) × IfSome past (λ past. now < past)

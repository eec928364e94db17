use Rattle.std.proofs.Common.{◌≡◌, ℕ, List, Bool, true, false, Err, Result, refl, sym, ◌∙◌, ap, cond, IsUtf8}
use Rattle.std.specs.Str.{is_utf8}
use Rattle.std.proofs.lemmas.Str.{is_utf8-from_IsUtf8, IsUtf8-from_is_utf8}
use Rattle.bench_device.specs.Bench.{Key}
use Rattle.bench_device.specs.KeysFile.{keys_in, keys_in_file}
use Rattle.bench_device.proofs.bench_device.from_file.Goals as goal

no_text : (bytes : List ℕ) (b : Bool) → is_utf8 bytes ≡ b → (IsUtf8 bytes → ⊥) → keys_in_file bytes ≡ Err 1
no_text bytes true e refused = absurd (refused (IsUtf8-from_is_utf8 bytes e))
no_text bytes false e refused = ap (λ (b : Bool). cond b (keys_in bytes) (Err 1)) e

a_text : (bytes text : List ℕ) (read : Result (List Key) ℕ) → text ≡ bytes → IsUtf8 bytes
    → keys_in text ≡ read → keys_in_file bytes ≡ read
a_text bytes text read same valid keys =
    ap (λ (b : Bool). cond b (keys_in bytes) (Err 1)) (is_utf8-from_IsUtf8 bytes valid)
    ∙ ap keys_in (sym same) ∙ keys

pub returns-in_default : goal.returns-in_default
returns-in_default c = no_text c.args.bytes.now _ refl c.in_default.ensures.cases.0

pub returns-in-Ok-from_text : goal.returns-in-Ok-from_text
returns-in-Ok-from_text c = a_text c.args.bytes.now _ _ c.in-Ok.ensures.cases.0 c.in-Ok.ensures.cases.1
    c.in-Ok-from_text.ensures.keys

pub returns-in-Err-Line : goal.returns-in-Err-Line
returns-in-Err-Line c = a_text c.args.bytes.now _ (Err c.in-Err-Line.number) c.in-Ok.ensures.cases.0
    c.in-Ok.ensures.cases.1 (rw c.in-Err-Line.field-0-is at c.in-Err-Line.ensures.refused)

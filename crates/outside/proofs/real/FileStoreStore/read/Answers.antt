use Rattle.std.proofs.Common.{◌≤◌, ℕ, length, Option, Some, None, Result, Ok, Err, Vec, IfOk, IfSome}
use Rattle.std.proofs.Common.{inl, refl, sym, subst}
use Rattle.std.specs.IoError.{error_kind}
use Rattle.std.specs.declared.alloc.Global.{Global}
use Rattle.std.specs.declared.io.Error.{Error}
use Rattle.outside.specs.declared.error.StoreError.{StoreError}
use Rattle.outside.specs.declared.error.StoreError.TheVariants.{Failed, TooLong, NoMemory}
use Rattle.outside.specs.Calls.{Grows}
use Rattle.outside.specs.Store.{FileRead, file_read, IsWithin, file_given}
use Rattle.outside.specs.code.Real.{cause_of, answer_to}
use Rattle.outside.proofs.real.FileStoreStore.read.Goals as goal

-- what is not told has no record
no_record : (read : FileRead) (result : Result (Vec ℕ Global) StoreError)
    → Grows None None read (file_given result)
no_record read (Ok bytes) = refl
no_record read (Err Failed) = refl
no_record read (Err TooLong) = refl
no_record read (Err NoMemory) = inl refl

no_bytes : (limit : ℕ) (cause : StoreError) → IsWithin limit (file_given (Err cause))
no_bytes limit Failed = tt
no_bytes limit TooLong = tt
no_bytes limit NoMemory = tt

is_within : (limit : ℕ) (found : Result (Option (Vec ℕ Global)) Error)
    → IfOk found (λ f. IfSome f (λ bytes. length bytes.items ≤ limit))
    → IsWithin limit (file_given (answer_to found))
is_within limit (Ok (Some bytes)) within = within
is_within limit (Ok None) within = tt
is_within limit (Err error) within = no_bytes limit (cause_of (error_kind error))

pub returns-clause-read : goal.returns-clause-read
returns-clause-read g c = record {
  same = refl;
  file = tt;
  within = subst (λ (r : Result (Vec ℕ Global) StoreError). IsWithin c.args.limit (file_given r))
      (sym c.answer.ensures.answer)
      (is_within c.args.limit c.read_file-given.result c.read_file-given.ensures);
  recorded = no_record (file_read c.args.name.now c.args.limit) c.answer.result;
  counts = c.answer.ensures.counts c.args.name.now;
}

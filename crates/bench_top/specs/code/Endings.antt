-- How issuing ends, by what a call answers.
use Rattle.std.specs.Prelude.{Result, Ok, Err, String, string_bytes}
use Rattle.std.specs.declared.alloc.Global.{Global}
use Rattle.base_forms.specs.Texts.{Utf8}
use Rattle.runs.specs.Runs.{Ending, value, refused, fault, out_of_memory}
use Rattle.runs.specs.declared.fault.Fault.TheVariants.{Device}
use Rattle.spec_forms.specs.declared.error.Error as spec
use Rattle.spec_forms.specs.declared.error.Error.TheVariants as spec_error
use Rattle.sdjwt_issue.specs.declared.error.Error as sdjwt
use Rattle.sdjwt_issue.specs.declared.error.Error.TheVariants as sdjwt_error
use Rattle.mdoc_issue.specs.declared.error.Error as mdoc
use Rattle.mdoc_issue.specs.declared.error.Error.TheVariants as mdoc_error
use Rattle.bench_top.specs.Issuing.{Refusal, broken, key_missing}
use Rattle.bench_top.specs.declared.error.Error.{Error}
use Rattle.bench_top.specs.declared.error.Error.TheVariants.{Refused, KeyMissing, DeviceFault, NoMemory}

abbrev pub early : Error → Ending Refusal Utf8
early (Refused rule) = refused (broken rule)
early KeyMissing = refused key_missing
early DeviceFault = fault Device
early NoMemory = out_of_memory

abbrev pub ending : Result (String Global) Error → Ending Refusal Utf8
ending (Ok text) = value (string_bytes text)
ending (Err error) = early error

-- ---- the errors of the crates below

abbrev pub by_spec : spec.Error → Error
by_spec (spec_error.Refused rule) = Refused rule
by_spec spec_error.NoMemory = NoMemory

abbrev pub by_sdjwt : sdjwt.Error → Error
by_sdjwt sdjwt_error.SharedDigest = Refused 6
by_sdjwt sdjwt_error.KeyMissing = KeyMissing
by_sdjwt sdjwt_error.DeviceFault = DeviceFault
by_sdjwt sdjwt_error.NoMemory = NoMemory

abbrev pub by_mdoc : mdoc.Error → Error
by_mdoc mdoc_error.KeyMissing = KeyMissing
by_mdoc mdoc_error.DeviceFault = DeviceFault
by_mdoc mdoc_error.NoMemory = NoMemory

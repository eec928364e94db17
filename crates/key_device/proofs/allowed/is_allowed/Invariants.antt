use Rattle.std.proofs.Common.{◌≡◌, drop}
use Rattle.key_device.specs.code.MemoryDevice.{is_allowed}
use Rattle.key_device.proofs.allowed.is_allowed.Given as goal

abbrev pub invariant-loop-one : goal.invariant-loop-one
invariant-loop-one l = is_allowed (drop l.one-index l.allowed) l.name l.message l.signature
    ≡ is_allowed l.allowed l.name l.message l.signature

-- What a device was asked for in a run, and the signatures that it gave.
use Rattle.std.specs.Prelude.{◌≡◌, ⊤, ℕ, List, [], ◌∷◌, ◌++◌, Option, Some, None}
use Rattle.key_device.specs.Calls.{Call, signs, judges, Held, Judges}
use Rattle.key_device.specs.Device.{IsGenuine, OnlyAdds}
use Rattle.runs.specs.Asked.{Answered, answered}
use Rattle.runs.specs.Counts.{Avoids}
use Rattle.runs.specs.Runs.{Ending, Runs}
use Rattle.runs.specs.Tree.{Question, file, judge, sign, time, write, Answer, Tree}
use Rattle.runs.specs.World.{World}

-- ---- signatures

-- a signature that was given, and for what
pub record Signature : Type 0 where
  pub name : List ℕ
  pub message : List ℕ
  pub bytes : List ℕ

abbrev pub signature_of : (q : Question) → Option (Answer q) → List Signature
signature_of (file name limit) answer = []
signature_of (judge name alg message signature) answer = []
signature_of (sign name message) (Some bytes) =
    record { name = name; message = message; bytes = bytes } ∷ []
signature_of (sign name message) None = []
signature_of time answer = []
signature_of (write text) answer = []

-- the signatures that were given, in their order
abbrev pub signatures : List Answered → List Signature
signatures [] = []
signatures (answered q answer ∷ log) = signature_of q answer ++ signatures log

-- each is under a name that is held, and is judged yes under that name and its algorithm
abbrev pub AreGenuine : Held → Judges → List Signature → Type 0
AreGenuine held judged [] = ⊤
AreGenuine held judged (s ∷ ss) = IsGenuine held judged s.name s.message s.bytes × AreGenuine held judged ss

-- ---- calls

abbrev pub call_of : (q : Question) → Option (Answer q) → List Call
call_of (file name limit) answer = []
call_of (judge name alg message signature) answer = judges name alg message signature ∷ []
call_of (sign name message) answer = signs name message answer ∷ []
call_of time answer = []
call_of (write text) answer = []

-- the calls of the device, in their order
abbrev pub calls : List Answered → List Call
calls [] = []
calls (answered q answer ∷ log) = call_of q answer ++ calls log

-- ---- trees that ask for none

-- a signature is asked for
abbrev pub IsSigning : Question → Type 0
IsSigning (file name limit) = ⊥
IsSigning (judge name alg message signature) = ⊥
IsSigning (sign name message) = ⊤
IsSigning time = ⊥
IsSigning (write text) = ⊥

-- no answers lead the tree to ask for a signature
abbrev pub SignsNothing : {R A : Type 0} → Tree R A → Type 0
SignsNothing t = Avoids IsSigning t

-- ---- what stays

-- However a run ends, the device holds the same names with the same algorithms.
abbrev pub HeldStays : Type 0 → Type 0 → Type 0
HeldStays R A = (t : Tree R A) (before after : World) (end : Ending R A) → Runs t before after end
    → after.device.held ≡ before.device.held

-- However a run ends, the device judges yes all that it judged yes before.
abbrev pub JudgedOnlyAdds : Type 0 → Type 0 → Type 0
JudgedOnlyAdds R A = (t : Tree R A) (before after : World) (end : Ending R A) → Runs t before after end
    → OnlyAdds before.device.judged after.device.judged

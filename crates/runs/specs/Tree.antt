-- What a call asks of the objects that are passed in: a tree of questions, in which each question may hang on
-- the answers before it.
use Rattle.std.specs.Prelude.{ℕ, Bool, List, [], ◌∷◌, Option, Some, None}
use Rattle.claim_tree.specs.Credential.{Algorithm}
use Rattle.outside.specs.Sink.{Written}
use Rattle.outside.specs.Store.{File}

-- ---- questions

-- `file name limit`: the store is asked for the file of this name, of at most so many bytes.
-- `judge name algorithm message signature`: the device is asked whether this is a signature of the message by
-- the key of this name, in this algorithm.
-- `sign name message`: the device is asked for a signature of the message by the key of this name.
-- `time`: the clock is asked for the moment, in seconds since 1970-01-01T00:00:00Z.
-- `write text`: the sink is given a text.
-- A further object brings its questions here.
pub data Question : Type 0 where
  file : List ℕ → ℕ → Question
  judge : List ℕ → Algorithm → List ℕ → List ℕ → Question
  sign : List ℕ → List ℕ → Question
  time : Question
  write : List ℕ → Question

abbrev pub Answer : Question → Type 0
Answer (file name limit) = File
Answer (judge name alg message signature) = Bool
Answer (sign name message) = List ℕ
Answer time = ℕ
Answer (write text) = Written

-- ---- trees

-- `gives value`: the call is done, and this is what it hands on.
-- `stops refusal`: the call ends with this refusal.
-- `needs question rest`: the object is asked; where it fails the call ends with that, else the rest goes by
-- the answer.
-- `tries question rest`: the object is asked, and the rest goes by the answer, or by none where the object
-- failed.
pub data Tree (R A : Type 0) : Type 0 where
  gives : A → Tree R A
  stops : R → Tree R A
  needs : (q : Question) → (Answer q → Tree R A) → Tree R A
  tries : (q : Question) → (Option (Answer q) → Tree R A) → Tree R A

-- one tree, and then another by what it hands on
unfoldable pub bind : {R A B : Type 0} → Tree R A → (A → Tree R B) → Tree R B
bind (gives value) rest = rest value
bind (stops refusal) rest = stops refusal
bind (needs q next) rest = needs q (λ answer. bind (next answer) rest)
bind (tries q next) rest = tries q (λ answer. bind (next answer) rest)

-- a tree for each of these, one after another, and the list of what they hand on
unfoldable pub each : {R X Y : Type 0} → (X → Tree R Y) → List X → Tree R (List Y)
each tree [] = gives []
each tree (x ∷ xs) = bind (tree x) (λ y. bind (each tree xs) (λ ys. gives (y ∷ ys)))

-- the same tree, with other refusals in place of its own
unfoldable pub map_stops : {R S A : Type 0} → (R → S) → Tree R A → Tree S A
map_stops f (gives value) = gives value
map_stops f (stops refusal) = stops (f refusal)
map_stops f (needs q next) = needs q (λ answer. map_stops f (next answer))
map_stops f (tries q next) = tries q (λ answer. map_stops f (next answer))

-- it stops with the refusal, if there is one, and else goes on
abbrev pub unless : {R A : Type 0} → Option R → Tree R A → Tree R A
unless None rest = rest
unless (Some refusal) rest = stops refusal

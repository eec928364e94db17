-- What a store in memory holds, and what a read of it answers.
use Rattle.std.specs.Prelude.{◌≡◌, ℕ, ◌<◌, ◌≤◌, ◌==◌, List, [], ◌∷◌, ◌++◌, length, map, Option, Some, None}
use Rattle.std.specs.Prelude.{Result, Ok, Err, Vec, IsErrOf, option_map, string_bytes, if◌then◌else◌, ⊤}
use Rattle.std.specs.BTreeMap.{get_by_text}
use Rattle.std.specs.List.{list_any}
use Rattle.std.specs.declared.alloc.Global.{Global}
use Rattle.outside.specs.declared.error.StoreError.{StoreError}
use Rattle.outside.specs.declared.error.StoreError.TheVariants.{Failed, TooLong, NoMemory}
use Rattle.outside.specs.declared.memory_store.FileRead as code
use Rattle.outside.specs.declared.memory_store.MemoryStore.{MemoryStore}
use Rattle.outside.specs.Faults.{counted}
use Rattle.outside.specs.Store.{Files, FileRead, file_read, Reads, StoreState}

-- its files
abbrev pub files_in : MemoryStore → Files
files_in store name = option_map (λ bytes. bytes.items) (get_by_text store.files name)

-- a read that is on record, as it was asked for
abbrev pub meant : code.FileRead → FileRead
meant read = file_read (string_bytes read.name) read.limit

-- the reads that were made, in their order
abbrev pub reads_in : MemoryStore → Reads
reads_in store = map meant store.reads.items

-- how many reads were made, up to 2^64 - 1, which is the number of the next
abbrev pub calls_of : MemoryStore → ℕ
calls_of store = store.calls

-- the numbers of the calls that are to fail
abbrev pub failing_in : MemoryStore → List ℕ
failing_in store = store.failing.items

-- how many reads failed, up to 2^64 - 1
abbrev pub faults_of : MemoryStore → ℕ
faults_of store = store.faults

-- It tells all, and a fault counts for every name.
abbrev pub state_of : MemoryStore → StoreState
state_of store = record {
  files = Some (files_in store);
  reads = Some (reads_in store);
  faults = λ name.
      faults_of store;
}

-- the file that a call finds: none where it is not there, or where the call is to fail
abbrev pub found : MemoryStore → ℕ → List ℕ → Option (List ℕ)
found store call name = if list_any (λ n. n == call) (failing_in store) then None else files_in store name

-- The read fails exactly where no file is found, and a file that is found is too long exactly where it has
-- more bytes than the limit.
abbrev pub ReadsFile : Option (List ℕ) → ℕ → Result (Vec ℕ Global) StoreError → Type 0
ReadsFile None limit (Ok bytes) = ⊥
ReadsFile None limit (Err Failed) = ⊤
ReadsFile None limit (Err TooLong) = ⊥
ReadsFile None limit (Err NoMemory) = ⊥
ReadsFile (Some file) limit (Ok bytes) = (bytes.items ≡ file) × (length file ≤ limit)
ReadsFile (Some file) limit (Err Failed) = ⊥
ReadsFile (Some file) limit (Err TooLong) = limit < length file
ReadsFile (Some file) limit (Err NoMemory) = length file ≤ limit

-- what a read leaves and answers: it is on record, and a fault is counted where no file was found
pub record IsAnswered (old new : MemoryStore) (name : List ℕ) (limit : ℕ)
    (result : Result (Vec ℕ Global) StoreError) : Type 0 where
  pub recorded : reads_in new ≡ reads_in old ++ file_read name limit ∷ []
  pub faults : faults_of new ≡ counted (faults_of old) (found old (calls_of old) name)
  pub answer : ReadsFile (found old (calls_of old) name) limit result

-- the same where there was no memory to put the read on record: then nothing is looked at
pub record IsGivenUp (old new : MemoryStore) (result : Result (Vec ℕ Global) StoreError) : Type 0 where
  pub recorded : reads_in new ≡ reads_in old
  pub faults : faults_of new ≡ faults_of old
  pub answer : IsErrOf result NoMemory

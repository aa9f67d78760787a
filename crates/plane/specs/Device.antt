use Rattle.std.specs.Prelude.{◌≡◌, ℕ, ◌+◌, ◌-◌, ◌^◌, ◌<◌, ◌≤◌, ◌↔◌, ◌⊎◌, ◌++◌, min, Result, Ok, Err, Option, Some, List, MatchResult, OnOk, IfErr, IfOk, IsOk, drop, length, take}
use Rattle.std.specs.Io.KnownBytes.{Appends, Keeps}
use Rattle.plane.specs.declared.refusal.Refusal.{Refusal}
use Rattle.plane.specs.declared.refusal.Refusal.TheVariants.{WriteFailed}

-- the largest count of failures: it stays there
abbrev pub most_failures : ℕ
most_failures = 2 ^ 64 - 1

-- a read gave the bytes that it put to the front of the buffer, and none at `Err`
abbrev pub ReadGives : {E : Type 0} → Option (List ℕ) → Option (List ℕ) → Result ℕ E → List ℕ →
    Type 0
ReadGives old new answer buffer =
    MatchResult answer (λ count. Appends old new (take count buffer)) (λ _. Keeps old new)

-- a read that had room gave no byte
abbrev pub FindsEnd : {E : Type 0} → Result ℕ E → List ℕ → Type 0
FindsEnd answer buffer = (answer ≡ Ok 0) × (0 < length buffer)

-- a failed call raises the count of failures by one, up to the largest, and no other call does
abbrev pub failures_after : {T E : Type 0} → Result T E → ℕ → ℕ
failures_after (Ok value) count = count
failures_after (Err error) count = min (count + 1) most_failures

-- known bytes grow by the first bytes of the text, and not by all of them
pub record AppendsBeginning (old new : Option (List ℕ)) (text : List ℕ) : Type 0 where
  pub count : ℕ
  pub short : count < length text
  pub taken : Appends old new (take count text)

-- some call failed between the two counts
abbrev pub HasFailed : ℕ → ℕ → Type 0
HasFailed before after = (before < after) ⊎ (after ≡ most_failures)

-- a call of the sink failed between the two counts
abbrev pub IsWriteRefusal : ℕ → ℕ → Refusal → Type 0
IsWriteRefusal before after refusal = (refusal ≡ WriteFailed) × HasFailed before after

-- what a call answers tells whether the sink failed in it: the count of failures stayed, or the
-- answer is `WriteFailed`
pub record TellsFailure {T : Type 0} (before after : ℕ) (made : Result T Refusal) : Type 0 where
  pub unfailed : OnOk made (after ≡ before)
  pub refused : IfErr made (IsWriteRefusal before after)

-- what a memory holds: its bytes, how many of them were read, the bytes that it has room for, and
-- how many calls failed
pub record MemoryContents : Type 0 where
  pub bytes : List ℕ
  pub position : ℕ
  pub room : ℕ
  pub failures : ℕ

-- a memory with these bytes, none of which was read, and with this room
abbrev pub unread : List ℕ → ℕ → MemoryContents
unread bytes room = record { bytes = bytes; position = 0; room = room; failures = 0 }

-- the bytes that were not read yet
abbrev pub memory_remaining : MemoryContents → Option (List ℕ)
memory_remaining memory = Some (drop memory.position memory.bytes)

-- the bytes that were read
abbrev pub memory_given : MemoryContents → Option (List ℕ)
memory_given memory = Some (take memory.position memory.bytes)

-- a memory gives the next bytes, as many as there are and as have room in the buffer, and the rest
-- of the buffer stays
pub record ReadsMemory {E : Type 0} (old : MemoryContents) (before : List ℕ) (answer : Result ℕ E)
    (new : MemoryContents) (after : List ℕ) : Type 0 where
  pub count : answer ≡ Ok (min (length (drop old.position old.bytes)) (length before))
  pub given : IfOk answer
      (λ count. after ≡ take count (drop old.position old.bytes) ++ drop count before)
  pub memory : IfOk answer (λ count. new ≡ record old { position = old.position + count })

-- a memory takes all bytes, or fails and takes none where they are more than its room
pub record WritesMemory {E : Type 0} (old : MemoryContents) (bytes : List ℕ) (answer : Result ℕ E)
    (new : MemoryContents) : Type 0 where
  pub room : IsOk answer ↔ (length old.bytes + length bytes ≤ old.room)
  pub whole : IfOk answer
      (λ count. (count ≡ length bytes) × (new ≡ record old { bytes = old.bytes ++ bytes }))
  pub failed : IfErr answer
      (λ _. new ≡ record old { failures = min (old.failures + 1) most_failures })

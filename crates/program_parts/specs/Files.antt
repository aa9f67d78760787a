-- The files that a program reads and writes.
use Rattle.std.specs.Prelude.{◌≡◌, ℕ, Bool, IsTrue, List, [], None, Option, Some, false, option_map, unwrap_or}
use Rattle.plane.specs.DeviceParts.{counted_ended, counted_failures, counted_given, counted_taken}
use Rattle.plane.specs.SinkChange.{SinkChange, change_of}
use Rattle.plane.specs.SourceChange.{SourceChange, reading_of}
use Rattle.plane.specs.declared.device.counted.Counted.{Counted}

-- a file that is read: its name, whether it could be opened, the bytes that it gave so far, whether
-- the last read that did not fail found its end, and how many reads failed
pub record InputState : Type 0 where
  pub path : List ℕ
  pub is_open : Bool
  pub given : List ℕ
  pub has_ended : Bool
  pub failures : ℕ

-- a file that is written: its name, if it has one, whether it was created, the bytes that it took
-- so far, how many writes failed, and how many of these failed after it was created
pub record OutputState : Type 0 where
  pub path : Option (List ℕ)
  pub is_created : Bool
  pub taken : List ℕ
  pub failures : ℕ
  pub file_failures : ℕ

-- no call of the device was made
pub record IsFresh {F : Type 0} (device : Counted F) : Type 0 where
  pub ungiven : counted_given device ≡ []
  pub untaken : counted_taken device ≡ []
  pub unended : counted_ended device ≡ false
  pub unfailed : counted_failures device ≡ 0

-- the bytes that a file gave, or none if it could not be opened
abbrev pub given_by : {F : Type 0} → Option (Counted F) → List ℕ
given_by file = unwrap_or (option_map counted_given file) []

-- whether the last read of a file that did not fail found its end. One that could not be opened has
-- none
abbrev pub has_found_end : {F : Type 0} → Option (Counted F) → Bool
has_found_end file = unwrap_or (option_map counted_ended file) false

-- how many reads of a file failed, or, if it could not be opened, this many
abbrev pub failures_of : {F : Type 0} → Option (Counted F) → ℕ → ℕ
failures_of file without = unwrap_or (option_map counted_failures file) without

-- the bytes that a file took, or none before it is created
abbrev pub taken_by : {F : Type 0} → Option (Counted F) → List ℕ
taken_by file = unwrap_or (option_map counted_taken file) []

-- the file has this name, and nothing of it was read
pub record IsUnread (path : List ℕ) (file : InputState) : Type 0 where
  pub named : file.path ≡ path
  pub unread : file.given ≡ []
  pub unended : file.has_ended ≡ false
  pub unfailed : file.failures ≡ 0

-- the file has this name, if there is one, and was not created, so nothing was written to it
pub record IsUnwritten (path : Option (List ℕ)) (file : OutputState) : Type 0 where
  pub named : file.path ≡ path
  pub uncreated : file.is_created ≡ false
  pub unwritten : file.taken ≡ []
  pub unfailed : file.failures ≡ 0
  pub file_unfailed : file.file_failures ≡ 0

-- what is read of a file that was so before and is so after
abbrev pub reading : InputState → InputState → SourceChange InputState
reading old new =
    reading_of (λ _. None) (λ file. Some file.given) (λ file. IsTrue file.has_ended)
    (λ file. file.failures) old new

-- what is written to a file that was so before and is so after
abbrev pub writing : OutputState → OutputState → SinkChange OutputState
writing old new = change_of (λ file. Some file.taken) (λ file. file.failures) old new

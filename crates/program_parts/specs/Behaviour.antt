-- What a program does, by its command line.
use Rattle.std.specs.Prelude.{◌≡◌, ◌⊎◌, ℕ, IfErr, List, OnOk, Option, Result, Err, Ok, Some}
use Rattle.std.specs.declared.rt.Stderr.{Stderr}
use Rattle.std.specs.declared.rt.Stdout.{Stdout}
use Rattle.clap.specs.Words.{Text}
use Rattle.plane.specs.DeviceParts.{counted_failures, counted_taken}
use Rattle.plane.specs.Fault.{placeless}
use Rattle.plane.specs.SinkChange.{SinkChange, Fails, IsUnfailed, Takes, change_of}
use Rattle.plane.specs.SourceChange.{SourceChange}
use Rattle.plane.specs.declared.device.counted.Counted.{Counted}
use Rattle.plane.specs.declared.fault.Fault.{Fault}
use Rattle.plane.specs.declared.refusal.Refusal.{Refusal}
use Rattle.plane.specs.declared.refusal.Refusal.TheVariants.{WriteFailed}
use Rattle.program_parts.specs.Asking.{AsksForHelp, AsksForNothing, Refuses}
use Rattle.program_parts.specs.CommandLine.{CommandLine}
use Rattle.program_parts.specs.Files.{InputState, IsFresh, IsUnread, IsUnwritten, OutputState, reading, writing}
use Rattle.program_parts.specs.Messages.{HasNoWords, HasToldEnd, status_of}
use Rattle.program_parts.specs.declared.stops.Stop.{Stop}
use Rattle.program_parts.specs.declared.stops.Stop.TheVariants as stop

-- what words ask a program for, and what it does then
pub record Behaviour (Asked : Type 0) : Type 1 where
  pub line : CommandLine
  -- words are of the form, and ask for this
  pub AsksFor : List Text → Asked → Type 0
  -- the name of the file that is read
  pub input : Asked → List ℕ
  -- the name of the file that is written, if one is
  pub output : Asked → Option (List ℕ)
  -- what is done with a source, with standard output and with a file, and how it ends
  pub Does : {S O V : Type 0} → Asked → SourceChange S → SinkChange O → SinkChange V →
      Result Unit Fault → Type 0

-- what words ask for was done, with the file that they name for it to be read, of which nothing was
-- read before, and with the file that they name for it to be written, to which nothing was written
-- before; and it ended so
pub record IsPerformed {Asked O : Type 0} (behaviour : Behaviour Asked) (words : List Text)
    (out : SinkChange O) (ended : Result Unit Fault) : Type 0 where
  pub asked : Asked
  pub asks : behaviour.AsksFor words asked
  pub unread : InputState
  pub read : InputState
  pub unwritten : OutputState
  pub written : OutputState
  pub input : IsUnread (behaviour.input asked) unread
  pub output : IsUnwritten (behaviour.output asked) unwritten
  pub does : behaviour.Does asked (reading unread read) out (writing unwritten written) ended

module _ {Asked O : Type 0} (behaviour : Behaviour Asked) (words : List Text)
    (out : SinkChange O) where
  -- the help went out for words that ask for it, or what the words ask for was done
  abbrev pub IsDone : Type 0
  IsDone =
      (AsksForHelp behaviour.line words × ((help : List ℕ) × Takes out help))
      ⊎ IsPerformed behaviour words out (Ok tt)

  -- what the words ask for was refused: doing it was; or, before it, memory ran out, or the rule or
  -- the window that they give was refused; or the help could not be written
  abbrev pub IsRefused : Fault → Type 0
  IsRefused fault =
      IsPerformed behaviour words out (Err fault)
      ⊎ ((refusal : Refusal) × Refuses behaviour.line words refusal × (fault ≡ placeless refusal)
      × (out.new ≡ out.old))
      ⊎ (AsksForHelp behaviour.line words × (fault ≡ placeless WriteFailed) × Fails out)

  -- why the program did not do what the words ask for
  abbrev pub IsStop : Stop → Type 0
  IsStop (stop.BadWords reason) = AsksForNothing behaviour.line words × (out.new ≡ out.old)
  IsStop (stop.Refused fault) = IsRefused fault

-- what a program of this name does to its standard output and to its standard error, and the exit
-- status that it answers
pub record EndsProgram {Asked O E : Type 0} (behaviour : Behaviour Asked) (name : List ℕ)
    (words : List Text) (out : SinkChange O) (err : SinkChange E) (answer : ℕ) : Type 0 where
  -- how the program ended. Standard error has no part in it
  pub ended : Result Unit Stop
  pub status : answer ≡ status_of ended
  pub done : OnOk ended (IsDone behaviour words out)
  pub stopped : IfErr ended (IsStop behaviour words out)
  -- standard output did not fail, or the answer is that a device did
  pub unfailed : (ended ≡ Err (stop.Refused (placeless WriteFailed))) ⊎ IsUnfailed out
  -- where it ended well nothing is told; else one line says why, or standard error failed, which
  -- took the beginning of that line
  pub told : HasToldEnd name ended err

-- a program ran on some words; or it has none, and standard output is unchanged
abbrev pub StartsProgram : {Asked O E : Type 0} → Behaviour Asked → List ℕ → SinkChange O →
    SinkChange E → ℕ → Type 0
StartsProgram behaviour name out err answer =
    ((words : List Text) × EndsProgram behaviour name words out err answer)
    ⊎ (HasNoWords name err answer × (out.new ≡ out.old))

-- what was written to a stream that was so before and is so after
abbrev pub stream_change : {S : Type 0} → Counted S → Counted S → SinkChange (Counted S)
stream_change old new = change_of (λ stream. Some (counted_taken stream)) counted_failures old new

-- a program started with standard output and standard error, of which no call was made before
pub record StartsAtStreams {Asked : Type 0} (behaviour : Behaviour Asked) (name : List ℕ)
    (answer : ℕ) : Type 0 where
  pub out : Counted Stdout
  pub out_after : Counted Stdout
  pub err : Counted Stderr
  pub err_after : Counted Stderr
  pub out_is_fresh : IsFresh out
  pub err_is_fresh : IsFresh err
  pub starts :
      StartsProgram behaviour name (stream_change out out_after) (stream_change err err_after) answer

-- Exit statuses, and what is told on standard error.
use Rattle.std.specs.Prelude.{◌≡◌, ◌≢◌, ◌⊎◌, ℕ, Result, Ok, Err, List, ◌++◌, codes}
use Rattle.std.specs.List.{All}
use Rattle.plane.specs.Fault.{fault_text, placeless}
use Rattle.plane.specs.SinkChange.{SinkChange, Fails, IsUnfailed, Takes, TakesBeginning}
use Rattle.plane.specs.declared.fault.Fault.{Fault}
use Rattle.plane.specs.declared.refusal.Refusal.{Refusal}
use Rattle.plane.specs.declared.refusal.Refusal.TheVariants.{NoMemory, ReadFailed, WriteFailed}
use Rattle.program_parts.specs.declared.stops.Stop.{Stop}
use Rattle.program_parts.specs.declared.stops.Stop.TheVariants.{BadWords, Refused}

-- the line by which a program says why a run was refused
abbrev pub fault_line : List ℕ → Fault → List ℕ
fault_line program fault = program ++ codes ": " ++ fault_text fault ++ codes "\n"

-- the message of a program that words are bad, and why
abbrev pub bad_words_text : List ℕ → List ℕ → List ℕ
bad_words_text program why = program ++ codes ": bad words:" ++ why ++ codes "\n"

-- 3 where a device failed, else 1
abbrev pub refused_status : Refusal → ℕ
refused_status ReadFailed = 3
refused_status WriteFailed = 3
refused_status _ = 1

-- the sink took this text, and did not fail; or it failed, and took only the beginning of the text
abbrev pub IsTold : {E : Type 0} → SinkChange E → List ℕ → Type 0
IsTold messages text =
    (Takes messages text × IsUnfailed messages) ⊎ (TakesBeginning messages text × Fails messages)

-- the message of a program was told that words are bad, and why: one line, since the reason has no
-- line feed
abbrev pub HasToldBadWords : {E : Type 0} → List ℕ → SinkChange E → Type 0
HasToldBadWords program messages =
    (why : List ℕ) × All (λ byte. byte ≢ 10) why × IsTold messages (bad_words_text program why)

-- the line of a program was told that says why a run was refused
abbrev pub HasToldFault : {E : Type 0} → List ℕ → Fault → SinkChange E → Type 0
HasToldFault program fault messages = IsTold messages (fault_line program fault)

-- the exit status of a program that did what its words ask for, or stopped
abbrev pub status_of : {T : Type 0} → Result T Stop → ℕ
status_of (Ok _) = 0
status_of (Err (BadWords reason)) = 2
status_of (Err (Refused fault)) = refused_status fault.refusal

-- the message of a program was told that says why it stopped
abbrev pub HasTold : {E : Type 0} → List ℕ → Stop → SinkChange E → Type 0
HasTold program (BadWords reason) messages = HasToldBadWords program messages
HasTold program (Refused fault) messages = HasToldFault program fault messages

-- a program told nothing where it ended well; else the message was told that says why it stopped
abbrev pub HasToldEnd : {E : Type 0} → List ℕ → Result Unit Stop → SinkChange E → Type 0
HasToldEnd program (Ok done) messages = messages.new ≡ messages.old
HasToldEnd program (Err stop) messages = HasTold program stop messages

-- a program has no words: one is not UTF-8, or memory ran out, which one line tells
abbrev pub HasNoWords : {E : Type 0} → List ℕ → SinkChange E → ℕ → Type 0
HasNoWords name err answer =
    ((answer ≡ 2) × HasToldBadWords name err)
    ⊎ ((answer ≡ 1) × HasToldFault name (placeless NoMemory) err)

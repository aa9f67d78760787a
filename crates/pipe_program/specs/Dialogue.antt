-- A dialogue: requests, and a reply to each.
use Rattle.std.specs.Prelude.{◌≡◌, ◌≢◌, ◌⊎◌, ℕ, ◌-◌, ◌^◌, ◌<◌, ◌≤◌, List, [], ◌∷◌, ◌++◌, length, None, Result, Ok, Err}
use Rattle.std.specs.Io.KnownBytes.{Appends}
use Rattle.std.specs.List.{AllByRecursion, concat}
use Rattle.plane.specs.Fault.{placeless}
use Rattle.plane.specs.SinkChange.{SinkChange, Fails, IsUnfailed, Takes, TakesBeginning}
use Rattle.plane.specs.SourceChange.{SourceChange, GivesAll}
use Rattle.plane.specs.Device.{HasFailed}
use Rattle.plane.specs.declared.fault.Fault.{Fault}
use Rattle.plane.specs.declared.refusal.Refusal.TheVariants.{ReadFailed, WriteFailed}
use Rattle.plane.specs.declared.refusal.Refusal.{Refusal}
use Rattle.pipe_lines.specs.Supply.{IsUnbroken}
use Rattle.pipe_requests.specs.Blocks.{block_length}
use Rattle.pipe_requests.specs.Meaning.{IsBad, Means}
use Rattle.pipe_requests.specs.declared.bad.Bad.{Bad}
use Rattle.pipe_requests.specs.declared.bad.Bad.TheVariants as bad
use Rattle.pipe_requests.specs.declared.request.Request.{Request}
use Rattle.pipe_program.specs.Answers.{Answers}
use Rattle.pipe_program.specs.Replies.{Reply, reply_text}
use Rattle.pipe_program.specs.States.{State}
use Rattle.pipe_program.specs.declared.answering.Failure.TheVariants as failure

-- ---- requests as bytes

-- the bytes are a line with its LF, which has too many bytes or is bad
pub record IsBadLine (bytes : List ℕ) (why : Bad) : Type 0 where
  pub line : List ℕ
  pub unbroken : IsUnbroken line
  pub is : bytes ≡ line ++ 10 ∷ []
  pub bad : ((255 < length line) × (why ≡ bad.Long)) ⊎ ((length line ≤ 255) × IsBad line why)

-- the bytes are a line with its LF, which asks for this, and a block behind it
pub record BeginsRequest (bytes : List ℕ) (request : Request) (block : List ℕ) : Type 0 where
  pub line : List ℕ
  pub unbroken : IsUnbroken line
  pub short : length line ≤ 255
  pub means : Means line request
  pub is : bytes ≡ line ++ 10 ∷ block

-- the same, and the block is as long as the line says
pub record IsRequest (bytes : List ℕ) (request : Request) (block : List ℕ) : Type 0 where
  pub begins : BeginsRequest bytes request block
  pub whole : length block ≡ block_length request

-- the bytes are the beginning of a request, which ends before its line or its block does
abbrev pub IsCutRequest : List ℕ → Type 0
IsCutRequest bytes =
    ((bytes ≢ []) × IsUnbroken bytes)
    ⊎ ((request : Request) × (block : List ℕ) × BeginsRequest bytes request block
    × (length block < block_length request))

-- ---- requests and replies

-- a request as bytes, its reply, and what is open then
pub record Turn : Type 0 where
  pub asked : List ℕ
  pub reply : Reply
  pub open_then : State

-- the reply to a bad line says why, and the pattern stays; that to a request is its answer
abbrev pub IsTurn : ℕ → State → Turn → Type 0
IsTurn pairs before turn =
    ((why : Bad) × IsBadLine turn.asked why × (turn.reply ≡ Err (failure.Bad why))
    × (turn.open_then ≡ before))
    ⊎ ((request : Request) × (block : List ℕ) × IsRequest turn.asked request block
    × Answers pairs before request block turn.reply turn.open_then)

-- one after the other, each from what is open after the one before
abbrev pub AreTurns : ℕ → State → List Turn → Type 0
AreTurns pairs before [] = Unit {0}
AreTurns pairs before (turn ∷ turns) =
    IsTurn pairs before turn × AreTurns pairs turn.open_then turns

-- the bytes of all requests
unfoldable pub asked_in : List Turn → List ℕ
asked_in [] = []
asked_in (turn ∷ turns) = turn.asked ++ asked_in turns

-- the bytes of all replies
unfoldable pub said_in : List Turn → List ℕ
said_in [] = []
said_in (turn ∷ turns) = reply_text turn.reply ++ said_in turns

-- what is open after the last
unfoldable pub open_after : State → List Turn → State
open_after before [] = before
open_after before (turn ∷ turns) = open_after turn.open_then turns

-- ---- whole dialogues

-- the reply where the input ends before a request does
abbrev pub cut_text : List ℕ
cut_text = reply_text (Err (failure.Bad bad.Cut))

-- nothing is left, and the replies are those of the turns; or the beginning of a request is left,
-- and one more reply says so
abbrev pub IsSaidAtEnd : List Turn → List ℕ → List ℕ → Type 0
IsSaidAtEnd turns rest said =
    ((rest ≡ []) × (said ≡ said_in turns))
    ⊎ (IsCutRequest rest × (said ≡ said_in turns ++ cut_text))

-- nothing is left, or the beginning of a request
abbrev pub IsUnanswered : List ℕ → Type 0
IsUnanswered rest = (rest ≡ []) ⊎ IsCutRequest rest

module _ {S W : Type 0} (pairs : ℕ) (source : SourceChange S) (out : SinkChange W) where
  -- all bytes of the source were answered, to its end. It did not fail, nor did the sink
  pub record IsWhole : Type 0 where
    pub turns : List Turn
    pub rest : List ℕ
    pub said : List ℕ
    pub follow : AreTurns pairs None turns
    pub all : GivesAll source (asked_in turns ++ rest)
    pub end : IsSaidAtEnd turns rest said
    pub takes : Takes out said
    pub unfailed : IsUnfailed out

  -- so many requests were answered that no more are counted, or the line behind them went on for
  -- more bytes than are counted
  pub record IsTooLong : Type 0 where
    pub turns : List Turn
    pub rest : List ℕ
    pub follow : AreTurns pairs None turns
    pub count : (length turns ≡ 2 ^ 64 - 1) ⊎ (IsUnbroken rest × (2 ^ 64 - 1 ≤ length rest))
    pub given : Appends (source.given source.old) (source.given source.new)
        (asked_in turns ++ rest)
    pub takes : Takes out (said_in turns)
    pub unfailed : IsUnfailed out

  -- the source failed, and what it gave until then was answered
  pub record IsUnreadable : Type 0 where
    pub turns : List Turn
    pub rest : List ℕ
    pub follow : AreTurns pairs None turns
    pub given : Appends (source.given source.old) (source.given source.new)
        (asked_in turns ++ rest)
    pub unanswered : IsUnanswered rest
    pub fails : HasFailed (source.failure_count source.old) (source.failure_count source.new)
    pub takes : Takes out (said_in turns)
    pub unfailed : IsUnfailed out

  -- the sink failed, and took a beginning of the replies to what was read
  pub record IsUnheard : Type 0 where
    pub turns : List Turn
    pub rest : List ℕ
    pub follow : AreTurns pairs None turns
    pub given : Appends (source.given source.old) (source.given source.new)
        (asked_in turns ++ rest)
    pub fails : Fails out
    pub takes : TakesBeginning out (said_in turns)
        ⊎ (IsCutRequest rest × TakesBeginning out (said_in turns ++ cut_text))

  -- how a dialogue ends, and what was read and written until then
  abbrev pub EndsDialogue : Result Unit Refusal → Type 0
  EndsDialogue (Ok done) = IsWhole ⊎ IsTooLong
  EndsDialogue (Err refusal) =
      ((refusal ≡ ReadFailed) × IsUnreadable) ⊎ ((refusal ≡ WriteFailed) × IsUnheard)

  -- the same, where a refusal is told as a fault
  abbrev pub IsDialogue : Result Unit Fault → Type 0
  IsDialogue (Ok done) = EndsDialogue (Ok done)
  IsDialogue (Err fault) =
      (refusal : Refusal) × EndsDialogue (Err refusal) × (fault ≡ placeless refusal)

-- ---- laws

-- the bytes are a whole line that is bad, or a whole request with its block
abbrev pub IsAsked : List ℕ → Type 0
IsAsked bytes =
    ((why : Bad) × IsBadLine bytes why)
    ⊎ ((request : Request) × (block : List ℕ) × IsRequest bytes request block)

-- where the input of a dialogue begins with whole requests, the dialogue begins with one whose
-- input these are: the replies to a beginning of the input are a beginning of the replies
abbrev pub BeginningsAreAnswered : Type 0
BeginningsAreAnswered =
    (pairs : ℕ) (before : State) (turns : List Turn) (rest : List ℕ) (asked : List (List ℕ))
    (more : List ℕ) → AreTurns pairs before turns → IsUnanswered rest →
    AllByRecursion IsAsked asked → asked_in turns ++ rest ≡ concat asked ++ more →
    (first later : List Turn) × (turns ≡ first ++ later) × (asked_in first ≡ concat asked)
    × AreTurns pairs before first × (said_in turns ≡ said_in first ++ said_in later)

-- One step of a dialogue: a request is read, and its reply is written.
use Rattle.std.specs.Prelude.{◌≡◌, ◌⊎◌, ℕ, ◌-◌, ◌^◌, ◌<◌, ◌≤◌, Bool, true, false, List, [], length, Option, None, Some, Result, Ok, Err}
use Rattle.plane.specs.Device.{HasFailed}
use Rattle.plane.specs.SinkChange.{SinkChange, Fails, IsUnfailed, Takes, TakesBeginning}
use Rattle.plane.specs.SourceChange.{SourceChange}
use Rattle.plane.specs.declared.refusal.Refusal.{Refusal}
use Rattle.plane.specs.declared.refusal.Refusal.TheVariants.{ReadFailed, WriteFailed}
use Rattle.pipe_program.specs.Dialogue.{IsCutRequest, IsTurn, IsUnanswered, Turn, cut_text}
use Rattle.pipe_lines.specs.Supply.{HasEnded, HasTaken, IsUnbroken}
use Rattle.pipe_requests.specs.Blocks.{block_length}
use Rattle.pipe_requests.specs.declared.bad.Bad.TheVariants as bad
use Rattle.pipe_requests.specs.declared.request.Request.{Request}
use Rattle.pipe_program.specs.Answers.{Answers}
use Rattle.pipe_program.specs.Replies.{Reply, reply_text}
use Rattle.pipe_program.specs.States.{State}
use Rattle.pipe_program.specs.declared.answering.Failure.TheVariants as failure

-- what is replied: that the input is cut, where there is no reply
abbrev pub reply_or_cut : Option Reply → Reply
reply_or_cut None = Err (failure.Bad bad.Cut)
reply_or_cut (Some reply) = reply

module _ {S : Type 0} (pairs : ℕ) (source : SourceChange S) (before after : List ℕ)
    (old new : State) where
  -- a request was taken, and this is its turn
  pub record HasTurn (turn : Turn) : Type 0 where
    pub taken : HasTaken source before after turn.asked
    pub is : IsTurn pairs old turn
    pub then : turn.open_then ≡ new

  -- the source has ended within a request, and these bytes of it were taken
  pub record HasCut (bytes : List ℕ) : Type 0 where
    pub taken : HasTaken source before after bytes
    pub ended : HasEnded source before after
    pub cut : IsCutRequest bytes
    pub same : new ≡ old

  -- the block of this request was taken, and it was answered; or the source has ended within the
  -- block, and there is no answer
  abbrev pub HasAnswer : Request → Option Reply → Type 0
  HasAnswer request (Some reply) =
      (block : List ℕ) × HasTaken source before after block
      × (length block ≡ block_length request) × Answers pairs old request block reply new
  HasAnswer request None =
      (bytes : List ℕ) × HasTaken source before after bytes
      × (length bytes < block_length request) × HasEnded source before after × (new ≡ old)

  module _ {W : Type 0} (out : SinkChange W) where
    -- a request was answered
    abbrev pub HasReplied : Type 0
    HasReplied = (turn : Turn) × HasTurn turn × Takes out (reply_text turn.reply)

    -- the input is cut, and the last reply says so
    abbrev pub HasRepliedCut : Type 0
    HasRepliedCut = (bytes : List ℕ) × HasCut bytes × Takes out cut_text

    -- one of the two, but the sink failed, and took a beginning of the reply
    abbrev pub HasNotReplied : Type 0
    HasNotReplied =
        ((turn : Turn) × HasTurn turn × TakesBeginning out (reply_text turn.reply))
        ⊎ ((bytes : List ℕ) × HasCut bytes × TakesBeginning out cut_text)

    -- the source failed behind these bytes, which are none or the beginning of a request
    pub record IsUnread (bytes : List ℕ) : Type 0 where
      pub taken : HasTaken source before after bytes
      pub none : after ≡ []
      pub unanswered : IsUnanswered bytes
      pub fails : HasFailed (source.failure_count source.old) (source.failure_count source.new)
      pub untouched : out.new ≡ out.old

    -- there was no request: the source has ended
    pub record HasNone : Type 0 where
      pub taken : HasTaken source before after []
      pub ended : HasEnded source before after
      pub untouched : out.new ≡ out.old
      pub same : new ≡ old

    -- there was no request: a line went on for more bytes than are counted
    pub record HasEndless (bytes : List ℕ) : Type 0 where
      pub taken : HasTaken source before after bytes
      pub unbroken : IsUnbroken bytes
      pub long : 2 ^ 64 - 1 ≤ length bytes
      pub none : after ≡ []
      pub untouched : out.new ≡ out.old
      pub same : new ≡ old

    -- what a step does, and whether another may follow: not where the source has ended
    abbrev pub IsStep : Result Bool Refusal → Type 0
    IsStep (Ok true) = HasReplied × IsUnfailed out
    IsStep (Ok false) =
        HasNone ⊎ (HasRepliedCut × IsUnfailed out) ⊎ ((bytes : List ℕ) × HasEndless bytes)
    IsStep (Err refusal) =
        ((refusal ≡ ReadFailed) × ((bytes : List ℕ) × IsUnread bytes))
        ⊎ ((refusal ≡ WriteFailed) × HasNotReplied × Fails out)

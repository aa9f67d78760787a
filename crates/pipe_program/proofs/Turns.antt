-- Turns one after the other, and one more.
use Rattle.std.proofs.Common.{◌≡◌, ◌∙◌, ℕ, ◌+◌, List, [], ◌∷◌, ◌++◌, length, append_assoc, append-nil, refl, sym, ap}
use Rattle.std.proofs.lemmas.List.{length_push}
use Rattle.pipe_program.specs.Dialogue.{AreTurns, IsTurn, Turn, asked_in, open_after, said_in}
use Rattle.pipe_program.specs.Replies.{reply_text}
use Rattle.pipe_program.specs.States.{State}

-- the bytes of all requests, in two parts
pub asked_apart : (first later : List Turn) → asked_in (first ++ later) ≡ asked_in first ++ asked_in later
unfolding asked_in
asked_apart [] later = refl
asked_apart (turn ∷ first) later =
    ap (λ (bytes : List ℕ). turn.asked ++ bytes) (asked_apart first later) ∙ sym (append_assoc turn.asked (asked_in first) (asked_in later))

-- the bytes of all replies, in two parts
pub said_apart : (first later : List Turn) → said_in (first ++ later) ≡ said_in first ++ said_in later
unfolding said_in
said_apart [] later = refl
said_apart (turn ∷ first) later =
    ap (λ (bytes : List ℕ). reply_text turn.reply ++ bytes) (said_apart first later)
    ∙ sym (append_assoc (reply_text turn.reply) (said_in first) (said_in later))

-- the bytes of one request more
pub asked_more : (turns : List Turn) (turn : Turn) → asked_in (turns ++ turn ∷ []) ≡ asked_in turns ++ turn.asked
unfolding asked_in
asked_more turns turn = asked_apart turns (turn ∷ []) ∙ ap (λ (bytes : List ℕ). asked_in turns ++ bytes) (append-nil turn.asked)

-- the bytes of one reply more
pub said_more : (turns : List Turn) (turn : Turn) → said_in (turns ++ turn ∷ []) ≡ said_in turns ++ reply_text turn.reply
unfolding said_in
said_more turns turn = said_apart turns (turn ∷ []) ∙ ap (λ (bytes : List ℕ). said_in turns ++ bytes) (append-nil (reply_text turn.reply))

-- what is open after one turn more
pub open_more : (before : State) (turns : List Turn) (turn : Turn) → open_after before (turns ++ turn ∷ []) ≡ turn.open_then
unfolding open_after
open_more before [] turn = refl
open_more before (first ∷ turns) turn = open_more first.open_then turns turn

-- a turn from what is open after the last one follows
pub follow_more : (pairs : ℕ) (before : State) (turns : List Turn) (turn : Turn) → AreTurns pairs before turns →
    IsTurn pairs (open_after before turns) turn → AreTurns pairs before (turns ++ turn ∷ [])
unfolding open_after
follow_more pairs before [] turn follow is = (is, tt)
follow_more pairs before (first ∷ turns) turn follow is = (follow.0, follow_more pairs first.open_then turns turn follow.1 is)

-- no turn: nothing was asked or said, and what is open stays
pub nothing_asked : asked_in [] ≡ []
unfolding asked_in
nothing_asked = refl

pub nothing_said : said_in [] ≡ []
unfolding said_in
nothing_said = refl

pub nothing_opened : (before : State) → open_after before [] ≡ before
unfolding open_after
nothing_opened before = refl

-- how many turns they are with one more
pub count_more : (turns : List Turn) (turn : Turn) (count : ℕ) → length turns ≡ count → length (turns ++ turn ∷ []) ≡ count + 1
count_more turns turn count is = length_push turns turn ∙ ap (λ (n : ℕ). n + 1) is

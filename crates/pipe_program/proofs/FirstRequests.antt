-- Bytes begin with one request only, and a dialogue on them with its turn.
use Rattle.std.proofs.Common.{◌≡◌, ◌≢◌, ◌⊎◌, ◌∙◌, ℕ, ◌+◌, ◌<◌, ◌≤◌, List, [], ◌∷◌, ◌++◌, length, take, drop, append_assoc, append-nil, length-append, refl, sym, ap, subst, inl, inr, arith}
use Rattle.std.specs.List.{AllByRecursion, concat}
use Rattle.std.proofs.lemmas.List.{drop_at, take_at}
use Rattle.std.proofs.lemmas.List.Elements.{All-head, All-tail}
use Rattle.pipe_lines.specs.Supply.{IsUnbroken}
use Rattle.pipe_requests.specs.Blocks.{block_length}
use Rattle.pipe_requests.specs.Meaning.{IsBad, Means}
use Rattle.pipe_requests.specs.declared.bad.Bad.{Bad}
use Rattle.pipe_requests.specs.declared.bad.Bad.TheVariants as bad
use Rattle.pipe_requests.specs.declared.request.Request.{Request}
use Rattle.pipe_requests.proofs.OneMeaning.{one_meaning_lem}
use Rattle.pipe_program.specs.Dialogue.{AreTurns, BeginningsAreAnswered, BeginsRequest, IsAsked, IsBadLine, IsRequest, IsTurn, IsUnanswered, Turn, asked_in, said_in}
use Rattle.pipe_program.specs.Replies.{reply_text}
use Rattle.pipe_program.specs.States.{State}

-- ---- bytes in parts

abbrev NoFeed : ℕ → Type 0
NoFeed byte = byte ≢ 10

-- two lines with their LF that begin the same bytes are one
one_line : (line other behind after : List ℕ) → IsUnbroken line → IsUnbroken other → line ++ 10 ∷ behind ≡ other ++ 10 ∷ after →
    (line ≡ other) × (behind ≡ after)
one_line [] [] behind after one two is = (refl, cc)
one_line [] (byte ∷ other) behind after one two is = let feed : byte ≡ 10 = cc in absurd (All-head NoFeed byte other two feed)
one_line (byte ∷ line) [] behind after one two is = let feed : byte ≡ 10 = cc in absurd (All-head NoFeed byte line one feed)
one_line (byte ∷ line) (next ∷ other) behind after one two is =
    let rest : line ++ 10 ∷ behind ≡ other ++ 10 ∷ after = cc in
    let same = one_line line other behind after (All-tail NoFeed byte line one) (All-tail NoFeed next other two) rest in
    let front = same.0 in (cc, same.1)

-- bytes without an LF have no line with its LF in front
broken : (line behind : List ℕ) → IsUnbroken (line ++ 10 ∷ behind) → ⊥
broken [] behind unbroken = All-head NoFeed 10 behind unbroken refl
broken (byte ∷ line) behind unbroken = broken line behind (All-tail NoFeed byte (line ++ 10 ∷ behind) unbroken)

-- two beginnings of the same bytes that are as long as each other are one
one_front : (one other behind after : List ℕ) → length one ≡ length other → one ++ behind ≡ other ++ after → (one ≡ other) × (behind ≡ after)
one_front one other behind after long is = (
  sym (take_at one behind (length one) refl) ∙ ap (λ (bytes : List ℕ). take (length one) bytes) is ∙ take_at other after (length one) (sym long),
  sym (drop_at one behind (length one) refl) ∙ ap (λ (bytes : List ℕ). drop (length one) bytes) is ∙ drop_at other after (length one) (sym long),
)

-- what is a line with its LF and more has more behind it
line_of_more : (bytes line block more : List ℕ) → bytes ≡ line ++ 10 ∷ block → bytes ++ more ≡ line ++ 10 ∷ (block ++ more)
line_of_more bytes line block more is = ap (λ (front : List ℕ). front ++ more) is ∙ append_assoc line (10 ∷ block) more

-- ---- one request

-- two bad lines
one_bad : (one other behind after : List ℕ) (why reason : Bad) → IsBadLine one why → IsBadLine other reason → one ++ behind ≡ other ++ after →
    (one ≡ other) × (behind ≡ after)
one_bad one other behind after why reason first second is =
    let lines = sym (line_of_more one first.line [] behind first.is) ∙ is ∙ line_of_more other second.line [] after second.is in
    let same = one_line first.line second.line behind after first.unbroken second.unbroken lines in (
      first.is ∙ ap (λ (line : List ℕ). line ++ 10 ∷ []) same.0 ∙ sym second.is,
      same.1,
    )

-- a line that asks for something is not too long or bad
asks_well : (line : List ℕ) (why : Bad) (request : Request) →
    ((255 < length line) × (why ≡ bad.Long)) ⊎ ((length line ≤ 255) × IsBad line why) →
    length line ≤ 255 → Means line request → ⊥
asks_well line why request (inl long) short means = let more = long.0 in absurd (omega arith)
asks_well line why request (inr is) short means = one_meaning_lem.not_both line request why means is.1

-- a bad line and a request
not_both : (one other behind after : List ℕ) (why : Bad) (request : Request) (block : List ℕ) → IsBadLine one why →
    BeginsRequest other request block → one ++ behind ≡ other ++ after → ⊥
not_both one other behind after why request block first second is =
    let lines = sym (line_of_more one first.line [] behind first.is) ∙ is ∙ line_of_more other second.line block after second.is in
    let same = one_line first.line second.line behind (block ++ after) first.unbroken second.unbroken lines in
    let short = second.short in
    asks_well first.line why request first.bad (subst (λ (line : List ℕ). length line ≤ 255) (sym same.0) short)
    (subst (λ (line : List ℕ). Means line request) (sym same.0) second.means)

-- two requests: what they ask for is one thing, and so are the bytes behind the line
one_asked_for : (one other behind after : List ℕ) (asked request : Request) (block bytes : List ℕ) → BeginsRequest one asked block →
    BeginsRequest other request bytes → one ++ behind ≡ other ++ after →
    (first : List ℕ) × (one ≡ first ++ 10 ∷ block) × (other ≡ first ++ 10 ∷ bytes)
    × (asked ≡ request) × (block ++ behind ≡ bytes ++ after)
one_asked_for one other behind after asked request block bytes first second is =
    let lines = sym (line_of_more one first.line block behind first.is) ∙ is ∙ line_of_more other second.line bytes after second.is in
    let same = one_line first.line second.line (block ++ behind) (bytes ++ after) first.unbroken second.unbroken lines in (
      first.line,
      first.is,
      second.is ∙ ap (λ (line : List ℕ). line ++ 10 ∷ bytes) (sym same.0),
      one_meaning_lem.one_request first.line asked request first.means
          (subst (λ (line : List ℕ). Means line request) (sym same.0) second.means),
      same.1,
    )

one_whole : (one other behind after : List ℕ) (asked request : Request) (block bytes : List ℕ) → IsRequest one asked block →
    IsRequest other request bytes → one ++ behind ≡ other ++ after → (one ≡ other) × (behind ≡ after)
one_whole one other behind after asked request block bytes first second is =
    let found = one_asked_for one other behind after asked request block bytes first.begins second.begins is in
    let long : length block ≡ length bytes = first.whole ∙ ap block_length found.3 ∙ sym second.whole in
    let same = one_front block bytes behind after long found.4 in (
      found.1 ∙ ap (λ (more : List ℕ). found.0 ++ 10 ∷ more) same.0 ∙ sym found.2,
      same.1,
    )

-- the same bytes begin with one request or bad line only
one_asked : (one other behind after : List ℕ) → IsAsked one → IsAsked other → one ++ behind ≡ other ++ after → (one ≡ other) × (behind ≡ after)
one_asked one other behind after (inl (why, first)) (inl (reason, second)) is = one_bad one other behind after why reason first second is
one_asked one other behind after (inl (why, first)) (inr (request, block, second)) is =
    absurd (not_both one other behind after why request block first second.begins is)
one_asked one other behind after (inr (request, block, first)) (inl (why, second)) is =
    absurd (not_both other one after behind why request block second first.begins (sym is))
one_asked one other behind after (inr (asked, block, first)) (inr (request, bytes, second)) is =
    one_whole one other behind after asked request block bytes first second is

-- ---- what is left at an end

-- a request or a bad line has a line with its LF in front
has_line : (one : List ℕ) → IsAsked one → (line block : List ℕ) × (one ≡ line ++ 10 ∷ block)
has_line one (inl (why, is)) = (is.line, [], is.is)
has_line one (inr (request, block, is)) = (is.begins.line, block, is.begins.is)

-- no bytes, or bytes without an LF, do not begin with it
unbroken_left : (rest one more : List ℕ) → IsUnbroken rest → IsAsked one → rest ≡ one ++ more → ⊥
unbroken_left rest one more unbroken asked is =
    let found = has_line one asked in
    broken found.0 (found.1 ++ more)
    (subst (λ (bytes : List ℕ). IsUnbroken bytes) (is ∙ line_of_more one found.0 found.1 more found.2) unbroken)

empty_left : (rest one more : List ℕ) → rest ≡ [] → IsAsked one → rest ≡ one ++ more → ⊥
empty_left rest one more none asked is =
    let found = has_line one asked in
    let front : rest ≡ found.0 ++ 10 ∷ (found.1 ++ more) = is ∙ line_of_more one found.0 found.1 more found.2 in
    let long = length-append found.0 (10 ∷ (found.1 ++ more)) in
    let same = ap (λ (bytes : List ℕ). length bytes) front in
    let nothing = ap (λ (bytes : List ℕ). length bytes) none in
    absurd (omega (arith, long, same, nothing))

-- a request whose block is cut does not begin with a whole one
cut_left : (rest one more : List ℕ) (request : Request) (block : List ℕ) → BeginsRequest rest request block →
    length block < block_length request → IsAsked one → rest ≡ one ++ more → ⊥
cut_left rest one more request block begins short (inl (why, is)) same =
    not_both one rest more [] why request block is begins (sym same ∙ sym (append-nil rest))
cut_left rest one more request block begins short (inr (asked, bytes, is)) same =
    let found = one_asked_for rest one [] more request asked block bytes begins is.begins (append-nil rest ∙ same) in
    let left : block ≡ bytes ++ more = sym (append-nil block) ∙ found.4 in
    let long : length block ≡ length bytes + length more = ap (λ (b : List ℕ). length b) left ∙ length-append bytes more in
    let whole : length bytes ≡ block_length request = is.whole ∙ ap block_length (sym found.3) in
    absurd (omega arith)

-- what is not answered does not begin with a whole request or bad line
not_begun : (rest one more : List ℕ) → IsUnanswered rest → IsAsked one → rest ≡ one ++ more → ⊥
not_begun rest one more (inl none) asked is = empty_left rest one more none asked is
not_begun rest one more (inr (inl unbroken)) asked is = unbroken_left rest one more unbroken.1 asked is
not_begun rest one more (inr (inr (request, block, begins, short))) asked is = cut_left rest one more request block begins short asked is

-- ---- dialogues

-- a turn is about a request or a bad line
turn_asked : (pairs : ℕ) (before : State) (turn : Turn) → IsTurn pairs before turn → IsAsked turn.asked
turn_asked pairs before turn (inl (why, is, reply, same)) = inl (why, is)
turn_asked pairs before turn (inr (request, block, is, answers)) = inr (request, block, is)

-- a dialogue whose input begins with these requests begins with their turns
begun : (pairs : ℕ) (before : State) (asked : List (List ℕ)) (turns : List Turn) (rest more : List ℕ) →
    AreTurns pairs before turns → IsUnanswered rest → AllByRecursion IsAsked asked → asked_in turns ++ rest ≡ concat asked ++ more →
    (first later : List Turn) × (turns ≡ first ++ later) × (asked_in first ≡ concat asked)
    × AreTurns pairs before first × (said_in turns ≡ said_in first ++ said_in later)
unfolding asked_in said_in
begun pairs before [] turns rest more follow end all is = ([], turns, refl, refl, tt, refl)
begun pairs before (one ∷ asked) [] rest more follow end all is =
    absurd (not_begun rest one (concat asked ++ more) end all.0 (is ∙ append_assoc one (concat asked) more))
begun pairs before (one ∷ asked) (turn ∷ turns) rest more follow end all is =
    let bytes = sym (append_assoc turn.asked (asked_in turns) rest) ∙ is ∙ append_assoc one (concat asked) more in
    let first = turn_asked pairs before turn follow.0 in
    let same = one_asked turn.asked one (asked_in turns ++ rest) (concat asked ++ more) first all.0 bytes in
    let found = begun pairs turn.open_then asked turns rest more follow.1 end all.1 same.1 in (
      turn ∷ found.0,
      found.1,
      ap (λ (others : List Turn). turn ∷ others) found.2,
      ap (λ (front : List ℕ). front ++ asked_in found.0) same.0 ∙ ap (λ (others : List ℕ). one ++ others) found.3,
      (follow.0, found.4),
      ap (λ (others : List ℕ). reply_text turn.reply ++ others) found.5
          ∙ sym (append_assoc (reply_text turn.reply) (said_in found.0) (said_in found.1)),
    )

pub beginnings_lem : BeginningsAreAnswered
beginnings_lem pairs before turns rest asked more follow end all is = begun pairs before asked turns rest more follow end all is

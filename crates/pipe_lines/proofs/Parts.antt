-- A part of a line, which was taken so far.
use Rattle.std.proofs.Common.{◌≡◌, ◌≢◌, ℕ, ◌+◌, ◌-◌, ◌^◌, ◌<◌, ◌≤◌, List, [], ◌++◌, ◌∙◌, length, min, take, ap, sym}
use Rattle.std.specs.List.{position_or_len}
use Rattle.std.proofs.lemmas.List.{length-take-le}
use Rattle.std.proofs.lemmas.List.Elements.{All-append}
use Rattle.plane.specs.SourceChange.{SourceChange}
use Rattle.text_lines.specs.Lines.{is_line_feed}
use Rattle.pipe_lines.specs.Supply.{HasTaken, IsUnbroken}
use Rattle.pipe_lines.proofs.Feeds.{unbroken_front}
use Rattle.pipe_lines.proofs.Fronts.{count_grows, front_grows}

-- these are the first bytes of a part without an LF, which are so many, or more than are counted
pub record IsPart (kept part : List ℕ) (count : ℕ) : Type 0 where
  pub unbroken : IsUnbroken part
  pub front : kept ≡ take 255 part
  pub counted : count ≡ min (length part) (2 ^ 64 - 1)

-- such a part was taken. Where it is some bytes, nothing is pending
pub record HasPart {S : Type 0} (source : SourceChange S) (before after kept : List ℕ) (count : ℕ) : Type 0 where
  pub part : List ℕ
  pub taken : HasTaken source before after part
  pub is : IsPart kept part count
  pub drained : 0 < count → after ≡ []

-- the part and the bytes before the first LF
pub part_grows : (kept part bytes more : List ℕ) (count first next : ℕ) → IsPart kept part count →
    first ≡ position_or_len is_line_feed bytes → first ≤ length bytes → more ≡ kept ++ take (255 - length kept) (take first bytes) →
    next ≡ min (count + first) (2 ^ 64 - 1) → IsPart more (part ++ take first bytes) next
part_grows kept part bytes more count first next is place within keeps counts = record {
  unbroken = All-append (λ byte. byte ≢ 10) part (take first bytes) is.unbroken (unbroken_front bytes first place);
  front = keeps ∙ front_grows 255 kept part (take first bytes) is.front;
  counted =
      counts ∙ ap (λ n. min (count + n) (2 ^ 64 - 1)) (sym (length-take-le first bytes within))
      ∙ count_grows part (take first bytes) count is.counted;
}

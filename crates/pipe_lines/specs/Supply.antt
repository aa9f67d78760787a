-- Bytes that come from a source through a buffer.
use Rattle.std.specs.Prelude.{◌≡◌, ◌≢◌, ℕ, ◌-◌, ◌^◌, ◌<◌, ◌≤◌, List, [], ◌∷◌, ◌++◌, ◌⊎◌, Result, drop, length, take}
use Rattle.std.specs.Io.KnownBytes.{Appends, Consumes, IsAtEnd}
use Rattle.std.specs.List.{All}
use Rattle.plane.specs.SourceChange.{SourceChange}
use Rattle.plane.specs.declared.device.traits.Failed.{Failed}
use Rattle.pipe_lines.specs.declared.blocks.Block.{Block}
use Rattle.pipe_lines.specs.declared.blocks.Block.TheVariants as block
use Rattle.pipe_lines.specs.declared.buffer.Buffer.{Buffer}
use Rattle.pipe_lines.specs.declared.lines.LineEnd.{LineEnd}
use Rattle.pipe_lines.specs.declared.lines.LineEnd.TheVariants as end

-- the bytes that were read and not yet taken
unfoldable pub pending_in : Buffer → List ℕ
pending_in buffer = take (buffer.end - buffer.start) (drop buffer.start buffer.bytes)

-- the line has no LF in it
abbrev pub IsUnbroken : List ℕ → Type 0
IsUnbroken line = All (λ byte. byte ≢ 10) line

-- the block has these bytes behind its own, or there was no room for them
abbrev pub IsLonger : Block → List ℕ → Block → Type 0
IsLonger (block.Whole bytes) more (block.Whole longer) = longer.items ≡ bytes.items ++ more
IsLonger (block.Whole bytes) more other = other ≡ block.Lost
IsLonger old more new = new ≡ old

module _ {S : Type 0} (source : SourceChange S) (before after : List ℕ) where
  -- these bytes were taken: they are the first of those that were pending before and of those that
  -- the source gave, and the others are pending
  pub record HasTaken (taken : List ℕ) : Type 0 where
    pub given : List ℕ
    pub consumes : Consumes (source.remaining source.old) (source.remaining source.new) given
    pub appends : Appends (source.given source.old) (source.given source.new) given
    pub parts : before ++ given ≡ taken ++ after

  -- the source has ended, and nothing is pending
  pub record HasEnded : Type 0 where
    pub none : after ≡ []
    pub nothing_left : IsAtEnd (source.remaining source.new)
    pub ended : source.has_ended source.new

  -- a line was read, these first bytes of it were kept, and so it ended
  abbrev pub HasLine : List ℕ → LineEnd → Type 0
  HasLine kept end.Whole =
      HasTaken (kept ++ 10 ∷ []) × IsUnbroken kept × (length kept ≤ 255)
  HasLine kept end.Long =
      (line : List ℕ) × HasTaken (line ++ 10 ∷ []) × IsUnbroken line × (255 < length line)
      × (kept ≡ take 255 line)
  HasLine kept end.Cut =
      (line : List ℕ) × HasTaken line × IsUnbroken line × (line ≢ []) × HasEnded
      × (kept ≡ take 255 line)
  HasLine kept end.Absent = HasTaken [] × HasEnded × (kept ≡ [])
  HasLine kept end.Endless =
      (line : List ℕ) × HasTaken line × IsUnbroken line × (2 ^ 64 - 1 ≤ length line)
      × (after ≡ []) × (kept ≡ take 255 line)

  -- a block of so many bytes was read, or as many as there were
  abbrev pub HasBlock : ℕ → Block → Type 0
  HasBlock count (block.Whole bytes) = HasTaken bytes.items × (length bytes.items ≡ count)
  HasBlock count block.Lost =
      (bytes : List ℕ) × HasTaken bytes × (length bytes ≡ count) × (0 < count)
  HasBlock count block.Cut =
      (bytes : List ℕ) × HasTaken bytes × (length bytes < count) × HasEnded

module _ {S : Type 0} (reads : S → List ℕ → Result ℕ Failed → S → List ℕ → Type 0) where
  -- one call of a source was made
  abbrev pub IsOneRead : S → S → Type 0
  IsOneRead old new =
      (before after : List ℕ) × (answer : Result ℕ Failed) × reads old before answer new after

  module _ (source : SourceChange S) (before : List ℕ) (IsWanting : List ℕ → Type 0) where
    -- when the last call of the source was made, it had given these bytes, and they and those that
    -- were pending before were not enough
    pub record HasLastRead : Type 0 where
      pub at : S
      pub given : List ℕ
      pub consumes : Consumes (source.remaining source.old) (source.remaining at) given
      pub appends : Appends (source.given source.old) (source.given at) given
      pub wanting : IsWanting (before ++ given)
      pub last : IsOneRead at source.new

    -- no call of the source was made where there was enough
    abbrev pub ReadsNoMore : Type 0
    ReadsNoMore = (source.new ≡ source.old) ⊎ HasLastRead

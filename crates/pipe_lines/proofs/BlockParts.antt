-- A part of a block, which was taken so far.
use Rattle.std.proofs.Common.{◌≡◌, ℕ, ◌+◌, ◌<◌, List, ◌++◌, ◌∙◌, length, ap, sym, subst, arith, length-append}
use Rattle.plane.specs.SourceChange.{SourceChange}
use Rattle.pipe_lines.specs.Supply.{HasTaken, IsLonger}
use Rattle.pipe_lines.specs.declared.blocks.Block.{Block}
use Rattle.pipe_lines.specs.declared.blocks.Block.TheVariants as block

-- the block is these bytes, or there was no room for them
abbrev pub Holds : Block → List ℕ → Type 0
Holds (block.Whole all) bytes = all.items ≡ bytes
Holds block.Lost bytes = 0 < length bytes
Holds block.Cut bytes = ⊥

pub holds_more : (old new : Block) (bytes more : List ℕ) → 0 < length more → Holds old bytes → IsLonger old more new → Holds new (bytes ++ more)
holds_more (block.Whole all) (block.Whole longer) bytes more some holds is = is ∙ ap (λ front. front ++ more) holds
holds_more (block.Whole all) block.Lost bytes more some holds is = omega (arith, length-append bytes more)
holds_more (block.Whole all) block.Cut bytes more some holds is = absurd cc
holds_more block.Lost new bytes more some holds is =
    let lost : Holds block.Lost (bytes ++ more) = omega (arith, length-append bytes more) in
    subst (λ one. Holds one (bytes ++ more)) (sym is) lost
holds_more block.Cut new bytes more some holds is = absurd holds

-- these bytes of a block were taken, and so many are left
pub record HasBlockPart {S : Type 0} (source : SourceChange S) (before after : List ℕ) (count left : ℕ) (made : Block) : Type 0 where
  pub bytes : List ℕ
  pub taken : HasTaken source before after bytes
  pub holds : Holds made bytes
  pub counted : length bytes + left ≡ count

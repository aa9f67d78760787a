-- Windows whose numbers of columns and rows fit 32 bits.
use Rattle.std.proofs.Common.{◌≡◌, ℕ, ◌<◌, ◌^◌, List, Option, None, Some, subst}
use Rattle.plane.specs.Window.{Rectangle}
use Rattle.program_parts.specs.WindowText.{AreNumbersOf, IsFitWindow, WritesWindow, rectangle_of}
use Rattle.program_parts.proofs.WindowTexts.{same_window}
use Rattle.program_parts.specs.declared.window_text.WindowNumbers.{WindowNumbers}

-- two numbers fit 32 bits
abbrev pub IsNarrow : WindowNumbers → Type 0
IsNarrow numbers = (numbers.width < 2 ^ 32) × (numbers.height < 2 ^ 32)

pub not_narrow : (text : Option (List ℕ)) (numbers : WindowNumbers) → AreNumbersOf 64 text (Some numbers) → (IsNarrow numbers → ⊥) → IsFitWindow 32 text → ⊥
not_narrow None numbers none wide fit = absurd cc
not_narrow (Some text) numbers (given, writes, is) wide (window, fit) =
    let given_is : given ≡ numbers = cc in
    let same : window ≡ rectangle_of numbers = same_window text window (rectangle_of numbers) fit (subst (λ n. WritesWindow 64 text (rectangle_of n)) given_is writes) in
    wide (subst (λ (w : Rectangle). (w.width < 2 ^ 32) × (w.height < 2 ^ 32)) same (fit.columns.2, fit.rows.2))

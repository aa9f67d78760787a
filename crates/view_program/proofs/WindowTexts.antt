-- The window that is asked for.
use Rattle.std.proofs.Common.{ℕ, List, Option, None, Some, IfSome, sym, subst}
use Rattle.plane.specs.declared.cell.Bounds.{Bounds}
use Rattle.pattern_picture.specs.Scale.{IsShown}
use Rattle.program_parts.specs.WindowText.{IsAskedWindow}
use Rattle.view_program.specs.Shown.{CanBeShown, sides_of}

-- a rectangle that is asked for can be shown
pub shown_rectangle : (text : Option (List ℕ)) (window : Option Bounds) → IsAskedWindow CanBeShown sides_of 64 text window → IfSome window IsShown
shown_rectangle None window none = subst (λ w. IfSome w IsShown) (sym none) tt
shown_rectangle (Some text) window (given, writes, can_be, is) = subst (λ w. IfSome w IsShown) (sym is) can_be

-- A command line: its form, and which values are fit.
use Rattle.std.specs.Prelude.{List, Option, codes}
use Rattle.clap.specs.Words.{App, Text}
use Rattle.program_parts.specs.RunWords.{AreFitLimits, AreUnfitNodes, AreUnfitWorkers}
use Rattle.program_parts.specs.Texts.{text_in, value_in}
use Rattle.program_parts.specs.declared.reason.Misfit.{Misfit}
use Rattle.program_parts.specs.declared.reason.Misfit.TheVariants.{Ending, Window, Nodes, Other, Together, Workers}

-- what a program says of its command line
pub record CommandLine : Type 1 where
  -- its options and arguments
  pub form : App
  -- the text of the number of generations that words give, or do not give, is fit
  pub IsFitGeneration : Option Text → Type 0
  -- the name of the file to be read that words give, or do not give, is fit
  pub IsFitInput : Option Text → Type 0
  -- the name of the output that words give, or do not give, is fit
  pub IsFitOutput : Option Text → Type 0
  -- the values of the options that no other program has are fit
  pub AreFitOptions : List Text → Type 0
  -- the text of the window that words give, or do not give, is fit
  pub IsFitWindow : Option Text → Type 0
  -- that text is fit, and there is no such window
  pub IsRefusedWindow : Option Text → Type 0

-- the words have values that are fit: numbers of nodes and of workers, one of generations, a file to
-- be read, an output and a window, if there is one, and those of other options
pub record IsFit (line : CommandLine) (words : List Text) : Type 0 where
  pub limits : AreFitLimits line.form words
  pub generation : line.IsFitGeneration (value_in line.form (codes "generation") words)
  pub file : line.IsFitInput (text_in line.form (codes "file") words)
  pub output : line.IsFitOutput (text_in line.form (codes "output") words)
  pub window : line.IsFitWindow (text_in line.form (codes "window") words)
  pub options : line.AreFitOptions words

-- this value is not fit
abbrev pub IsMisfit : CommandLine → List Text → Misfit → Type 0
IsMisfit line words (Ending endings) =
    line.IsFitOutput (text_in line.form (codes "output") words) → ⊥
IsMisfit line words Window =
    line.IsFitWindow (text_in line.form (codes "window") words) → ⊥
IsMisfit line words Nodes = AreUnfitNodes line.form words
IsMisfit line words Workers = AreUnfitWorkers line.form words
IsMisfit line words (Together options) = line.AreFitOptions words → ⊥
IsMisfit line words Other = IsFit line words → ⊥

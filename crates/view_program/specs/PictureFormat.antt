-- The formats of the pictures that the program writes.
use Rattle.std.specs.Prelude.{◌≡◌, ℕ, nat_eq, true, List, codes}
use Rattle.std.specs.List.{ends_with}
use Rattle.clap.specs.Words.{Text}
use Rattle.png_writer.specs.Picture.{IsPngFile}
use Rattle.view_program.specs.declared.picture_format.ImageFormat.{ImageFormat}
use Rattle.view_program.specs.declared.picture_format.ImageFormat.TheVariants.{Png}

-- how the name of a file ends, and which bytes are the file of a picture with this width and these
-- rows
pub record PictureFormat : Type 1 where
  pub ending : List ℕ
  pub IsFile : ℕ → List (List ℕ) → List ℕ → Type 0

abbrev pub png : PictureFormat
png = record { ending = codes ".png"; IsFile = IsPngFile }

-- the format that is asked for
abbrev pub format_of : ImageFormat → PictureFormat
format_of Png = png

-- a picture with this name has this format
abbrev pub IsFormat : Text → ImageFormat → Type 0
IsFormat name format = ends_with nat_eq name (format_of format).ending ≡ true

-- a picture may have this name
abbrev pub IsFitName : Text → Type 0
IsFitName name = (format : ImageFormat) × IsFormat name format

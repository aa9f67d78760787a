use Rattle.std.proofs.Common.{◌≡◌, refl}
use Rattle.view_program.specs.declared.picture_format.ImageFormat.{ImageFormat}
use Rattle.view_program.specs.declared.picture_format.ImageFormat.TheVariants.{Png}
use Rattle.view_program.proofs.picture_format.write_picture.Goals as goal

-- there is no other format
only : (format : ImageFormat) → format ≡ Png
only Png = refl

pub returns-clause-written : goal.returns-clause-written
returns-clause-written g c = rw (only c.args.format) c.write.ensures.written

-- What a view writes and answers.
use Rattle.std.specs.Prelude.{◌≡◌, ◌⊎◌, ℕ, List, ◌++◌, Result, Err, IfErr, OnOk}
use Rattle.plane.specs.Fault.{placeless}
use Rattle.plane.specs.Plane.{Plane}
use Rattle.plane.specs.SinkChange.{SinkChange, Fails, IsUnfailed, Takes, TakesBeginning}
use Rattle.plane.specs.declared.fault.Fault.{Fault}
use Rattle.plane.specs.declared.refusal.Refusal.TheVariants.{WriteFailed}
use Rattle.engine.specs.Last.{EndsWith}
use Rattle.engine.specs.Refused.{IsRefused}
use Rattle.engine.specs.SummaryLine.{summary_line}
use Rattle.engine.specs.declared.running.Summary.{Summary}
use Rattle.png_writer.specs.Picture.{Picture}
use Rattle.view_program.specs.Drawn.{IsPictureOf}
use Rattle.view_program.specs.PictureFormat.{format_of}
use Rattle.view_program.specs.PictureLine.{picture_line}
use Rattle.view_program.specs.Shown.{rectangle_shown}
use Rattle.view_program.specs.declared.asking.View.{View}

-- a run of these bytes ends with a generation of which this is said, under the name of its picture,
-- and this is the picture
pub record IsDrawn (bytes : List ℕ) (view : View) (name said : List ℕ)
    (picture : Picture) : Type 0 where
  pub plane : Plane
  pub answer : Summary
  pub ends : EndsWith bytes view.run plane answer
  pub shows : IsPictureOf plane (rectangle_shown view.window answer.bounds) view.size picture
  pub lines : said
      ≡ summary_line answer
      ++ picture_line name (rectangle_shown view.window answer.bounds) shows.scale

-- a view ended well: its report took what it says, and its file the file of the picture
abbrev pub HasDrawn : {W V : Type 0} → List ℕ → View → List ℕ → SinkChange W → SinkChange V → Type 0
HasDrawn bytes view name report file =
    (said : List ℕ) × (picture : Picture) × IsDrawn bytes view name said picture × Takes report said
    × ((drawn : List ℕ) × (format_of view.format).IsFile picture.width picture.rows drawn
    × Takes file drawn)

-- a view was refused: its run was, or memory ran out, and nothing was written; or it can be drawn,
-- and a sink failed: that of the report, which took a beginning of what is said, and nothing was
-- written to the file; or that of the file, after the whole report, which took a beginning of
-- the file of the picture
abbrev pub HasNotDrawn : {W V : Type 0} → List ℕ → View → List ℕ → SinkChange W → SinkChange V →
    Fault → Type 0
HasNotDrawn bytes view name report file fault =
    (IsRefused bytes view.run fault × (report.new ≡ report.old) × (file.new ≡ file.old))
    ⊎ ((fault ≡ placeless WriteFailed)
    × ((said : List ℕ) × (picture : Picture) × IsDrawn bytes view name said picture
    × TakesBeginning report said)
    × Fails report × (file.new ≡ file.old))
    ⊎ ((fault ≡ placeless WriteFailed)
    × ((said : List ℕ) × (picture : Picture) × IsDrawn bytes view name said picture
    × Takes report said
    × ((drawn : List ℕ) × (format_of view.format).IsFile picture.width picture.rows drawn
    × TakesBeginning file drawn))
    × IsUnfailed report × Fails file)

-- what a view of these bytes does to its report and to its file, and what it answers
pub record IsView {W V : Type 0} (bytes : List ℕ) (view : View) (name : List ℕ)
    (report : SinkChange W) (file : SinkChange V) (result : Result Unit Fault) : Type 0 where
  -- it writes the two lines and the picture of the cells that the rule, applied that many times,
  -- makes live
  pub finished : OnOk result (HasDrawn bytes view name report file)
  -- no sink failed, or the answer is that one did
  pub unfailed : (result ≡ Err (placeless WriteFailed)) ⊎ (IsUnfailed file × IsUnfailed report)
  -- it refuses what is not accepted, by its name and at its place, and then has written nothing;
  -- and else only where memory ran out or the tables are full, and nothing was written, or where a
  -- sink failed
  pub refused : IfErr result (HasNotDrawn bytes view name report file)

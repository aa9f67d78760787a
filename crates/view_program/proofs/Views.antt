-- How a view ends.
use Rattle.std.proofs.Common.{◌≡◌, ℕ, Option, List, ◌++◌, Ok, Err, refl, ap, inl, inr}
use Rattle.std.specs.Io.KnownBytes.{Appends}
use Rattle.plane.specs.Device.{AppendsBeginning}
use Rattle.plane.proofs.Beginnings.{beginning_of_more, text_and_beginning}
use Rattle.std.proofs.KnownBytes.{Appends-trans}
use Rattle.plane.specs.Fault.{placeless}
use Rattle.plane.specs.Plane.{Plane}
use Rattle.plane.specs.SinkChange.{SinkChange, Fails, IsUnfailed, Takes, TakesBeginning}
use Rattle.plane.specs.declared.cell.Bounds.{Bounds}
use Rattle.plane.specs.declared.fault.Fault.{Fault}
use Rattle.plane.specs.declared.refusal.Refusal.{Refusal}
use Rattle.plane.specs.declared.refusal.Refusal.TheVariants.{NoMemory, WriteFailed}
use Rattle.engine.specs.Last.{EndsWith}
use Rattle.engine.specs.Refused.{IsRefused}
use Rattle.engine.specs.SummaryLine.{summary_line}
use Rattle.engine.specs.declared.running.Summary.{Summary}
use Rattle.png_writer.specs.Picture.{Picture}
use Rattle.view_program.specs.Drawn.{IsPictureOf}
use Rattle.view_program.specs.PictureFormat.{format_of}
use Rattle.view_program.specs.PictureLine.{picture_line}
use Rattle.view_program.specs.Shown.{rectangle_shown}
use Rattle.view_program.specs.View.{IsDrawn, IsView}
use Rattle.view_program.specs.declared.asking.View.{View}

-- a view whose run ends so may be refused since memory ran out
pub out_of_memory : (bytes : List ℕ) (view : View) (plane : Plane) (answer : Summary) → EndsWith bytes view.run plane answer → IsRefused bytes view.run (placeless NoMemory)
unfolding IsRefused
out_of_memory bytes view plane answer ends =
    let start = ends.accepted.0 in inr (inl (refl, inr (ends.start.rule, record { meaning = ends.start.meaning; text = start.text; read = start.rule })))

module _ {W V : Type 0} (bytes : List ℕ) (view : View) (name : List ℕ) (report : SinkChange W) (file : SinkChange V) where
  -- a view that was refused before it has written anything
  pub refused_at_once : (fault : Fault) → report.new ≡ report.old → file.new ≡ file.old → IsRefused bytes view.run fault → IsView bytes view name report file (Err fault)
  refused_at_once fault same same_file refused = record {
    finished = tt;
    unfailed = inr (ap file.failure_count same_file, ap report.failure_count same);
    refused = inl (refused, same, same_file);
  }

  -- a view that has its picture
  module _ (plane : Plane) (answer : Summary) (ends : EndsWith bytes view.run plane answer) (picture : Picture) (shows : IsPictureOf plane (rectangle_shown view.window answer.bounds) view.size picture) where
    abbrev shown : Bounds
    shown = rectangle_shown view.window answer.bounds

    abbrev lines : List ℕ
    lines = summary_line answer ++ picture_line name shown shows.scale

    is_drawn : IsDrawn bytes view name lines picture
    is_drawn = record { plane = plane; answer = answer; ends = ends; shows = shows; lines = refl }

    report_failed : (refusal : Refusal) → refusal ≡ WriteFailed → Fails report → file.new ≡ file.old → TakesBeginning report lines → IsView bytes view name report file (Err (placeless refusal))
    report_failed refusal is failed same_file begun =
        let told = ap placeless is in
        record { finished = tt; unfailed = inl (ap Err told); refused = inr (inl (told, (lines, picture, is_drawn, begun), failed, same_file)) }

    -- and whose report failed in its first line
    pub first_line_failed : (refusal : Refusal) → refusal ≡ WriteFailed → Fails report → file.new ≡ file.old → TakesBeginning report (summary_line answer) → IsView bytes view name report file (Err (placeless refusal))
    first_line_failed refusal is failed same_file begun = report_failed refusal is failed same_file (beginning_of_more (picture_line name shown shows.scale) begun)

    -- and has written its first line
    module _ (between : Option (List ℕ)) (first : Appends (report.taken report.old) between (summary_line answer)) where
      -- and whose report failed in its second
      pub second_line_failed : (refusal : Refusal) → refusal ≡ WriteFailed → Fails report → file.new ≡ file.old →
          AppendsBeginning between (report.taken report.new) (picture_line name shown shows.scale) → IsView bytes view name report file (Err (placeless refusal))
      second_line_failed refusal is failed same_file second = report_failed refusal is failed same_file (text_and_beginning (summary_line answer) first second)

      -- and has written both
      module _ (second : Appends between (report.taken report.new) (picture_line name shown shows.scale)) (unfailed : IsUnfailed report) where
        takes_lines : Takes report lines
        takes_lines = Appends-trans _ _ _ _ _ first second

        -- and whose file failed
        pub file_failed : (refusal : Refusal) → refusal ≡ WriteFailed → Fails file → ((drawn : List ℕ) × (format_of view.format).IsFile picture.width picture.rows drawn × TakesBeginning file drawn) →
            IsView bytes view name report file (Err (placeless refusal))
        file_failed refusal is failed begun =
            let told = ap placeless is in
            record { finished = tt; unfailed = inl (ap Err told); refused = inr (inr (told, (lines, picture, is_drawn, takes_lines, begun), unfailed, failed)) }

        -- and the picture
        pub ends_well : IsUnfailed file → ((drawn : List ℕ) × (format_of view.format).IsFile picture.width picture.rows drawn × Takes file drawn) → IsView bytes view name report file (Ok tt)
        ends_well file_unfailed takes = record {
          finished = (lines, picture, is_drawn, takes_lines, takes);
          unfailed = inr (file_unfailed, unfailed);
          refused = tt;
        }

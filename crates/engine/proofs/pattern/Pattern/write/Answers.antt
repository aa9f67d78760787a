use Rattle.std.proofs.Common.{◌≡◌, None, Some, refl, subst, rules}
use Rattle.std.specs.Prelude.{OnOk}
use Rattle.plane.specs.Plane.{Plane}
use Rattle.pattern_writers.specs.Reading.{IsReadBackFromMc}
use Rattle.pattern_writers.specs.Reading.{IsReadBackFromRle}
use Rattle.pattern_writers.specs.Output.{IfTaken}
use Rattle.engine.specs.Pattern.{plane_of}
use Rattle.engine.proofs.CellsAtRest.{pattern_listed, same_cells, shared_cells, shared_known}
use Rattle.engine.proofs.FileTexts.{mc_refused, mc_written, nothing_written, rle_refused, rle_written}
use Rattle.engine.specs.declared.options.Format.TheVariants.{Macrocell, Rle}
use Rattle.engine.proofs.pattern.Pattern.write.Goals as goal

pub returns-in_ok-shared-in-Some-Rle-clause-written : goal.returns-in_ok-shared-in-Some-Rle-clause-written
returns-in_ok-shared-in-Some-Rle-clause-written g c =
    let asked : c.args.format ≡ Some Rle = search rules in
    let same = shared_cells c.args.self.now.resting.cells c.still-book.result.now c.in_ok-shared-in-Some-Rle.shared c.root-root.result c.in_ok-shared-in-Some-Rle.ensures.ok c.still-book.ensures c.root-root.ensures.root in
    rw asked (rle_written (plane_of c.args.self.now) _ _ _ _ _ _ c.write_rle.result same c.write_rle.ensures.written)

pub returns-in_ok-shared-in-Some-Rle-clause-read_back : goal.returns-in_ok-shared-in-Some-Rle-clause-read_back
returns-in_ok-shared-in-Some-Rle-clause-read_back g c =
    let asked : c.args.format ≡ Some Rle = search rules in
    let same = shared_cells c.args.self.now.resting.cells c.still-book.result.now c.in_ok-shared-in-Some-Rle.shared c.root-root.result c.in_ok-shared-in-Some-Rle.ensures.ok c.still-book.ensures c.root-root.ensures.root in
    rw asked (subst (λ (p : Plane). OnOk c.write_rle.result (IfTaken (g.V.Sink.taken c.args.file.now) (g.V.Sink.taken c.write_rle.new.file) (IsReadBackFromRle p c.args.heading.comments c.args.heading.rule c.args.heading.generation))) same c.write_rle.ensures.read_back)

pub returns-in_ok-shared-in-Some-Rle-clause-unfailed : goal.returns-in_ok-shared-in-Some-Rle-clause-unfailed
returns-in_ok-shared-in-Some-Rle-clause-unfailed g c = c.write_rle.ensures.unfailed

pub returns-in_ok-shared-in-Some-Rle-clause-refused : goal.returns-in_ok-shared-in-Some-Rle-clause-refused
returns-in_ok-shared-in-Some-Rle-clause-refused g c =
    let asked : c.args.format ≡ Some Rle = search rules in
    let same = shared_cells c.args.self.now.resting.cells c.still-book.result.now c.in_ok-shared-in-Some-Rle.shared c.root-root.result c.in_ok-shared-in-Some-Rle.ensures.ok c.still-book.ensures c.root-root.ensures.root in
    rw asked (rle_refused (plane_of c.args.self.now) _ _ _ _ _ g.V.Sink.failure_count _ _ _ c.write_rle.result same c.write_rle.ensures.refused)

pub write_rle-requires-clause-known : goal.write_rle-requires-clause-known
write_rle-requires-clause-known g c =
    λ _ _. shared_known c.args.self.now.resting.cells c.still-book.result.now c.in_ok-shared-in-Some-Rle.shared c.root-root.result c.in_ok-shared-in-Some-Rle.ensures.ok c.still-book.ensures c.root-root.ensures.known

pub returns-in-Some-Macrocell-clause-written : goal.returns-in-Some-Macrocell-clause-written
returns-in-Some-Macrocell-clause-written g c =
    let asked : c.args.format ≡ Some Macrocell = search rules in
    let same = same_cells c.args.self.now.resting.cells c.still-book.result.now c.root-root.result c.still-book.ensures c.root-root.ensures.root in
    rw asked (mc_written (plane_of c.args.self.now) _ _ _ _ _ (pattern_listed c.args.self.now) _ c.write_mc.result same c.write_mc.ensures.written)

pub returns-in-Some-Macrocell-clause-read_back : goal.returns-in-Some-Macrocell-clause-read_back
returns-in-Some-Macrocell-clause-read_back g c =
    let asked : c.args.format ≡ Some Macrocell = search rules in
    let same = same_cells c.args.self.now.resting.cells c.still-book.result.now c.root-root.result c.still-book.ensures c.root-root.ensures.root in
    rw asked (subst (λ (p : Plane). OnOk c.write_mc.result (IfTaken (g.V.Sink.taken c.args.file.now) (g.V.Sink.taken c.write_mc.new.file) (IsReadBackFromMc p c.args.heading.comments c.args.heading.rule c.args.heading.generation))) same c.write_mc.ensures.read_back)

pub returns-in-Some-Macrocell-clause-refused : goal.returns-in-Some-Macrocell-clause-refused
returns-in-Some-Macrocell-clause-refused g c =
    let asked : c.args.format ≡ Some Macrocell = search rules in
    let same = same_cells c.args.self.now.resting.cells c.still-book.result.now c.root-root.result c.still-book.ensures c.root-root.ensures.root in
    rw asked (mc_refused (plane_of c.args.self.now) _ _ _ _ _ (pattern_listed c.args.self.now) g.V.Sink.failure_count _ _ _ c.write_mc.result same c.write_mc.ensures.refused)

pub returns-in-None-clause-written : goal.returns-in-None-clause-written
returns-in-None-clause-written g c =
    let asked : c.args.format ≡ None = search rules in
    rw asked (nothing_written (plane_of c.args.self.now) _ _ _ _ _ (pattern_listed c.args.self.now) refl)

use Rattle.std.proofs.Common.{◌^◌, ℕ, subst}
use Rattle.node_table.specs.Stills.{book_in, key_of}
use Rattle.node_table.specs.declared.still.Still.{Still}
use Rattle.node_sweep.specs.CopiedStills.{CopiesStill, IsResized}
use Rattle.squares.specs.declared.sq.Sq.{Sq}
use Rattle.universe.specs.Cells.{root_of, still_of}
use Rattle.universe.proofs.Halves.{found_ok}
use Rattle.universe.proofs.Staying.{shown_cells}
use Rattle.universe.proofs.rooted_still.RootedStill.copy.Goals as goal

pub returns-in-Some : goal.returns-in-Some
returns-in-Some c =
    let still = still_of c.args.self.now in
    let root = root_of c.args.self.now in
    let pairs = 2 ^ c.args.planned.blank.key.shape.bits in
    let made = c.copy-made in
    let found = c.in_ok-still.ensures.some in
    let copied = found_ok (λ (m : Still × Sq). CopiesStill still root pairs m.0 m.1) made.result found c.in-Some.is made.ensures.ok in
    record {
      cells = shown_cells (book_in still) (book_in c.in-Some.still) root c.in-Some.root copied.copied_root.shown;
      resized = subst (λ (n : ℕ). IsResized (key_of still) (key_of c.in-Some.still) n) c.requires.resized.pair_count copied.all.resized;
    }

use Rattle.std.proofs.Common.{ℕ, List, [], ◌∷◌, get_or}
use Rattle.leaf_kernels.specs.Generation.{AreNext}
use Rattle.leaf_kernels.proofs.Stacked.{above, below, each_of_sixteen, next_stack}
use Rattle.leaf_kernels.proofs.generation.advance.Goals as goal

pub returns : goal.returns
returns g c =
    let vectors = c.args.rows.now in
    let rule = g.N.NextCells.rule c.args.kernel.now in
    let over = above vectors c.from_lane_before.result c.from_lane_behind.result c.from_lane_before.ensures c.from_lane_behind.ensures in
    let under = below vectors c.from_lane_before.result c.from_lane_behind.result c.from_lane_before.ensures c.from_lane_behind.ensures in
    let results : List (List ℕ) = c.next_cells.result ∷ c.next_cells-2.result ∷ c.next_cells-3.result ∷ c.next_cells-4.result ∷ c.next_cells-5.result ∷ c.next_cells-6.result ∷ c.next_cells-7.result ∷ c.next_cells-8.result
    ∷ c.next_cells-9.result ∷ c.next_cells-10.result ∷ c.next_cells-11.result ∷ c.next_cells-12.result ∷ c.next_cells-13.result ∷ c.next_cells-14.result ∷ c.next_cells-15.result ∷ c.next_cells-16.result ∷ [] in
    next_stack c.args.rows.now c.from_lane_before.result c.from_lane_behind.result c.from_lane_before.ensures c.from_lane_behind.ensures
    rule results
    (each_of_sixteen (λ j. AreNext rule (over j) (get_or vectors j []) (under j) (get_or results j []))
    c.next_cells.ensures c.next_cells-2.ensures c.next_cells-3.ensures c.next_cells-4.ensures c.next_cells-5.ensures c.next_cells-6.ensures c.next_cells-7.ensures c.next_cells-8.ensures
    c.next_cells-9.ensures c.next_cells-10.ensures c.next_cells-11.ensures c.next_cells-12.ensures c.next_cells-13.ensures c.next_cells-14.ensures c.next_cells-15.ensures c.next_cells-16.ensures)

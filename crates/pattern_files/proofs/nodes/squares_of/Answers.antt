use Rattle.std.proofs.Common.{◌≡◌, [], ◌∷◌, ◌++◌, List, map, rules, subst, sym}
use Rattle.macrocell_reader.specs.Nodes.{WrittenNode}
use Rattle.macrocell_reader.specs.Seen.{written_seen}
use Rattle.macrocell_reader.specs.Nodes.{level_of}
use Rattle.macrocell_reader.specs.Planes.{node_plane}
use Rattle.squares.specs.Book.{Shows}
use Rattle.squares.proofs.Kept.{keeps_trans, results_trans}
use Rattle.squares.specs.declared.sq.Sq.{Sq}
use Rattle.pattern_files.specs.NodeSquares.{shown_planes}
use Rattle.pattern_files.proofs.NodeSquares.{HaveRead, next_read}
use Rattle.pattern_files.proofs.nodes.squares_of.Goals as goal

pub loop-line-preserved : goal.loop-line-preserved
loop-line-preserved g c =
    let old = g.S.Squares.book c.loop-line.book in
    let new = g.S.Squares.book c.node_square.new.book in
    let all = map (λ (line : WrittenNode). line.node) c.into_iter-line-iterator.result in
    let step : c.loop-line.line-iterator ≡ written_seen c.in-Some.line ∷ c.next.new.self = search rules in
    let read = subst (λ (l : List WrittenNode). HaveRead old all (map (λ line. line.node) l) c.loop-line.squares.items) step c.loop-line.invariant.read in
    let pushed : c.push.new.self.items ≡ c.loop-line.squares.items ++ c.in_ok-sq.sq ∷ [] = search rules in
    let shows = subst (λ (sqs : List Sq). Shows new (level_of c.in-Some.line.node) (node_plane (shown_planes old sqs) c.in-Some.line.node) c.in_ok-sq.sq) c.as_slice.ensures.value c.in_ok-sq.ensures.ok in
    record {
      read = subst (λ (sqs : List Sq). HaveRead new all (map (λ line. line.node) c.next.new.self) sqs) (sym pushed)
          (next_read old new all (map (λ line. line.node) c.next.new.self) c.in-Some.line.node c.loop-line.squares.items c.in_ok-sq.sq c.node_square.ensures.adds.keeps read shows);
      keeps = keeps_trans c.loop-line.invariant.keeps c.node_square.ensures.adds.keeps;
      results = results_trans c.loop-line.invariant.results c.node_square.ensures.adds.results;
    }

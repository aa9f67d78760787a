use Rattle.std.proofs.Common.{◌≡◌, ◌<◌, ◌-◌, length, take, drop, arith}
use Rattle.std.proofs.lemmas.Bool.Decides.{nat_tests}
use Rattle.std.proofs.lemmas.List.{take_rest}
use Rattle.text_lines.proofs.LineLemmas.{lines_at-nil, lines_at-first}
use Rattle.text_lines.proofs.lines.Lines.next_line.Goals as goal

pub returns-then-is_empty-clause-line : goal.returns-then-is_empty-clause-line
returns-then-is_empty-clause-line c =
    let source = c.args.self.now.source.now in
    let at = c.args.self.now.at in
    let empty : length (take (length source - at) (drop at source)) ≡ 0 = grind (arith, nat_tests) in
    lines_at-nil source (take (length source - at) (drop at source)) at (take_rest source at) empty

pub returns-clause-line : goal.returns-clause-line
returns-clause-line c =
    let source = c.args.self.now.source.now in
    let at = c.args.self.now.at in
    let some : 0 < length (take (length source - at) (drop at source)) = grind (arith, nat_tests) in
    lines_at-first source (take (length source - at) (drop at source)) c.without_return.result.now
    at c.line_length-length.result c.min.result (take_rest source at)
    some c.line_length-length.ensures.value c.line_length-length.ensures.within c.min.ensures c.without_return.ensures

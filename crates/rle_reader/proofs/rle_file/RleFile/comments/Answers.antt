use Rattle.std.proofs.Common.{take, ap, sym, ◌∙◌}
use Rattle.std.proofs.lemmas.List.{length-take-le}
use Rattle.text_lines.specs.Comments.{comments_of}
use Rattle.text_lines.specs.Lines.{lines_from}
use Rattle.rle_reader.specs.Meaning.{Meaning, meaning_of}
use Rattle.rle_reader.specs.Seen.{preamble_meaning}
use Rattle.rle_reader.proofs.HeaderPlace.{header_within, lines_before_header}
use Rattle.rle_reader.proofs.rle_file.RleFile.comments.Goals as goal

pub slice_bounds-before_header-end : goal.slice_bounds-before_header-end
slice_bounds-before_header-end c =
    let source = c.self.inside.source.now in
    sym (length-take-le c.self.inside.preamble.header source (header_within source (preamble_meaning source c.self.inside.preamble) c.self.invariant.3))

pub returns : goal.returns
unfolding meaning_of
returns c =
    let source = c.self.inside.source.now in
    let front = take c.self.inside.preamble.header source in
    c.new-2.ensures
    ∙ ap (λ text. comments_of (lines_from text c.new.result.at)) c.new.ensures.source
    ∙ ap (λ at. comments_of (lines_from front at)) c.new.ensures.start
    ∙ ap comments_of (lines_before_header source (preamble_meaning source c.self.inside.preamble) c.self.invariant.3)
    ∙ ap (λ (meaning : Meaning). meaning.comments) c.self.view_is

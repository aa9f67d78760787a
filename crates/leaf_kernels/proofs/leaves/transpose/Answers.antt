use Rattle.std.proofs.Common.{◌∙◌, ap, get_or}
use Rattle.plane.specs.Square.{bit}
use Rattle.plane.proofs.WordBytes.{bit-byte}
use Rattle.leaf_kernels.proofs.leaves.transpose.Goals as goal

pub returns : goal.returns
returns c column place row g h k =
    c.words_of_bytes.ensures column place row g h k ∙ ap (λ n. bit n place) (c.interleave.ensures column row g k ∙ c.bytes_of_words.ensures column row g k)
    ∙ bit-byte (get_or c.args.words column 0) row place h

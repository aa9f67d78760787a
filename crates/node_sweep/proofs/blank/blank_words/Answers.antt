use Rattle.std.proofs.Common.{◌≡◌, ℕ, List, ap}
use Rattle.std.specs.Prelude.{replicate, slice_set}
use Rattle.node_sweep.proofs.Begun.{blank}
use Rattle.node_sweep.proofs.blank.blank_words.Goals as goal

pub returns : goal.returns
returns c =
    let zeros : c.in_ok-words.words.items ≡ replicate c.word_count.result 0 = c.in_ok-words.ensures.items_if_clones_equal (λ y same. same) in
    blank c.args.key.now _ c.word_count.result c.head.result (ap (λ (ws : List ℕ). slice_set ws 0 c.head.result) zeros) c.word_count.ensures c.head.ensures c.head.type_inv

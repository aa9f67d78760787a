use Rattle.std.proofs.Common.{◌≡◌, ℕ, suc, sym, subst, arith, length}
use Rattle.table_core.specs.Layout.{first_part, size}
use Rattle.node_table.specs.StillWords.{AreParts}
use Rattle.node_table.proofs.StillReading.{number_in, pair_parts, zero_parts}
use Rattle.node_table.proofs.look.read_pair.Goals as goal

pub returns-then-number-eq0 : goal.returns-then-number-eq0
returns-then-number-eq0 g c = zero_parts (g.W.StillWords.good c.args.still.now) c.args.number c.if-number-eq0.true

pub word-requires : goal.word-requires
word-requires g c =
    let s = g.W.StillWords.good c.args.still.now in
    let inside = number_in s (suc c.requires.0) c.args.number c.if-number-eq0.false c.requires.1 in
    let long : length s.words ≡ size s.key.shape.bits = s.good.long in
    omega (arith, inside, long)

pub returns : goal.returns
returns g c =
    let s = g.W.StillWords.good c.args.still.now in
    let number = c.args.number in
    subst (λ (first : ℕ). AreParts s number first c.parts.result.1) (sym c.parts.ensures.first)
    (subst (λ (second : ℕ). AreParts s number (first_part c.word.result) second) (sym c.parts.ensures.second)
    (pair_parts s number c.word.result c.if-number-eq0.false c.word.ensures))

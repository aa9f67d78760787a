use Rattle.std.proofs.Common.{◌+◌, ◌∙◌, arith, sym, subst}
use Rattle.node_table.specs.declared.at.At.{At}
use Rattle.node_table.proofs.Searching.{Sought, all_sought, sought_start, still_learns, still_sought, is_number, goes_on, may_claim, other_met, left_word, left_other}
use Rattle.node_table.proofs.Working.{in_words}
use Rattle.node_table.proofs.at.At.number.Goals.{then-found-eq0+else-found-eq0-2+else-found-word-2, else-found-eq0}
use Rattle.node_table.proofs.at.At.number.Goals as goal

pub claim-found-requires-clause-lawful : goal.claim-found-requires-clause-lawful
claim-found-requires-clause-lawful c =
    may_claim c.loop-place.invariant.sought c.way_index-index.ensures.index c.look-found.ensures.here c.look-found.ensures.met.grows c.look-found.ensures.met.learns c.requires.some c.ranges.word.fits (let short = c.loop-place-test.true in omega arith) c.requires.parts

pub returns-then-found-eq0-2-clause-some : goal.returns-then-found-eq0-2-clause-some
returns-then-found-eq0-2-clause-some c =
    let sought = still_sought c.loop-place.invariant.sought c.way_index-index.ensures.index c.look-found.ensures.here c.look-found.ensures.met.grows c.look-found.ensures.met.learns in
    is_number sought c.way_index-index.ensures.index c.claim-found.ensures.here c.claim-found.ensures.met.grows c.claim-found.ensures.met.learns c.requires.some (left_word c.claim-found.result c.args.word c.then-found-eq0-2.either)

pub loop-place-preserved : goal.loop-place-preserved
loop-place-preserved c =
    let place = c.loop-place.place in
    elim c.if-found-eq0.branch [
      | then-found-eq0+else-found-eq0-2+else-found-word-2 w ↦ record {
        sought = subst (λ (at : At). Sought c.args.self.now at c.args.kind c.args.word (place + 1)) (sym w.self-is)
            (goes_on (still_sought c.loop-place.invariant.sought c.way_index-index.ensures.index c.look-found.ensures.here c.look-found.ensures.met.grows c.look-found.ensures.met.learns)
            c.way_index-index.ensures.index w.claim-found.ensures.here w.claim-found.ensures.met.grows w.claim-found.ensures.met.learns
            (λ e. w.if-found-eq0-2.false (sym (left_other w.claim-found.result c.args.word w.if-found-eq0-2.false) ∙ e))
            (λ e. w.if-found-word-2.false (sym (left_other w.claim-found.result c.args.word w.if-found-eq0-2.false) ∙ e)));
      }
      | else-found-eq0 w ↦ record {
        sought = subst (λ (at : At). Sought c.args.self.now at c.args.kind c.args.word (place + 1)) (sym w.self-is)
            (goes_on c.loop-place.invariant.sought c.way_index-index.ensures.index c.look-found.ensures.here c.look-found.ensures.met.grows c.look-found.ensures.met.learns w.if-found-eq0.false c.if-found-word.false);
      }
    ]

pub returns-then-found-word-clause-learns : goal.returns-then-found-word-clause-learns
returns-then-found-word-clause-learns c = still_learns c.loop-place.invariant.sought c.way_index-index.ensures.index c.look-found.ensures.here c.look-found.ensures.met.grows c.look-found.ensures.met.learns

pub returns-then-found-word-clause-some : goal.returns-then-found-word-clause-some
returns-then-found-word-clause-some c = is_number c.loop-place.invariant.sought c.way_index-index.ensures.index c.look-found.ensures.here c.look-found.ensures.met.grows c.look-found.ensures.met.learns c.requires.some c.if-found-word.true

pub returns-then-found-eq0-2-clause-learns : goal.returns-then-found-eq0-2-clause-learns
returns-then-found-eq0-2-clause-learns c =
    let sought = still_sought c.loop-place.invariant.sought c.way_index-index.ensures.index c.look-found.ensures.here c.look-found.ensures.met.grows c.look-found.ensures.met.learns in
    still_learns sought c.way_index-index.ensures.index c.claim-found.ensures.here c.claim-found.ensures.met.grows c.claim-found.ensures.met.learns

pub returns-clause-none : goal.returns-clause-none
returns-clause-none c = all_sought c.requires.some (let far = c.loop-place-test.false in omega arith) c.loop-place.invariant.sought

pub loop-place-init : goal.loop-place-init
loop-place-init c = record { sought = sought_start c.args.self.now c.args.kind c.args.word }

pub look-found-requires : goal.look-found-requires
look-found-requires c = in_words c.loop-place.invariant.sought.learns.here c.way_index-index.ensures.range

pub claim-found-requires-clause-range : goal.claim-found-requires-clause-range
claim-found-requires-clause-range c =
    in_words (still_learns c.loop-place.invariant.sought c.way_index-index.ensures.index c.look-found.ensures.here c.look-found.ensures.met.grows c.look-found.ensures.met.learns).here c.way_index-index.ensures.range

pub returns-then-found-word-clause-refused : goal.returns-then-found-word-clause-refused
returns-then-found-word-clause-refused c = λ room.
    absurd ((other_met c.loop-place.invariant.sought c.way_index-index.ensures.index c.look-found.ensures.here c.look-found.ensures.met.grows c.look-found.ensures.met.learns room.way (let short = c.loop-place-test.true in omega arith)).1 c.if-found-word.true)

pub returns-then-found-eq0-2-clause-refused : goal.returns-then-found-eq0-2-clause-refused
returns-then-found-eq0-2-clause-refused c = λ room.
    absurd ((other_met c.loop-place.invariant.sought c.way_index-index.ensures.index c.look-found.ensures.here c.look-found.ensures.met.grows c.look-found.ensures.met.learns room.way (let short = c.loop-place-test.true in omega arith)).0 c.if-found-eq0.true)

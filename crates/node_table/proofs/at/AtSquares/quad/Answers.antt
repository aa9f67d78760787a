use Rattle.std.proofs.Common.{◌≡◌, ◌∙◌, ℕ, length, rules, ap, refl, subst, sym}
use Rattle.std.specs.Prelude.{Result, Ok, Err, is_ok}
use Rattle.std.proofs.lemmas.Bool.{false≢true}
use Rattle.std.proofs.lemmas.Result.{IfOk-from_err, IfOk-weaker, on_err_weaker}
use Rattle.plane.specs.declared.refusal.Refusal.{Refusal}
use Rattle.squares.specs.Book.{IsEmpty, MayRefuse}
use Rattle.squares.proofs.PlainQuads.{all_four}
use Rattle.squares.proofs.Kept.{known_kept}
use Rattle.table_core.specs.declared.shape.Kind.TheVariants.{Pair}
use Rattle.table_core.specs.Layout.{pair_of}
use Rattle.table_core.proofs.Knowing.{grows_refl}
use Rattle.node_table.specs.declared.halves.Half.{Half}
use Rattle.node_table.specs.DesksAtWork.{book_here}
use Rattle.node_table.specs.Refusals.{HasNoRoom, known_by}
use Rattle.node_table.proofs.Working.{book_kept, goes_on_here, learns_trans, no_room_later, squares_added}
use Rattle.plane.proofs.SentErrors.{sent_on}
use Rattle.node_table.proofs.Refusing.{lacks, on_err, no_upper_half, no_lower_half, no_whole}
use Rattle.node_table.proofs.TwoHalves.{beside, half_before, half_kept, half_of, joined_earlier, joined_of, make_square, same_half}
use Rattle.node_table.proofs.at.AtSquares.quad.Goals.{Start}
use Rattle.node_table.proofs.at.AtSquares.quad.Goals as goal

four_there : (c : Start) → length c.args.quarters ≡ 4
four_there c = search rules

pub half-requires : goal.half-requires
half-requires c =
    let four = all_four _ c.args.quarters (four_there (goal.at.half-requires c).Start) c.requires.known in
    beside c.requires.level four.nw four.ne

pub half-requires-2 : goal.half-requires-2
half-requires-2 c =
    let four = all_four _ c.args.quarters (four_there (goal.at.half-requires-2 c).Start) c.requires.known in
    let keeps = book_kept c.half.ensures.learns in
    beside c.requires.level (known_kept keeps four.sw) (known_kept keeps four.se)

pub whole-requires : goal.whole-requires
whole-requires c =
    let four = all_four _ c.args.quarters (four_there (goal.at.whole-requires c).Start) c.requires.known in
    make_square c.requires.level (half_kept c.half-2.ensures.learns (half_of refl c.in_ok-upper.ensures.ok)) (half_of four.sw.at_level c.in_ok-lower.ensures.ok)

pub returns-clause-ok : goal.returns-clause-ok
returns-clause-ok c =
    let four = all_four _ c.args.quarters (four_there (goal.at.returns-clause-ok c).Start) c.requires.known in
    let keeps = book_kept (learns_trans c.half.ensures.learns c.half-2.ensures.learns) in
    let upper = c.in_ok-upper.ensures.ok in let lower = c.in_ok-lower.ensures.ok in
    IfOk-weaker c.whole.result _ _
    (λ sq is. joined_earlier keeps four.nw four.ne four.sw four.se (joined_of (book_here c.half-2.new.self) (book_here c.whole.new.self) c.in_ok-upper.upper c.in_ok-lower.lower sq upper.left upper.right lower.left lower.right is))
    c.whole.ensures.ok

pub returns-in_err-upper-clause-adds : goal.returns-in_err-upper-clause-adds
returns-in_err-upper-clause-adds c = squares_added c.half.ensures.learns

pub returns-in_err-lower-clause-adds : goal.returns-in_err-lower-clause-adds
returns-in_err-lower-clause-adds c = squares_added (learns_trans c.half.ensures.learns c.half-2.ensures.learns)

pub returns-clause-adds : goal.returns-clause-adds
returns-clause-adds c = squares_added (learns_trans c.half.ensures.learns (learns_trans c.half-2.ensures.learns c.whole.ensures.learns))

pub returns-in_err-upper-clause-full : goal.returns-in_err-upper-clause-full
returns-in_err-upper-clause-full c =
    on_err c.from_residual.result (no_upper_half c.half.new.self.table.now c.args.self.now.desk c.half.new.self.desk c.args.quarters c.in_err-upper.ensures.full)

pub returns-in_err-lower-clause-full : goal.returns-in_err-lower-clause-full
returns-in_err-lower-clause-full c =
    on_err c.from_residual-in_err-lower.result (no_lower_half c.half-2.new.self.table.now c.args.self.now.desk c.half-2.new.self.desk c.args.quarters c.in_err-lower.ensures.full)

pub returns-clause-full : goal.returns-clause-full
returns-clause-full c =
    let four = all_four _ c.args.quarters (four_there (goal.at.returns-clause-full c).Start) c.requires.known in
    let upper = c.in_ok-upper.ensures.ok in let lower = c.in_ok-lower.ensures.ok in
    let both = learns_trans c.half.ensures.learns c.half-2.ensures.learns in
    let later = c.whole.ensures.learns.grows in
    on_err_weaker c.whole.result (no_whole c.whole.new.self.table.now c.args.self.now.desk c.whole.new.self.desk c.args.quarters c.in_ok-upper.upper.number c.in_ok-lower.lower.number
    (half_before c.whole.new.self both later four.nw four.ne upper.left upper.right (half_kept c.half-2.ensures.learns (half_of refl upper)))
    (half_before c.whole.new.self both later four.sw four.se lower.left lower.right (half_of four.sw.at_level lower)))
    c.whole.ensures.full

pub returns-clause-refused : goal.returns-clause-refused
returns-clause-refused c =
    let at = c.args.self.now in
    let new = c.half-2.new.self in
    let four = all_four _ c.args.quarters (four_there (goal.at.returns-clause-refused c).Start) c.requires.known in
    let upper = c.in_ok-upper.ensures.ok in let lower = c.in_ok-lower.ensures.ok in
    let both = learns_trans c.half.ensures.learns c.half-2.ensures.learns in
    lacks at.table.now at.desk at.desk c.args.quarters
    (λ room. absurd (false≢true (c.in_ok-upper.ensures.refused room)))
    (λ room. absurd (false≢true (c.in_ok-lower.ensures.refused (no_room_later c.half.ensures.learns room))))
    (λ one other top bottom room.
    let e = same_half _ _ both top (half_before new both (grows_refl (known_by new.desk)) four.nw four.ne upper.left upper.right (half_kept c.half-2.ensures.learns (half_of refl upper))) in
    let f = same_half _ _ both bottom (half_before new both (grows_refl (known_by new.desk)) four.sw four.se lower.left lower.right (half_of four.sw.at_level lower)) in
    c.whole.ensures.refused (subst (λ (n : ℕ × ℕ). HasNoRoom new.table.now new.desk Pair (pair_of n.0 n.1)) (λ i. (e i, f i)) (no_room_later both room)))

pub returns-in_err-lower-clause-grows : goal.returns-in_err-lower-clause-grows
returns-in_err-lower-clause-grows c = goes_on_here (learns_trans c.half.ensures.learns c.half-2.ensures.learns)

pub returns-clause-grows : goal.returns-clause-grows
returns-clause-grows c = goes_on_here (learns_trans c.half.ensures.learns (learns_trans c.half-2.ensures.learns c.whole.ensures.learns))

pub returns-in_err-upper-clause-ok : goal.returns-in_err-upper-clause-ok
returns-in_err-upper-clause-ok c = IfOk-from_err c.from_residual.result _ c.from_residual.ensures.0

pub returns-in_err-upper-clause-empty : goal.returns-in_err-upper-clause-empty
returns-in_err-upper-clause-empty c = λ empty.
    let four = all_four IsEmpty c.args.quarters (four_there (goal.at.returns-in_err-upper-clause-empty c).Start) empty in
    absurd (false≢true (ap is_ok (sym c.in_err-upper.was ∙ c.half.ensures.empty four.nw four.ne)))

pub returns-in_err-upper-clause-refusal : goal.returns-in_err-upper-clause-refusal
returns-in_err-upper-clause-refusal c =
    sent_on (MayRefuse (book_here c.half.new.self)) c.from_residual.result c.in_err-upper.field-0.0 c.from_residual.ensures.1 c.in_err-upper.ensures.refusal

pub returns-in_err-upper-clause-refused : goal.returns-in_err-upper-clause-refused
returns-in_err-upper-clause-refused c = λ room. c.from_residual.ensures.0

pub returns-in_err-upper-clause-grows : goal.returns-in_err-upper-clause-grows
returns-in_err-upper-clause-grows c = goes_on_here c.half.ensures.learns

pub returns-in_err-lower-clause-ok : goal.returns-in_err-lower-clause-ok
returns-in_err-lower-clause-ok c = IfOk-from_err c.from_residual-in_err-lower.result _ c.from_residual-in_err-lower.ensures.0

pub returns-in_err-lower-clause-empty : goal.returns-in_err-lower-clause-empty
returns-in_err-lower-clause-empty c = λ empty.
    let four = all_four IsEmpty c.args.quarters (four_there (goal.at.returns-in_err-lower-clause-empty c).Start) empty in
    absurd (false≢true (ap is_ok (sym c.in_err-lower.was ∙ c.half-2.ensures.empty four.sw four.se)))

pub returns-in_err-lower-clause-refusal : goal.returns-in_err-lower-clause-refusal
returns-in_err-lower-clause-refusal c =
    sent_on (MayRefuse (book_here c.half-2.new.self)) c.from_residual-in_err-lower.result c.in_err-lower.field-0.0 c.from_residual-in_err-lower.ensures.1 c.in_err-lower.ensures.refusal

pub returns-in_err-lower-clause-refused : goal.returns-in_err-lower-clause-refused
returns-in_err-lower-clause-refused c = λ room. c.from_residual-in_err-lower.ensures.0

abbrev number_of : Result Half Refusal → ℕ
number_of (Ok half) = half.number
number_of (Err refusal) = 0

pub returns-clause-empty : goal.returns-clause-empty
returns-clause-empty c = λ empty.
    let four = all_four IsEmpty c.args.quarters (four_there (goal.at.returns-clause-empty c).Start) empty in
    c.whole.ensures.empty
    (ap number_of (sym c.in_ok-upper.was ∙ c.half.ensures.empty four.nw four.ne))
    (ap number_of (sym c.in_ok-lower.was ∙ c.half-2.ensures.empty four.sw four.se))

pub returns-clause-refusal : goal.returns-clause-refusal
returns-clause-refusal c = c.whole.ensures.refusal

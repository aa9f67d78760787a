-- Cells that are chosen by other cells, and by the digits of a number at each cell.
use mir.Syntax.{Width}
use mir.Val.{bits}
use Rattle.std.proofs.Common.{◌≡◌, ℕ, ◌+◌, ◌*◌, ◌-◌, ◌^◌, ◌≤◌, ℤ, Bool, true, false, cond, List, length, replicate, refl, inl, inr, ◌⊎◌, sym, ◌∙◌, ap, subst, arith, bit_and, w64}
use Rattle.std.specs.Prelude.{bit_xor, ◌&&◌}
use lib.Lanes.{zip2}
use Rattle.rule_text.specs.CountRule.{CountRule, lives}
use Rattle.plane.specs.Square.{spans}
use Rattle.leaf_kernels.specs.Choices.{IsChoice, all_cells, between, differ}
use Rattle.leaf_kernels.specs.declared.choice.Choice.{Choice}
use Rattle.leaf_kernels.specs.Rows.{HasCells, cells_of_rows, four_rows_plane}
use Rattle.leaf_kernels.specs.Sums.{number}
use Rattle.plane.proofs.WordBits as Word
use Rattle.leaf_kernels.proofs.Lanes.{zip_length, cells-and, cells-xor, cells-all, cells-none}

-- all cells or none, by a word
every_cell : (x lane : ℤ) → four_rows_plane (replicate 4 (2 ^ 64 - 1)) x lane ≡ ((spans 64 x && spans 4 lane) && true)
every_cell x lane = cells-all w64 4 x lane ∙ and_true (spans 64 x && spans 4 lane)
  where
    and_true : (g : Bool) → g ≡ (g && true)
    and_true true = refl
    and_true false = refl

no_cell : (x lane : ℤ) → four_rows_plane (replicate 4 0) x lane ≡ ((spans 64 x && spans 4 lane) && false)
no_cell x lane = cells-none w64 4 x lane ∙ and_false (spans 64 x && spans 4 lane)
  where
    and_false : (g : Bool) → false ≡ (g && false)
    and_false true = refl
    and_false false = refl

pub all_or_none : (word : ℕ) (live : Bool) → ((live ≡ true) × (word ≡ 2 ^ 64 - 1)) ⊎ ((live ≡ false) × (word ≡ 0)) →
    (x lane : ℤ) → four_rows_plane (replicate 4 word) x lane ≡ all_cells live x lane
all_or_none word live (inl all) x lane = ap (λ w. four_rows_plane (replicate 4 w) x lane) all.1 ∙ every_cell x lane ∙ ap (λ b. all_cells b x lane) (sym all.0)
all_or_none word live (inr none) x lane = ap (λ w. four_rows_plane (replicate 4 w) x lane) none.1 ∙ no_cell x lane ∙ ap (λ b. all_cells b x lane) (sym none.0)

selected : (b one other : Bool) → Word.differ one (b && differ one other) ≡ cond b other one
selected true true true = refl
selected true true false = refl
selected true false true = refl
selected true false false = refl
selected false true other = refl
selected false false other = refl

-- the one's cells where a bit is dead, the other's where it is live
pub selected_cells : (w : Width) (n : ℕ) (b dead difference : List ℕ) → length b ≡ n → length dead ≡ n → length difference ≡ n → (x y : ℤ) (one other : Bool) →
    cells_of_rows (bits w) n dead x y ≡ one → cells_of_rows (bits w) n difference x y ≡ differ one other →
    cells_of_rows (bits w) n (zip2 bit_xor dead (zip2 bit_and b difference)) x y ≡ cond (cells_of_rows (bits w) n b x y) other one
selected_cells w n b dead difference lb ld lf x y one other is_dead is_difference =
    cells-xor w n dead (zip2 bit_and b difference) ld (zip_length w n bit_and b difference lb lf) x y
    ∙ ap (λ t. Word.differ t (cells_of_rows (bits w) n (zip2 bit_and b difference) x y)) is_dead
    ∙ ap (λ t. Word.differ one t) (cells-and w n b difference lb lf x y ∙ ap (λ t. cells_of_rows (bits w) n b x y && t) is_difference)
    ∙ selected (cells_of_rows (bits w) n b x y) one other

-- what differs, chosen
pub cond_differ : (b p q r s : Bool) → cond b (differ p q) (differ r s) ≡ differ (cond b p r) (cond b q s)
cond_differ true p q r s = refl
cond_differ false p q r s = refl

pub cond_alike : (b p q r s : Bool) → p ≡ r → q ≡ s → cond b p q ≡ cond b r s
cond_alike true p q r s h k = h
cond_alike false p q r s h k = k

pub differ_again : (p q : Bool) → q ≡ differ p (differ p q)
differ_again true true = refl
differ_again true false = refl
differ_again false true = refl
differ_again false false = refl

-- the answer to a number below 8, by its digits
abbrev pub below_eight : (ℕ → Bool) → Bool → Bool → Bool → Bool
below_eight f one two four = cond four (cond two (cond one (f 7) (f 6)) (cond one (f 5) (f 4))) (cond two (cond one (f 3) (f 2)) (cond one (f 1) (f 0)))

-- a choice by the digits of a number that is at most 8
pub chosen_by_digits : (f : ℕ → Bool) (one two four eight : Bool) → number one + 2 * number two + 4 * number four + 8 * number eight ≤ 8 →
    cond eight (differ (below_eight f one two four) (between f 0 8)) (below_eight f one two four) ≡ f (number one + 2 * number two + 4 * number four + 8 * number eight)
chosen_by_digits f true true true true h = absurd (omega arith)
chosen_by_digits f true true false true h = absurd (omega arith)
chosen_by_digits f true false true true h = absurd (omega arith)
chosen_by_digits f true false false true h = absurd (omega arith)
chosen_by_digits f false true true true h = absurd (omega arith)
chosen_by_digits f false true false true h = absurd (omega arith)
chosen_by_digits f false false true true h = absurd (omega arith)
chosen_by_digits f false false false true h = sym (differ_again (f 0) (f 8))
chosen_by_digits f true true true false h = refl
chosen_by_digits f true true false false h = refl
chosen_by_digits f true false true false h = refl
chosen_by_digits f true false false false h = refl
chosen_by_digits f false true true false h = refl
chosen_by_digits f false true false false h = refl
chosen_by_digits f false false true false h = refl
chosen_by_digits f false false false false h = refl

differ_alike : (p q r s : Bool) → p ≡ r → q ≡ s → differ p q ≡ differ r s
differ_alike p q r s h k = ap (λ t. differ t q) h ∙ ap (λ t. differ r t) k

shows_same : (rows : List ℕ) (p q : Bool) → p ≡ q → HasCells rows (all_cells p) → HasCells rows (all_cells q)
shows_same rows p q same = subst (λ live. HasCells rows (all_cells live)) same

-- a choice among the same nine answers
pub same_choice : (f g : ℕ → Bool) (choice : Choice) → f 0 ≡ g 0 → f 1 ≡ g 1 → f 2 ≡ g 2 → f 3 ≡ g 3 → f 4 ≡ g 4 → f 5 ≡ g 5 → f 6 ≡ g 6 → f 7 ≡ g 7 → f 8 ≡ g 8 →
    IsChoice f choice → IsChoice g choice
same_choice f g choice zero one two three four five six seven eight is =
    let by_four = differ_alike (f 0) (f 4) (g 0) (g 4) zero four in
    let by_five = differ_alike (f 1) (f 5) (g 1) (g 5) one five in
    let by_six = differ_alike (f 2) (f 6) (g 2) (g 6) two six in
    let by_seven = differ_alike (f 3) (f 7) (g 3) (g 7) three seven in
    let by_two = differ_alike (f 0) (f 2) (g 0) (g 2) zero two in
    let low = differ_alike _ _ _ _ by_four by_six in
    record {
      zero = shows_same _ _ _ zero is.zero;
      one = shows_same _ _ _ (differ_alike (f 0) (f 1) (g 0) (g 1) zero one) is.one;
      two = shows_same _ _ _ by_two is.two;
      three = shows_same _ _ _ (differ_alike _ _ _ _ by_two (differ_alike (f 1) (f 3) (g 1) (g 3) one three)) is.three;
      four = shows_same _ _ _ by_four is.four;
      five = shows_same _ _ _ (differ_alike _ _ _ _ by_four by_five) is.five;
      six = shows_same _ _ _ low is.six;
      seven = shows_same _ _ _ (differ_alike _ _ _ _ low (differ_alike _ _ _ _ by_five by_seven)) is.seven;
      eight = shows_same _ _ _ (differ_alike (f 0) (f 8) (g 0) (g 8) zero eight) is.eight;
    }

-- an answer at all cells, where there are cells
pub answered : (cell inside answer : Bool) → cell ≡ (inside && answer) → inside ≡ true → cell ≡ answer
answered cell inside answer is h = is ∙ ap (λ g. g && answer) h

pub lives_by_state : (rule : CountRule) (alive : Bool) (count : ℕ) → cond alive (lives rule true count) (lives rule false count) ≡ lives rule alive count
lives_by_state rule true count = refl
lives_by_state rule false count = refl

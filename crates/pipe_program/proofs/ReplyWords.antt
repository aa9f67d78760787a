-- The words of a reply.
use Rattle.std.proofs.Common.{◌≡◌, ℕ, ℤ, List, ◌++◌, append_assoc, ◌∙◌, ap, subst}
use Rattle.pipe_program.specs.Replies.{signed_word}

-- one text of four parts
four_parts : (line first all a b c d : List ℕ) → first ≡ (line ++ a) ++ b → all ≡ (first ++ c) ++ d → all ≡ line ++ (((a ++ b) ++ c) ++ d)
four_parts line first all a b c d two four = four ∙ ap (λ (l : List ℕ). (l ++ c) ++ d) two ∙ simp append_assoc

-- the four sides of a box, as they are read
pub four_words : (line first all : List ℕ) (left top right bottom a b c d : ℤ) → a ≡ left → b ≡ top → c ≡ right → d ≡ bottom →
    first ≡ (line ++ signed_word a) ++ signed_word b → all ≡ (first ++ signed_word c) ++ signed_word d → all ≡ line ++ (((signed_word left ++ signed_word top) ++ signed_word right) ++ signed_word bottom)
four_words line first all left top right bottom a b c d is_left is_top is_right is_bottom two four =
    four_parts line first all (signed_word left) (signed_word top) (signed_word right) (signed_word bottom)
    (subst (λ (z : ℤ). first ≡ (line ++ signed_word left) ++ signed_word z) is_top (subst (λ (z : ℤ). first ≡ (line ++ signed_word z) ++ signed_word b) is_left two))
    (subst (λ (z : ℤ). all ≡ (first ++ signed_word right) ++ signed_word z) is_bottom (subst (λ (z : ℤ). all ≡ (first ++ signed_word z) ++ signed_word d) is_right four))

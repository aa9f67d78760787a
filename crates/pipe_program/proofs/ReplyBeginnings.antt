-- What a sink took of a reply: a line, and the block behind it.
use Rattle.std.proofs.Common.{◌≡◌, ℕ, List, [], ◌∷◌, ◌++◌, Result, Ok, Err, OnErr, ◌∙◌, ap, subst}
use Rattle.std.specs.Prelude.{Option}
use Rattle.std.specs.Io.KnownBytes.{Appends}
use Rattle.plane.specs.Device.{AppendsBeginning}
use Rattle.plane.proofs.Beginnings.{beginning_of_more, text_and_beginning}

module _ (words block line : List ℕ) (is : line ≡ 111 ∷ 107 ∷ (words ++ 10 ∷ [])) where
  line_and_block : line ++ block ≡ 111 ∷ 107 ∷ ((words ++ 10 ∷ []) ++ block)
  line_and_block = ap (λ (l : List ℕ). l ++ block) is

  -- a beginning of the line
  pub line_begun : {old new : Option (List ℕ)} → AppendsBeginning old new line → AppendsBeginning old new (111 ∷ 107 ∷ ((words ++ 10 ∷ []) ++ block))
  line_begun {old} {new} begun = subst (AppendsBeginning old new) line_and_block (beginning_of_more block begun)

  -- the line, and a beginning of the block
  pub block_begun : {old mid new : Option (List ℕ)} → Appends old mid line → AppendsBeginning mid new block → AppendsBeginning old new (111 ∷ 107 ∷ ((words ++ 10 ∷ []) ++ block))
  block_begun {old} {mid} {new} written begun = subst (AppendsBeginning old new) line_and_block (text_and_beginning line written begun)

-- the line of an answer, as it is made
pub answer_line : (words empty begun said line : List ℕ) → empty ≡ [] → begun ≡ empty ++ 111 ∷ 107 ∷ [] → said ≡ begun ++ words → line ≡ said ++ 10 ∷ [] → line ≡ 111 ∷ 107 ∷ (words ++ 10 ∷ [])
answer_line words empty begun said line first second third fourth =
    fourth ∙ ap (λ (l : List ℕ). l ++ 10 ∷ []) (third ∙ ap (λ (l : List ℕ). l ++ words) (second ∙ ap (λ (l : List ℕ). l ++ 111 ∷ 107 ∷ []) first))

pub at_each_error : {T E P : Type 0} (r : Result T E) → P → OnErr r P
at_each_error (Ok x) p = tt
at_each_error (Err e) p = p

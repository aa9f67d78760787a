-- Blanks at the ends of a text.
use Rattle.std.proofs.Common.{◌≡◌, ℕ, true, false, List, [], ◌∷◌, ◌++◌, refl, ap, sym, ◌∙◌}
use Rattle.std.proofs.lemmas.List.{nil_from_length, reverse-append, reverse-reverse}
use Rattle.std.specs.Prelude.{reverse}
use Rattle.text_lines.specs.Bytes.{is_blank, trimmed_start, trimmed_end}

pub trimmed_start-nil : trimmed_start [] ≡ []
unfolding trimmed_start
trimmed_start-nil = refl

pub trimmed_start-blank : (first : ℕ) (rest : List ℕ) → is_blank first ≡ true → trimmed_start (first ∷ rest) ≡ trimmed_start rest
unfolding trimmed_start
trimmed_start-blank first rest blank = rw blank refl

pub trimmed_start-mark : (first : ℕ) (rest : List ℕ) → is_blank first ≡ false → trimmed_start (first ∷ rest) ≡ first ∷ rest
unfolding trimmed_start
trimmed_start-mark first rest mark = rw mark refl

pub trimmed_end-nil : trimmed_end [] ≡ []
unfolding trimmed_end trimmed_start
trimmed_end-nil = refl

pub trimmed_end-blank : (front : List ℕ) (last : ℕ) → is_blank last ≡ true → trimmed_end (front ++ last ∷ []) ≡ trimmed_end front
unfolding trimmed_end
trimmed_end-blank front last blank =
    ap (λ text. reverse (trimmed_start text)) (reverse-append front (last ∷ []))
    ∙ ap reverse (trimmed_start-blank last (reverse front) blank)

pub trimmed_end-mark : (front : List ℕ) (last : ℕ) → is_blank last ≡ false → trimmed_end (front ++ last ∷ []) ≡ front ++ last ∷ []
unfolding trimmed_end
trimmed_end-mark front last mark =
    ap (λ text. reverse (trimmed_start text)) (reverse-append front (last ∷ []))
    ∙ ap reverse (trimmed_start-mark last (reverse front) mark)
    ∙ ap reverse (sym (reverse-append front (last ∷ [])))
    ∙ reverse-reverse (front ++ last ∷ [])

pub ruleset trimmed_ends = (nil_from_length, trimmed_end-nil, trimmed_end-blank, trimmed_end-mark)

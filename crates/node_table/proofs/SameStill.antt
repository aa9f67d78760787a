-- Words in one owner's hands are told only by their head and the words.
use Rattle.std.proofs.Common.{◌≡◌, ℕ, List, ap}
use Rattle.std.proofs.Props.{props}
use mathlib.Core.HLevel.{Σ_prop_path}
use Rattle.squares.specs.Book.{Book, IsBook}
use Rattle.table_core.specs.declared.key.Key.{Key}
use Rattle.table_core.specs.Good.{AreGoodWords}
use Rattle.node_table.specs.declared.still.Still.{Still}
use Rattle.node_table.specs.StillBooks.{book_of_words}
use Rattle.table_core.proofs.GoodWords.{good_prop}

book_prop : (book : Book) → IsProp (IsBook book)
book_prop book = hlevel props

-- the words are good, and show a book
abbrev ShowBook : Key × List ℕ → Type 0
ShowBook told = (good : AreGoodWords told.0 told.1) × IsBook (book_of_words told.0 told.1)

show_prop : (told : Key × List ℕ) → IsProp (ShowBook told)
show_prop told a b = Σ_prop_path (λ good. book_prop (book_of_words told.0 told.1)) {u = a} {v = b} (good_prop told.0 told.1 a.0 b.0)

pub same_still : (one two : Still) → one.key ≡ two.key → one.words ≡ two.words → one ≡ two
same_still one two key words =
    ap (λ (t : (told : Key × List ℕ) × ShowBook told). record { key = t.0.0; words = t.0.1; good = t.1.0; is_book = t.1.1 })
    (Σ_prop_path show_prop {u = ((one.key, one.words), (one.good, one.is_book))} {v = ((two.key, two.words), (two.good, two.is_book))} (λ i. (key i, words i)))

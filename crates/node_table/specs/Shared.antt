-- What words show that several threads may read.
use Rattle.squares.specs.Book.{Book}
use Rattle.node_table.specs.StillBooks.{book_of_words}
use Rattle.node_table.specs.declared.shared.SharedStill.{SharedStill}

-- what the words show, as a book
abbrev pub book_shown : SharedStill → Book
book_shown still = book_of_words still.key still.words.items

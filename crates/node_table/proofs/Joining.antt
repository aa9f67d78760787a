-- A joined desk knows what either knew.
use Rattle.squares.specs.Book.{Keeps, Store}
use Rattle.table_core.specs.declared.key.Key.{Key}
use Rattle.table_core.specs.declared.knowledge.Knowledge.{Knowledge}
use Rattle.table_core.specs.Knowledge.{Grows, united}
use Rattle.table_core.proofs.Knowing.{united_first, united_second, grows_trans}
use Rattle.node_table.specs.Books.{book_of, IsCoherent}
use Rattle.node_table.proofs.Books.{grows_keeps}

module _ (one two after : Knowledge) (grows : Grows (united one two) after) where
  pub first_known : Grows one after
  first_known = grows_trans one (united one two) after (united_first one two) grows

  pub second_known : Grows two after
  second_known = grows_trans two (united one two) after (united_second one two) grows

  module _ (store : Store) (key : Key) (h : ∥ IsCoherent key.shape.bits after ∥₁) where
    pub first_kept : Keeps (book_of store key one) (book_of store key after)
    first_kept = grows_keeps store key one after h first_known

    pub second_kept : Keeps (book_of store key two) (book_of store key after)
    second_kept = grows_keeps store key two after h second_known

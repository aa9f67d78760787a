-- What it means to open a table and to close it.
use Rattle.std.specs.Prelude.{◌≡◌, ℕ, ◌↔◌, List, [], IsTrue, Contains, slice_index}
use Rattle.atomic_table.specs.Table.{opening}
use Rattle.plane.specs.Square.{IsSame}
use Rattle.squares.specs.declared.sq.Sq.{Sq}
use Rattle.squares.specs.Book.{Book}
use Rattle.rule_text.specs.CountRule.{CountRule}
use Rattle.table_core.specs.Knowledge.{IsTrueOf}
use Rattle.table_core.specs.Laws.{KnowsAll}
use Rattle.table_core.specs.Opening.{Reopens, AreOpening}
use Rattle.node_table.specs.declared.desk.Desk.{Desk}
use Rattle.node_table.specs.declared.still.Still.{Still}
use Rattle.node_table.specs.declared.table.NodeTable.{NodeTable}
use Rattle.node_table.specs.Desks.{IsDeskOf, book_at, expansions_of}
use Rattle.node_table.specs.Rule.{IsSoundState}
use Rattle.node_table.specs.Stills.{items_of, words_of, book_in}

-- the table begins with these words: while this is its only desk, the rule of its words allows them
-- and no others
abbrev pub BeginsWith : NodeTable → Desk → List ℕ → Type 0
BeginsWith table desk words =
    (begun : List ℕ) →
    IsSoundState {S = Unit {0}} table.table.shared.key (opening begun [] desk.seat.me.0)
    ↔ (begun ≡ words)

-- a table begins with words under this rule and exponent, and no others: leaves and pairs stay,
-- each result stays where it is the same under both heads, and else goes; its first desk knows all
-- that they say
pub record Opens (still : Still) (rule : CountRule) (exponent : ℕ) (table : NodeTable)
    (desk : Desk) : Type 0 where
  pub of_table : IsDeskOf table desk
  pub key : table.key ≡ record { shape = still.key.shape; rule = rule; exponent = exponent }
  pub words : List ℕ
  pub reopens : Reopens still.key table.key (words_of still) (slice_index words)
  pub opening : AreOpening still.key table.key (slice_index words)
  pub begins : BeginsWith table desk words
  pub known : KnowsAll table.key.shape.bits (slice_index words) desk.seat.me.0.known
  pub no_expansions : expansions_of desk ≡ 0

-- a table begins with these words under their own head, and no others, and its first desk knows all
-- that they say
pub record StartsFrom (still : Still) (table : NodeTable) (desk : Desk) : Type 0 where
  pub of_table : IsDeskOf table desk
  pub key : table.key ≡ still.key
  pub begins : BeginsWith table desk (items_of still)
  pub known : KnowsAll still.key.shape.bits (words_of still) desk.seat.me.0.known
  pub no_expansions : expansions_of desk ≡ 0

-- all squares of the one book are squares of the other, with the same cells, and so are those whose
-- results are known
pub record SaysAll (old new : Book) : Type 0 where
  pub rule : new.rule ≡ old.rule
  pub exponent : new.exponent ≡ old.exponent
  pub known : (sq : Sq) → IsTrue (old.knows sq) → IsTrue (new.knows sq)
  pub cells : (sq : Sq) → IsTrue (old.knows sq) → IsSame (new.cells sq) (old.cells sq)
  pub results : (sq : Sq) → Contains old.results sq → Contains new.results sq

-- the words under the table's head say all that the desk knew
pub record Closes (table : NodeTable) (desk : Desk) (still : Still) : Type 0 where
  pub same_key : still.key ≡ table.key
  pub known : IsTrueOf still.key.shape.bits (words_of still) desk.seat.me.0.known
  pub says : SaysAll (book_at table desk) (book_in still)

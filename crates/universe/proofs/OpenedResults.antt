-- Results of words at the table that is opened of them under their own head.
use Rattle.std.proofs.Common.{◌≡◌, inl, inr, ◌∙◌, ℕ, refl, ap, sym, subst}
use Rattle.std.specs.Prelude.{Contains, IsTrue, slice_index}
use Rattle.squares.specs.declared.sq.Sq.{Sq}
use Rattle.squares.specs.Book.{IsKnown}
use Rattle.table_core.specs.declared.key.Key.{Key}
use Rattle.table_core.specs.declared.knowledge.KnownResult.{KnownResult}
use Rattle.table_core.specs.declared.shape.Shape.{Shape}
use Rattle.table_core.specs.declared.shape.Kind.TheVariants.{Pair}
use Rattle.table_core.specs.Layout.{IsSlot, result_of}
use Rattle.table_core.specs.Blocks.{IsBlock, Words, square_rank}
use Rattle.table_core.specs.Knowledge.{IsTrueResult}
use Rattle.table_core.specs.Opening.{Reopens, StaysOrGoes}
use Rattle.table_core.proofs.Blocks.{block_stays}
use Rattle.node_table.specs.declared.desk.Desk.{Desk}
use Rattle.node_table.specs.declared.still.Still.{Still}
use Rattle.node_table.specs.declared.table.NodeTable.{NodeTable}
use Rattle.node_table.specs.Desks.{book_at}
use Rattle.node_table.specs.Openings.{Opens, SaysAll}
use Rattle.node_table.specs.Stills.{book_in, key_of, words_of}
use Rattle.node_table.proofs.Books.{there_result}
use Rattle.node_table.proofs.WordBooks.{square_there, told_there}
use Rattle.universe.proofs.OpenedWords.{opened_shows, slots_kept}

-- under one rule and exponent a result stays
result_stays : (was key : Key) (old new : Words) (i level : ℕ) → was.rule ≡ key.rule → was.exponent ≡ key.exponent → StaysOrGoes was key old new i level → new (result_of was.shape.bits i) ≡ old (result_of was.shape.bits i)
result_stays was key old new i level rule exponent (inl stays) = stays.1
result_stays was key old new i level rule exponent (inr goes) = absurd (goes.0 (rule, inl exponent))

-- and is told in the new words
told_again : (was key : Key) (old new : Words) (result : KnownResult) → was.rule ≡ key.rule → was.exponent ≡ key.exponent → Reopens was key old new → IsTrueResult was.shape.bits old result → IsTrueResult key.shape.bits new result
told_again was key old new result rule exponent reopens told =
    let keeps = slots_kept was key old new reopens in
    let slot = subst (λ (s : Shape). IsSlot s.bits Pair result.square) (sym reopens.shape) told.slot in
    let square = subst (λ (s : Shape). IsBlock s.bits old (square_rank result.level) result.square) (sym reopens.shape) told.square in
    let stays = result_stays was key old new result.square result.level rule exponent (reopens.results result.square result.level told.slot told.above told.square) in
    record {
      above = told.above;
      slot = slot;
      square = block_stays key.shape.bits old new keeps (square_rank result.level) result.square square;
      told = ap (λ (s : Shape). new (result_of s.bits result.square)) reopens.shape ∙ stays ∙ told.told;
    }

-- each result that the words tell is known to the first desk
opened_results : (still : Still) (table : NodeTable) (desk : Desk) → Opens still (key_of still).rule (key_of still).exponent table desk → (sq : Sq) → Contains (book_in still).results sq → Contains (book_at table desk).results sq
opened_results still table desk opens sq there =
    let bits = still.key.shape.bits in
    let told = told_there bits (words_of still) sq there in
    let future = still.good.good.results sq.num.0 told.slot told.told in
    let result : KnownResult = record { level = sq.level; square = sq.num.0; future = future.0 } in
    let was : IsTrueResult bits (words_of still) result = record {
      above = told.above;
      slot = told.slot;
      square = (square_there bits (words_of still) sq told.square).block;
      told = future.1;
    } in
    there_result desk.seat.me.0.known.results result
    (opens.known.results result (told_again still.key table.key (words_of still) (slice_index opens.words) result (ap (λ (k : Key). k.rule) (sym opens.key)) (ap (λ (k : Key). k.exponent) (sym opens.key)) opens.reopens was))

-- the first desk knows all that the words say
pub opened_says : (still : Still) (table : NodeTable) (desk : Desk) → Opens still (key_of still).rule (key_of still).exponent table desk → SaysAll (book_in still) (book_at table desk)
opened_says still table desk opens =
    let shows = opened_shows still (key_of still).rule (key_of still).exponent table desk opens in
    record {
      rule = ap (λ (k : Key). k.rule) opens.key;
      exponent = ap (λ (k : Key). k.exponent) opens.key;
      known = λ sq known. (shows sq (known_here still sq known)).known.known;
      cells = λ sq known. (shows sq (known_here still sq known)).cells;
      results = opened_results still table desk opens;
    }
  where
    known_here : (still : Still) (sq : Sq) → IsTrue ((book_in still).knows sq) → IsKnown (book_in still) sq.level sq
    known_here still sq known = let levels = still.is_book.levels sq known in record { known = known; at_level = refl; low = levels.0; high = levels.1 }

-- Tables that were opened and have become full.
use Rattle.std.proofs.Common.{◌≡◌, ◌⊎◌, ◌∙◌, ℕ, ◌^◌, List, [], ◌∷◌, inl, inr, refl, ap, sym, subst, arith}
use Rattle.std.specs.Prelude.{IsTrue, Result, Ok, Err, IfOk, map, slice_index}
use Rattle.std.specs.List.{AllByRecursion}
use Rattle.rule_text.specs.CountRule.{CountRule}
use Rattle.plane.specs.declared.refusal.Refusal.{Refusal}
use Rattle.plane.specs.declared.refusal.Refusal.TheVariants.{NodesFull, NoMemory}
use Rattle.plane.specs.Square.{IsSame}
use Rattle.plane.proofs.Same.{same_sym, same_trans}
use Rattle.squares.specs.Book.{AddsSquares, Book, IsKnown, Keeps, MayRefuse}
use Rattle.squares.specs.declared.sq.Sq.{Sq}
use Rattle.table_core.specs.declared.key.Key.{Key}
use Rattle.table_core.specs.declared.knowledge.KnownResult.{KnownResult}
use Rattle.table_core.specs.declared.shape.Shape.{Shape}
use Rattle.table_core.specs.Blocks.{Words}
use Rattle.table_core.specs.Knowledge.{IsTrueResult}
use Rattle.table_core.specs.Opening.{IsFresh, Reopens}
use Rattle.node_table.specs.declared.desk.Desk.{Desk}
use Rattle.node_table.specs.declared.still.Still.{Still}
use Rattle.node_table.specs.declared.table.NodeTable.{NodeTable}
use Rattle.node_table.specs.Books.{square_of}
use Rattle.node_table.specs.Desks.{book_at}
use Rattle.node_table.specs.Openings.{Opens}
use Rattle.node_table.specs.Stills.{IsVacant, book_in, key_of, words_of}
use Rattle.node_table.proofs.AtWork.{IsBack}
use Rattle.node_sweep.specs.CopiedStills.{IsSwept}
use Rattle.squares.specs.Roots.{square_plane}
use Rattle.universe.specs.Cells.{exponent_of, limit_of, live_cells, root_of, rule_of, still_of}
use Rattle.universe.specs.Outcomes.{LacksMemoryOrRoom}
use Rattle.universe.specs.Later.{IsAttempt, IsFullAtLimit, IsFullFromAlone, IsFullInPlace, IsAtExponent}
use Rattle.universe.specs.Stills.{IsOpenedAt, IsSweptFrom}
use Rattle.universe.specs.Tables.{HasFilledUp, IsFreshTable, IsOpened, StaysOpen, key_at, known_at}
use Rattle.universe.specs.declared.attempts.Attempt.{Attempt}
use Rattle.universe.specs.declared.attempts.Attempt.TheVariants.{Done, Full}
use Rattle.universe.specs.declared.other_tables.OtherTables.{OtherTables}
use Rattle.universe.specs.declared.rooted_still.RootedStill.{RootedStill}
use Rattle.universe.specs.declared.tables.OpenTable.{OpenTable}
use Rattle.universe.specs.declared.universe.Universe.{Universe}

-- a book whose squares were refused for want of room is full
pub full_book : (book : Book) (refusal : Refusal) → (refusal ≡ NoMemory) ⊎ MayRefuse book refusal → refusal ≡ NodesFull → IsTrue book.is_full
full_book book refusal (inl memory) full = absurd cc
full_book book refusal (inr (inl no_memory)) full = let memory = no_memory.0 in absurd cc
full_book book refusal (inr (inr no_room)) full = no_room.1

-- memory ran out, or a table is full
pub memory_or_room : (book : Book) (refusal : Refusal) → (refusal ≡ NoMemory) ⊎ MayRefuse book refusal → LacksMemoryOrRoom refusal
memory_or_room book refusal (inl memory) = inl memory
memory_or_room book refusal (inr (inl no_memory)) = inl no_memory.0
memory_or_room book refusal (inr (inr no_room)) = inr no_room.0

-- words without a square, opened
pub fresh_table : (still : Still) (rule : CountRule) (exponent slots pairs : ℕ) {opened : OpenTable} → slots ≡ pairs → IsVacant still slots → IsOpened still rule exponent opened → IsFreshTable rule exponent pairs opened
fresh_table still rule exponent slots pairs same vacant is = record {
  still = still;
  vacant = subst (IsVacant still) same vacant;
  is = is;
  under = (ap (λ (k : Key). k.exponent) is.opens.key, ap (λ (k : Key). k.rule) is.opens.key);
  size = ap (λ (k : Key). 2 ^ k.shape.bits) is.opens.key ∙ vacant.pair_count ∙ same;
}

-- where only a head was opened under another, no result is told
no_result_told : (was key : Key) (old new : Words) (result : KnownResult) → IsFresh was old → Reopens was key old new → IsTrueResult key.shape.bits new result → ⊥
no_result_told was key old new result fresh reopens told =
    let here : IsTrueResult was.shape.bits new result = subst (λ (s : Shape). IsTrueResult s.bits new result) reopens.shape told in
    let vacant = reopens.vacant result.square here.slot (fresh.vacant _ (λ zero. absurd (omega (arith, zero, here.slot.from)))) in
    absurd (omega (arith, vacant, here.told))

-- at a table that was opened without a square no result is known
pub no_result_at_first : (still : Still) (rule : CountRule) (exponent pairs : ℕ) (table : NodeTable) (desk : Desk) → IsVacant still pairs → Opens still rule exponent table desk → (book_at table desk).results ≡ []
no_result_at_first still rule exponent pairs table desk vacant opens = none desk.seat.me.0.known.results opens.known.true_of.results
  where
    none : (results : List KnownResult) → AllByRecursion (IsTrueResult table.key.shape.bits (slice_index opens.words)) results → map square_of results ≡ []
    none [] told = refl
    none (result ∷ results) told = absurd (no_result_told still.key table.key (words_of still) (slice_index opens.words) result vacant.fresh opens.reopens told.0)

-- where only squares were added at work, the desk that is back knows no result that it did not know
pub no_result_back : {table : NodeTable} {desk back : Desk} {begun ended : Book} → IsBack table desk back ended → begun.results ≡ (book_at table desk).results → AddsSquares begun ended →
    (book_at table desk).results ≡ [] → (book_at table back).results ≡ []
no_result_back back same adds none = sym back.results ∙ adds.results.results ∙ same ∙ none

-- a table that was opened from the words, and later is full
pub filled_up : (still : Still) (rule : CountRule) (exponent : ℕ) {opened now : OpenTable} → IsOpened still rule exponent opened → StaysOpen opened now → IsTrue (known_at now).is_full → HasFilledUp still rule exponent now
filled_up still rule exponent {opened} {now} is stays full = record {
  first = opened.desk;
  opens = subst (λ (t : NodeTable). Opens still rule exponent t opened.desk) (sym stays.same_table) is.opens;
  keeps = subst (λ (t : NodeTable). Keeps (book_at t opened.desk) (known_at now)) (sym stays.same_table) stays.keeps;
  full = full;
  words = (now.desk.sound (key_at now) now.of_table.same_key).words;
}

-- the table has just been opened from words of the largest size with what the root reaches and
-- nothing else
pub record IsOpenedAlone (still : Still) (root : Sq) (universe : Universe) : Type 0 where
  pub alone : Still
  pub copy : Sq
  pub swept : IsSwept still root (limit_of universe) alone copy
  pub opened : IsOpened alone (rule_of universe) (exponent_of universe) universe.here

-- words opened under some rule and exponent are opened under those of the table
opened_under : (still : Still) (rule : CountRule) (exponent : ℕ) {opened : OpenTable} → IsOpened still rule exponent opened → IsOpened still (key_at opened).rule (key_at opened).exponent opened
opened_under still rule exponent {opened} is =
    subst (λ (e : ℕ). IsOpened still (key_at opened).rule e opened) (sym (ap (λ (k : Key). k.exponent) is.opens.key))
    (subst (λ (r : CountRule). IsOpened still r exponent opened) (sym (ap (λ (k : Key). k.rule) is.opens.key)) is)

pub opened_alone : (old fresh : RootedStill) (exponent : ℕ) (others : OtherTables) {universe : Universe} → IsSweptFrom old (limit_of universe) fresh → IsOpenedAt fresh exponent others universe →
    IsOpenedAlone (still_of old) (root_of old) universe
opened_alone old fresh exponent others {universe} swept now = record {
  alone = still_of fresh;
  copy = root_of fresh;
  swept = swept;
  opened = opened_under (still_of fresh) (key_of (still_of fresh)).rule exponent now.opened;
}

-- where it is full later, it is full from only the cells
pub full_from_alone : (still : Still) (root : Sq) (start same : Universe) → IsOpenedAlone still root start → IsAtExponent (exponent_of start) start same → StaysOpen start.here same.here →
    IsTrue (known_at same.here).is_full → IsFullFromAlone still root same
full_from_alone still root start same alone at_exponent stays full =
    let limit : limit_of same ≡ limit_of start = ap (λ (shape : Shape). 2 ^ shape.bits) at_exponent.same.limit in
    record {
      alone = alone.alone;
      copy = alone.copy;
      swept = subst (λ (pairs : ℕ). IsSwept still root pairs alone.alone alone.copy) (sym limit) alone.swept;
      size = ap (λ (t : NodeTable). 2 ^ t.key.shape.bits) stays.same_table ∙ ap (λ (k : Key). 2 ^ k.shape.bits) alone.opened.opens.key ∙ alone.swept.all.resized.pair_count ∙ sym limit;
      filled = subst (λ (e : ℕ). HasFilledUp alone.alone (rule_of same) e same.here) (sym at_exponent.exponent)
          (subst (λ (r : CountRule). HasFilledUp alone.alone r (exponent_of start) same.here) (sym at_exponent.same.rule)
          (filled_up alone.alone (rule_of start) (exponent_of start) alone.opened stays full));
    }

-- where a step that begins with only the cells meets a full table of the largest size, there is no
-- larger one
pub full_at_limit : {E : Type 0} (still : Still) (root : Sq) (start : Universe) (attempt : Result Attempt E) → IsKnown (book_in still) root.level root → IsSame (square_plane (book_in still) root) (live_cells start) → IsOpenedAlone still root start →
    IfOk attempt (IsAttempt start) → IfOk attempt (IsFullInPlace start) → IfOk attempt IsFullAtLimit
full_at_limit still root start (Ok (Done later)) known cells alone is full = tt
full_at_limit still root start (Ok (Full same)) known cells alone at_exponent full = record {
  still = still;
  root = root;
  known = known;
  cells = same_trans cells (same_sym at_exponent.same.cells);
  full = inl (full_from_alone still root start same alone at_exponent full.0 full.1);
}
full_at_limit still root start (Err refusal) known cells alone is full = tt

-- What a result word tells a desk, as results of its book.
use Rattle.std.proofs.Common.{◌≡◌, ◌≢◌, ℕ, zero, suc, ◌+◌, ◌-◌, ◌^◌, ◌<◌, ◌≤◌, ◌⊎◌, Bool, true, false, cond, List, [], ◌∷◌, map, length, sym, ◌∙◌, ap, subst, arith, refl, inl, inr, ⊎_elim}
use Rattle.std.specs.Prelude.{◌==◌, ◌||◌, IsTrue, Contains, slice_index_or}
use Rattle.std.proofs.Math.Logic.{∥∥₁_elim}
use Rattle.std.proofs.Props.{props}
use Rattle.std.proofs.lemmas.Bool.{eqb-true, eq-eqb, false≢true}
use Rattle.std.proofs.lemmas.List.Elements.{Contains-append_right}
use Rattle.plane.specs.Plane.{Plane}
use Rattle.plane.specs.Square.{IsSame, empty, future}
use Rattle.plane.proofs.Same.{same_sym, plane_equal}
use Rattle.rule_text.specs.CountRule.{IsRule}
use Rattle.squares.specs.declared.sq.Sq.{Sq}
use Rattle.squares.specs.Book.{IsFuture, Shows, HasResult, Gains, Learns, AddsResult, Store, numbered}
use Rattle.squares.proofs.EmptyFutures.{future_empty}
use Rattle.squares.proofs.SquareNumbers.{same_sq}
use Rattle.table_core.specs.declared.key.Key.{Key}
use Rattle.table_core.specs.declared.knowledge.KnownBlock.{KnownBlock}
use Rattle.table_core.specs.declared.knowledge.KnownResult.{KnownResult}
use Rattle.table_core.specs.declared.knowledge.Knowledge.{Knowledge}
use Rattle.table_core.specs.Layout.{result_of, second_part}
use Rattle.table_core.specs.Blocks.{square_rank}
use Rattle.table_core.specs.Knowledge.{KnowsBlock, KnowsSquareOf, has_result}
use Rattle.table_core.specs.Lawful.{MayAsk, MayTell}
use Rattle.table_core.specs.Learning.{LearnsFuture, MeetsResult, with_future}
use Rattle.table_core.proofs.Knowing.{knows_grown}
use Rattle.table_core.proofs.Lists.{all_contains, contains_here}
use Rattle.table_core.proofs.Results.{one_level}
use Rattle.node_table.specs.declared.at.At.{At}
use Rattle.node_table.specs.Books.{book_of, square_of, knows_in, known_cells, IsCoherent}
use Rattle.node_table.specs.Desks.{work_at, work_store}
use Rattle.node_table.specs.DesksAtWork.{KnowsAllOf, StaysAt, book_here}
use Rattle.node_table.specs.Refusals.{known_by}
use Rattle.node_table.proofs.Books.{shows_of, result_there, there_result, zero_is_empty}
use Rattle.node_table.proofs.Desks.{below_limit, coherent_at, coherent_here, square_slot}
use Rattle.node_table.proofs.Entries.{block_of}
use Rattle.node_table.proofs.Working.{desk_of, keeps_here, still_so}

found_step : (x : KnownResult) (xs : List KnownResult) (square : ℕ) (b : Bool) → (x.square == square) ≡ b →
    (has_result xs square ≡ true → (r : KnownResult) × Contains xs r × (r.square ≡ square)) →
    (b || has_result xs square) ≡ true → (r : KnownResult) × Contains (x ∷ xs) r × (r.square ≡ square)
found_step x xs square true e f h = (x, contains_here x xs, eqb-true x.square square e)
found_step x xs square false e f h = let t = f h in (t.0, Contains-append_right (x ∷ []) xs t.0 t.1, t.2)

-- a square that has a result has an entry
pub found_result : (results : List KnownResult) (square : ℕ) → has_result results square ≡ true →
    (r : KnownResult) × Contains results r × (r.square ≡ square)
found_result [] square h = absurd (false≢true h)
found_result (x ∷ xs) square h = found_step x xs square (x.square == square) refl (found_result xs square) h

contains_split : (x : Sq) (xs : List Sq) (other : Sq) → Contains (x ∷ xs) other → (other ≡ x) ⊎ Contains xs other
contains_split x xs other h = go h.0 h.1 h.2
  where
    go : (k : ℕ) → k < length (x ∷ xs) → slice_index_or (x ∷ xs) k other ≡ other → (other ≡ x) ⊎ Contains xs other
    go zero less e = inl (sym e)
    go (suc k) less e = inr (k, omega arith, e)

-- one more square
gains_one : (x : Sq) (xs : List Sq) → Gains xs (x ∷ xs) x
gains_one x xs = record {
  length = refl;
  has = λ other. (
    contains_split x xs other,
    λ t. ⊎_elim (λ e. subst (Contains (x ∷ xs)) (sym e) (contains_here x xs)) (λ h. Contains-append_right (x ∷ []) xs other h) t,
  );
}

level_prop : (a b : ℕ) → IsProp (a ≡ b)
level_prop a b = hlevel props

-- results of one square are of one level
pub same_level : (bits : ℕ) (known : Knowledge) (result : KnownResult) (level : ℕ) (plane : Plane) → ∥ IsCoherent bits known ∥₁ → 3 < level → Contains known.results result →
    KnowsBlock known (square_rank level) result.square plane → result.level ≡ level
same_level bits known result level plane h above has knows = ∥∥₁_elim h (level_prop result.level level) (λ t.
    let r = all_contains (λ (q : KnownResult). (3 < q.level) × (q.square ≢ 0) × KnowsSquareOf known q) known.results result t.consistent.results has in
    one_level result.level level r.0 above (t.consistent.one_block (square_rank result.level) (square_rank level) result.square r.2.0 plane r.1 r.2.1 knows).0)

record Told (old new : Knowledge) (result : KnownResult) (count : ℕ) (had : Bool) : Type 0 where
  results : new.results ≡ cond had old.results (result ∷ old.results)
  learned : new.learned ≡ old.learned + cond had 0 count

told_with : (old : Knowledge) (result : KnownResult) (live : List _) (count : ℕ) (had : Bool) → has_result old.results result.square ≡ had → Told old (with_future old count result live) result count had
told_with old result live count had e = record {
  results = ap (λ b. cond b old.results (result ∷ old.results)) e;
  learned = ap (λ b. old.learned + cond b 0 count) e;
}

-- the index of the result beside a known square
module _ (at : At) (sq : Sq) {index : ℕ} (above : 3 < sq.level) (some : sq.num.0 ≢ 0) (known : IsTrue (knows_in (known_by at.desk) sq)) (beside : index ≡ result_of at.table.now.key.shape.bits sq.num.0) where
  abbrev key : Key
  key = at.table.now.key

  abbrev old : Knowledge
  old = known_by at.desk

  abbrev plane : Plane
  plane = known_cells old sq

  abbrev pub may_ask : MayAsk key.shape.bits old index
  may_ask = record { square = sq.num.0; slot = square_slot at sq above some known; beside = beside; level = sq.level; above = above; plane = plane; shown = block_of old sq known }

  -- and that of a known square that is its future
  pub may_tell : (future_sq : Sq) → KnowsBlock old (square_rank (sq.level - 1)) future_sq.num.0 (future key.rule key.exponent sq.level plane) → MayTell key old index future_sq.num.0
  may_tell future_sq shown = record { of = may_ask; low = below_limit key old (square_rank (sq.level - 1)) future_sq.num.0 (future key.rule key.exponent sq.level plane) (coherent_here at) shown; shown = shown }

  -- no result stands there: the desk knew none
  pub no_result : {word count : ℕ} {new : Knowledge} → word ≡ 0 → MeetsResult key old count index word new → ¬ HasResult (book_here at) sq
  no_result {word} none met has = ⊎_elim some (λ t.
      let r = result_there old.results sq t in
      let there : word ≡ 2 ^ 32 + r.0.future = met.agrees r.0 r.1 (beside ∙ ap (λ (q : Sq). result_of key.shape.bits q.num.0) (sym r.2)) in
      let no : 2 ^ 32 + r.0.future ≡ 0 = sym there ∙ none in omega arith) has

  -- what the desk knows when it has learned what stands there
  module _ {last : At} {word count : ℕ} (here : StaysAt at last) (grows : KnowsAllOf at.desk last.desk) (l : LearnsFuture key old count index word (known_by last.desk)) where
    abbrev new : Knowledge
    new = known_by last.desk

    abbrev coherent : ∥ IsCoherent key.shape.bits new ∥₁
    coherent = coherent_at at.table.now last.desk (desk_of here)

    later : KnowsBlock new (square_rank sq.level) sq.num.0 plane
    later = knows_grown old new (square_rank sq.level) sq.num.0 plane grows (block_of old sq known)

    square_is : l.result.square ≡ sq.num.0
    square_is = let e : sq.num.0 + 2 ^ key.shape.bits ≡ l.result.square + 2 ^ key.shape.bits = sym beside ∙ l.beside in omega arith

    level_is : l.result.level ≡ sq.level
    level_is = sym (l.shows may_ask).0

    is_sq : square_of l.result ≡ sq
    is_sq = same_sq (square_of l.result) sq level_is square_is

    abbrev entry : KnownBlock
    entry = record { number = l.result.future; rank = square_rank (l.result.level - 1); live = l.live }

    future_known : KnowsBlock new (square_rank (sq.level - 1)) l.result.future (future key.rule key.exponent sq.level plane)
    future_known = subst (λ (k : Knowledge). KnowsBlock k (square_rank (sq.level - 1)) l.result.future (future key.rule key.exponent sq.level plane)) (sym l.is)
        (inr (entry, Contains-append_right old.blocks (entry ∷ []) entry (contains_here entry []), record { at_rank = ap (λ n. square_rank (n - 1)) level_is; of_number = refl; cells = (l.shows may_ask).1 }))

    told : (had : Bool) → has_result old.results l.result.square ≡ had → Told old new l.result count had
    told had e = subst (λ (k : Knowledge). Told old k l.result count had) (sym l.is) (told_with old l.result l.live count had e)

    has_now : (had : Bool) → has_result old.results l.result.square ≡ had → Contains (map square_of new.results) sq
    has_now true e =
        let t = told true e in
        let r = found_result old.results l.result.square e in
        let there : Contains new.results r.0 = subst (λ rs. Contains rs r.0) (sym t.results) r.1 in
        let at : r.0.square ≡ sq.num.0 = r.2 ∙ square_is in
        let level : r.0.level ≡ sq.level = same_level key.shape.bits new r.0 sq.level plane coherent above there (subst (λ n. KnowsBlock new (square_rank sq.level) n plane) (sym at) later) in
        subst (Contains (map square_of new.results)) (same_sq (square_of r.0) sq level at) (there_result new.results r.0 there)
    has_now false e =
        let t = told false e in
        subst (Contains (map square_of new.results)) is_sq (there_result new.results l.result (subst (λ rs. Contains rs l.result) (sym t.results) (contains_here l.result old.results)))

    gains_now : has_result old.results l.result.square ≡ false → Gains (map square_of old.results) (map square_of new.results) sq
    gains_now e =
        let t = told false e in
        subst (λ rs. Gains (map square_of old.results) (map square_of rs) sq) (sym t.results)
        (subst (λ q. Gains (map square_of old.results) (square_of l.result ∷ map square_of old.results) q) is_sq (gains_one (square_of l.result) (map square_of old.results)))

    learns_case : count ≡ 1 → (had : Bool) → has_result old.results l.result.square ≡ had → Learns (book_here at) (book_here last) sq
    learns_case one true e = let t = told true e in record {
      known = inr (has_now true e);
      told = inl (record { results = ap (map square_of) t.results; learned = let k = t.learned in omega arith });
    }
    learns_case one false e = let t = told false e in record {
      known = inr (has_now false e);
      told = inr (gains_now e, (let k = t.learned in omega arith));
    }

    -- a result that was asked for is learned
    pub book_learns : count ≡ 1 → Learns (book_here at) (book_here last) sq
    book_learns one = learns_case one (has_result old.results l.result.square) refl

    adds_case : count ≡ 0 → (had : Bool) → has_result old.results l.result.square ≡ had → AddsResult (book_here at) (book_here last) sq
    adds_case none true e = let t = told true e in record {
      known = inr (has_now true e);
      learned = let k = t.learned in omega arith;
      results = inl (ap (map square_of) t.results);
    }
    adds_case none false e = let t = told false e in record {
      known = inr (has_now false e);
      learned = let k = t.learned in omega arith;
      results = inr (gains_now e);
    }

    -- one that was told is added
    pub book_adds : count ≡ 0 → AddsResult (book_here at) (book_here last) sq
    book_adds none = adds_case none (has_result old.results l.result.square) refl

    -- the number in the word shows the future
    pub is_future : sq.level ≤ 65 → (number : ℕ) → number ≡ second_part word → IsFuture (book_here last) sq (numbered (sq.level - 1) number)
    is_future high number e =
        let fits = below_limit key new (square_rank (sq.level - 1)) l.result.future (future key.rule key.exponent sq.level plane) coherent future_known in
        let same = (keeps_here here grows).cells sq known in
        let is : number ≡ l.result.future = let t = l.told in omega arith in
        still_so (λ n t. IsFuture (work_at n t last.desk) sq (numbered (sq.level - 1) number)) here
        (subst (λ n. IsFuture (work_at at.expansions at.table.now last.desk) sq (numbered (sq.level - 1) n)) (sym is)
        (subst (λ p. Shows (work_at at.expansions at.table.now last.desk) (sq.level - 1) (future key.rule key.exponent sq.level p) (numbered (sq.level - 1) l.result.future)) (sym (plane_equal _ _ same))
        (shows_of (work_store at.expansions at.table.now) key new (numbered (sq.level - 1) l.result.future) (future key.rule key.exponent sq.level plane) coherent (omega arith) (omega arith) future_known)))

-- the future of the empty square
pub empty_future : (store : Store) (key : Key) (known : Knowledge) (sq : Sq) → IsRule key.rule → ∥ IsCoherent key.shape.bits known ∥₁ → 3 < sq.level → sq.level ≤ 65 → sq.num.0 ≡ 0 →
    KnowsBlock known (square_rank sq.level) sq.num.0 (known_cells known sq) → IsFuture (book_of store key known) sq (numbered (sq.level - 1) 0)
empty_future store key known sq rule h above high e knows =
    let none : IsSame empty (known_cells known sq) = zero_is_empty key.shape.bits known (square_rank sq.level) (known_cells known sq) h (subst (λ n. KnowsBlock known (square_rank sq.level) n (known_cells known sq)) e knows) in
    shows_of store key known (numbered (sq.level - 1) 0) (future key.rule key.exponent sq.level (known_cells known sq)) h (omega arith) (omega arith)
    (inl (refl, same_sym (future_empty key.rule rule key.exponent sq.level (known_cells known sq) (same_sym none))))

some_step : (b : Bool) (r n : ℕ) → (r == 0) ≡ b → cond b (2 ^ 32 + n) r ≢ 0
some_step true r n e z = omega arith
some_step false r n e z = false≢true (sym e ∙ eq-eqb r 0 z)

-- a result stands where one was told
pub told_some : (r n : ℕ) → cond (r == 0) (2 ^ 32 + n) r ≢ 0
told_some r n = some_step (r == 0) r n refl

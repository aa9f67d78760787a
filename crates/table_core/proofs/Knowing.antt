-- What desks know stays true and grows, whatever other desks do.
use Rattle.std.proofs.Common.{◌≡◌, ◌≢◌, ℕ, ◌+◌, ◌^◌, List, sym, ◌∙◌, subst, arith, inl, inr, ⊎_elim}
use Rattle.std.specs.Prelude.{Contains}
use Rattle.std.specs.List.{AllByRecursion}
use Rattle.std.proofs.lemmas.List.Elements.{Contains-append_left, Contains-append_right}
use Rattle.plane.specs.Plane.{Plane}
use Rattle.plane.specs.Square.{IsSame}
use Rattle.plane.specs.Listing.{plane_of}
use Rattle.plane.proofs.Same.{same_sym, same_trans, same_of}
use Rattle.table_core.specs.declared.key.Key.{Key}
use Rattle.table_core.specs.declared.knowledge.KnownBlock.{KnownBlock}
use Rattle.table_core.specs.declared.knowledge.KnownResult.{KnownResult}
use Rattle.table_core.specs.declared.knowledge.Knowledge.{Knowledge}
use Rattle.table_core.specs.Layout.{result_of}
use Rattle.table_core.specs.Blocks.{Words, square_rank, ShowsBlock}
use Rattle.table_core.specs.Good.{IsGood, KeepsWords}
use Rattle.table_core.specs.Knowledge.{HasSeen, Says, Lists, KnowsBlock, IsTrueResult, KnowsSquareOf, IsTrueOf, Grows, united, nothing}
use Rattle.table_core.proofs.Blocks.{one_number, empty_block, empty_cells, block_kept, shows_kept}
use Rattle.table_core.proofs.Lists.{all_contains, all_weaker, all_append}
use Rattle.table_core.proofs.Results.{joined_all, joined_once, joined_keeps_first, joined_keeps_second}

result_later : (bits : ℕ) (old new : Words) (result : KnownResult) → KeepsWords old new → IsTrueResult bits old result → IsTrueResult bits new result
result_later bits old new result keeps h = record {
  above = h.above;
  slot = h.slot;
  square = block_kept bits old new keeps (square_rank result.level) result.square h.square;
  told = keeps.kept (result_of bits result.square) (λ z. let no : 2 ^ 32 + result.future ≡ 0 = sym h.told ∙ z in omega arith) ∙ h.told;
}

-- what is known stays true while no nonzero word changes
pub true_later : (bits : ℕ) (old new : Words) (known : Knowledge) → KeepsWords old new → IsTrueOf bits old known → IsTrueOf bits new known
true_later bits old new known keeps h = record {
  seen = all_weaker _ (λ (entry : ℕ × ℕ). (new entry.0 ≡ entry.1) × (entry.1 ≢ 0)) (λ entry t. (keeps.kept entry.0 (λ e. t.1 (sym t.0 ∙ e)) ∙ t.0, t.1)) known.words h.seen;
  blocks = all_weaker _ (λ (entry : KnownBlock). ShowsBlock bits new entry.rank entry.number (plane_of entry.live)) (λ entry t. shows_kept bits old new entry.rank entry.number (plane_of entry.live) keeps t) known.blocks h.blocks;
  results = all_weaker _ (IsTrueResult bits new) (λ result t. result_later bits old new result keeps t) known.results h.results;
  squares = h.squares;
  once = h.once;
}

pub seen_true : (bits : ℕ) (words : Words) (known : Knowledge) (index word : ℕ) → IsTrueOf bits words known → HasSeen known index word →
    (words index ≡ word) × (word ≢ 0)
seen_true bits words known index word h has = all_contains (λ (entry : ℕ × ℕ). (words entry.0 ≡ entry.1) × (entry.1 ≢ 0)) known.words (index, word) h.seen has

pub shown_as : (bits : ℕ) (words : Words) (r q n m : ℕ) (plane other : Plane) → r ≡ q → n ≡ m → IsSame plane other → ShowsBlock bits words r n plane →
    ShowsBlock bits words q m other
shown_as bits words r q n m plane other er en same h =
    let one = subst (λ k. ShowsBlock bits words k n plane) er h in let two = subst (λ k. ShowsBlock bits words q k plane) en one in
    record { stands = two.stands; cells = same_trans two.cells same }

-- a block that is known is shown
pub block_true : (bits : ℕ) (words : Words) (known : Knowledge) (rank n : ℕ) (plane : Plane) → IsTrueOf bits words known →
    KnowsBlock known rank n plane → ShowsBlock bits words rank n plane
block_true bits words known rank n plane h knows = ⊎_elim
    (λ t. subst (λ k. ShowsBlock bits words rank k plane) (sym t.0) (record { stands = empty_block bits words rank; cells = same_trans (same_of _ _ (empty_cells words rank)) t.1 }))
    (λ t. shown_as bits words t.0.rank rank t.0.number n (plane_of t.0.live) plane t.2.at_rank t.2.of_number t.2.cells
    (all_contains (λ (entry : KnownBlock). ShowsBlock bits words entry.rank entry.number (plane_of entry.live)) known.blocks t.0 h.blocks t.1)) knows

says_same : (entry : KnownBlock) (rank n : ℕ) (p q : Plane) → IsSame p q → Says entry rank n p → Says entry rank n q
says_same entry rank n p q same t = record { at_rank = t.at_rank; of_number = t.of_number; cells = same_trans t.cells same }

pub lists_same : (blocks : List KnownBlock) (rank n : ℕ) (p q : Plane) → IsSame p q → Lists blocks rank n p → Lists blocks rank n q
lists_same blocks rank n p q same t = (t.0, t.1, says_same t.0 rank n p q same t.2)

pub knows_same : (known : Knowledge) (rank n : ℕ) (p q : Plane) → IsSame p q → KnowsBlock known rank n p → KnowsBlock known rank n q
knows_same known rank n p q same knows = ⊎_elim (λ t. inl (t.0, same_trans t.1 same)) (λ t. inr (lists_same known.blocks rank n p q same t)) knows

-- with more blocks no less is known
pub knows_more : (a b : Knowledge) (rank n : ℕ) (plane : Plane) → ((entry : KnownBlock) → Contains a.blocks entry → Contains b.blocks entry) →
    KnowsBlock a rank n plane → KnowsBlock b rank n plane
knows_more a b rank n plane more knows = ⊎_elim (λ t. inl t) (λ t. inr (t.0, more t.0 t.1, t.2)) knows

pub squares_more : (a b : Knowledge) (results : List KnownResult) → ((entry : KnownBlock) → Contains a.blocks entry → Contains b.blocks entry) →
    AllByRecursion (KnowsSquareOf a) results → AllByRecursion (KnowsSquareOf b) results
squares_more a b results more all = all_weaker (KnowsSquareOf a) (KnowsSquareOf b) (λ result t. (t.0, knows_more a b (square_rank result.level) result.square t.0 more t.1)) results all

pub grows_refl : (a : Knowledge) → Grows a a
grows_refl a = record { words = λ entry h. h; blocks = λ entry h. h; results = λ result h. h; learned = omega arith }

pub grows_trans : (a b c : Knowledge) → Grows a b → Grows b c → Grows a c
grows_trans a b c h k = record {
  words = λ entry t. k.words entry (h.words entry t);
  blocks = λ entry t. k.blocks entry (h.blocks entry t);
  results = λ result t. k.results result (h.results result t);
  learned = let one = h.learned in let two = k.learned in omega arith;
}

pub knows_grown : (a b : Knowledge) (rank n : ℕ) (plane : Plane) → Grows a b → KnowsBlock a rank n plane → KnowsBlock b rank n plane
knows_grown a b rank n plane grows knows = knows_more a b rank n plane grows.blocks knows

-- a join knows what the first knew
pub united_first : (one two : Knowledge) → Grows one (united one two)
united_first one two = record {
  words = λ entry h. Contains-append_left one.words two.words entry h;
  blocks = λ entry h. Contains-append_left one.blocks two.blocks entry h;
  results = λ result h. joined_keeps_first one.results two.results result h;
  learned = omega arith;
}

-- and what the second knew
pub united_second : (one two : Knowledge) → Grows two (united one two)
united_second one two = record {
  words = λ entry h. Contains-append_right one.words two.words entry h;
  blocks = λ entry h. Contains-append_right one.blocks two.blocks entry h;
  results = λ result h. joined_keeps_second one.results two.results result h;
  learned = omega arith;
}

pub united_true : (bits : ℕ) (words : Words) (one two : Knowledge) → IsTrueOf bits words one → IsTrueOf bits words two →
    IsTrueOf bits words (united one two)
united_true bits words one two h k = record {
  seen = all_append _ one.words two.words h.seen k.seen;
  blocks = all_append _ one.blocks two.blocks h.blocks k.blocks;
  results = joined_all (IsTrueResult bits words) one.results two.results h.results k.results;
  squares = joined_all (KnowsSquareOf (united one two)) one.results two.results
      (squares_more one (united one two) one.results (λ entry t. Contains-append_left one.blocks two.blocks entry t) h.squares)
      (squares_more two (united one two) two.results (λ entry t. Contains-append_right one.blocks two.blocks entry t) k.squares);
  once = joined_once bits words one.results two.results h.results k.results h.once;
}

pub nothing_true : (bits : ℕ) (words : Words) → IsTrueOf bits words nothing
nothing_true bits words = record { seen = tt; blocks = tt; results = tt; squares = tt; once = tt }

-- two desks, one number
pub desks_agree : (key : Key) (words : Words) (one two : Knowledge) (rank n m : ℕ) (plane : Plane) → IsGood key words →
    IsTrueOf key.shape.bits words one → IsTrueOf key.shape.bits words two → KnowsBlock one rank n plane → KnowsBlock two rank m plane → n ≡ m
desks_agree key words one two rank n m plane good h k knows also =
    let a = block_true key.shape.bits words one rank n plane h knows in let b = block_true key.shape.bits words two rank m plane k also in
    one_number key words good rank n m a.stands b.stands (same_trans a.cells (same_sym b.cells))

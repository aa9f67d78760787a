-- What a desk knows is a book, which keeps what it knows while the desk learns.
use Rattle.std.proofs.Common.{◌≡◌, ◌≢◌, ℕ, zero, suc, ◌+◌, ◌-◌, ◌/◌, ◌^◌, ◌<◌, ◌≤◌, ◌⊎◌, Bool, true, false, List, [], ◌∷◌, map, sym, ◌∙◌, ap, subst, arith, refl, inl, inr, ⊎_elim}
use Rattle.std.specs.Prelude.{IsTrue, ◌&&◌, Contains, slice_get, Some}
use Rattle.std.proofs.Math.Logic.{∥∥₁_elim}
use Rattle.std.proofs.Props.{props}
use Rattle.plane.specs.Plane.{Plane}
use Rattle.plane.specs.Square.{IsSame, IsSquare, empty, spans}
use Rattle.plane.specs.Block.{IsInside}
use Rattle.plane.proofs.Same.{same_refl, same_sym, same_trans}
use Rattle.rule_text.specs.CountRule.{IsRule}
use Rattle.squares.specs.declared.sq.Sq.{Sq}
use Rattle.squares.specs.Book.{IsBook, IsEmpty, Shows, Keeps, Store, numbered}
use Rattle.squares.proofs.SquareNumbers.{same_sq}
use Rattle.table_core.specs.declared.key.Key.{Key}
use Rattle.table_core.specs.declared.knowledge.KnownResult.{KnownResult}
use Rattle.table_core.specs.declared.knowledge.Knowledge.{Knowledge}
use Rattle.table_core.specs.Blocks.{square_rank, width, height}
use Rattle.table_core.specs.declared.rank.TheConstants.{LARGEST_RANK}
use Rattle.table_core.specs.Knowledge.{KnowsBlock, KnowsSquareOf, Grows}
use Rattle.table_core.proofs.Comparisons.{same_or_other}
use Rattle.table_core.proofs.FullShards.{full_later, full_shard_is_seen}
use Rattle.table_core.proofs.Knowing.{knows_same, knows_more}
use Rattle.table_core.proofs.Lists.{all_contains}
use Rattle.table_core.proofs.Results.{one_place}
use Rattle.node_table.specs.Books.{knows_in, known_cells, square_of, book_of, IsCoherent}
use Rattle.node_table.proofs.Entries.{known_level, block_of, square_known}
use Rattle.node_table.proofs.Facts.{facts_grow}
use Rattle.node_table.proofs.Mapped.{mapped_from, mapped_to}

-- two accounts of one number agree
agree : (bits : ℕ) (known : Knowledge) (rank n : ℕ) (p q : Plane) → IsCoherent bits known → KnowsBlock known rank n p →
    KnowsBlock known rank n q → IsSame p q
agree bits known rank n p q h a b = ⊎_elim
    (λ e. same_trans (same_sym (h.zero rank p (subst (λ m. KnowsBlock known rank m p) e a))) (h.zero rank q (subst (λ m. KnowsBlock known rank m q) e b)))
    (λ some. (h.consistent.one_block rank rank n p q some a b).1)
    (same_or_other n 0)

same_prop : (p q : Plane) → IsProp (IsSame p q)
same_prop p q = hlevel props

pub alike : (bits : ℕ) (known : Knowledge) (rank n : ℕ) (p q : Plane) → ∥ IsCoherent bits known ∥₁ → KnowsBlock known rank n p →
    KnowsBlock known rank n q → IsSame p q
alike bits known rank n p q h a b = ∥∥₁_elim h (same_prop p q) (λ t. agree bits known rank n p q t a b)

pub zero_is_empty : (bits : ℕ) (known : Knowledge) (rank : ℕ) (plane : Plane) → ∥ IsCoherent bits known ∥₁ → KnowsBlock known rank 0 plane → IsSame empty plane
zero_is_empty bits known rank plane h a = ∥∥₁_elim h (same_prop empty plane) (λ t. t.zero rank plane a)

-- a square is shown as the block that the desk knows
pub shows_of : (store : Store) (key : Key) (known : Knowledge) (sq : Sq) (plane : Plane) → ∥ IsCoherent key.shape.bits known ∥₁ → 3 ≤ sq.level → sq.level ≤ 65 →
    KnowsBlock known (square_rank sq.level) sq.num.0 plane → Shows (book_of store key known) sq.level plane sq
shows_of store key known sq plane h low high knows =
    let is = square_known known sq plane low high knows in
    record {
      known = record { known = is; at_level = refl; low = low; high = high };
      cells = alike key.shape.bits known (square_rank sq.level) sq.num.0 (known_cells known sq) plane h (block_of known sq is) knows;
    }

side : (level : ℕ) → 3 ≤ level → (square_rank level + 1) / 2 + 3 ≡ level
side level h = omega arith

side_down : (level : ℕ) → 3 ≤ level → square_rank level / 2 + 3 ≡ level
side_down level h = omega arith

one_out : (a b : Bool) → (a && b) ≡ false → (a ≡ false) ⊎ (b ≡ false)
one_out true b h = inr h
one_out false b h = inl refl

pub inside_square : (level : ℕ) (plane : Plane) → 3 ≤ level → IsInside (width (square_rank level)) (height (square_rank level)) plane → IsSquare (2 ^ level) plane
inside_square level plane above h = record {
  dead = λ x y e. ⊎_elim
      (λ t. h.columns x y (ap (λ n. spans (2 ^ n) x) (side level above) ∙ t))
      (λ t. h.rows x y (ap (λ n. spans (2 ^ n) y) (side_down level above) ∙ t)) (one_out (spans (2 ^ level) x) (spans (2 ^ level) y) e);
}

-- a square whose result the book has is that of a result
pub result_there : (xs : List KnownResult) (sq : Sq) → Contains (map square_of xs) sq → (result : KnownResult) × Contains xs result × (square_of result ≡ sq)
result_there xs sq = mapped_from square_of xs sq

pub there_result : (xs : List KnownResult) (result : KnownResult) → Contains xs result → Contains (map square_of xs) (square_of result)
there_result xs result = mapped_to square_of xs result

got_mapped : (xs : List KnownResult) (i : ℕ) (sq : Sq) → slice_get (map square_of xs) i ≡ Some sq → (result : KnownResult) × (slice_get xs i ≡ Some result) × (square_of result ≡ sq)
got_mapped [] i sq e = let no : ⊥ = cc in absurd no
got_mapped (x ∷ xs) zero sq e = (x, refl, (let same : square_of x ≡ sq = cc in same))
got_mapped (x ∷ xs) (suc i) sq e = got_mapped xs i sq e

low_level : (level : ℕ) → 3 < level → square_rank level - 1 < LARGEST_RANK → level ≤ 65
low_level level above h = omega arith

known_result : (key : Key) (known : Knowledge) (result : KnownResult) → IsCoherent key.shape.bits known →
    (3 < result.level) × (result.square ≢ 0) × KnowsSquareOf known result → IsTrue (knows_in known (square_of result)) × (3 < result.level) × (¬ IsEmpty (square_of result))
known_result key known result h t =
    let above = t.0 in
    let e : square_rank result.level ≡ suc (square_rank result.level - 1) = omega arith in
    let pair = h.consistent.pair (square_rank result.level - 1) result.square t.2.0 t.1 (subst (λ r. KnowsBlock known r result.square t.2.0) e t.2.1) in
    (square_known known (square_of result) t.2.0 (omega arith) (low_level result.level above pair.1) t.2.1, above, t.1)

-- what a desk knows is a book
pub is_book : (store : Store) (key : Key) (known : Knowledge) → IsRule key.rule → IsCoherent key.shape.bits known → IsBook (book_of store key known)
is_book store key known rule h = record {
  rule = rule;
  levels = λ sq s. known_level known sq s;
  square = λ sq s. inside_square sq.level (known_cells known sq) (known_level known sq s).0 (h.consistent.inside (square_rank sq.level) sq.num.0 (known_cells known sq) (block_of known sq s));
  one_number = λ a b s t level same. same_sq a b level
      (h.consistent.one_number (square_rank b.level) a.num.0 b.num.0 (known_cells known b)
      (knows_same known (square_rank b.level) a.num.0 (known_cells known a) (known_cells known b) same (subst (λ l. KnowsBlock known (square_rank l) a.num.0 (known_cells known a)) level (block_of known a s)))
      (block_of known b t));
  zero_known = λ level low high. square_known known (numbered level 0) empty low high (inl (refl, same_refl empty));
  zero_empty = λ level. same_refl empty;
  results = λ sq s.
      let t = result_there known.results sq s in
      subst (λ q. IsTrue (knows_in known q) × (3 < q.level) × (¬ IsEmpty q)) t.2
      (known_result key known t.0 h (all_contains (λ (result : KnownResult). (3 < result.level) × (result.square ≢ 0) × KnowsSquareOf known result) known.results t.0 h.consistent.results t.1));
  results_once = λ i j sq s t.
      let a = got_mapped known.results i sq s in let b = got_mapped known.results j sq t in
      one_place known.results i j a.0 b.0 h.consistent.once a.1 b.1 (ap (λ (q : Sq). q.num.0) (a.2 ∙ sym b.2));
}

-- a book keeps all while its desk learns
pub grows_keeps : (store : Store) (key : Key) (old new : Knowledge) → ∥ IsCoherent key.shape.bits new ∥₁ → Grows old new → Keeps (book_of store key old) (book_of store key new)
grows_keeps store key old new h grows = record {
  rule = refl;
  exponent = refl;
  known = λ sq s. let l = known_level old sq s in
      square_known new sq (known_cells old sq) l.0 l.1 (knows_more old new (square_rank sq.level) sq.num.0 (known_cells old sq) grows.blocks (block_of old sq s));
  cells = λ sq s. let l = known_level old sq s in
      let knows = knows_more old new (square_rank sq.level) sq.num.0 (known_cells old sq) grows.blocks (block_of old sq s) in
      alike key.shape.bits new (square_rank sq.level) sq.num.0 (known_cells new sq) (known_cells old sq) h (block_of new sq (square_known new sq (known_cells old sq) l.0 l.1 knows)) knows;
  results = λ sq s.
      let t = result_there old.results sq s in
      subst (Contains (map square_of new.results)) t.2 (there_result new.results t.0 (grows.results t.0 t.1));
  learned = grows.learned;
  facts = facts_grow old new grows;
  full = λ s.
      let seen = full_shard_is_seen key.shape.bits old key.shape.range.0 in
      let now = full_shard_is_seen key.shape.bits new key.shape.range.0 in
      now.1 (full_later key.shape.bits old new grows.words (seen.0 s));
  memory = refl;
  store = refl;
}

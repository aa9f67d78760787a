-- Entries of what a desk knows, as squares of its book.
use Rattle.std.proofs.Common.{◌≡◌, ◌≢◌, ◌↔◌, ℕ, zero, suc, ◌-◌, ◌<◌, ◌≤◌, Bool, true, false, cond, List, [], ◌∷◌, length, sym, ◌∙◌, ap, subst, arith, refl, inl, inr, ⊎_elim}
use Rattle.std.specs.Prelude.{IsTrue, ◌==◌, ◌&&◌, nat_le, slice_index_or, Option, Some, is_some}
use Rattle.std.proofs.lemmas.Bool.{eqb-true, leb-true, le-leb, eq-eqb, false≢true}
use Rattle.std.proofs.lemmas.List.Elements.{Contains-append_right}
use Rattle.plane.specs.Plane.{Plane}
use Rattle.plane.specs.Square.{empty}
use Rattle.plane.specs.Listing.{plane_of}
use Rattle.plane.proofs.Same.{same_refl}
use Rattle.plane.proofs.Cuts.{and_left, and_right}
use Rattle.squares.specs.declared.sq.Sq.{Sq}
use Rattle.table_core.specs.declared.knowledge.KnownBlock.{KnownBlock}
use Rattle.table_core.specs.declared.knowledge.Knowledge.{Knowledge}
use Rattle.table_core.specs.Blocks.{square_rank}
use Rattle.table_core.specs.Knowledge.{Says, Lists, KnowsBlock}
use Rattle.table_core.proofs.Booleans.{and_both}
use Rattle.node_table.specs.Books.{entry_at, cells_there, knows_in, known_cells}

-- a square that is not the empty one of its level has a number other than 0
pub has_number : {empty : Bool} {number : ℕ} → IsTrue empty ↔ (number ≡ 0) → empty ≡ false → number ≢ 0
has_number is_empty not_empty none = false≢true (sym not_empty ∙ is_empty.1 none)

later : (x : KnownBlock) (xs : List KnownBlock) (rank n : ℕ) (plane : Plane) → Lists xs rank n plane → Lists (x ∷ xs) rank n plane
later x xs rank n plane h = (h.0, Contains-append_right (x ∷ []) xs h.0 h.1, h.2)

there_step : (x : KnownBlock) (xs : List KnownBlock) (rank n : ℕ) (b : Bool) → ((x.number == n) && (x.rank == rank)) ≡ b →
    (is_some (entry_at xs rank n) ≡ true → Lists xs rank n (cells_there (entry_at xs rank n))) →
    is_some (cond b (Some x) (entry_at xs rank n)) ≡ true → Lists (x ∷ xs) rank n (cells_there (cond b (Some x) (entry_at xs rank n)))
there_step x xs rank n true e f h =
    (x, (0, omega arith, refl), record { at_rank = eqb-true x.rank rank (and_right (x.number == n) _ e); of_number = eqb-true x.number n (and_left _ _ e); cells = same_refl (plane_of x.live) })
there_step x xs rank n false e f h = later x xs rank n _ (f h)

-- an entry that is found is one of the list
is_there : (xs : List KnownBlock) (rank n : ℕ) → is_some (entry_at xs rank n) ≡ true → Lists xs rank n (cells_there (entry_at xs rank n))
is_there [] rank n h = absurd (false≢true h)
is_there (x ∷ xs) rank n h = there_step x xs rank n ((x.number == n) && (x.rank == rank)) refl (is_there xs rank n) h

some_here : (b : Bool) (x : KnownBlock) (o : Option KnownBlock) → b ≡ true → is_some (cond b (Some x) o) ≡ true
some_here true x o e = refl
some_here false x o e = absurd (false≢true e)

some_later : (b : Bool) (x : KnownBlock) (o : Option KnownBlock) → is_some o ≡ true → is_some (cond b (Some x) o) ≡ true
some_later true x o e = refl
some_later false x o e = e

found_at : (xs : List KnownBlock) (rank n k : ℕ) (entry : KnownBlock) (plane : Plane) → k < length xs → slice_index_or xs k entry ≡ entry →
    Says entry rank n plane → is_some (entry_at xs rank n) ≡ true
found_at [] rank n k entry plane less e says = absurd (omega arith)
found_at (x ∷ xs) rank n zero entry plane less e says = some_here ((x.number == n) && (x.rank == rank)) x (entry_at xs rank n)
    (and_both (x.number == n) (x.rank == rank) (eq-eqb x.number n (ap (λ (y : KnownBlock). y.number) e ∙ says.of_number)) (eq-eqb x.rank rank (ap (λ (y : KnownBlock). y.rank) e ∙ says.at_rank)))
found_at (x ∷ xs) rank n (suc k) entry plane less e says = some_later ((x.number == n) && (x.rank == rank)) x (entry_at xs rank n) (found_at xs rank n k entry plane (omega arith) e says)

-- and one of the list is found
is_found : (xs : List KnownBlock) (rank n : ℕ) (plane : Plane) → Lists xs rank n plane → is_some (entry_at xs rank n) ≡ true
is_found xs rank n plane t = found_at xs rank n t.1.0 t.0 plane t.1.1 t.1.2 t.2

known_step : (known : Knowledge) (rank n : ℕ) (b : Bool) → (n == 0) ≡ b → cond b true (is_some (entry_at known.blocks rank n)) ≡ true →
    KnowsBlock known rank n (cond b empty (cells_there (entry_at known.blocks rank n)))
known_step known rank n true e h = inl (eqb-true n 0 e, same_refl empty)
known_step known rank n false e h = inr (is_there known.blocks rank n h)

in_range : (level : ℕ) → (nat_le 3 level && nat_le level 65) ≡ true → (3 ≤ level) × (level ≤ 65)
in_range level h = (leb-true 3 level (and_left _ _ h), leb-true level 65 (and_right (nat_le 3 level) _ h))

range_in : (level : ℕ) → 3 ≤ level → level ≤ 65 → (nat_le 3 level && nat_le level 65) ≡ true
range_in level low high = and_both (nat_le 3 level) (nat_le level 65) (le-leb 3 level low) (le-leb level 65 high)

pub known_level : (known : Knowledge) (sq : Sq) → IsTrue (knows_in known sq) → (3 ≤ sq.level) × (sq.level ≤ 65)
known_level known sq h = in_range sq.level (and_left _ _ h)

-- a square that the book knows is a block that the desk knows
pub block_of : (known : Knowledge) (sq : Sq) → IsTrue (knows_in known sq) → KnowsBlock known (square_rank sq.level) sq.num.0 (known_cells known sq)
block_of known sq h = known_step known (square_rank sq.level) sq.num.0 (sq.num.0 == 0) refl (and_right (nat_le 3 sq.level && nat_le sq.level 65) _ h)

-- a square's rank is two above that of its quarters
pub quarter_rank : (level : ℕ) → 3 < level → square_rank level ≡ suc (suc (square_rank (level - 1)))
quarter_rank level above = omega arith

-- a known square above level 3 is a block of two halves
pub halved : (known : Knowledge) (sq : Sq) → 3 < sq.level → IsTrue (knows_in known sq) → KnowsBlock known (suc (suc (square_rank (sq.level - 1)))) sq.num.0 (known_cells known sq)
halved known sq above h = subst (λ r. KnowsBlock known r sq.num.0 (known_cells known sq)) (quarter_rank sq.level above) (block_of known sq h)

zero_step : (b : Bool) (o : Option KnownBlock) → b ≡ true → cond b true (is_some o) ≡ true
zero_step true o e = refl
zero_step false o e = absurd (false≢true e)

other_step : (b : Bool) (o : Option KnownBlock) → is_some o ≡ true → cond b true (is_some o) ≡ true
other_step true o e = refl
other_step false o e = e

-- a block of a square's rank that the desk knows is a square that the book knows
pub square_known : (known : Knowledge) (sq : Sq) (plane : Plane) → 3 ≤ sq.level → sq.level ≤ 65 → KnowsBlock known (square_rank sq.level) sq.num.0 plane →
    IsTrue (knows_in known sq)
square_known known sq plane low high knows = and_both (nat_le 3 sq.level && nat_le sq.level 65) _ (range_in sq.level low high)
    (⊎_elim
    (λ t. zero_step (sq.num.0 == 0) (entry_at known.blocks (square_rank sq.level) sq.num.0) (eq-eqb sq.num.0 0 t.0))
    (λ t. other_step (sq.num.0 == 0) (entry_at known.blocks (square_rank sq.level) sq.num.0) (is_found known.blocks (square_rank sq.level) sq.num.0 plane t))
    knows)

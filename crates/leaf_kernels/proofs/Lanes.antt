-- What operations on the lanes do to the cells.
use mir.Syntax.{Width}
use mir.Val.{bits}
use Rattle.std.proofs.Common.{◌≡◌, ℕ, ◌-◌, ◌^◌, ◌<◌, ℤ, pos, Bool, true, false, not, List, length, get_or, map, replicate, refl, sym, ◌∙◌, ap, arith, bit_and, bit_or, Fits}
use Rattle.std.specs.Prelude.{bit_xor, ◌&&◌, ◌||◌, unsigned_abs}
use Rattle.std.specs.Int.{bit_not}
use Rattle.std.proofs.lemmas.List.{get_or-map}
use Rattle.std.proofs.lemmas.Simd.{length-zip2, get_or-zip2, get_or-replicate, Each1-get_or}
use lib.Lanes.{zip2, Each1}
use Rattle.plane.specs.Plane.{Plane}
use Rattle.plane.specs.Square.{spans, bit}
use Rattle.leaf_kernels.specs.Rows.{cells_of_rows}
use Rattle.plane.proofs.WordBits.{differ, bit-and, bit-or, bit-xor, bit-not, bit-ones, bit-none}
use Rattle.plane.proofs.SquareCells.{and_true, less_spans, same_cells}

guard_and : (s t p q : Bool) → ((s && t) && (((s && t) && p) && ((s && t) && q))) ≡ (((s && t) && p) && ((s && t) && q))
guard_and true true p q = refl
guard_and true false p q = refl
guard_and false t p q = refl

guard_or : (s t p q : Bool) → ((s && t) && (((s && t) && p) || ((s && t) && q))) ≡ (((s && t) && p) || ((s && t) && q))
guard_or true true p q = refl
guard_or true false p q = refl
guard_or false t p q = refl

guard_differ : (s t p q : Bool) → ((s && t) && differ ((s && t) && p) ((s && t) && q)) ≡ differ ((s && t) && p) ((s && t) && q)
guard_differ true true p q = refl
guard_differ true false p q = refl
guard_differ false t p q = refl

module _ (w : Width) (n : ℕ) where
  -- the cell in column i of row j
  pub cell_in : (rows : List ℕ) (i j : ℕ) → i < bits w → j < n → cells_of_rows (bits w) n rows (pos i) (pos j) ≡ bit (get_or rows j 0) i
  cell_in rows i j h k = and_true (spans (bits w) (pos i)) (spans n (pos j)) (bit (get_or rows j 0) i) (less_spans (bits w) i h) (less_spans n j k)

  -- the rows show the cells that the test gives at each column and row
  pub rows_show : (rows : List ℕ) (q : Plane) → ((i j : ℕ) → i < bits w → j < n → bit (get_or rows j 0) i ≡ q (pos i) (pos j)) →
      (x y : ℤ) → cells_of_rows (bits w) n rows x y ≡ ((spans (bits w) x && spans n y) && q x y)
  rows_show rows q same = same_cells (bits w) n (λ x y. bit (get_or rows (unsigned_abs y) 0) (unsigned_abs x)) q same

  pub zip_length : (f : ℕ → ℕ → ℕ) (a b : List ℕ) → length a ≡ n → length b ≡ n → length (zip2 f a b) ≡ n
  zip_length f a b long other = length-zip2 f a b (omega arith) ∙ long

  -- an operation on two vectors of rows that joins their bits joins their cells
  joined_cells : (f : ℕ → ℕ → ℕ) (g : Bool → Bool → Bool) → ((u v i : ℕ) → bit (f u v) i ≡ g (bit u i) (bit v i)) →
      (a b : List ℕ) → length a ≡ n → length b ≡ n → (i j : ℕ) → i < bits w → j < n → bit (get_or (zip2 f a b) j 0) i ≡ g (cells_of_rows (bits w) n a (pos i) (pos j)) (cells_of_rows (bits w) n b (pos i) (pos j))
  joined_cells f g law a b long other i j h k =
      ap (λ r. bit r i) (get_or-zip2 f a b j 0 0 0 (omega arith) (omega arith)) ∙ law (get_or a j 0) (get_or b j 0) i
      ∙ ap (λ t. g t (bit (get_or b j 0) i)) (sym (cell_in a i j h k)) ∙ ap (λ t. g (cells_of_rows (bits w) n a (pos i) (pos j)) t) (sym (cell_in b i j h k))

  pub cells-and : (a b : List ℕ) → length a ≡ n → length b ≡ n → (x y : ℤ) → cells_of_rows (bits w) n (zip2 bit_and a b) x y ≡ (cells_of_rows (bits w) n a x y && cells_of_rows (bits w) n b x y)
  cells-and a b long other x y =
      rows_show (zip2 bit_and a b) (λ u v. cells_of_rows (bits w) n a u v && cells_of_rows (bits w) n b u v) (joined_cells bit_and (λ p q. p && q) bit-and a b long other) x y
      ∙ guard_and (spans (bits w) x) (spans n y) (bit (get_or a (unsigned_abs y) 0) (unsigned_abs x)) (bit (get_or b (unsigned_abs y) 0) (unsigned_abs x))

  pub cells-or : (a b : List ℕ) → length a ≡ n → length b ≡ n → (x y : ℤ) → cells_of_rows (bits w) n (zip2 bit_or a b) x y ≡ (cells_of_rows (bits w) n a x y || cells_of_rows (bits w) n b x y)
  cells-or a b long other x y =
      rows_show (zip2 bit_or a b) (λ u v. cells_of_rows (bits w) n a u v || cells_of_rows (bits w) n b u v) (joined_cells bit_or (λ p q. p || q) bit-or a b long other) x y
      ∙ guard_or (spans (bits w) x) (spans n y) (bit (get_or a (unsigned_abs y) 0) (unsigned_abs x)) (bit (get_or b (unsigned_abs y) 0) (unsigned_abs x))

  pub cells-xor : (a b : List ℕ) → length a ≡ n → length b ≡ n → (x y : ℤ) → cells_of_rows (bits w) n (zip2 bit_xor a b) x y ≡ differ (cells_of_rows (bits w) n a x y) (cells_of_rows (bits w) n b x y)
  cells-xor a b long other x y =
      rows_show (zip2 bit_xor a b) (λ u v. differ (cells_of_rows (bits w) n a u v) (cells_of_rows (bits w) n b u v)) (joined_cells bit_xor differ bit-xor a b long other) x y
      ∙ guard_differ (spans (bits w) x) (spans n y) (bit (get_or a (unsigned_abs y) 0) (unsigned_abs x)) (bit (get_or b (unsigned_abs y) 0) (unsigned_abs x))

  -- all cells, no cells, and the others
  pub cells-all : (x y : ℤ) → cells_of_rows (bits w) n (replicate n (2 ^ bits w - 1)) x y ≡ (spans (bits w) x && spans n y)
  cells-all x y =
      rows_show (replicate n (2 ^ bits w - 1)) (λ u v. true) (λ i j h k. ap (λ r. bit r i) (get_or-replicate n j (2 ^ bits w - 1) 0 k) ∙ bit-ones w i h) x y ∙ and_self (spans (bits w) x && spans n y)
    where
      and_self : (b : Bool) → (b && true) ≡ b
      and_self true = refl
      and_self false = refl

  pub cells-none : (x y : ℤ) → cells_of_rows (bits w) n (replicate n 0) x y ≡ false
  cells-none x y =
      rows_show (replicate n 0) (λ u v. false) (λ i j h k. ap (λ r. bit r i) (get_or-replicate n j 0 0 k) ∙ bit-none i) x y ∙ and_none (spans (bits w) x && spans n y)
    where
      and_none : (b : Bool) → (b && false) ≡ false
      and_none true = refl
      and_none false = refl

  pub cells-not : (rows : List ℕ) → length rows ≡ n → Each1 (Fits w) rows → (x y : ℤ) → cells_of_rows (bits w) n (map (bit_not w) rows) x y ≡ ((spans (bits w) x && spans n y) && not (cells_of_rows (bits w) n rows x y))
  cells-not rows long fits x y =
      rows_show (map (bit_not w) rows) (λ u v. not (cells_of_rows (bits w) n rows u v))
      (λ i j h k.
      let lane : Fits w (get_or rows j 0) = Each1-get_or (Fits w) rows j 0 (omega arith) fits in
      ap (λ r. bit r i) (get_or-map (bit_not w) rows j 0 0 (omega arith)) ∙ bit-not w (get_or rows j 0) i lane.fits h ∙ ap not (sym (cell_in rows i j h k)))
      x y

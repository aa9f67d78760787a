-- What stays known from one book to the next, and results with it.
use Rattle.std.proofs.Common.{ℕ, ◌∙◌, arith, refl}
use Rattle.plane.specs.Plane.{Plane}
use Rattle.plane.proofs.Same.{same_trans, same_refl}
use Rattle.plane.specs.Square.{IsSame}
use Rattle.squares.specs.declared.sq.Sq.{Sq}
use Rattle.squares.specs.Book.{Book, IsKnown, Shows, Keeps, KeepsResults, AddsSquares}

pub keeps_trans : {a b c : Book} → Keeps a b → Keeps b c → Keeps a c
keeps_trans h k = record {
  rule = k.rule ∙ h.rule;
  exponent = k.exponent ∙ h.exponent;
  known = λ sq s. k.known sq (h.known sq s);
  cells = λ sq s. same_trans (k.cells sq (h.known sq s)) (h.cells sq s);
  results = λ sq s. k.results sq (h.results sq s);
  learned = let first = h.learned in let second = k.learned in omega arith;
  facts = λ fact told. k.facts fact (h.facts fact told);
  full = λ s. k.full (h.full s);
  memory = k.memory ∙ h.memory;
  store = k.store ∙ h.store;
}

pub known_kept : {a b : Book} {level : ℕ} {sq : Sq} → Keeps a b → IsKnown a level sq → IsKnown b level sq
known_kept {sq = sq} h k = record { known = h.known sq k.known; at_level = k.at_level; low = k.low; high = k.high }

pub shows_kept : {a b : Book} {level : ℕ} {plane : Plane} {sq : Sq} → Keeps a b → Shows a level plane sq → Shows b level plane sq
shows_kept {sq = sq} h s = record { known = known_kept h s.known; cells = same_trans (h.cells sq s.known.known) s.cells }

-- a square's cells, once it is known, are those that are shown now
pub same_later : {a b : Book} {level : ℕ} {plane : Plane} {sq : Sq} → Keeps a b → Shows a level plane sq → IsSame (b.cells sq) plane
same_later {sq = sq} h s = same_trans (h.cells sq s.known.known) s.cells

pub keeps_none : (a : Book) → Keeps a a
keeps_none a = record {
  rule = refl;
  exponent = refl;
  known = λ sq s. s;
  cells = λ sq s. same_refl (a.cells sq);
  results = λ sq s. s;
  learned = omega arith;
  facts = λ fact told. told;
  full = λ s. s;
  memory = refl;
  store = refl;
}

pub results_trans : {a b c : Book} → KeepsResults a b → KeepsResults b c → KeepsResults a c
results_trans h k = record { results = k.results ∙ h.results; learned = k.learned ∙ h.learned }

pub results_none : (a : Book) → KeepsResults a a
results_none a = record { results = refl; learned = refl }

pub adds_trans : {a b c : Book} → AddsSquares a b → AddsSquares b c → AddsSquares a c
adds_trans h k = record { keeps = keeps_trans h.keeps k.keeps; results = results_trans h.results k.results }

pub adds_none : (a : Book) → AddsSquares a a
adds_none a = record { keeps = keeps_none a; results = results_none a }

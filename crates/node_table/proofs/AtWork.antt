-- What a desk finds out at work, the desk that comes back knows.
use Rattle.std.proofs.Common.{◌≡◌, ℕ, ap, sym, subst, refl}
use Rattle.std.specs.Prelude.{IsTrue}
use Rattle.plane.specs.Centred.{centred}
use Rattle.plane.specs.Plane.{Plane}
use Rattle.plane.specs.Square.{IsSame}
use Rattle.plane.proofs.Same.{same_refl, same_trans}
use Rattle.squares.specs.declared.sq.Sq.{Sq}
use Rattle.squares.specs.Book.{Book, HasResult, IsFuture, IsKnown, Keeps, Shows}
use Rattle.node_table.specs.declared.desk.Desk.{Desk}
use Rattle.node_table.specs.declared.table.NodeTable.{NodeTable}
use Rattle.node_table.specs.Desks.{IsDeskOf, Returns, book_at, work_at, expansions_of}

-- a desk of this table went to work there, and came back with what is in the book
pub record IsBack (table : NodeTable) (desk back : Desk) (book : Book) : Type 0 where
  pub of_table : IsDeskOf table back
  pub keeps : Keeps (book_at table desk) (book_at table back)
  pub expansions : expansions_of back ≡ expansions_of desk
  pub known : (level : ℕ) (sq : Sq) → IsKnown book level sq → IsKnown (book_at table back) level sq
  pub shows : (level : ℕ) (plane : Plane) (sq : Sq) → Shows book level plane sq → Shows (book_at table back) level plane sq
  pub future : (sq future : Sq) → IsFuture book sq future → IsFuture (book_at table back) sq future
  pub has_result : (sq : Sq) → HasResult book sq → HasResult (book_at table back) sq
  pub full : IsTrue book.is_full → IsTrue (book_at table back).is_full
  pub results : book.results ≡ (book_at table back).results

-- what a desk knows, it knows at work
pub known_at_work : (table : NodeTable) (desk : Desk) (begun : Book) (level : ℕ) (sq : Sq) → begun ≡ work_at (expansions_of desk) table desk → IsKnown (book_at table desk) level sq → IsKnown begun level sq
known_at_work table desk begun level sq begins k =
    let there : IsKnown (work_at (expansions_of desk) table desk) level sq = record { known = k.known; at_level = k.at_level; low = k.low; high = k.high } in
    subst (λ b. IsKnown b level sq) (sym begins) there

same_keeps : (n : ℕ) (table : NodeTable) (desk back : Desk) → Keeps (work_at n table desk) (work_at n table back) → Keeps (book_at table desk) (book_at table back)
same_keeps n table desk back k =
    record { rule = k.rule; exponent = k.exponent; known = k.known; cells = k.cells; results = k.results; learned = k.learned; facts = k.facts; full = k.full; memory = k.memory; store = refl }

same_known : (n : ℕ) (table : NodeTable) (desk : Desk) (level : ℕ) (sq : Sq) → IsKnown (work_at n table desk) level sq → IsKnown (book_at table desk) level sq
same_known n table desk level sq k = record { known = k.known; at_level = k.at_level; low = k.low; high = k.high }

same_shows : (n : ℕ) (table : NodeTable) (desk : Desk) (level : ℕ) (plane : Plane) (sq : Sq) → Shows (work_at n table desk) level plane sq → Shows (book_at table desk) level plane sq
same_shows n table desk level plane sq s = record { known = same_known n table desk level sq s.known; cells = s.cells }

-- the desk that leaves its work is back, with what the work found
pub is_back : (table : NodeTable) (desk back : Desk) (begun ended : Book) → begun ≡ work_at (expansions_of desk) table desk → Keeps begun ended → Returns ended back → IsBack table desk back ended
is_back table desk back begun ended begins keeps returns =
    let n = expansions_of desk in
    let kept : Keeps (work_at n table desk) ended = subst (λ b. Keeps b ended) begins keeps in
    let r = returns.returns table desk kept in
    let is : ended ≡ work_at n table back = sym r.1 in
    record {
      of_table = r.0;
      keeps = same_keeps n table desk back (subst (Keeps (work_at n table desk)) is kept);
      expansions = r.2;
      known = λ level sq k. same_known n table back level sq (subst (λ b. IsKnown b level sq) is k);
      shows = λ level plane sq s. same_shows n table back level plane sq (subst (λ b. Shows b level plane sq) is s);
      future = λ sq future f. same_shows n table back _ _ future (subst (λ b. IsFuture b sq future) is f);
      has_result = λ sq h. subst (λ b. HasResult b sq) is h;
      full = λ f. subst (λ (b : Book). IsTrue b.is_full) is f;
      results = ap (λ (b : Book). b.results) is;
    }

pub centred_same : (level : ℕ) (plane other : Plane) → IsSame plane other → IsSame (centred level plane) (centred level other)
centred_same level plane other is = record { same = λ x y. is.same _ _ }

-- the cells that the work found around (0,0), the desk that is back knows
pub back_in_root : {table : NodeTable} {desk back : Desk} {book : Book} (plane : Plane) (sq : Sq) → IsBack table desk back book → IsKnown book sq.level sq →
    IsSame (centred sq.level (book.cells sq)) plane → IsSame (centred sq.level ((book_at table back).cells sq)) plane
back_in_root {table} {desk} {back} {book} plane sq is known cells =
    let own : Shows book sq.level (book.cells sq) sq = record { known = known; cells = same_refl (book.cells sq) } in
    same_trans (centred_same sq.level ((book_at table back).cells sq) (book.cells sq) (is.shows sq.level (book.cells sq) sq own).cells) cells

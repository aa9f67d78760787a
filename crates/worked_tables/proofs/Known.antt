-- Known squares of level 4 or more are jobs.
use Rattle.std.proofs.Common.{◌<◌, ◌≤◌, ℕ, refl, sym, subst}
use Rattle.squares.specs.declared.sq.Sq.{Sq}
use Rattle.squares.specs.Book.{Book, IsKnown}
use Rattle.worker_split.specs.Jobs.{IsJob}

pub job_of : (book : Book) (level : ℕ) (sq : Sq) → 3 < level → IsKnown book level sq → IsJob book sq
job_of book level sq low k = record {
  known = record { known = k.known; at_level = refl; low = subst (λ l. 3 ≤ l) (sym k.at_level) k.low; high = subst (λ l. l ≤ 65) (sym k.at_level) k.high };
  above = subst (λ l. 3 < l) (sym k.at_level) low;
}

-- What all desks of a table expand together is at most so many times its pair slots.
use Rattle.std.proofs.Common.{◌≡◌, ◌≤◌, ℕ, ◌^◌, List, [], ◌∷◌, length, arith}
use Rattle.std.proofs.Math.Logic.{∥∥₁_elim}
use Rattle.std.proofs.Props.{props}
use Rattle.std.proofs.lemmas.List.{length-map}
use Rattle.table_core.proofs.Slots.{consistent_results_fit}
use Rattle.node_table.specs.declared.desk.Desk.{Desk}
use Rattle.node_table.specs.declared.table.NodeTable.{NodeTable}
use Rattle.node_table.specs.Books.{square_of}
use Rattle.node_table.specs.Desks.{IsDeskOf, book_at, expansions_of}
use Rattle.node_table.proofs.Desks.{coherent_at}
use Rattle.worker_split.specs.Jobs.{ComesBack}
use Rattle.worker_split.specs.Work.{Works}
use Rattle.worker_split.specs.Expansions.{AreCalls, EveryExpansionHasItsSlot, last_desk}
use Rattle.squares.proofs.Kept.{keeps_none}
use Rattle.worker_split.proofs.Books.{desk_book, more_results, times_more, times_whole, works_kept, works_more, works_then}

most_prop : (a b : ℕ) → IsProp (a ≤ b)
most_prop a b = hlevel props

-- a desk knows at most one result for each pair slot
results_fit : (table : NodeTable) (desk : Desk) → IsDeskOf table desk → length (book_at table desk).results ≤ 2 ^ table.key.shape.bits
results_fit table desk d =
    let known = desk.seat.me.0.known in
    let few : length known.results ≤ 2 ^ table.key.shape.bits = ∥∥₁_elim (coherent_at table desk d) (most_prop (length known.results) (2 ^ table.key.shape.bits)) (λ t. consistent_results_fit table.key.shape.bits known t.consistent) in
    let long : length (book_at table desk).results ≡ length known.results = length-map known.results square_of in
    omega (arith, few, long)

-- what the call says is what was counted
called : (table : NodeTable) (most workers : ℕ) (desk next : Desk) → workers ≤ most → IsDeskOf table desk → ComesBack table workers desk next → Works most (book_at table desk) (book_at table next) (expansions_of desk) (expansions_of next)
called table most workers desk next few d call =
    let old = book_at table desk in
    let new = book_at table next in
    let le = more_results old new (desk_book table desk d) call.keeps in
    let whole = times_whole workers (length old.results) (length new.results) le in
    let least = call.rises in
    let counted = call.expansions in
    works_more few (desk_book table desk d) (record { keeps = call.keeps; rises = omega (arith, least); count = omega (arith, counted, whole) })

-- calls in a row count as one does
in_a_row : (table : NodeTable) (most : ℕ) (first desk : Desk) (desks : List Desk) → IsDeskOf table desk → Works most (book_at table first) (book_at table desk) (expansions_of first) (expansions_of desk) →
    AreCalls table most desk desks →
    IsDeskOf table (last_desk desk desks) × Works most (book_at table first) (book_at table (last_desk desk desks)) (expansions_of first) (expansions_of (last_desk desk desks))
in_a_row table most first desk [] d done calls = (d, done)
in_a_row table most first desk (next ∷ later) d done calls =
    in_a_row table most first next later calls.2.of_table (works_then done (called table most calls.0 desk next calls.1 d calls.2)) calls.3

pub every_expansion_has_its_slot : EveryExpansionHasItsSlot
every_expansion_has_its_slot table workers first desks d calls =
    let last = last_desk first desks in
    let all = in_a_row table workers first first desks d (works_kept workers (expansions_of first) (desk_book table first d) (keeps_none (book_at table first))) calls in
    let count = all.1.count in
    let fit = times_more workers (length (book_at table last).results) (2 ^ table.key.shape.bits) (results_fit table last all.0) in
    omega (arith, count, fit)

-- While tables are evicted.
use Rattle.std.proofs.Common.{◌≡◌, ℕ, ◌+◌, ◌<◌, ◌≤◌, true, false, nat_le, List, [], ◌∷◌, drop, refl, sym, ◌∙◌, ap, subst, arith}
use Rattle.std.specs.Prelude.{remove, Option, Some, None, IfNone, IfSome}
use Rattle.std.proofs.lemmas.Bool.{leb-false, leb-true}
use Rattle.std.proofs.lemmas.List.{drop-drop}
use Rattle.std.proofs.lemmas.List.Sums.{sum_by-remove, sum_by-take-drop}
use Rattle.std.proofs.lemmas.Option.{get_or_from_slice_get, slice_get_within}
use Rattle.universe.specs.declared.tables.OpenTable.{OpenTable}
use Rattle.universe.specs.Sums.{AreLast, IsTakenOut, pair_sum}
use Rattle.universe.specs.Tables.{pairs_in}

-- the last of the tables, with none gone that had room
pub record AreLeft (old new : List OpenTable) (room : ℕ) : Type 0 where
  pub gone : ℕ
  pub rest : new ≡ drop gone old
  pub needed : (fewer : ℕ) → fewer < gone → room < pair_sum (drop fewer old)

pub none_gone : (tables : List OpenTable) (room : ℕ) → AreLeft tables tables room
none_gone tables room = record { gone = 0; rest = refl; needed = λ fewer less. absurd (omega (arith, less)) }

remove_first : (tables : List OpenTable) → remove tables 0 ≡ drop 1 tables
remove_first [] = refl
remove_first (table ∷ tables) = refl

-- one more is evicted, since there is no room
pub one_gone : (old now : List OpenTable) (room : ℕ) → AreLeft old now room → room < pair_sum now → AreLeft old (remove now 0) room
one_gone old now room left more = record {
  gone = left.gone + 1;
  rest = remove_first now ∙ ap (drop 1) left.rest ∙ drop-drop 1 left.gone old;
  needed = λ fewer less. elim (nat_le left.gone fewer) as (λ b. nat_le left.gone fewer ≡ b → room < pair_sum (drop fewer old)) [
    | true ↦ λ above.
        let at : fewer ≡ left.gone = omega (arith, less, leb-true _ _ above) in
        subst (λ (tables : List OpenTable). room < pair_sum tables) (left.rest ∙ ap (λ n. drop n old) (sym at)) more
    | false ↦ λ below. left.needed fewer (omega (arith, leb-false _ _ below))
  ] refl;
}

drop_sum : (n : ℕ) (tables : List OpenTable) → pair_sum (drop n tables) ≤ pair_sum tables
drop_sum n tables = let both = sum_by-take-drop pairs_in tables n in omega (arith, both)

pub left_sum : (old new : List OpenTable) (room : ℕ) → AreLeft old new room → pair_sum new ≤ pair_sum old
left_sum old new room left = subst (λ (tables : List OpenTable). pair_sum tables ≤ pair_sum old) (sym left.rest) (drop_sum left.gone old)

pub last_sum : (old new : List OpenTable) (room : ℕ) → AreLast old new room → pair_sum new ≤ pair_sum old
last_sum old new room last = subst (λ (tables : List OpenTable). pair_sum tables ≤ pair_sum old) (sym last.rest) (drop_sum last.gone old)

-- what was taken out and the rest are all
pub taken_sum : (old new : List OpenTable) (table : OpenTable) → IsTakenOut old new table → pair_sum new + pairs_in table ≡ pair_sum old
taken_sum old new table taken =
    let there = get_or_from_slice_get old taken.place table table taken.there in
    let sum = sum_by-remove pairs_in old taken.place table (slice_get_within old taken.place table taken.there) in
    rw (taken.rest, ← sum) (ap (λ (t : OpenTable). pair_sum (remove old taken.place) + pairs_in t) (sym there))

-- with one taken out or none, no more are left
pub taken_few : (found : Option OpenTable) (old new : List OpenTable) → IfSome found (IsTakenOut old new) → IfNone found (new ≡ old) → pair_sum new ≤ pair_sum old
taken_few (Some table) old new taken none = let sum = taken_sum old new table taken in omega (arith, sum)
taken_few None old new taken none = let same = ap pair_sum none in omega (arith, same)

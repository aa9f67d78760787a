use Rattle.std.proofs.Common.{rules, ℕ, suc, ◌^◌, ◌<◌, ◌≤◌, refl, sym, ◌∙◌, ap, subst, arith, pow_mono}
use Rattle.std.specs.Prelude.{Option, IfSome}
use Rattle.std.proofs.Math.Nat.{pow-suc}
use Rattle.std.proofs.lemmas.List.Sums.{sum_by_push}
use Rattle.std.proofs.lemmas.Nat.{pow_pos}
use Rattle.squares.specs.Book.{Shows}
use Rattle.squares.proofs.FourKnown.{known_as}
use Rattle.table_core.specs.declared.key.Key.{Key}
use Rattle.table_core.specs.declared.shape.Shape.{Shape}
use Rattle.universe.specs.Sums.{pair_sum}
use Rattle.universe.specs.Tables.{HasPairs, IsTableUnder, known_at, pairs_in}
use Rattle.universe.specs.declared.tables.OpenTable.{OpenTable}
use Rattle.universe.proofs.Halves.{found_ok}
use Rattle.universe.proofs.Onward.{result_again, same_universe}
use Rattle.universe.proofs.Staying.{cells_stay, key_stays, known_stays, same_square, shown_cells}
use Rattle.universe.proofs.universe.Universe.+move_to.Goals as goal

more_pairs : (bits more : ℕ) → bits < more → 2 ^ bits < 2 ^ more
more_pairs bits more less =
    let up = pow_mono {i = suc bits} {j = more} (omega (arith, less)) in
    let double = pow-suc 2 bits in
    let some = pow_pos bits in
    omega (arith, up, double, some)

pub move_to-returns-in_default : goal.move_to-returns-in_default
move_to-returns-in_default g t c =
    let from = c.copy_across-copied.ensures.from in
    let to = c.copy_across-copied.ensures.to in
    result_again {first = c.args.self} _ c.args.other.table.key.exponent c.enlarge_and_move.result c.enlarge_and_move.ensures
    (record { cells = cells_stay c.args.self.root from c.args.self.known; rule = ap (λ (k : Key). k.rule) (key_stays from); limit = refl }) (ap (λ (k : Key). k.exponent) (key_stays to))

pub enlarge_and_move-returns-in_default : goal.enlarge_and_move-returns-in_default
enlarge_and_move-returns-in_default g t c = same_universe c.args.self

pub enlarge_and_move-returns-then-not-make_room_beside : goal.enlarge_and_move-returns-then-not-make_room_beside
enlarge_and_move-returns-then-not-make_room_beside g t c =
    let made = c.make_room_beside.ensures in same_square made.here made.root made.limit

pub enlarge_and_move-returns-in-Some-2 : goal.enlarge_and_move-returns-in-Some-2
enlarge_and_move-returns-in-Some-2 g t c =
    let made = c.make_room_beside.ensures in
    let under = subst (λ (o : Option OpenTable). IfSome o (IsTableUnder c.args.other.table.key.rule c.args.other.table.key.exponent)) c.in-Some-2.is c.in_ok-larger.ensures.under in
    result_again {first = c.args.self} _ c.args.other.table.key.exponent c.move_to.result c.move_to.ensures (same_square made.here made.root made.limit) under.0

pub enlarge_and_move-returns-in-None : goal.enlarge_and_move-returns-in-None
enlarge_and_move-returns-in-None g t c =
    let made = c.make_room_beside.ensures in same_square made.here made.root made.limit

pub move_to-invariant_of-enlarge_and_move : goal.move_to-invariant_of-enlarge_and_move
move_to-invariant_of-enlarge_and_move g t c =
    let from = c.copy_across-copied.ensures.from in
    let pairs = ap (λ (k : Key). 2 ^ k.shape.bits) (key_stays from) in
    let within = c.args.self.within in
    record { known = known_stays c.args.self.root from c.args.self.known; level = c.args.self.level; within = omega (arith, pairs, within) }

pub move_to-invariant_of-result : goal.move_to-invariant_of-result
move_to-invariant_of-result g t c =
    let copied = c.copy_across-copied in
    let root = c.args.self.root in
    let shown = found_ok (Shows (known_at copied.new.other) root.level ((known_at c.args.self.here).cells root)) copied.result c.in_ok-root.ensures.some c.in-Some.is copied.ensures.ok in
    let level = sym shown.known.at_level in
    let from = ap (λ (k : Key). 2 ^ k.shape.bits) (key_stays copied.ensures.from) in
    let to = ap (λ (k : Key). 2 ^ k.shape.bits) (key_stays copied.ensures.to) in
    let sum = ap pair_sum c.in_ok-push.ensures.ok ∙ sum_by_push pairs_in c.args.self.others.tables.items copied.new.self in
    let limit = ap (λ (s : Shape). 2 ^ s.bits) c.push.ensures.limit in
    let room = c.requires.room in
    record { known = known_as level shown.known; level = subst (λ (l : ℕ). (3 < l) × (l ≤ 63)) level c.args.self.level; within = omega (arith, from, to, sum, limit, room) }

pub move_to-returns : goal.move_to-returns
move_to-returns g t c =
    let copied = c.copy_across-copied in
    let root = c.args.self.root in
    let shown = found_ok (Shows (known_at copied.new.other) root.level ((known_at c.args.self.here).cells root)) copied.result c.in_ok-root.ensures.some c.in-Some.is copied.ensures.ok in
    let to = key_stays copied.ensures.to in
    record {
      same = record {
        cells = shown_cells (known_at c.args.self.here) (known_at copied.new.other) root c.in-Some.root shown;
        rule = ap (λ (k : Key). k.rule) to ∙ c.requires.rule;
        limit = c.push.ensures.limit;
      };
      exponent = ap (λ (k : Key). k.exponent) to;
    }

pub enlarge_and_move-move_to-requires : goal.enlarge_and_move-move_to-requires
enlarge_and_move-move_to-requires g t c κs within =
    let under = subst (λ (o : Option OpenTable). IfSome o (IsTableUnder c.args.other.table.key.rule c.args.other.table.key.exponent)) c.in-Some-2.is c.in_ok-larger.ensures.under in
    let size = subst (λ (o : Option OpenTable). IfSome o (HasPairs (2 ^ c.in-Some.shape.bits))) c.in-Some-2.is c.in_ok-larger.ensures.pairs in
    let limit = ap (λ (s : Shape). 2 ^ s.bits) c.make_room_beside.ensures.limit in
    let here = c.make_room_beside.ensures.here in
    let room = c.make_room_beside.ensures.room c.if-not-make_room_beside.false in
    let own = ap (λ (k : Key). k.shape.bits) c.key.ensures in
    let larger = c.in-Some.ensures.some.0 in
    let more = more_pairs c.args.other.table.key.shape.bits c.in-Some.shape.bits (omega (arith, own, larger)) in
    let less = c.decreases in (
      omega (arith, size, limit, more, room, less),
      (
        within.0,
        (
          within.1,
          (
            search rules,
            (
              under.1 ∙ c.requires.rule ∙ sym (ap (λ (s : OpenTable). s.table.key.rule) here),
              omega (arith, size, room),
            ),
          ),
        ),
      ),
    )

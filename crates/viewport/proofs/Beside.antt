-- How columns lie beside a square.
use Rattle.std.proofs.Common.{◌≡◌, ℕ, ℤ, pos, ◌+ℤ◌, ◌-ℤ◌, ◌≤ℤ◌, ◌<ℤ◌, ◌+◌, ◌-◌, ◌≤◌, arith}
use Rattle.std.specs.Prelude.{unsigned_abs}
use Rattle.std.specs.Int.{int_min, int_max}
use Rattle.std.proofs.lemmas.Int.{ints}
use Rattle.viewport.specs.BlockSpans.{AreBeside}

-- a column, as the sum of its parts left of a square, in it and right of it
record IsPlaced (z half low mid high : ℤ) : Type 0 where
  pub sum : (low +ℤ mid) +ℤ high ≡ z
  pub low_most : low ≤ℤ (pos 0 -ℤ half)
  pub mid_least : (pos 0 -ℤ half) ≤ℤ mid
  pub mid_most : mid ≤ℤ half
  pub high_least : half ≤ℤ high
  pub low_own : low <ℤ (pos 0 -ℤ half) → low ≡ z
  pub high_own : half <ℤ high → high ≡ z
  pub mid_above : (pos 0 -ℤ half) <ℤ mid → low ≡ pos 0 -ℤ half
  pub mid_below : mid <ℤ half → high ≡ half

placed : (z half : ℤ) → pos 0 ≤ℤ half → IsPlaced z half (int_min z (pos 0 -ℤ half)) (int_max (pos 0 -ℤ half) (int_min z half)) (int_max z half)
placed z half least = record {
  sum = grind (arith, ints);
  low_most = grind (arith, ints);
  mid_least = grind (arith, ints);
  mid_most = grind (arith, ints);
  high_least = grind (arith, ints);
  low_own = λ h. grind (arith, ints);
  high_own = λ h. grind (arith, ints);
  mid_above = λ h. grind (arith, ints);
  mid_below = λ h. grind (arith, ints);
}

low_rises : (a b h : ℤ) → a ≤ℤ b → int_min a h ≤ℤ int_min b h
low_rises a b h e = grind (arith, ints)

high_rises : (a b h : ℤ) → a ≤ℤ b → int_max a h ≤ℤ int_max b h
high_rises a b h e = grind (arith, ints)

mid_rises : (a b low : ℤ) → a ≤ℤ b → int_max low a ≤ℤ int_max low b
mid_rises a b low e = grind (arith, ints)

way_back : (a b : ℤ) → a ≤ℤ b → pos (unsigned_abs (a -ℤ b)) ≡ b -ℤ a
way_back a b e = omega (arith, ints)

way : (a b : ℤ) → b ≤ℤ a → pos (unsigned_abs (a -ℤ b)) ≡ a -ℤ b
way a b e = omega (arith, ints)

-- columns, of which the first one and the one after the last have these parts
module _ (left half low mid high low' mid' high' : ℤ) (width before from end behind : ℕ)
    (p : IsPlaced left half low mid high) (q : IsPlaced (left +ℤ pos width) half low' mid' high')
    (before_is : pos before ≡ low' -ℤ low) (from_is : pos from ≡ mid -ℤ (pos 0 -ℤ half)) (end_is : pos end ≡ mid' -ℤ (pos 0 -ℤ half)) (behind_is : pos behind ≡ high' -ℤ high)
    (rises : mid ≤ℤ mid') where
  order : from ≤ end
  order = omega (arith, ints)

  whole : before + (end - from) + behind ≡ width
  whole = omega (arith, ints)

  beside_placed : AreBeside left width half (record { before = before; from = from; end = end; behind = behind })
  beside_placed = record {
    all = whole;
    order = order;
    end = omega (arith, ints);
    before = λ some. let own = p.low_own (omega (arith, ints)) in omega (arith, ints);
    inside = λ some. let high_is = p.mid_below (omega (arith, ints)) in let low_is = q.mid_above (omega (arith, ints)) in omega (arith, ints);
    behind = λ some. let own = q.high_own (omega (arith, ints)) in omega (arith, ints, whole, order);
  }

further : (left : ℤ) (width : ℕ) → left ≤ℤ (left +ℤ pos width)
further left width = omega (arith, ints)

pub beside_of : (left : ℤ) (width : ℕ) (half : ℤ) → pos 0 ≤ℤ half →
    AreBeside left width half (record {
      before = unsigned_abs (int_min left (pos 0 -ℤ half) -ℤ int_min (left +ℤ pos width) (pos 0 -ℤ half));
      from = unsigned_abs (int_max (pos 0 -ℤ half) (int_min left half) -ℤ (pos 0 -ℤ half));
      end = unsigned_abs (int_max (pos 0 -ℤ half) (int_min (left +ℤ pos width) half) -ℤ (pos 0 -ℤ half));
      behind = unsigned_abs (int_max left half -ℤ int_max (left +ℤ pos width) half);
    })
beside_of left width half least =
    let p = placed left half least in
    let q = placed (left +ℤ pos width) half least in
    let on = further left width in
    let inner = low_rises left (left +ℤ pos width) half on in
    beside_placed left half _ _ _ _ _ _ width _ _ _ _ p q
    (way_back _ _ (low_rises left (left +ℤ pos width) (pos 0 -ℤ half) on))
    (way _ _ p.mid_least) (way _ _ q.mid_least)
    (way_back _ _ (high_rises left (left +ℤ pos width) half on))
    (mid_rises _ _ (pos 0 -ℤ half) inner)

-- the same, of numbers that have other names
pub beside_by : (left : ℤ) (width : ℕ) (half : ℤ) (a b c d e f : ℤ) (before from end behind : ℕ) → pos 0 ≤ℤ half →
    a ≡ int_min left (pos 0 -ℤ half) → b ≡ int_min (left +ℤ pos width) (pos 0 -ℤ half) →
    c ≡ int_max (pos 0 -ℤ half) (int_min left half) → d ≡ int_max (pos 0 -ℤ half) (int_min (left +ℤ pos width) half) →
    e ≡ int_max left half → f ≡ int_max (left +ℤ pos width) half →
    before ≡ unsigned_abs (a -ℤ b) → from ≡ unsigned_abs (c -ℤ (pos 0 -ℤ half)) → end ≡ unsigned_abs (d -ℤ (pos 0 -ℤ half)) → behind ≡ unsigned_abs (e -ℤ f) →
    AreBeside left width half (record { before = before; from = from; end = end; behind = behind })
beside_by left width half a b c d e f before from end behind low ea eb ec ed ee ef e_before e_from e_end e_behind =
    rw (e_before, e_from, e_end, e_behind, ea, eb, ec, ed, ee, ef) (beside_of left width half low)

-- Planes beside and below one another.
use Rattle.std.proofs.Common.{◌≡◌, ℕ, ◌+◌, ℤ, pos, ◌+ℤ◌, ◌-ℤ◌, Bool, true, false, cond, sym, ◌∙◌, ap, arith, refl}
use Rattle.std.specs.Prelude.{int_lt}
use Rattle.std.proofs.lemmas.Int.{ints}
use Rattle.std.proofs.lemmas.Bool.{false≢true}
use Rattle.plane.specs.Plane.{Plane}
use Rattle.plane.specs.Square.{IsSame, empty, spans}
use Rattle.plane.specs.Block.{IsInside, beside, below}
use Rattle.plane.proofs.Cuts.{if_case}

lt_in : (s : ℕ) (z : ℤ) → spans s z ≡ true → int_lt z (pos s) ≡ true
lt_in s z e = grind (arith, ints)

lt_out : (s : ℕ) (z : ℤ) → spans s z ≡ true → int_lt (z +ℤ pos s) (pos s) ≡ false
lt_out s z e = grind (arith, ints)

out_low : (s : ℕ) (z : ℤ) → spans (s + s) z ≡ false → int_lt z (pos s) ≡ true → spans s z ≡ false
out_low s z e h = grind (arith, ints)

out_high : (s : ℕ) (z : ℤ) → spans (s + s) z ≡ false → int_lt z (pos s) ≡ false → spans s (z -ℤ pos s) ≡ false
out_high s z e h = grind (arith, ints)

there_and_back : (s : ℕ) (z : ℤ) → (z +ℤ pos s) -ℤ pos s ≡ z
there_and_back s z = omega (arith, ints)

cond_true : {A : Type 0} (b : Bool) (u v : A) → b ≡ true → cond b u v ≡ u
cond_true true u v e = refl
cond_true false u v e = absurd (false≢true e)

cond_false : {A : Type 0} (b : Bool) (u v : A) → b ≡ false → cond b u v ≡ v
cond_false true u v e = absurd (false≢true (sym e))
cond_false false u v e = refl

by_test : {A : Type 0} (b : Bool) (u v : A) → (b ≡ false → u ≡ v) → (b ≡ true → u ≡ v) → u ≡ v
by_test true u v h k = k refl
by_test false u v h k = h refl

pub empty_inside : (w t : ℕ) → IsInside w t empty
empty_inside w t = record { columns = λ x y e. refl; rows = λ x y e. refl }

-- the plane with its rows as columns
pub turned : Plane → Plane
turned plane x y = plane y x

pub beside_inside : (w t : ℕ) (a b : Plane) → IsInside w t a → IsInside w t b → IsInside (w + w) t (beside w a b)
beside_inside w t a b ha hb = record {
  columns = λ x y e. if_case (int_lt x (pos w)) (a x y) (b (x -ℤ pos w) y) false (λ ex. ha.columns x y (out_low w x e ex)) (λ ex. hb.columns (x -ℤ pos w) y (out_high w x e ex));
  rows = λ x y e. if_case (int_lt x (pos w)) (a x y) (b (x -ℤ pos w) y) false (λ ex. ha.rows x y e) (λ ex. hb.rows (x -ℤ pos w) y e);
}

pub below_inside : (w t : ℕ) (a b : Plane) → IsInside w t a → IsInside w t b → IsInside w (t + t) (below t a b)
below_inside w t a b ha hb = record {
  columns = λ x y e. if_case (int_lt y (pos t)) (a x y) (b x (y -ℤ pos t)) false (λ ey. ha.columns x y e) (λ ey. hb.columns x (y -ℤ pos t) e);
  rows = λ x y e. if_case (int_lt y (pos t)) (a x y) (b x (y -ℤ pos t)) false (λ ey. ha.rows x y (out_low t y e ey)) (λ ey. hb.rows x (y -ℤ pos t) (out_high t y e ey));
}

-- the left part of what stands beside one another
pub beside_left : (w t : ℕ) (a b c d : Plane) → IsInside w t a → IsInside w t c → IsSame (beside w a b) (beside w c d) → IsSame a c
beside_left w t a b c d ha hc h = record {
  same = λ x y. by_test (spans w x) (a x y) (c x y) (λ e. ha.columns x y e ∙ sym (hc.columns x y e))
      (λ e. let less = lt_in w x e in sym (cond_true (int_lt x (pos w)) (a x y) (b (x -ℤ pos w) y) less) ∙ h.same x y ∙ cond_true (int_lt x (pos w)) (c x y) (d (x -ℤ pos w) y) less);
}

pub beside_right : (w t : ℕ) (a b c d : Plane) → IsInside w t b → IsInside w t d → IsSame (beside w a b) (beside w c d) → IsSame b d
beside_right w t a b c d hb hd h = record {
  same = λ x y. by_test (spans w x) (b x y) (d x y) (λ e. hb.columns x y e ∙ sym (hd.columns x y e))
      (λ e. let more = lt_out w x e in let back = there_and_back w x in
      ap (λ z. b z y) (sym back) ∙ sym (cond_false (int_lt (x +ℤ pos w) (pos w)) (a (x +ℤ pos w) y) (b ((x +ℤ pos w) -ℤ pos w) y) more)
      ∙ h.same (x +ℤ pos w) y ∙ cond_false (int_lt (x +ℤ pos w) (pos w)) (c (x +ℤ pos w) y) (d ((x +ℤ pos w) -ℤ pos w) y) more ∙ ap (λ z. d z y) back);
}

turned_inside : (w t : ℕ) (a : Plane) → IsInside w t a → IsInside t w (turned a)
unfolding turned
turned_inside w t a h = record { columns = λ x y e. h.rows y x e; rows = λ x y e. h.columns y x e }

turned_same : (a c : Plane) → IsSame (turned a) (turned c) → IsSame a c
unfolding turned
turned_same a c h = record { same = λ x y. h.same y x }

turned_below : (t : ℕ) (a b c d : Plane) → IsSame (below t a b) (below t c d) → IsSame (beside t (turned a) (turned b)) (beside t (turned c) (turned d))
unfolding turned
turned_below t a b c d h = record { same = λ x y. h.same y x }

pub below_upper : (w t : ℕ) (a b c d : Plane) → IsInside w t a → IsInside w t c → IsSame (below t a b) (below t c d) → IsSame a c
below_upper w t a b c d ha hc h =
    turned_same a c (beside_left t w (turned a) (turned b) (turned c) (turned d) (turned_inside w t a ha) (turned_inside w t c hc) (turned_below t a b c d h))

pub below_lower : (w t : ℕ) (a b c d : Plane) → IsInside w t b → IsInside w t d → IsSame (below t a b) (below t c d) → IsSame b d
below_lower w t a b c d hb hd h =
    turned_same b d (beside_right t w (turned a) (turned b) (turned c) (turned d) (turned_inside w t b hb) (turned_inside w t d hd) (turned_below t a b c d h))

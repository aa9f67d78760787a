-- Cuts of cuts, and cuts joined.
use Rattle.std.proofs.Common.{◌≡◌, ℕ, ◌+◌, ◌≤◌, ℤ, pos, ◌+ℤ◌, ◌-ℤ◌, Bool, true, false, cond, sym, ◌∙◌, ap, subst, arith, refl}
use Rattle.std.specs.Prelude.{int_lt, ◌&&◌}
use Rattle.std.proofs.lemmas.Int.{ints}
use Rattle.plane.specs.Plane.{Plane}
use Rattle.plane.proofs.Same.{same_trans}
use Rattle.std.proofs.lemmas.Bool.{false≢true}
use Rattle.plane.specs.Square.{IsSame, IsSquare, empty, spans, cut, joined}

pub low : (h : ℕ) (z : ℤ) → int_lt z (pos h) ≡ true → spans h z ≡ spans (h + h) z
low h z e = grind (arith, ints)

pub high : (h : ℕ) (z : ℤ) → int_lt z (pos h) ≡ false → spans h (z -ℤ pos h) ≡ spans (h + h) z
high h z e = grind (arith, ints)

-- a coordinate of a part, seen from the whole
inner : (small big by : ℕ) (z : ℤ) → by + small ≤ big → spans small z ≡ true → spans big (z +ℤ pos by) ≡ true
inner small big by z fits e = grind (arith, ints)

pub back : (h left : ℕ) (z : ℤ) → (z -ℤ pos h) +ℤ pos (left + h) ≡ z +ℤ pos left
back h left z = omega (arith, ints)

further : (a b : ℕ) (z : ℤ) → (z +ℤ pos a) +ℤ pos b ≡ z +ℤ pos (b + a)
further a b z = omega (arith, ints)

pub and_case : (b u v : Bool) → (b ≡ true → u ≡ v) → (b && u) ≡ (b && v)
and_case true u v h = h refl
and_case false u v h = refl

pub and_left : (a b : Bool) → (a && b) ≡ true → a ≡ true
and_left true b h = refl
and_left false b h = h

pub and_right : (a b : Bool) → (a && b) ≡ true → b ≡ true
and_right true b h = h
and_right false b h = cc

pub if_case : {A : Type 0} (b : Bool) (u v w : A) → (b ≡ true → u ≡ w) → (b ≡ false → v ≡ w) → cond b u v ≡ w
if_case true u v w h k = h refl
if_case false u v w h k = k refl

pub cut_cut : (small big left top over down : ℕ) (plane part : Plane) → over + small ≤ big → down + small ≤ big →
    IsSame part (cut big left top plane) → IsSame (cut small over down part) (cut small (left + over) (top + down) plane)
cut_cut small big left top over down plane part fits_x fits_y is = record {
  same = λ x y. and_case (spans small x && spans small y) (part (x +ℤ pos over) (y +ℤ pos down)) (plane (x +ℤ pos (left + over)) (y +ℤ pos (top + down))) (λ e.
      let ex = inner small big over x fits_x (and_left _ _ e) in
      let ey = inner small big down y fits_y (and_right _ _ e) in
      is.same (x +ℤ pos over) (y +ℤ pos down)
      ∙ ap (λ b. (b && spans big (y +ℤ pos down)) && plane ((x +ℤ pos over) +ℤ pos left) ((y +ℤ pos down) +ℤ pos top)) ex
      ∙ ap (λ b. b && plane ((x +ℤ pos over) +ℤ pos left) ((y +ℤ pos down) +ℤ pos top)) ey
      ∙ ap (λ u. plane u ((y +ℤ pos down) +ℤ pos top)) (further over left x)
      ∙ ap (plane (x +ℤ pos (left + over))) (further down top y));
}

pub joined_cuts : (h left top : ℕ) (plane a b c d : Plane) →
    IsSame a (cut h left top plane) → IsSame b (cut h (left + h) top plane) → IsSame c (cut h left (top + h) plane) → IsSame d (cut h (left + h) (top + h) plane) →
    IsSame (joined h a b c d) (cut (h + h) left top plane)
joined_cuts h left top plane a b c d is_a is_b is_c is_d = record {
  same = λ x y. if_case (int_lt y (pos h)) _ _ (cut (h + h) left top plane x y)
      (λ ey. if_case (int_lt x (pos h)) _ _ (cut (h + h) left top plane x y)
      (λ ex. is_a.same x y
      ∙ ap (λ s. (s && spans h y) && plane (x +ℤ pos left) (y +ℤ pos top)) (low h x ex)
      ∙ ap (λ s. (spans (h + h) x && s) && plane (x +ℤ pos left) (y +ℤ pos top)) (low h y ey))
      (λ ex. is_b.same (x -ℤ pos h) y
      ∙ ap (λ s. (s && spans h y) && plane ((x -ℤ pos h) +ℤ pos (left + h)) (y +ℤ pos top)) (high h x ex)
      ∙ ap (λ s. (spans (h + h) x && s) && plane ((x -ℤ pos h) +ℤ pos (left + h)) (y +ℤ pos top)) (low h y ey)
      ∙ ap (λ u. (spans (h + h) x && spans (h + h) y) && plane u (y +ℤ pos top)) (back h left x)))
      (λ ey. if_case (int_lt x (pos h)) _ _ (cut (h + h) left top plane x y)
      (λ ex. is_c.same x (y -ℤ pos h)
      ∙ ap (λ s. (s && spans h (y -ℤ pos h)) && plane (x +ℤ pos left) ((y -ℤ pos h) +ℤ pos (top + h))) (low h x ex)
      ∙ ap (λ s. (spans (h + h) x && s) && plane (x +ℤ pos left) ((y -ℤ pos h) +ℤ pos (top + h))) (high h y ey)
      ∙ ap (λ u. (spans (h + h) x && spans (h + h) y) && plane (x +ℤ pos left) u) (back h top y))
      (λ ex. is_d.same (x -ℤ pos h) (y -ℤ pos h)
      ∙ ap (λ s. (s && spans h (y -ℤ pos h)) && plane ((x -ℤ pos h) +ℤ pos (left + h)) ((y -ℤ pos h) +ℤ pos (top + h))) (high h x ex)
      ∙ ap (λ s. (spans (h + h) x && s) && plane ((x -ℤ pos h) +ℤ pos (left + h)) ((y -ℤ pos h) +ℤ pos (top + h))) (high h y ey)
      ∙ ap (λ u. (spans (h + h) x && spans (h + h) y) && plane u ((y -ℤ pos h) +ℤ pos (top + h))) (back h left x)
      ∙ ap (λ u. (spans (h + h) x && spans (h + h) y) && plane (x +ℤ pos left) u) (back h top y)));
}

pub moved_to : (side left left' top top' : ℕ) (plane part : Plane) → left ≡ left' → top ≡ top' → IsSame part (cut side left top plane) → IsSame part (cut side left' top' plane)
moved_to side left left' top top' plane part el et h =
    subst (λ n. IsSame part (cut side left' n plane)) et (subst (λ n. IsSame part (cut side n top plane)) el h)

-- the four inner quarters of the four quarters of a plane's square, joined, are its centre
pub centre_joined : (half quarter : ℕ) (plane nw ne sw se a b c d : Plane) → half ≡ quarter + quarter →
    IsSame nw (cut half 0 0 plane) → IsSame ne (cut half half 0 plane) → IsSame sw (cut half 0 half plane) → IsSame se (cut half half half plane) →
    IsSame a (cut quarter quarter quarter nw) → IsSame b (cut quarter 0 quarter ne) → IsSame c (cut quarter quarter 0 sw) → IsSame d (cut quarter 0 0 se) →
    IsSame (joined quarter a b c d) (cut half quarter quarter plane)
centre_joined half q plane nw ne sw se a b c d e is_nw is_ne is_sw is_se is_a is_b is_c is_d =
    let one : IsSame a (cut q q q plane) =
    moved_to q _ q _ q plane a (omega arith) (omega arith) (same_trans is_a (cut_cut q half 0 0 q q plane nw (omega arith) (omega arith) is_nw)) in
    let two : IsSame b (cut q (q + q) q plane) =
    moved_to q _ (q + q) _ q plane b (omega arith) (omega arith) (same_trans is_b (cut_cut q half half 0 0 q plane ne (omega arith) (omega arith) is_ne)) in
    let three : IsSame c (cut q q (q + q) plane) =
    moved_to q _ q _ (q + q) plane c (omega arith) (omega arith) (same_trans is_c (cut_cut q half 0 half q 0 plane sw (omega arith) (omega arith) is_sw)) in
    let four : IsSame d (cut q (q + q) (q + q) plane) =
    moved_to q _ (q + q) _ (q + q) plane d (omega arith) (omega arith) (same_trans is_d (cut_cut q half half half 0 0 plane se (omega arith) (omega arith) is_se)) in
    subst (λ n. IsSame (joined q a b c d) (cut n q q plane)) (sym e) (joined_cuts q q q plane a b c d one two three four)

lt_in : (s : ℕ) (z : ℤ) → spans s z ≡ true → int_lt (z +ℤ pos 0) (pos s) ≡ true
lt_in s z e = grind (arith, ints)

lt_out : (s : ℕ) (z : ℤ) → spans s z ≡ true → int_lt (z +ℤ pos s) (pos s) ≡ false
lt_out s z e = grind (arith, ints)

none : (z : ℤ) → z +ℤ pos 0 ≡ z
none z = omega (arith, ints)

there_and_back : (s : ℕ) (z : ℤ) → (z +ℤ pos s) -ℤ pos s ≡ z
there_and_back s z = omega (arith, ints)

and_false : (b : Bool) → (b && false) ≡ false
and_false true = refl
and_false false = refl

-- a plane that is dead outside the square is what shows inside
pub cut_case : (b u v : Bool) → (b ≡ false → u ≡ false) → (b ≡ true → u ≡ v) → u ≡ (b && v)
cut_case true u v h k = k refl
cut_case false u v h k = h refl

pub cond_true : {A : Type 0} (b : Bool) (u v : A) → b ≡ true → cond b u v ≡ u
cond_true true u v e = refl
cond_true false u v e = absurd (false≢true e)

pub cond_false : {A : Type 0} (b : Bool) (u v : A) → b ≡ false → cond b u v ≡ v
cond_false true u v e = absurd (false≢true (sym e))
cond_false false u v e = refl

pub joined_same : (s : ℕ) (a b c d a' b' c' d' : Plane) → IsSame a a' → IsSame b b' → IsSame c c' → IsSame d d' → IsSame (joined s a b c d) (joined s a' b' c' d')
joined_same s a b c d a' b' c' d' ha hb hc hd = record {
  same = λ x y i. cond (int_lt y (pos s)) (cond (int_lt x (pos s)) (ha.same x y i) (hb.same (x -ℤ pos s) y i)) (cond (int_lt x (pos s)) (hc.same x (y -ℤ pos s) i) (hd.same (x -ℤ pos s) (y -ℤ pos s) i));
}

pub joined_within : (s : ℕ) (a b c d : Plane) → IsSquare s a → IsSquare s b → IsSquare s c → IsSquare s d → IsSquare (s + s) (joined s a b c d)
joined_within s a b c d ha hb hc hd = record {
  dead = λ x y e. if_case (int_lt y (pos s)) _ _ false
      (λ ey. if_case (int_lt x (pos s)) _ _ false
      (λ ex. ha.dead x y (ap (λ t. t && spans s y) (low s x ex) ∙ ap (λ t. spans (s + s) x && t) (low s y ey) ∙ e))
      (λ ex. hb.dead (x -ℤ pos s) y (ap (λ t. t && spans s y) (high s x ex) ∙ ap (λ t. spans (s + s) x && t) (low s y ey) ∙ e)))
      (λ ey. if_case (int_lt x (pos s)) _ _ false
      (λ ex. hc.dead x (y -ℤ pos s) (ap (λ t. t && spans s (y -ℤ pos s)) (low s x ex) ∙ ap (λ t. spans (s + s) x && t) (high s y ey) ∙ e))
      (λ ex. hd.dead (x -ℤ pos s) (y -ℤ pos s) (ap (λ t. t && spans s (y -ℤ pos s)) (high s x ex) ∙ ap (λ t. spans (s + s) x && t) (high s y ey) ∙ e)));
}

-- the quarters of what is joined
module _ (s : ℕ) (a b c d : Plane) (ha : IsSquare s a) (hb : IsSquare s b) (hc : IsSquare s c) (hd : IsSquare s d) where
  pub joined_nw : IsSame a (cut s 0 0 (joined s a b c d))
  joined_nw = record {
    same = λ x y. cut_case (spans s x && spans s y) (a x y) (joined s a b c d (x +ℤ pos 0) (y +ℤ pos 0)) (ha.dead x y) (λ e.
        sym (cond_true (int_lt (y +ℤ pos 0) (pos s)) _ _ (lt_in s y (and_right _ _ e)) ∙ cond_true (int_lt (x +ℤ pos 0) (pos s)) _ _ (lt_in s x (and_left _ _ e))
        ∙ ap (λ u. a u (y +ℤ pos 0)) (none x) ∙ ap (a x) (none y)));
  }

  pub joined_ne : IsSame b (cut s s 0 (joined s a b c d))
  joined_ne = record {
    same = λ x y. cut_case (spans s x && spans s y) (b x y) (joined s a b c d (x +ℤ pos s) (y +ℤ pos 0)) (hb.dead x y) (λ e.
        sym (cond_true (int_lt (y +ℤ pos 0) (pos s)) _ _ (lt_in s y (and_right _ _ e)) ∙ cond_false (int_lt (x +ℤ pos s) (pos s)) _ _ (lt_out s x (and_left _ _ e))
        ∙ ap (λ u. b u (y +ℤ pos 0)) (there_and_back s x) ∙ ap (b x) (none y)));
  }

  pub joined_sw : IsSame c (cut s 0 s (joined s a b c d))
  joined_sw = record {
    same = λ x y. cut_case (spans s x && spans s y) (c x y) (joined s a b c d (x +ℤ pos 0) (y +ℤ pos s)) (hc.dead x y) (λ e.
        sym (cond_false (int_lt (y +ℤ pos s) (pos s)) _ _ (lt_out s y (and_right _ _ e)) ∙ cond_true (int_lt (x +ℤ pos 0) (pos s)) _ _ (lt_in s x (and_left _ _ e))
        ∙ ap (λ u. c u ((y +ℤ pos s) -ℤ pos s)) (none x) ∙ ap (c x) (there_and_back s y)));
  }

  pub joined_se : IsSame d (cut s s s (joined s a b c d))
  joined_se = record {
    same = λ x y. cut_case (spans s x && spans s y) (d x y) (joined s a b c d (x +ℤ pos s) (y +ℤ pos s)) (hd.dead x y) (λ e.
        sym (cond_false (int_lt (y +ℤ pos s) (pos s)) _ _ (lt_out s y (and_right _ _ e)) ∙ cond_false (int_lt (x +ℤ pos s) (pos s)) _ _ (lt_out s x (and_left _ _ e))
        ∙ ap (λ u. d u ((y +ℤ pos s) -ℤ pos s)) (there_and_back s x) ∙ ap (d x) (there_and_back s y)));
  }

pub cut_same : (s left top : ℕ) (p q : Plane) → IsSame p q → IsSame (cut s left top p) (cut s left top q)
cut_same s left top p q h = record { same = λ x y i. (spans s x && spans s y) && h.same (x +ℤ pos left) (y +ℤ pos top) i }

pub cut_empty : (s left top : ℕ) → IsSame (cut s left top empty) empty
cut_empty s left top = record { same = λ x y. and_false (spans s x && spans s y) }

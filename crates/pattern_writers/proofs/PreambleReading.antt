-- What stands before the body of an RLE text, read back.
use Rattle.std.proofs.Common.{◌≡◌, ℕ, ◌<◌, ◌^◌, ℤ, List, ◌++◌, codes, decimal, sym, ◌∙◌, arith, append_assoc}
use lib.Signed.{mag}
use Rattle.std.proofs.lemmas.List.{append_cancel_left}
use Rattle.plane.proofs.Cells.{same_cell}
use Rattle.pattern_writers.specs.Preamble.{header_line, position_line}
use Rattle.pattern_writers.specs.declared.rle_text.frame.Frame.{Frame}
use Rattle.pattern_writers.proofs.Decimals.{decimal_end, signed_decimal_end}

-- two texts that are equal give the same position, and go on in the same way
position_read : (x y u v : ℤ) (generation : ℕ) (s t : List ℕ) → mag x < 2 ^ 63 → mag y < 2 ^ 63 → mag u < 2 ^ 63 → mag v < 2 ^ 63 →
    position_line x y generation ++ s ≡ position_line u v generation ++ t → (x ≡ u) × (y ≡ v) × (s ≡ t)
position_read x y u v generation s t small_x small_y small_u small_v is =
    let flat = simp append_assoc at is in
    let columns = signed_decimal_end x u _ _ _ _ small_x small_u (omega arith) (omega arith) (append_cancel_left (codes "#CXRLE Pos=") _ _ flat) in
    let rows = signed_decimal_end y v _ _ _ _ small_y small_v (omega arith) (omega arith) (append_cancel_left (codes ",") _ _ columns.1) in
    (columns.0, rows.0, append_cancel_left (codes "\n") _ _ (append_cancel_left (decimal generation) _ _ (append_cancel_left (codes " Gen=") _ _ rows.1)))

-- after two headers of one rule they go on in the same way
header_read : (width height other_width other_height : ℕ) (rule s t : List ℕ) →
    width < 2 ^ 64 → height < 2 ^ 64 → other_width < 2 ^ 64 → other_height < 2 ^ 64 →
    header_line width height rule ++ s ≡ header_line other_width other_height rule ++ t → s ≡ t
header_read width height other_width other_height rule s t small_w small_h small_ow small_oh is =
    let flat = simp append_assoc at is in
    let widths = decimal_end width other_width _ _ _ _ small_w small_ow (omega arith) (omega arith) (append_cancel_left (codes "x = ") _ _ flat) in
    let heights = decimal_end height other_height _ _ _ _ small_h small_oh (omega arith) (omega arith) (append_cancel_left (codes ", y = ") _ _ widths.1) in
    append_cancel_left (codes "\n") _ _ (append_cancel_left rule _ _ (append_cancel_left (codes ", rule = ") _ _ heights.1))

-- a frame whose numbers a text gives back
pub record IsShortFrame (frame : Frame) : Type 0 where
  pub x : mag frame.corner.x < 2 ^ 63
  pub y : mag frame.corner.y < 2 ^ 63
  pub width : frame.width < 2 ^ 64
  pub height : frame.height < 2 ^ 64

-- what stands before a body
abbrev pub preamble : Frame → ℕ → List ℕ → List ℕ → List ℕ
preamble frame generation comments rule = position_line frame.corner.x frame.corner.y generation ++ comments ++ header_line frame.width frame.height rule

three_parts : (a b c d : List ℕ) → a ++ b ++ c ++ d ≡ a ++ (b ++ (c ++ d))
three_parts a b c d = simp append_assoc

-- two texts that are equal give the same corner and the same body
pub preamble_read : (frame other : Frame) (generation : ℕ) (comments rule s t : List ℕ) → IsShortFrame frame → IsShortFrame other →
    preamble frame generation comments rule ++ s ≡ preamble other generation comments rule ++ t → (frame.corner ≡ other.corner) × (s ≡ t)
preamble_read frame other generation comments rule s t short also is =
    let header = header_line frame.width frame.height rule in
    let other_header = header_line other.width other.height rule in
    let flat = sym (three_parts (position_line frame.corner.x frame.corner.y generation) comments header s) ∙ is
    ∙ three_parts (position_line other.corner.x other.corner.y generation) comments other_header t in
    let position = position_read frame.corner.x frame.corner.y other.corner.x other.corner.y generation _ _ short.x short.y also.x also.y flat in (
      same_cell frame.corner.x frame.corner.y other.corner.x other.corner.y position.0 position.1,
      header_read frame.width frame.height other.width other.height rule s t short.width short.height also.width also.height
          (append_cancel_left comments _ _ position.2),
    )

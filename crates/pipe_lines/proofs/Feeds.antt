-- The bytes before the first LF.
use Rattle.std.proofs.Common.{◌≡◌, ◌≢◌, ℕ, ◌+◌, ◌<◌, Bool, true, false, not, List, [], ◌∷◌, ◌++◌, ◌∙◌, length, take, drop, get_or, refl, ap, sym, arith, append_assoc, length-take, take-append-drop}
use Rattle.std.specs.List.{position_or_len}
use Rattle.std.proofs.lemmas.Bool.{eqb-true, eq-eqb}
use Rattle.std.proofs.lemmas.List.{drop_more, get_or-take}
use Rattle.std.proofs.lemmas.List.Sums.{prefix_len_passes, prefix_len_stops}
use Rattle.text_lines.specs.Lines.{is_line_feed}
use Rattle.pipe_lines.specs.Supply.{IsUnbroken}

no_feed : (byte : ℕ) → not (is_line_feed byte) ≡ true → byte ≢ 10
no_feed byte passes is = let same = eq-eqb byte 10 is in let no : not true ≡ true = ap not (sym same) ∙ passes in cc

not_passed : (b : Bool) → not b ≡ false → b ≡ true
not_passed true stops = refl
not_passed false stops = cc

-- none of them is an LF
pub unbroken_front : (bytes : List ℕ) (count : ℕ) → count ≡ position_or_len is_line_feed bytes → IsUnbroken (take count bytes)
unbroken_front bytes count is k d below =
    let under : k < count = omega (arith, length-take count bytes) in
    let same : get_or (take count bytes) k d ≡ get_or bytes k d = get_or-take count bytes k d under in
    let passes = prefix_len_passes (λ byte. not (is_line_feed byte)) bytes k d (omega arith) in
    λ feed. no_feed (get_or bytes k d) passes (sym same ∙ feed)

-- behind them is the LF, where they are not all
pub feed_behind : (bytes : List ℕ) (count : ℕ) → count ≡ position_or_len is_line_feed bytes → count < length bytes → get_or bytes count 0 ≡ 10
feed_behind bytes count is below =
    let stops : not (is_line_feed (get_or bytes (position_or_len is_line_feed bytes) 0)) ≡ false =
    prefix_len_stops (λ byte. not (is_line_feed byte)) bytes 0 (omega arith) in
    ap (λ place. get_or bytes place 0) is ∙ eqb-true _ 10 (not_passed _ stops)

-- so all bytes are they, the LF, and the bytes behind it
pub parts_at_feed : (bytes after : List ℕ) (count : ℕ) → count ≡ position_or_len is_line_feed bytes → count < length bytes →
    after ≡ drop (count + 1) bytes →
    bytes ≡ (take count bytes ++ 10 ∷ []) ++ after
parts_at_feed bytes after count is below rest =
    sym (take-append-drop count bytes)
    ∙ ap (λ more. take count bytes ++ more) (drop_more bytes count 0 below)
    ∙ ap (λ byte. take count bytes ++ byte ∷ drop (count + 1) bytes) (feed_behind bytes count is below)
    ∙ ap (λ more. take count bytes ++ 10 ∷ more) (sym rest)
    ∙ sym (append_assoc (take count bytes) (10 ∷ []) after)

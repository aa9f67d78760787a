use Rattle.std.proofs.Common.{◌≡◌, ℕ, ◌==◌, false, refl, sym, ◌∙◌, arith}
use Rattle.std.proofs.lemmas.Bool.Decides.{nat_tests}
use Rattle.text_lines.specs.Bytes.{is_blank}
use Rattle.rle_reader.specs.Body.{is_skipped}
use Rattle.rle_reader.proofs.body.is_skipped.Goals as goal

line_feed : (byte : ℕ) → is_blank byte ≡ false → (byte ≡ 13 → ⊥) → (byte == 10) ≡ is_skipped byte
line_feed byte no_blank no_return =
    let other : (byte == 13) ≡ false = grind (arith, nat_tests) in
    rw (no_blank, other) refl

pub returns-else-byte-eq13 : goal.returns-else-byte-eq13
returns-else-byte-eq13 c =
    line_feed c.args.byte (sym c.is_blank.ensures ∙ c.if-byte-eq13.false.0) c.if-byte-eq13.false.1

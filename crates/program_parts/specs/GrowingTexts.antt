use Rattle.std.specs.Prelude.{ℕ, List}
use Rattle.program_parts.specs.declared.growing_text.GrowingText.{GrowingText}

-- the bytes that it took
abbrev pub text_of : GrowingText → List ℕ
text_of text = text.bytes.items

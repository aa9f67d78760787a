use Rattle.std.proofs.Common.{◌≡◌, List, ℕ, ℤ, ◌++◌, of_z, to_z, w64, rules, ap, ◌∙◌}
use Rattle.std.specs.Int.{cast_unsigned, to_le_bytes}
use Rattle.std.proofs.lemmas.Int.{to_z-of_z}
use Rattle.pipe_program.proofs.RunsPushed.{three_pushed}
use Rattle.pipe_program.proofs.run_bytes.push_run.Goals as goal

pub returns : goal.returns
returns c =
    let items : List ℕ = c.args.bytes.now.items in
    let x : List ℕ = to_le_bytes w64 (cast_unsigned w64 c.args.run.0) in
    let y : List ℕ = to_le_bytes w64 (cast_unsigned w64 c.args.y) in
    let count : List ℕ = to_le_bytes w64 c.args.run.1 in
    let x_read : c.to_le_bytes.result ≡ to_le_bytes w64 (cast_unsigned w64 (to_z w64 (of_z w64 c.args.run.0))) = c.to_le_bytes.ensures in
    let y_read : c.to_le_bytes-2.result ≡ to_le_bytes w64 (cast_unsigned w64 (to_z w64 (of_z w64 c.args.y))) = c.to_le_bytes-2.ensures in
    let x_is : c.to_le_bytes.result ≡ x = x_read ∙ ap (λ (z : ℤ). to_le_bytes w64 (cast_unsigned w64 z)) (to_z-of_z w64 c.args.run.0 (search rules)) in
    let y_is : c.to_le_bytes-2.result ≡ y = y_read ∙ ap (λ (z : ℤ). to_le_bytes w64 (cast_unsigned w64 z)) (to_z-of_z w64 c.args.y c.ranges.y) in
    let count_is : c.to_le_bytes-3.result ≡ count = c.to_le_bytes-3.ensures in
    three_pushed c.extend_from_slice-3.result items x y count c.extend_from_slice.new.self.items c.extend_from_slice-2.new.self.items c.extend_from_slice-3.new.self.items
    (c.in_ok-extend_from_slice.ensures.items ∙ ap (λ (l : List ℕ). items ++ l) x_is)
    (c.in_ok-extend_from_slice-2.ensures.items ∙ ap (λ (l : List ℕ). c.extend_from_slice.new.self.items ++ l) y_is)
    (rw (← count_is) c.extend_from_slice-3.ensures.items)

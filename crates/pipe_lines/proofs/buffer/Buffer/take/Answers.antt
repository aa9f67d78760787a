use Rattle.std.proofs.Common.{◌≡◌, ℕ, ◌+◌, ◌-◌, ◌≤◌, ◌∙◌, List, length, take, drop, ap, sym, arith, length-take}
use Rattle.std.proofs.lemmas.List.{drop-drop, drop-take}
use Rattle.pipe_lines.specs.Supply.{pending_in}
use Rattle.pipe_lines.proofs.buffer.Buffer.take.Goals as goal

-- the part of the bytes that begins so many bytes later
later_part : (bytes : List ℕ) (start end count : ℕ) → count ≤ length (take (end - start) (drop start bytes)) →
    take (end - (start + count)) (drop (start + count) bytes) ≡ drop count (take (end - start) (drop start bytes))
later_part bytes start end count within =
    let left : count + (end - (start + count)) ≡ end - start = omega (arith, length-take (end - start) (drop start bytes)) in
    ap (take (end - (start + count))) (sym (drop-drop count start bytes))
    ∙ sym (drop-take count (end - (start + count)) (drop start bytes))
    ∙ ap (λ n. drop count (take n (drop start bytes))) left

pub returns : goal.returns
unfolding pending_in
returns c =
    let old = c.args.self.now in
    later_part old.bytes old.start old.end c.args.count c.requires

use Rattle.std.proofs.Common.{◌≡◌, ℕ, ◌+◌, ◌≤◌, ◌++◌, ◌∷◌, [], List, length, append_assoc, sym, ◌∙◌, ap, arith}
use Rattle.std.proofs.lemmas.List.{length_push}
use Rattle.rule_text.specs.CountRule.{has}
use Rattle.rule_text.specs.RuleText.{digit_text}
use Rattle.rule_text.proofs.CountUp.{below, below-yes, below-no, below-nine, digit_text-push}
use Rattle.rule_text.proofs.digits.Digits.write.Goals.{then-contains, else-contains}
use Rattle.rule_text.proofs.digits.Digits.write.Goals as goal

-- one more digit at the end of what is written
written-push : (old new text digits more : List ℕ) (digit : ℕ) → text ≡ old ++ digit_text digits → new ≡ text ++ (48 + digit) ∷ [] → more ≡ digits ++ digit ∷ [] → new ≡ old ++ digit_text more
written-push old new text digits more digit is pushed grown =
    let byte : 48 + digit ≡ digit + 48 = omega arith in
    pushed
    ∙ ap (λ front. front ++ (48 + digit) ∷ []) is
    ∙ append_assoc old (digit_text digits) ((48 + digit) ∷ [])
    ∙ ap (λ last. old ++ (digit_text digits ++ last ∷ [])) byte
    ∙ ap (λ digits. old ++ digits) (sym (digit_text-push digits digit) ∙ ap digit_text (sym grown))

length-grown : (new text : List ℕ) (byte bound n : ℕ) → new ≡ text ++ byte ∷ [] → length text ≤ bound + n → length new ≤ bound + (n + 1)
length-grown new text byte bound n pushed small = rw (pushed, length_push text byte) (omega arith)

pub loop-digit-preserved : goal.loop-digit-preserved
loop-digit-preserved c =
    let old = c.args.text.now.bytes in
    let text = c.loop-digit.text.bytes in
    let n = c.loop-digit.digit in
    let marked = has c.args.self in
    elim c.if-contains.branch [
      | then-contains w ↦
          let pushed : c.if-contains.text.bytes ≡ text ++ (48 + n) ∷ [] =
          ap (λ text. text.bytes) w.text-is
          ∙ w.push.ensures.ascii (omega arith)
          ∙ ap (λ byte. text ++ byte ∷ []) w.from.ensures
          in
          record {
            digits =
                written-push old c.if-contains.text.bytes text (below marked n) (below marked (n + 1)) n c.loop-digit.invariant.digits pushed
                (below-yes marked n (sym c.contains.ensures ∙ w.if-contains.true));
            length = length-grown c.if-contains.text.bytes text (48 + n) (length old) n pushed c.loop-digit.invariant.length;
          }
      | else-contains w ↦
          let same : c.if-contains.text.bytes ≡ text = ap (λ text. text.bytes) w.text-is in
          record {
            digits =
                same
                ∙ c.loop-digit.invariant.digits
                ∙ ap (λ digits. old ++ digit_text digits) (sym (below-no marked n (sym c.contains.ensures ∙ w.if-contains.false)));
            length = rw same (omega arith);
          }
    ]

pub returns-clause-digits : goal.returns-clause-digits
returns-clause-digits c =
    let nine : c.loop-digit.digit ≡ 9 = omega arith in
    c.loop-digit.invariant.digits
    ∙ ap (λ n. c.args.text.now.bytes ++ digit_text (below (has c.args.self) n)) nine
    ∙ ap (λ digits. c.args.text.now.bytes ++ digit_text digits) (below-nine c.args.self)

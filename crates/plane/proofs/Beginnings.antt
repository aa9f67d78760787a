-- Beginnings of texts that a sink took.
use Rattle.std.proofs.Common.{◌≡◌, ℕ, ◌+◌, ◌≤◌, List, ◌++◌, length, take, sym, subst, arith, length-append}
use Rattle.std.specs.Prelude.{Option}
use Rattle.std.specs.Io.KnownBytes.{Appends}
use Rattle.std.proofs.KnownBytes.{Appends-trans}
use Rattle.std.proofs.Math.Seq.{take-append-add}
use Rattle.std.proofs.lemmas.List.{take-append-le}
use Rattle.plane.specs.Device.{AppendsBeginning}

-- a beginning of a text is one of the text and more
pub beginning_of_more : {old new : Option (List ℕ)} {text : List ℕ} (more : List ℕ) → AppendsBeginning old new text → AppendsBeginning old new (text ++ more)
beginning_of_more {old} {new} {text} more begun =
    let longer = length-append text more in
    let within : begun.count ≤ length text = omega arith in
    record {
      count = begun.count;
      short = omega (arith, longer);
      taken = subst (Appends old new) (sym (take-append-le begun.count text more within)) begun.taken;
    }

-- a text and then a beginning of another
pub text_and_beginning : {old mid new : Option (List ℕ)} {text : List ℕ} (first : List ℕ) → Appends old mid first → AppendsBeginning mid new text → AppendsBeginning old new (first ++ text)
text_and_beginning {old} {mid} {new} {text} first written begun =
    let longer = length-append first text in
    record {
      count = length first + begun.count;
      short = omega (arith, longer);
      taken = subst (Appends old new) (sym (take-append-add first text begun.count)) (Appends-trans old mid new first (take begun.count text) written begun.taken);
    }

-- a beginning of a text that is another's
pub beginning_as : {old new : Option (List ℕ)} {text other : List ℕ} → text ≡ other → AppendsBeginning old new text → AppendsBeginning old new other
beginning_as {old} {new} = subst (AppendsBeginning old new)

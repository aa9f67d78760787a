-- What a call does to a sink.
use Rattle.std.specs.Prelude.{◌≡◌, ℕ, List, Option}
use Rattle.std.specs.Io.KnownBytes.{Appends}
use Rattle.plane.specs.Device.{AppendsBeginning, HasFailed}

-- a sink before and after a call, what it took until then, where that is known, and how often it
-- had failed
pub record SinkChange (S : Type 0) : Type 0 where
  pub old : S
  pub new : S
  pub taken : S → Option (List ℕ)
  pub failure_count : S → ℕ

-- that of a sink which was so before and is so after
abbrev pub change_of : {S : Type 0} → (S → Option (List ℕ)) → (S → ℕ) → S → S → SinkChange S
change_of taken failure_count old new = record {
  old = old;
  new = new;
  taken = taken;
  failure_count = failure_count;
}

-- the sink took this text
abbrev pub Takes : {S : Type 0} → SinkChange S → List ℕ → Type 0
Takes sink text = Appends (sink.taken sink.old) (sink.taken sink.new) text

-- the sink took the first bytes of this text, and not all of them
abbrev pub TakesBeginning : {S : Type 0} → SinkChange S → List ℕ → Type 0
TakesBeginning sink text = AppendsBeginning (sink.taken sink.old) (sink.taken sink.new) text

-- the sink failed
abbrev pub Fails : {S : Type 0} → SinkChange S → Type 0
Fails sink = HasFailed (sink.failure_count sink.old) (sink.failure_count sink.new)

-- the sink did not fail
abbrev pub IsUnfailed : {S : Type 0} → SinkChange S → Type 0
IsUnfailed sink = sink.failure_count sink.new ≡ sink.failure_count sink.old

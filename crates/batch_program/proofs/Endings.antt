-- How doing what words ask for ends, by the answer of the run.
use Rattle.std.proofs.Common.{◌≡◌, ◌⊎◌, Result, Ok, Err, refl, inl, inr, ap, ◌∙◌}
use Rattle.std.specs.Result.{result_and, result_map_both}
use Rattle.plane.specs.Fault.{placeless}
use Rattle.plane.specs.SinkChange.{SinkChange, IsUnfailed}
use Rattle.plane.specs.SourceChange.{IsDoneWithAll, SourceChange}
use Rattle.plane.specs.declared.fault.Fault.{Fault}
use Rattle.plane.specs.declared.refusal.Refusal.TheVariants.{WriteFailed}
use Rattle.engine.specs.Run.{IsRun}
use Rattle.engine.specs.declared.options.Options.{Options}
use Rattle.engine.specs.declared.running.Summary.{Summary}

pub without_summary : (answer : Result Summary Fault) → result_and {U = Unit} answer (Ok tt) ≡ result_map_both (λ _. tt) (λ fault. fault) answer
without_summary (Ok summary) = refl
without_summary (Err fault) = refl

-- the report of a run did not fail, or the answer is that a sink did
pub run_unfailed : {S W V : Type 0} (options : Options) (source : SourceChange S) (report : SinkChange W) (file : SinkChange V) (answer : Result Summary Fault) (ended : Result Unit Fault) →
    ended ≡ result_and answer (Ok tt) → IsDoneWithAll source (λ bytes. IsRun bytes options report file answer) answer ((report.new ≡ report.old) × (file.new ≡ file.old)) →
    (ended ≡ Err (placeless WriteFailed)) ⊎ IsUnfailed report
run_unfailed options source report file answer ended is (inl (bytes, gives, run)) =
    elim run.unfailed [
      | inl failed ↦ inl (is ∙ ap (λ (a : Result Summary Fault). result_and {U = Unit} a (Ok tt)) failed)
      | inr unfailed ↦ inr unfailed.1
    ]
run_unfailed options source report file answer ended is (inr (refusal, unread, refused, same)) = inr (ap report.failure_count same.0)

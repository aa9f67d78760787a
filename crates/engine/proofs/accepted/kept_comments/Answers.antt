use Rattle.std.proofs.Common.{List, ℕ, sym, subst}
use Rattle.std.specs.List.{AllByRecursion}
use Rattle.pattern_writers.specs.Reading.{IsComment}
use Rattle.engine.proofs.accepted.kept_comments.Goals as goal

pub of-requires : goal.of-requires
of-requires c = subst (λ (comments : List (List ℕ)). AllByRecursion IsComment comments) (sym c.comments.ensures) c.requires

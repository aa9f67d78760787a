-- An error that `?` hands on.
use Rattle.std.proofs.Common.{◌≡◌, sym, subst}
use Rattle.std.specs.Prelude.{Result, Ok, Err, IfErr, IsErrAnd}

-- what holds of the error holds of the one that is handed on
pub sent_on : {T E : Type 0} (P : E → Type 0) (r : Result T E) (e : E) → IsErrAnd r (λ sent. sent ≡ e) → P e → IfErr r P
sent_on P (Ok x) e is h = tt
sent_on P (Err sent) e is h = subst P (sym is) h

-- What holds, said of an error.
use Rattle.std.specs.Prelude.{OnErr, Result, Ok, Err}

pub at_error : {T E : Type 0} (result : Result T E) (P : Type 0) → P → OnErr result P
at_error (Ok value) P is = tt
at_error (Err error) P is = is

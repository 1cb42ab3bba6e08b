-- What holds where a call failed.
use Rattle.std.specs.Prelude.{OnErr, Ok, Err}
use Rattle.std.proofs.Common.{Result}

pub on_fail : {T E : Type 0} (A B : Type 0) (result : Result T E) → (A → B) → OnErr result A → OnErr result B
on_fail A B (Ok x) to is = is
on_fail A B (Err e) to is = to is

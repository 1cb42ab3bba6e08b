-- What holds where a call answered Ok, put together.
use Rattle.std.specs.Prelude.{OnOk, Ok, Err}
use Rattle.std.proofs.Common.{Result}

pub on_both : {T E : Type 0} (A B C : Type 0) (result : Result T E) → (A → B → C) → OnOk result A → OnOk result B → OnOk result C
on_both A B C (Ok x) to a b = to a b
on_both A B C (Err e) to a b = b

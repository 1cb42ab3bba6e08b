-- What a call leaves in either case.
use Rattle.std.proofs.Common.{Result, Ok, Err}
use Rattle.std.specs.Prelude.{OnOk, OnErr}

pub on_ok-more : {A E : Type 0} (P R : Type 0) (r : Result A E) → OnOk r P → (P → R) → OnOk r R
on_ok-more P R (Ok a) ok f = f ok
on_ok-more P R (Err e) ok f = ok

pub on_err-more : {A E : Type 0} (P R : Type 0) (r : Result A E) → OnErr r P → (P → R) → OnErr r R
on_err-more P R (Ok a) err f = err
on_err-more P R (Err e) err f = f err

pub on_err-any : {A E : Type 0} (P : Type 0) (r : Result A E) → P → OnErr r P
on_err-any P (Ok a) h = tt
on_err-any P (Err e) h = h

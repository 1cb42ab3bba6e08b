-- Bytes that are those of a value are read as that value, where a reader finds what is there, refuses what isn't, and no bytes are those of two values.
use Rattle.std.proofs.Common.{◌≡◌, ap, Option, Some, None, IfSome, IfNone, Result, Ok, Err, IfOk, OnErr}

pub some_again : {A : Type 0} (P : A → Type 0) (r : Option A) → ((a b : A) → P a → P b → a ≡ b) → IfSome r P → IfNone r ((a : A) → P a → ⊥) → (a : A) → P a → r ≡ Some a
some_again P (Some b) one found none a is = ap Some (one b a found is)
some_again P None one found none a is = absurd (none a is)

pub ok_again : {A E : Type 0} (P : A → Type 0) (r : Result A E) → ((a b : A) → P a → P b → a ≡ b) → IfOk r P → OnErr r ((a : A) → P a → ⊥) → (a : A) → P a → r ≡ Ok a
ok_again P (Ok b) one found none a is = ap Ok (one b a found is)
ok_again P (Err e) one found none a is = absurd (none a is)

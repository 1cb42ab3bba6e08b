-- What an answer says of a refusal. Want of memory says nothing.
use Rattle.std.specs.Prelude.{◌≡◌, Result, Ok, Err, Some, None}
use Rattle.rdb_meaning.specs.Checks.{Refusal}
use Rattle.rdb_checks.specs.declared.stop.Stop.{Stop}
use Rattle.rdb_checks.specs.declared.stop.Stop.TheVariants.{Refused, Memory}

-- the first refusal, or none
abbrev pub Finds : {A : Type 0} → Result A Stop → Refusal → Type 0
Finds (Ok _) refusal = refusal ≡ None
Finds (Err (Refused reply)) refusal = refusal ≡ Some reply
Finds (Err Memory) refusal = Unit {0}

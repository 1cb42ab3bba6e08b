-- What an answer says of a definition. Want of memory leaves the tables, and says no more.
use Rattle.std.specs.Prelude.{◌≡◌, Result, Ok, Err, Some, None}
use Rattle.rdb_checks.specs.rdb_meaning.declared.tables.Tables.{Tables}
use Rattle.rdb_checks.specs.rdb_meaning.Checks.{Refusal}
use Rattle.rdb_checks.specs.declared.stop.Stop.{Stop}
use Rattle.rdb_checks.specs.declared.stop.Stop.TheVariants.{Refused, Memory}

-- the tables that a definition leaves, where nothing refuses it, and else the refusal and the tables as they were
abbrev pub Defines : {A : Type 0} → Result A Stop → Refusal → Tables → Tables → Tables → Type 0
Defines (Ok _) refusal old new after = (refusal ≡ None) × (new ≡ after)
Defines (Err (Refused reply)) refusal old new after = (refusal ≡ Some reply) × (new ≡ old)
Defines (Err Memory) refusal old new after = new ≡ old

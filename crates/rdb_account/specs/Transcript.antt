-- What is written of a run.
use Rattle.std.specs.Prelude.{ℕ, ◌-◌, ◌==◌, nat_le, if◌then◌else◌, ℤ, pos, negsuc, unsigned_abs, List, [], ◌∷◌, ◌++◌, length, take, drop, replicate, codes, decimal}
use Rattle.std.specs.List.{flat_map}
use Rattle.lock_needs.specs.rdb_types.declared.values.Value.{Value}
use Rattle.lock_needs.specs.rdb_types.declared.values.Value.TheVariants.{Missing, Number, Text}
use Rattle.lock_needs.specs.rdb_types.declared.values.Scaled.{Scaled}
use Rattle.lock_needs.specs.rdb_types.declared.session.Cause.{Cause}
use Rattle.lock_needs.specs.rdb_types.declared.session.Cause.TheVariants as cause
use Rattle.rdo_ast.specs.declared.reply.Reply.{Reply}
use Rattle.rdo_ast.specs.declared.reply.Reply.TheVariants as r
use Rattle.rdb_account.specs.declared.event.Event.{Event as Declared}
use Rattle.rdb_account.specs.Events.{Event, Began, Wanted, Got, Demoted, Said, Committed, RolledBack, Died, Recovered, event_of}

abbrev pub sign_text : ℤ → List ℕ
sign_text (pos n) = []
sign_text (negsuc n) = codes "-"

-- a point before the last digits, as many as the scale says, and at least one digit before the point
abbrev pub pointed : ℕ → List ℕ → List ℕ
pointed scale digits =
    if nat_le (length digits) scale then codes "0." ++ replicate (scale - length digits) 48 ++ digits
    else take (length digits - scale) digits ++ codes "." ++ drop (length digits - scale) digits

abbrev pub digits_text : ℕ → List ℕ → List ℕ
digits_text scale digits = if scale == 0 then digits else pointed scale digits

abbrev pub value_text : ℕ → Value → List ℕ
value_text scale Missing = codes "(missing)"
value_text scale (Number n) = sign_text n ++ digits_text scale (decimal (unsigned_abs n))
value_text scale (Text bytes) = bytes

abbrev pub scaled_text : Scaled → List ℕ
scaled_text v = value_text v.scale v.value

-- the values behind the first, each with a blank in front
abbrev pub row_text : List Scaled → List ℕ
row_text [] = []
row_text (v ∷ vs) = scaled_text v ++ flat_map (λ w. 32 ∷ scaled_text w) vs

abbrev pub row_line : List Scaled → List ℕ
row_line row = row_text row ++ 10 ∷ []

-- each session with a blank in front
abbrev pub sessions_text : List ℕ → List ℕ
sessions_text sessions = flat_map (λ s. 32 ∷ decimal s) sessions

abbrev pub named : List ℕ → List ℕ → List ℕ
named message name = message ++ name ++ codes "\n"

abbrev pub counted : List ℕ → ℕ → List ℕ → List ℕ
counted message n unit = message ++ decimal n ++ unit ++ codes "\n"

abbrev pub reply_text : Reply → List ℕ
reply_text (r.Done rows) = flat_map row_line rows
reply_text (r.Syntax line column) = codes "%RDO-E-SYNTAX, line " ++ decimal line ++ codes " column " ++ decimal column ++ codes "\n"
reply_text (r.NoSuch name) = named (codes "%RDO-E-NOSUCH, ") name
reply_text (r.Exists name) = named (codes "%RDO-E-EXISTS, ") name
reply_text r.TypeClash = codes "%RDO-E-TYPECLASH\n"
reply_text r.Overflow = codes "%RDO-E-OVERFLOW\n"
reply_text (r.Duplicate index) = named (codes "%RDO-E-DUPLICATE, ") index
reply_text r.NoTransaction = codes "%RDO-E-NOTRAN\n"
reply_text r.InTransaction = codes "%RDO-E-INTRAN\n"
reply_text r.ReadOnly = codes "%RDO-E-READONLY\n"
reply_text (r.NotReserved relation) = named (codes "%RDO-E-NOTRESERVED, ") relation
reply_text (r.LockConflict session) = counted (codes "%RDO-E-LOCKCONFLICT, session ") session []
reply_text (r.Deadlock sessions) = codes "%RDO-E-DEADLOCK, sessions" ++ sessions_text sessions ++ codes "\n"
reply_text (r.AreaFull n) = counted (codes "%RDO-E-AREAFULL, ") n (codes " pages")
reply_text (r.RujFull n) = counted (codes "%RDO-E-RUJFULL, ") n (codes " entries")
reply_text (r.AijFull n) = counted (codes "%RDO-E-AIJFULL, ") n (codes " slots")
reply_text (r.SnapFull n) = counted (codes "%RDO-E-SNAPFULL, ") n (codes " slots")
reply_text r.TooLong = codes "%RDO-E-TOOLONG\n"
reply_text r.NoMemory = codes "%RDO-E-NOMEMORY\n"

abbrev pub death_text : Cause → List ℕ
death_text cause.Device = codes "%RDO-F-DIED, device\n"
death_text cause.Gate = codes "%RDO-F-DIED, gate\n"
death_text cause.Stop = codes "%RDO-F-DIED, stop\n"
death_text cause.Memory = codes "%RDO-F-DIED, memory\n"

-- what a session writes at an event
abbrev pub event_text : ℕ → Event → List ℕ
event_text session (Said s item choices reply) = if s == session then reply_text reply else []
event_text session (Died s c) = if s == session then death_text c else []
event_text session (Began s kind) = []
event_text session (Wanted s n asked) = []
event_text session (Got s n) = []
event_text session (Demoted s n from to) = []
event_text session (Committed s moment) = []
event_text session (RolledBack s) = []
event_text session (Recovered s committed moment) = []

-- what a session writes in a run
abbrev pub transcript : ℕ → List Declared → List ℕ
transcript session events = flat_map (λ e. event_text session (event_of e)) events

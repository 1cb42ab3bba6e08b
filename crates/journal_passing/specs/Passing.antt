-- A group slot by slot, without its lines.
use Rattle.std.specs.Prelude.{ℕ, ◌+◌, ◌==◌, ◌&&◌, nat_lt, Bool, true, Option, Some, None, if◌then◌else◌}
use Rattle.std.specs.Ordering.{is_lt}
use Rattle.rdb_types.specs.declared.keys.Dbkey.{Dbkey}
use Rattle.rdb_types.specs.Order.{dbkey_order}
use Rattle.journal_reading.specs.aij_journal.declared.part.GroupLine.{GroupLine}
use Rattle.journal_reading.specs.aij_journal.declared.part.AijPart.{AijPart}
use Rattle.journal_passing.specs.declared.passing.Passing.{Passing}
use Rattle.journal_passing.specs.declared.passing.Passed.{Passed}
use Rattle.journal_passing.specs.declared.passing.Passed.TheVariants.{More, Whole, Broken}

-- a group before its first slot, which has the TSN and the count of all of them
abbrev pub no_lines : AijPart → Passing
no_lines part = record { tsn = part.tsn; count = part.count; lines = 0; last = None }

-- the slots of a group have one TSN and one count, and their indexes count from 0
abbrev pub is_next : Passing → AijPart → Bool
is_next p part = (part.tsn.number == p.tsn.number) && (part.count == p.count) && (part.index == p.lines)

-- the Dbkey is above that one, if there is one
abbrev pub is_behind : Dbkey → Option Dbkey → Bool
is_behind key None = true
is_behind key (Some before) = is_lt (dbkey_order before key)

-- a line comes next, whose slot is not the last of the count
abbrev pub grown : Passing → Dbkey → Passed
grown p key = if nat_lt (p.lines + 1) p.count && is_behind key p.last then More (record p { lines = p.lines + 1; last = Some key }) else Broken

-- the commit comes next, whose slot is the last of the count
abbrev pub closed : Passing → Passed
closed p = if p.lines + 1 == p.count then Whole (record { tsn = p.tsn; lines = p.lines }) else Broken

abbrev pub passed_what : Passing → Option GroupLine → Passed
passed_what p None = closed p
passed_what p (Some line) = grown p line.key

-- each slot of a group has its number
abbrev pub is_its : Passing → ℕ → AijPart → Bool
is_its p number part = (part.number == number) && is_next p part

abbrev pub continued : Passing → ℕ → AijPart → Passed
continued p number part = if is_its p number part then passed_what p part.line else Broken

-- where none of its slots was passed, this one begins it
abbrev pub begun_by : Option Passing → AijPart → Passing
begun_by None part = no_lines part
begun_by (Some p) part = p

abbrev pub passed_by : Option Passing → ℕ → Option AijPart → Passed
passed_by before number None = Broken
passed_by before number (Some part) = continued (begun_by before part) number part

-- A journal read slot by slot.
use Rattle.std.specs.Prelude.{ℕ, ◌+◌, ◌-◌, ◌==◌, ◌&&◌, nat_lt, Bool, List, [], ◌∷◌, ◌++◌, length, slice_get, Option, Some, None, if◌then◌else◌}
use Rattle.aij_journal.specs.declared.part.GroupLine.{GroupLine}
use Rattle.aij_journal.specs.declared.part.AijPart.{AijPart}
use Rattle.journal_scan.specs.declared.group.Group.{Group}
use Rattle.journal_scan.specs.declared.scan.Begun.{Begun}
use Rattle.journal_scan.specs.declared.scan.Scan.{Scan}
use Rattle.journal_scan.specs.declared.scan.Stage.{Stage}
use Rattle.journal_scan.specs.declared.scan.Stage.TheVariants.{Between, Within, Ended}
use Rattle.journal_scan.specs.declared.scan.Turn.{Turn}
use Rattle.journal_scan.specs.declared.scan.Turn.TheVariants as turn
use Rattle.journal_scan.specs.Whole.{is_above}

-- reading begins at a slot, with the group of this number
abbrev pub begins_at : ℕ → ℕ → Scan
begins_at slot number = record { groups = []; next_slot = slot; next_number = number; stage = Between }

abbrev pub ended : Scan → Scan
ended scan = record scan { stage = Ended }

-- a group before its first slot, which has the TSN and the count of all of them
abbrev pub no_lines : AijPart → Begun
no_lines part = record { tsn = part.tsn; count = part.count; lines = [] }

abbrev pub with_line : GroupLine → Begun → Begun
with_line line b = record b { lines = b.lines ++ line ∷ [] }

-- the slots of a group have one TSN and one count, and their indexes count from 0
abbrev pub is_next : Begun → AijPart → Bool
is_next b part = (part.tsn.number == b.tsn.number) && (part.count == b.count) && (part.index == length b.lines)

-- the line may come next: its slot is not the last of the count, and its Dbkey is above that of the line before
abbrev pub grows_by : Begun → GroupLine → Bool
grows_by b line = nat_lt (length b.lines + 1) b.count && is_above line.key (slice_get b.lines (length b.lines - 1))

-- the commit comes next: its slot is the last of the count
abbrev pub closes : Begun → Bool
closes b = length b.lines + 1 == b.count

-- The group is whole. The next one has the next number, and begins in the next slot.
abbrev pub closed : Scan → Begun → Scan
closed scan b = record {
  groups = scan.groups ++ record { number = scan.next_number; tsn = b.tsn; lines = b.lines } ∷ [];
  next_slot = scan.next_slot + (length b.lines + 1);
  next_number = scan.next_number + 1;
  stage = Between;
}

abbrev pub grown : Scan → Begun → Option GroupLine → Scan
grown scan b None = if closes b then closed scan b else ended scan
grown scan b (Some line) = if grows_by b line then record scan { stage = Within (with_line line b) } else ended scan

-- Each slot of a group has the number that is next.
abbrev pub continued : Scan → Begun → AijPart → Scan
continued scan b part = if (part.number == scan.next_number) && is_next b part then grown scan b part.line else ended scan

abbrev pub read_part : Scan → Stage → AijPart → Scan
read_part scan Between part = continued scan (no_lines part) part
read_part scan (Within b) part = continued scan b part
read_part scan Ended part = scan

-- Reading ends at the first slot that continues no whole group.
abbrev pub read : Scan → Option AijPart → Scan
read scan None = ended scan
read scan (Some part) = read_part scan scan.stage part

abbrev pub read_all : Scan → List (Option AijPart) → Scan
read_all scan [] = scan
read_all scan (what ∷ slots) = read_all (read scan what) slots

-- the whole groups of these slots, which stand behind the header, and the first of which has this number
abbrev pub groups_of : ℕ → List (Option AijPart) → List Group
groups_of first slots = (read_all (begins_at 1 first) slots).groups

abbrev pub turn_at : Stage → Turn
turn_at Ended = turn.Ended
turn_at Between = turn.More
turn_at (Within b) = turn.More

-- how many slots were read behind the last whole group
abbrev pub slots_read : Stage → ℕ
slots_read Between = 0
slots_read (Within b) = length b.lines
slots_read Ended = 0

-- the slot that is to be taken next
abbrev pub slot_of : Scan → ℕ
slot_of scan = scan.next_slot + slots_read scan.stage

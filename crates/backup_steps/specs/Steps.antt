-- The steps that are left of a backup.
use Rattle.std.specs.Prelude.{ℕ, ◌+◌, ◌-◌, ◌*◌, ◌≡◌, ◌^◌, true, min, Option, Some, None}
use Rattle.rdb_types.specs.declared.keys.Dbkey.{Dbkey}
use Rattle.backup_making.specs.declared.making.Stage.{Stage}
use Rattle.backup_making.specs.declared.making.Stage.TheVariants.{Begun, Blanked, Open, Closed, Headed, Ended}
use Rattle.next_lines.specs.partial_backup.declared.copying.Copying.{Copying}
use Rattle.next_lines.specs.partial_backup.Partial.{is_left}
use Rattle.next_lines.specs.declared.next.NextLine.{NextLine}
use Rattle.next_lines.specs.Next.{IsLow}

-- the line that a step looks at
abbrev pub due : Stage → Option NextLine → Option NextLine
due Begun next = None
due Blanked next = None
due Open next = next
due Closed next = None
due Headed next = None
due Ended next = None

-- the place of a Dbkey among those of pages up to 131,071 with four lines each
abbrev pub place_in_order : Dbkey → ℕ
place_in_order key = key.area * 524288 + min key.page 131071 * 4 + min key.line 3

-- how many of them lie behind
abbrev pub keys_left : Option Dbkey → ℕ
keys_left None = 2 ^ 51
keys_left (Some from) = (2 ^ 51 - 1) - place_in_order from

abbrev pub left_at : Stage → Option Dbkey → ℕ
left_at Begun from = 2 ^ 51 + 5
left_at Blanked from = 2 ^ 51 + 4
left_at Open from = keys_left from + 3
left_at Closed from = 2
left_at Headed from = 1
left_at Ended from = 0

-- how many steps are left at most
abbrev pub steps_left : Copying → ℕ
steps_left c = left_at c.backup.stage c.from

-- where a line is next it lies behind, on such a page
abbrev pub GoesOn : Option Dbkey → Option NextLine → Type 0
GoesOn from (Some next) = IsLow next.key × (is_left from next.key ≡ true)
GoesOn from None = Unit {0}

-- It is the backup of the same number, limits and last group.
pub record IsSame (old new : Copying) : Type 0 where
  pub number : new.backup.number ≡ old.backup.number
  pub limits : new.backup.limits ≡ old.backup.limits
  pub last_group : new.backup.last_group ≡ old.backup.last_group

-- The groups of the after-image journal, one after another.
use Rattle.std.specs.Prelude.{ℕ, ◌≡◌, ◌==◌, if◌then◌else◌}
use Rattle.line_moves.specs.stable_lines.Journal.{Journal, next_number, next_slot}
use Rattle.line_opening.specs.declared.groups.NextGroup.{NextGroup}

-- the number, and 0 where it is this transaction's
abbrev pub without : ℕ → ℕ → ℕ
without tsn number = if tsn == number then 0 else number

-- the next group of the journal is written there, with this number
pub record IsNext (journal : Journal) (next : NextGroup) : Type 0 where
  pub in_slot : next.slot ≡ next_slot journal
  pub numbered : next.number ≡ next_number journal

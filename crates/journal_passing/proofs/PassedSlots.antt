-- The slots of a file, passed up to the end of one group.
use Rattle.std.proofs.Common.{◌≡◌, ℕ, ◌+◌, ◌≤◌, List, Option, Some, None, refl, sym, ◌∙◌, subst}
use Rattle.rdb_types.specs.declared.file.FileId.{FileId}
use Rattle.rdb_types.specs.File.{slot_bytes}
use Rattle.rdb_outside.specs.Disk.{Image}
use Rattle.journal_reading.specs.journal_scan.declared.group.Group.{Group}
use Rattle.journal_reading.specs.journal_scan.declared.scan.Scan.{Scan}
use Rattle.journal_reading.specs.journal_scan.Whole.{count_of, slots_of, IsWhole}
use Rattle.journal_reading.specs.journal_scan.Reading.{begins_at, read as read_slot}
use Rattle.journal_reading.specs.journal_scan.Standing.{what_stands}
use Rattle.journal_reading.specs.Journal.{EndsBy, standing}
use Rattle.journal_reading.proofs.OneGroup.{HasRead, nothing_read, one_more, one_found, none_where_ended, none_at_end}
use Rattle.journal_passing.specs.Passing.{passed_by}
use Rattle.journal_passing.specs.Groups.{IsPassed}
use Rattle.journal_passing.specs.declared.passing.PassedGroup.{PassedGroup}
use Rattle.journal_passing.specs.declared.passing.Passing.{Passing}
use Rattle.journal_passing.specs.declared.passing.Passed.{Passed}
use Rattle.journal_passing.specs.declared.passing.Passed.TheVariants.{More, Whole, Broken}
use Rattle.journal_passing.proofs.Simulated.{IsAt, Simulates, simulated, begun}

module _ (image : Image) (file : FileId) (tells : Type 0) (slot number : ℕ) where
  -- the slots before this one were passed, and a scan that took them stands there too
  pub record PassedTo (at : ℕ) (passing : Option Passing) : Type 0 where
    pub scan : Scan
    pub read : HasRead image file tells slot number at scan
    pub is : IsAt passing number scan

  pub nothing_passed : PassedTo slot None
  nothing_passed = record { scan = begins_at slot number; read = nothing_read image file tells slot number; is = begun slot number }

  module _ (at : ℕ) (passing : Option Passing) (bytes : List ℕ) (result : Passed) (was : PassedTo at passing) (here : tells → bytes ≡ image file at) (passed : result ≡ passed_by passing number (what_stands bytes)) where
    abbrev new : Scan
    new = read_slot was.scan (what_stands bytes)

    has_read : HasRead image file tells slot number (at + 1) new
    has_read = one_more image file tells slot number at was.scan new bytes here refl was.read

    is_so : (what : Passed) → result ≡ what → Simulates what number new
    is_so what is = subst (λ (r : Passed). Simulates r number new) (sym passed ∙ is) (simulated passing number was.scan (what_stands bytes) was.is)

    pub one_more_passed : (next : Passing) → result ≡ More next → PassedTo (at + 1) (Some next)
    one_more_passed next is = record { scan = new; read = has_read; is = is_so (More next) is }

    pub one_passed : (found : PassedGroup) → result ≡ Whole found → IsPassed image file tells slot number found
    one_passed found is =
        let f = is_so (Whole found) is in
        let g = one_found image file tells slot number (at + 1) new f.group has_read f.only in
        record { group = f.group; whole = g.whole; tsn = f.tsn; lines = f.lines; stands = g.stands }

    pub one_within : (found : PassedGroup) → result ≡ Whole found → slot + (found.lines + 1) ≤ at + 1
    one_within found is =
        let f = is_so (Whole found) is in
        let g = one_found image file tells slot number (at + 1) new f.group has_read f.only in
        subst (λ (n : ℕ). slot + (n + 1) ≤ at + 1) f.lines g.within

    pub none_where_broken : slot_bytes file ≡ 512 → tells → result ≡ Broken → (g : Group) → IsWhole number g → standing image file slot (count_of g) ≡ slots_of g → ⊥
    none_where_broken is_journal t is =
        let f = is_so Broken is in
        none_where_ended image file tells slot number is_journal (at + 1) new has_read f.none t f.stage

  pub none_before_end : (at : ℕ) (passing : Option Passing) → PassedTo at passing → slot_bytes file ≡ 512 → tells → EndsBy image file at → (g : Group) → IsWhole number g → standing image file slot (count_of g) ≡ slots_of g → ⊥
  none_before_end at passing was is_journal t ends = none_at_end image file tells slot number is_journal at was.scan was.read was.is.none t ends

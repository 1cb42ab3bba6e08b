-- The copy of a line as a reader sees it.
use Rattle.std.specs.Prelude.{ℕ, ◌+◌, ◌≤◌, ◌<◌, ◌≡◌, ◌^◌, List, length, Option, Some, None}
use Rattle.rdb_types.specs.declared.keys.Dbkey.{Dbkey}
use Rattle.rdb_types.specs.declared.keys.Line.{Line}
use Rattle.rdb_page.specs.Page.{IsClass}
use Rattle.line_view.specs.Knowledge.{Lines, line_in}
use Rattle.line_versions.specs.Lines.{shown}
use Rattle.line_versions.specs.Versions.{Start}
use Rattle.version_reading.specs.Answer.{shown_of}
use Rattle.backup_file.specs.Line.{IsAllowed}
use Rattle.backup_file.specs.declared.line.BackupLine.{BackupLine}
use Rattle.next_lines.specs.declared.next.NextLine.{NextLine}
use Rattle.backup_steps.specs.declared.copies.Copied.{Copied}
use Rattle.backup_steps.specs.declared.copies.Copied.TheVariants.{Absent, Present, Unfit}

-- Each line of the map fits its class, transactions that the reader sees have numbers that a slot holds, and the lines can be counted.
pub record MayBeCopied (classes : ℕ → ℕ) (lines : Lines) (start : Start) : Type 0 where
  pub class : (key : Dbkey) (image : List ℕ) → line_in key lines ≡ Some image → IsClass (classes key.area)
  pub image : (key : Dbkey) (image : List ℕ) → line_in key lines ≡ Some image → length image ≤ classes key.area
  pub number : start.next ≤ 2 ^ 62
  pub few : length lines + 2 < 2 ^ 32

-- the copy of a version of the line
abbrev pub copy_of : NextLine → Line → BackupLine
copy_of next version = record { key = next.key; class = next.class; tsn = version.tsn; image = version.image }

-- A backup of so many lines may have one more, and have it counted.
pub record HasRoom (count : ℕ) (line : BackupLine) : Type 0 where
  pub allowed : IsAllowed line
  pub few : count + 2 < 2 ^ 32

-- a copy of what the version shows
pub record IsCopy (count : ℕ) (next : NextLine) (version : Option Line) (line : BackupLine) : Type 0 where
  pub room : HasRoom count line
  pub key : line.key ≡ next.key
  pub class : line.class ≡ next.class
  pub image : shown_of version ≡ Some line.image

-- a version that is present and may not be copied
pub record IsUnfit (count : ℕ) (next : NextLine) (version : Option Line) : Type 0 where
  pub line : Line
  pub is : version ≡ Some line
  pub present : shown line ≡ Some line.image
  pub unfit : HasRoom count (copy_of next line) → ⊥

-- what comes of a version that a reader sees, in a backup of so many lines
abbrev pub ComesOf : ℕ → NextLine → Option Line → Copied → Type 0
ComesOf count next version Absent = shown_of version ≡ None
ComesOf count next version (Present line) = IsCopy count next version line
ComesOf count next version Unfit = IsUnfit count next version

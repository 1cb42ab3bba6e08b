-- What a commit rests on at each of its stages.
use Rattle.std.specs.Prelude.{ℕ, ◌+◌, ◌<◌, ◌≡◌, length}
use Rattle.rdb_outside.specs.Disk.{View, Pending}
use Rattle.line_moves.specs.new_database.Maker.{aij_file}
use Rattle.journal_scan.specs.Standing.{what_stands}
use Rattle.line_moves.specs.stable_lines.Journal.{commit_of}
use Rattle.line_moves.specs.stable_lines.Progress.{Flight, Progress, flying, landed}
use Rattle.line_moves.specs.stable_lines.Facts.{Facts}
use Rattle.line_moves.specs.Lines.{ChangedLines, MayPutAll, ArePut}
use Rattle.line_seat.specs.declared.commit.GroupPlace.{GroupPlace}
use Rattle.line_seat.specs.declared.commit.CommitStage.{CommitStage}
use Rattle.line_seat.specs.declared.commit.CommitStage.TheVariants.{Changing, Imaging, Gathering, Sealing, Landing, Committed}
use Rattle.line_seat.specs.Groups.{AreEntered, AreImaged}

-- how far the transactions are at a stage
abbrev pub progress_at : CommitStage → Progress → Flight → Progress
progress_at (Changing at) now f = now
progress_at (Imaging at) now f = now
progress_at Gathering now f = now
progress_at Sealing now f = flying f now
progress_at Landing now f = flying f now
progress_at Committed now f = landed f now

-- what comes behind a stage
abbrev pub IsNextStage : CommitStage → CommitStage → Type 0
IsNextStage (Changing at) (Changing next) = Unit {0}
IsNextStage (Changing at) (Imaging next) = Unit {0}
IsNextStage (Imaging at) (Imaging next) = Unit {0}
IsNextStage (Imaging at) Gathering = Unit {0}
IsNextStage Gathering Sealing = Unit {0}
IsNextStage Sealing Landing = Unit {0}
IsNextStage Landing Committed = Unit {0}
IsNextStage Committed Committed = Unit {0}
IsNextStage _ _ = ⊥

-- Where the stage goes on, fewer of so many lines are left for it.
abbrev pub IsFurther : ℕ → CommitStage → CommitStage → Type 0
IsFurther lines (Changing at) (Changing next) = (at < lines) × (at < next)
IsFurther lines (Imaging at) (Imaging next) = (at < lines) × (at < next)
IsFurther lines _ _ = Unit {0}

-- what was done before the stage
abbrev pub IsDone : CommitStage → View → Progress → GroupPlace → ChangedLines → Flight → Type 0
IsDone (Changing at) v now place lines f = MayPutAll (Pending v) now lines × AreEntered (Pending v) lines × ArePut v.content lines at
IsDone (Imaging at) v now place lines f = ArePut v.content lines (length lines) × AreImaged v.content now f at
IsDone Gathering v now place lines f = ArePut v.content lines (length lines) × AreImaged v.content now f (length lines)
IsDone Sealing v now place lines f = Unit {0}
IsDone Landing v now place lines f = what_stands (v.content aij_file (place.slot + length lines)) ≡ commit_of f.group
IsDone Committed v now place lines f = Unit {0}

pub record CommitFacts (stage : CommitStage) (v : View) (now : Progress) (place : GroupPlace) (lines : ChangedLines) (f : Flight) : Type 0 where
  pub facts : Facts (Pending v) (progress_at stage now f)
  pub done : IsDone stage v now place lines f

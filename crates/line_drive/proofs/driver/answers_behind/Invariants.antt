use Rattle.std.proofs.Common.{◌≡◌, ◌≤◌, ◌+◌, drop}
use Rattle.rdb_drive.specs.Boards.{answers}
use Rattle.line_drive.specs.Boards.{marks_of}
use Rattle.line_drive.proofs.driver.answers_behind.Given as goal

abbrev pub invariant-loop-at : goal.invariant-loop-at
invariant-loop-at l = (l.count ≤ l.at) × (l.count + answers (marks_of (drop l.at l.events)) ≡ answers (marks_of (drop l.from l.events)))

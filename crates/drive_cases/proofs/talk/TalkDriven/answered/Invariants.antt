use Rattle.std.proofs.Common.{◌≡◌, ◌≤◌, take, map}
use Rattle.rdb_drive.specs.Boards.{Says, answers_by}
use Rattle.drive_cases.proofs.talk.TalkDriven.answered.Given as goal

abbrev pub invariant-loop-number : goal.invariant-loop-number
invariant-loop-number l = record { few : l.count ≤ l.number-index; counted : l.count ≡ answers_by l.s.number (map (λ n. Says n) (take l.number-index l.number-items)) }

-- What a step of the backup below answers.
use Rattle.std.proofs.Common.{◌≡◌, ℕ, ◌+◌, Bool, true, Some, refl, sym, ap, subst, ◌∙◌}
use Rattle.rdb_types.specs.declared.keys.Dbkey.{Dbkey}
use Rattle.rdb_outside.specs.Disk.{View}
use Rattle.backup_file.specs.declared.line.BackupLine.{BackupLine}
use Rattle.backup_making.specs.declared.making.Backup.{Backup}
use Rattle.backup_making.specs.declared.making.Stage.{Stage}
use Rattle.backup_making.specs.declared.making.Stage.TheVariants.{Open}
use Rattle.backup_making.specs.declared.making.BackupTurn.{BackupTurn}
use Rattle.backup_making.specs.declared.making.BackupTurn.TheVariants.{More, Failed, Ended as TurnEnded}
use Rattle.backup_making.specs.Making.{advanced, next_stage, is_done, file_of, Steps}

is_done_now : (turn : BackupTurn) → (turn ≡ Failed → ⊥) → is_done turn ≡ true
is_done_now More isnt = refl
is_done_now TurnEnded isnt = refl
is_done_now Failed isnt = absurd (isnt refl)

pub done_steps : (number : ℕ) (old new : View) (turn : BackupTurn) → (turn ≡ Failed → ⊥) → Steps (file_of number) old new (is_done turn) → Steps (file_of number) old new true
done_steps number old new turn isnt steps = subst (λ (d : Bool). Steps (file_of number) old new d) (is_done_now turn isnt) steps

pub with_one : (b c : Backup) (line : BackupLine) → b.stage ≡ Open → c ≡ advanced b (Some line) → c ≡ record b { lines = b.lines + 1 }
with_one b c line opens is =
    let staged : Stage → Backup = λ s. record b { lines = b.lines + 1; stage = s } in
    is ∙ ap (λ (s : Stage). staged (next_stage s (Some line))) opens ∙ ap staged (sym opens)

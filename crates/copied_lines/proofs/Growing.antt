-- A backup with lines more.
use Rattle.std.proofs.Common.{◌≡◌, ℕ, ◌+◌, ◌≤◌, Bool, true, Some, refl, sym, ap, subst, ◌∙◌, arith}
use Rattle.backup_file.specs.declared.line.BackupLine.{BackupLine}
use Rattle.backup_making.specs.declared.making.Backup.{Backup}
use Rattle.backup_making.specs.declared.making.Stage.{Stage}
use Rattle.backup_making.specs.declared.making.Stage.TheVariants.{Open}
use Rattle.backup_making.specs.declared.making.BackupTurn.{BackupTurn}
use Rattle.backup_making.specs.declared.making.BackupTurn.TheVariants.{More, Failed, Ended as TurnEnded}
use Rattle.backup_making.specs.Making.{advanced, next_stage, is_done, file_of, Steps}
use Rattle.rdb_outside.specs.Disk.{View}
use Rattle.copied_lines.specs.Copying.{IsGrown}

is_done_now : (turn : BackupTurn) → (turn ≡ Failed → ⊥) → is_done turn ≡ true
is_done_now More isnt = refl
is_done_now TurnEnded isnt = refl
is_done_now Failed isnt = absurd (isnt refl)

pub done_steps : (number : ℕ) (old new : View) (turn : BackupTurn) → (turn ≡ Failed → ⊥) → Steps (file_of number) old new (is_done turn) → Steps (file_of number) old new true
done_steps number old new turn isnt steps = subst (λ (d : Bool). Steps (file_of number) old new d) (is_done_now turn isnt) steps

abbrev with_lines : Backup → ℕ → Backup
with_lines b n = record b { lines = n }

pub with_one : (b c : Backup) (line : BackupLine) → b.stage ≡ Open → c ≡ advanced b (Some line) → c ≡ record b { lines = b.lines + 1 }
with_one b c line opens is =
    let staged : Stage → Backup = λ s. record b { lines = b.lines + 1; stage = s } in
    is ∙ ap (λ (s : Stage). staged (next_stage s (Some line))) opens ∙ ap staged (sym opens)

pub grown_one : (b c : Backup) → c ≡ record b { lines = b.lines + 1 } → IsGrown b c 1
grown_one b c is =
    let count : c.lines ≡ b.lines + 1 = ap (λ (x : Backup). x.lines) is in
    record { same = is ∙ ap (with_lines b) (sym count); few = omega (arith, count) }

pub grown_none : (b : Backup) (n : ℕ) → IsGrown b b n
grown_none b n = record { same = refl; few = omega arith }

pub grown_more : (b c : Backup) (m n : ℕ) → m ≤ n → IsGrown b c m → IsGrown b c n
grown_more b c m n le was = record { same = was.same; few = let few = was.few in omega (arith, few, le) }

pub grown_on : (a b c : Backup) (m n : ℕ) → IsGrown a b m → IsGrown b c n → IsGrown a c (m + n)
grown_on a b c m n was now = record {
  same = now.same ∙ ap (λ (x : Backup). with_lines x c.lines) was.same;
  few = let first = was.few in let more = now.few in omega (arith, first, more);
}

module _ (b c : Backup) (n : ℕ) (grown : IsGrown b c n) where
  pub still_open : b.stage ≡ Open → c.stage ≡ Open
  still_open opens = ap (λ (x : Backup). x.stage) grown.same ∙ opens

  pub same_number : c.number ≡ b.number
  same_number = ap (λ (x : Backup). x.number) grown.same

  pub same_group : c.last_group ≡ b.last_group
  same_group = ap (λ (x : Backup). x.last_group) grown.same

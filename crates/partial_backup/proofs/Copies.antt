-- A backup, step by step, of the lines of a map.
use Rattle.std.proofs.Common.{◌≡◌, ℕ, zero, suc, ◌+◌, List, [], ◌∷◌, ◌++◌, length, slice_get, Option, Some, None, ◌⊎◌, inl, inr, ⊎_elim, refl, sym, ap, subst, ◌∙◌}
use Rattle.rdb_types.specs.declared.keys.Dbkey.{Dbkey}
use Rattle.rdb_types.specs.declared.keys.Limits.{Limits}
use Rattle.rdb_outside.specs.Disk.{View}
use Rattle.line_view.specs.Knowledge.{Lines, IsInOrder, line_in}
use Rattle.backup_file.specs.declared.line.BackupLine.{BackupLine}
use Rattle.backup_file.specs.Whole.{lines_in}
use Rattle.backup_making.specs.declared.making.Backup.{Backup}
use Rattle.backup_making.specs.declared.making.Stage.{Stage}
use Rattle.backup_making.specs.declared.making.Stage.TheVariants.{Begun, Blanked, Open, Closed, Headed, Ended}
use Rattle.backup_making.specs.Making.{file_of, Former, IsAt, advanced, next_stage}
use Rattle.partial_backup.specs.declared.copying.Copying.{Copying}
use Rattle.partial_backup.specs.Partial.{Reaches, IsNext, HasNone, HasAt, HaveClasses, IsCopying, MightHold}
use Rattle.partial_backup.proofs.Reaching.{nothing, passed, one_more, all_there}

abbrev pub fresh : ℕ → Limits → ℕ → Copying
fresh number limits last = record { from = None; backup = record { number = number; limits = limits; last_group = last; lines = 0; stage = Begun } }

pub begins : (former : Former) (classes : ℕ → ℕ) (lines : Lines) (v : View) (number : ℕ) (limits : Limits) (last : ℕ) → MightHold former v (file_of number) → IsCopying former classes lines v (fresh number limits last)
begins former classes lines v number limits last might = record {
  copies = [];
  at = record { count = refl; stands = ((λ i x p. inl (might i x p)), refl) };
  has = nothing lines;
  class = λ i line got. let bad : None ≡ Some line = got in absurd (cc);
}

-- ---- the lines

lines_last : (copies : List BackupLine) (line : BackupLine) → lines_in (copies ++ line ∷ []) ≡ lines_in copies ++ (line.key, line.image) ∷ []
lines_last [] line = refl
lines_last (l ∷ ls) line = ap (λ (es : List (Dbkey × List ℕ)). (l.key, l.image) ∷ es) (lines_last ls line)

got_last : (copies : List BackupLine) (line other : BackupLine) (i : ℕ) → slice_get (copies ++ line ∷ []) i ≡ Some other → (slice_get copies i ≡ Some other) ⊎ (line ≡ other)
got_last [] line other zero is = inr (let same : line ≡ other = cc in same)
got_last [] line other (suc i) is = let bad : ⊥ = cc in absurd bad
got_last (l ∷ ls) line other zero is = inl is
got_last (l ∷ ls) line other (suc i) is = got_last ls line other i is

one_class : (classes : ℕ → ℕ) (copies : List BackupLine) (line : BackupLine) → HaveClasses classes copies → line.class ≡ classes line.key.area → HaveClasses classes (copies ++ line ∷ [])
one_class classes copies line have is i other got = ⊎_elim (λ before. have i other before) (λ it. subst (λ (l : BackupLine). l.class ≡ classes l.key.area) it is) (got_last copies line other i got)

module _ (former : Former) (classes : ℕ → ℕ) (lines : Lines) where
  pub passes : (v : View) (c : Copying) (key : Dbkey) → c.backup.stage ≡ Open → IsNext lines c.from key → line_in key lines ≡ None → IsCopying former classes lines v c → IsCopying former classes lines v (record c { from = Some key })
  passes v c key opens next absent was = record {
    copies = was.copies;
    at = was.at;
    has = subst (λ (s : Stage). HasAt s (Some key) lines (lines_in was.copies)) (sym opens)
        (passed lines c.from key next (lines_in was.copies) (subst (λ (s : Stage). HasAt s c.from lines (lines_in was.copies)) opens was.has) absent);
    class = was.class;
  }

  pub puts : (old new : View) (c : Copying) (b : Backup) (line : BackupLine) → c.backup.stage ≡ Open → b ≡ advanced c.backup (Some line) → IsNext lines c.from line.key → line_in line.key lines ≡ Some line.image → line.class ≡ classes line.key.area
      → (was : IsCopying former classes lines old c) → IsAt former new b (was.copies ++ line ∷ []) → IsCopying former classes lines new (record { from = Some line.key; backup = b })
  puts old new c b line opens moved next present class was at = record {
    copies = was.copies ++ line ∷ [];
    at = at;
    has = subst (λ (s : Stage). HasAt s (Some line.key) lines (lines_in (was.copies ++ line ∷ []))) (sym stage)
        (subst (λ (l : Lines). Reaches (Some line.key) lines l) (sym (lines_last was.copies line))
        (one_more lines c.from line.key next (lines_in was.copies) (subst (λ (s : Stage). HasAt s c.from lines (lines_in was.copies)) opens was.has) line.image present));
    class = one_class classes was.copies line was.class class;
  }
    where
      stage : b.stage ≡ Open
      stage = ap (λ (x : Backup). x.stage) moved ∙ ap (λ (s : Stage). next_stage s (Some line)) opens

  has_next : (from : Option Dbkey) (found : Lines) (s : Stage) → IsInOrder lines → (s ≡ Open → HasNone lines from) → HasAt s from lines found → HasAt (next_stage s None) from lines found
  has_next from found Begun ordered none has = has
  has_next from found Blanked ordered none has = has
  has_next from found Open ordered none has = all_there lines from found ordered (none refl) has
  has_next from found Closed ordered none has = has
  has_next from found Headed ordered none has = has
  has_next from found Ended ordered none has = has

  pub goes_on : (old new : View) (c : Copying) (b : Backup) → b ≡ advanced c.backup None → IsInOrder lines → (c.backup.stage ≡ Open → HasNone lines c.from) → (was : IsCopying former classes lines old c) → IsAt former new b was.copies → IsCopying former classes lines new (record { from = c.from; backup = b })
  goes_on old new c b moved ordered none was at = record {
    copies = was.copies;
    at = at;
    has = subst (λ (s : Stage). HasAt s c.from lines (lines_in was.copies)) (sym (ap (λ (x : Backup). x.stage) moved)) (has_next c.from (lines_in was.copies) c.backup.stage ordered none was.has);
    class = was.class;
  }

  -- a call that failed
  pub stays : (old new : View) (c : Copying) → (was : IsCopying former classes lines old c) → IsAt former new c.backup was.copies → IsCopying former classes lines new c
  stays old new c was at = record { copies = was.copies; at = at; has = was.has; class = was.class }

-- A line that is copied, or isn't there.
use Rattle.std.proofs.Common.{◌≡◌, ℕ, ◌+◌, Bool, IsTrue, List, [], ◌∷◌, ◌++◌, Option, Some, None, ⊎_elim, refl, sym, ap, subst, ◌∙◌}
use Rattle.rdb_types.specs.declared.keys.Dbkey.{Dbkey}
use Rattle.rdb_types.specs.declared.keys.Line.{Line}
use Rattle.rdb_types.specs.declared.keys.LineState.{LineState}
use Rattle.rdb_types.specs.declared.keys.LineState.TheVariants.{Never, Present, Erased}
use Rattle.rdb_outside.specs.Disk.{Image, View}
use Rattle.rdb_page.specs.declared.head.Head.{Head}
use Rattle.line_versions.specs.Lines.{shown, shown_as}
use Rattle.stable_lines.specs.Progress.{Progress}
use Rattle.stable_lines.proofs.Lists.{got_either, got_one}
use Rattle.backup_file.specs.declared.line.BackupLine.{BackupLine}
use Rattle.backup_file.specs.Whole.{lines_in}
use Rattle.backup_making.specs.declared.making.Backup.{Backup}
use Rattle.backup_making.specs.Making.{file_of, Former, Steps, IsAt}
use Rattle.used_pages.specs.declared.pages.AreaPage.{AreaPage}
use Rattle.copied_lines.specs.Holding.{Holds, from_line, AreBehind}
use Rattle.copied_lines.specs.Copying.{page_named, IsLineAt, IsOnPage, AreOnPages, Copying}
use Rattle.copied_lines.proofs.Holding.{with_last, one_more}
use Rattle.copied_lines.proofs.Orders.{here, here_left, behind_here, passed_here}
use Rattle.copied_lines.proofs.OnPages.{line_here}
use Rattle.copied_lines.proofs.Runs.{facts_step, same_step}

-- a line that isn't present
shows_none : (s : LineState) (image : List ℕ) → (s ≡ Present → ⊥) → shown_as s image ≡ None
shows_none Never image isnt = refl
shows_none Present image isnt = absurd (isnt refl)
shows_none Erased image isnt = refl

pub not_shown : (l : Line) → (l.state ≡ Present → ⊥) → shown l ≡ None
not_shown l isnt = shows_none l.state l.image isnt

pub is_shown : (l : Line) → l.state ≡ Present → shown l ≡ Some l.image
is_shown l is = ap (λ (s : LineState). shown_as s l.image) is

lines_last : (lines : List BackupLine) (line : BackupLine) → lines_in (lines ++ line ∷ []) ≡ lines_in lines ++ (line.key, line.image) ∷ []
lines_last [] line = refl
lines_last (l ∷ ls) line = ap (λ (es : List (Dbkey × List ℕ)). (l.key, l.image) ∷ es) (lines_last ls line)

one_on_page : (image : Image) (lines : List BackupLine) (line : BackupLine) → AreOnPages image lines → IsOnPage image line → AreOnPages image (lines ++ line ∷ [])
one_on_page image lines line are is i l got = ⊎_elim (λ before. are i l before) (λ it. subst (IsOnPage image) (got_one line l it.0 it.2).1 is) (got_either lines (line ∷ []) i l got)

module _ (former : Former) (image : Image) (now : Progress) (left : AreaPage → Bool) (file : ℕ) (head : Head) (line : ℕ) (stood : Line) (at : IsLineAt image file head line stood) (behind : AreBehind (page_named head) left) where
  abbrev key : Dbkey
  key = here left (page_named head) line

  abbrev pub copy_of : BackupLine
  copy_of = record { key = key; class = head.class; tsn = stood.tsn; image = stood.image }

  on_its_page : IsOnPage image copy_of
  on_its_page = record { file = file; is_data = at.is_data; head = head; stands = at.stands; area = refl; class = refl; line = at.within }

  holds_more : (what : Option (List ℕ)) (old new : List (Dbkey × List ℕ)) → what ≡ shown stood → new ≡ with_last key what old → Holds image (from_line left (page_named head) line) old → Holds image (from_line left (page_named head) (line + 1)) new
  holds_more what old new is made was = one_more image (from_line left (page_named head) line) (from_line left (page_named head) (line + 1)) key what old new was made
      (is ∙ ap shown (sym (line_here image file head line stood at))) (here_left left (page_named head) line) (behind_here left (page_named head) line behind) (passed_here left (page_named head) line)

  -- the line isn't present
  pub line_passed : (v : View) (b : Backup) → shown stood ≡ None → Copying former image now (from_line left (page_named head) line) v b → Copying former image now (from_line left (page_named head) (line + 1)) v b
  line_passed v b none was = record { lines = was.lines; at = was.at; holds = holds_more None (lines_in was.lines) (lines_in was.lines) (sym none) refl was.holds; on_pages = was.on_pages; facts = was.facts; same = was.same; whole = was.whole }

  -- it is, and was written
  pub line_copied : (old new : View) (b c : Backup) (done : Bool) → shown stood ≡ Some stood.image → Steps (file_of b.number) old new done → IsTrue old.tells → (was : Copying former image now (from_line left (page_named head) line) old b) → IsAt former new c (was.lines ++ copy_of ∷ [])
      → Copying former image now (from_line left (page_named head) (line + 1)) new c
  line_copied old new b c done present steps t was is = record {
    lines = was.lines ++ copy_of ∷ [];
    at = is;
    holds = holds_more (Some stood.image) (lines_in was.lines) (lines_in (was.lines ++ copy_of ∷ [])) (sym present) (lines_last was.lines copy_of) was.holds;
    on_pages = one_on_page image was.lines copy_of was.on_pages on_its_page;
    facts = facts_step b.number old new done steps t now was.facts;
    same = same_step b.number old new done steps t image was.same;
    whole = was.whole;
  }

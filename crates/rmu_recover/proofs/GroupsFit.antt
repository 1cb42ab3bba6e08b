-- The groups of the copies and of the journal looked at, one behind another.
use Rattle.std.proofs.Common.{◌≡◌, ℕ, List, [], ◌∷◌, ◌++◌, sym, ◌∙◌, ap, subst}
use Rattle.rdb_types.specs.declared.file.FileId.{FileId}
use Rattle.rdb_outside.specs.Disk.{Image}
use Rattle.aij_journal.specs.declared.part.GroupLine.{GroupLine}
use Rattle.journal_scan.specs.declared.group.Group.{Group}
use Rattle.new_database.specs.Maker.{aij_file}
use Rattle.stable_lines.specs.Journal.{Journal}
use Rattle.stable_lines.specs.Rolling.{groups_above}
use Rattle.rolled_lines.specs.Journals.{follow, laid}
use Rattle.fitted_groups.proofs.of_laid_groups.Behind.{flat_both}
use Rattle.fitted_groups.specs.declared.claims.PageClaim.{PageClaim}
use Rattle.fitted_groups.specs.Meeting.{lines_among, FitOver, FitPages}
use Rattle.fitted_groups.specs.Claims.{AreFitted}
use Rattle.fitted_groups.proofs.Looking.{joins}
use Rattle.rmu_recover.specs.Journals.{files_of, AreJournalsIn}
use Rattle.rmu_recover.proofs.Walking.{NextIn, LaidTo, rest_of, joined, journal_last, all_front}

-- so far all lines fit, and the claims are those behind them
pub record FittedSoFar (image : Image) (pages : ℕ) (claims : List PageClaim) (content : Image) (copies : List ℕ) (groups : List Group) (index last : ℕ) : Type 0 where
  pub at : LaidTo content copies groups index last
  pub are : AreFitted image pages (lines_among at.front) claims

lines_both : (xs ys : List Group) → lines_among (xs ++ ys) ≡ lines_among xs ++ lines_among ys
lines_both xs ys = flat_both (λ (g : Group). g.lines) xs ys

module _ (content : Image) (copies : List ℕ) (groups : List Group) (index last : ℕ) (at : LaidTo content copies groups index last) (file : FileId) (files : List FileId) (found : NextIn content file files at.left) where
  -- one journal more
  pub fitted_more : (image : Image) (pages : ℕ) (claims : List PageClaim) → AreFitted image pages (lines_among at.front ++ lines_among (groups_above last found.journal.groups)) claims → AreFitted image pages (lines_among (at.front ++ groups_above last found.journal.groups)) claims
  fitted_more image pages claims are = subst (λ (ls : List GroupLine). AreFitted image pages ls claims) (sym (lines_both at.front (groups_above last found.journal.groups))) are

  -- where all lines fit, its lines do
  abbrev pub lines_left : List GroupLine
  lines_left = lines_among (rest_of content copies groups index last at file files found).0

  pub fit_left : (image : Image) (pages : ℕ) → FitPages image pages groups → FitOver image pages (lines_among at.front ++ (lines_among (groups_above last found.journal.groups) ++ lines_among (rest_of content copies groups index last at file files found).0))
  fit_left image pages fit =
      let here = groups_above last found.journal.groups in
      let rest = (rest_of content copies groups index last at file files found).0 in
      subst (λ (ls : List GroupLine). FitOver image pages ls)
      (ap lines_among (joined content copies groups index last at file files found)
      ∙ lines_both (at.front ++ here) rest
      ∙ ap (λ (ls : List GroupLine). ls ++ lines_among rest) (lines_both at.front here)
      ∙ joins (lines_among at.front) (lines_among here) (lines_among rest))
      fit

module _ (content : Image) (copies : List ℕ) (groups : List Group) (index last : ℕ) (at : LaidTo content copies groups index last) (none : at.copy.rest ≡ []) where
  -- with the journal itself all of them
  pub all_fit_pages : (image : Image) (pages : ℕ) (claims : List PageClaim) → AreFitted image pages (lines_among at.front ++ lines_among (groups_above last (journal_last content copies groups index last at none).journal.groups)) claims → FitPages image pages groups
  all_fit_pages image pages claims are =
      let here = groups_above last (journal_last content copies groups index last at none).journal.groups in
      subst (λ (ls : List GroupLine). FitOver image pages ls)
      (sym (ap lines_among (all_front content copies groups index last at none) ∙ lines_both at.front here))
      are.fit

-- Groups that are to be laid over the pages of a restored database: what a roll-forward goes by, and the classes of their lines.
use Rattle.std.specs.Prelude.{ℕ, ◌≡◌, List, slice_get, Some}
use Rattle.rdb_types.specs.declared.keys.Dbkey.{Dbkey}
use Rattle.rdb_outside.specs.Disk.{Image}
use Rattle.root_file.specs.declared.Root.{Root}
use Rattle.aij_journal.specs.declared.part.GroupLine.{GroupLine}
use Rattle.journal_scan.specs.declared.group.Group.{Group}
use Rattle.line_view.specs.Knowledge.{Lines, line_in}
use Rattle.line_versions.specs.Lines.{storage_area}
use Rattle.stable_lines.specs.Rolling.{laid_groups}
use Rattle.rolled_lines.specs.HalfLaid.{writes_of}
use Rattle.laid_groups.specs.Forward.{Forward}
use Rattle.laid_groups.specs.Passing.{ceiling_behind}
use Rattle.fitted_groups.specs.Meeting.{lines_among, owner_behind, class_behind}

-- ---- the roll-forward

-- What a roll-forward goes by that lays these groups over an image with this root, which stands for these lines.
abbrev pub forward_over : Image → Root → Lines → List Group → Forward
forward_over image root lines groups = record {
  base = lines;
  writes = writes_of groups;
  pages = root.limits.pages;
  top = ceiling_behind root.ceiling groups;
  owners = owner_behind image groups;
  sizes = class_behind image groups;
}

-- each line of the groups has the class of its logical area
abbrev pub AreOfClasses : List Group → (ℕ → ℕ) → Type 0
AreOfClasses groups classes = (i : ℕ) (l : GroupLine) → slice_get (lines_among groups) i ≡ Some l → l.class ≡ classes l.key.area

-- behind the groups each line lies on a page of the class of its logical area
abbrev pub HaveClasses : Image → List Group → Lines → (ℕ → ℕ) → Type 0
HaveClasses image groups lines classes = (key : Dbkey) (bytes : List ℕ) → line_in key (laid_groups groups lines) ≡ Some bytes → class_behind image groups (storage_area key.area) key.page ≡ classes key.area

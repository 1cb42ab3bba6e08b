use Rattle.std.proofs.Common.{◌≡◌, ℕ, List, ◌++◌, take, slice_get, Some}
use Rattle.rdb_outside.specs.Disk.{Image}
use Rattle.aij_journal.specs.declared.part.GroupLine.{GroupLine}
use Rattle.aij_journal.specs.Part.{IsAllowedLine}
use Rattle.fitted_groups.specs.Claims.{AreFitted}
use Rattle.fitted_groups.proofs.lines.fit_lines.Given as goal

abbrev pub invariant-loop-line : goal.invariant-loop-line
invariant-loop-line l = (image : Image) (pages : ℕ) (before : List GroupLine)
    → ((i : ℕ) (line : GroupLine) → slice_get l.lines i ≡ Some line → IsAllowedLine line)
    → AreFitted image pages before l.fn.claims → AreFitted image pages (before ++ take l.line-index l.lines) l.claims

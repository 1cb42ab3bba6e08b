use Rattle.std.proofs.Common.{◌≡◌, ◌-◌, ◌<◌, ◌≤◌, length}
use Rattle.line_store.specs.rdb_page.Whole.{IsPageOf}
use Rattle.line_moves.specs.Lines.{Fills}
use Rattle.line_moves.proofs.filling.fill.Given as goal

abbrev pub invariant-put : goal.invariant-put
invariant-put l = (length l.page ≡ 1024) × (l.from < l.at) × (l.at ≤ length l.lines)
    × (IsPageOf l.place.file l.place.page l.fn.page → Fills l.lines l.from l.at l.place l.fn.page l.page)

abbrev pub decreases-put : goal.decreases-put
decreases-put l = length l.lines - l.at

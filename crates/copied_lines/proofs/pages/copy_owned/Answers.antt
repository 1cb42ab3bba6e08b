use Rattle.std.proofs.Common.{◌≡◌, ℕ, List, sym, subst}
use Rattle.rdb_page.specs.Page.{IsHead}
use Rattle.line_moves.proofs.Runs.{on_ok}
use Rattle.database_opening.proofs.Others.{file_unused}
use Rattle.copied_lines.specs.Holding.{from_line, AreBehind}
use Rattle.copied_lines.specs.Copying.{Copying}
use Rattle.copied_lines.proofs.Passing.{another_passes}
use Rattle.copied_lines.proofs.Runs.{stopped_still}
use Rattle.copied_lines.proofs.pages.copy_owned.Goals as goal

pub returns-then-head-area-clause-copied : goal.returns-then-head-area-clause-copied
returns-then-head-area-clause-copied g c = λ t former image now left owner there behind was.
    another_passes former image now left (record { area = c.args.area; page = c.args.head.page }) c.args.file owner (g.D.Disk.view c.args.disk.now) c.args.backup.now c.args.head
    (subst (λ (bytes : List ℕ). IsHead bytes c.args.head) there c.requires.stands.head) c.if-head-area.true was

pub returns-then-head-area-clause-stopped : goal.returns-then-head-area-clause-stopped
returns-then-head-area-clause-stopped g c = λ t former image now left owner there behind was.
    stopped_still former image now (from_line left (record { area = c.args.area; page = c.args.head.page }) 0) (g.D.Disk.view c.args.disk.now) c.args.backup.now c.requires.is_open was

pub returns-clause-copied : goal.returns-clause-copied
returns-clause-copied g c = let old = g.D.Disk.view c.args.disk.now in let same : c.args.head.owner ≡ c.args.area = c.if-head-area.false in
    on_ok _ _ c.copy_lines.result (λ copied t former image now left owner there behind was.
    copied t former image now left there (subst (λ (a : ℕ). AreBehind (record { area = a; page = c.args.head.page }) left) (sym same) behind)
    (subst (λ (a : ℕ). Copying former image now (from_line left (record { area = a; page = c.args.head.page }) 0) old c.args.backup.now) (sym same) was)) c.copy_lines.ensures.copied

pub returns-clause-stopped : goal.returns-clause-stopped
returns-clause-stopped g c = let old = g.D.Disk.view c.args.disk.now in let same : c.args.head.owner ≡ c.args.area = c.if-head-area.false in
    λ t former image now left owner there behind was.
    c.copy_lines.ensures.stopped t former image now left there (subst (λ (a : ℕ). AreBehind (record { area = a; page = c.args.head.page }) left) (sym same) behind)
    (subst (λ (a : ℕ). Copying former image now (from_line left (record { area = a; page = c.args.head.page }) 0) old c.args.backup.now) (sym same) was)

pub returns-then-head-area-clause-others : goal.returns-then-head-area-clause-others
returns-then-head-area-clause-others g c = λ t file apart. file_unused (g.D.Disk.view c.args.disk.now) t file

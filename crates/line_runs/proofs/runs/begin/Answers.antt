use Rattle.std.proofs.Common.{◌≤◌, ℕ, ap, sym, subst, arith, Err}
use Rattle.backup_making.specs.Making.{file_of}
use Rattle.disk_line_store.specs.store_copies.Shown.{copied_sight}
use Rattle.disk_line_store.specs.Back.{IsBack}
use Rattle.line_runs.proofs.Earlier.{all-stand, backup-apart, backup-other}
use Rattle.line_runs.proofs.Opening.{at-moment, opens-by}
use Rattle.line_runs.proofs.Prefix.{gave-up-behind, gave-up-within, same-faults}
use Rattle.line_runs.proofs.runs.begin.Goals as goal

pub returns-in-Err-clause-bad : goal.returns-in-Err-clause-bad
returns-in-Err-clause-bad g c file slot is = c.in-Err.ensures.bad file slot (ap Err is)

pub start-requires-clause-opened : goal.start-requires-clause-opened
start-requires-clause-opened g c = λ told.
    let o = g.O.Origin.opening in
    let w = c.requires.opens told in
    let old = g.D.Disk.view c.args.disk in
    let v = g.D.Disk.view c.open.new.disk in
    let begins = c.in-Ok.ensures.begins w.tells w.classes w.lines w.journal w.kept w.by_area w.lie in
    let shown = c.new-store.ensures.shows begins.shelf begins.shown
    (all-stand old v c.open.ensures.told (g.met.D.Disk.content_left c.args.disk old.moment w.tells (omega arith)) w.classes w.lines w.journal w.kept (c.open.ensures.stands w.tells w.classes w.lines w.journal w.kept)
    (λ number. c.open.ensures.beside w.tells (file_of number) (backup-other number) (backup-apart number)) c.in-Ok.held begins g.B.FormerDisk.former c.requires.former) in
    opens-by _ old.content w.lines w.journal v c.in-Ok.held begins c.args.said.word o g.O.Origin.faults (at-moment old.content w.journal v.moment o w.opens) (sym c.requires.word) w.stands
    (subst (λ (n : ℕ). n ≤ v.faults) (sym (c.requires.faults told)) c.open.ensures.no_fewer) _ shown c.new-store.ensures.nobody

pub returns-in-Err-start-clause-later : goal.returns-in-Err-start-clause-later
returns-in-Err-start-clause-later g c = λ told.
    let w = c.requires.opens told in
    let old = g.D.Disk.view c.args.disk in
    let v = g.D.Disk.view c.open.new.disk in
    let begins = c.in-Ok.ensures.begins w.tells w.classes w.lines w.journal w.kept w.by_area w.lie in
    let shown = c.new-store.ensures.shows begins.shelf begins.shown
    (all-stand old v c.open.ensures.told (g.met.D.Disk.content_left c.args.disk old.moment w.tells (omega arith)) w.classes w.lines w.journal w.kept (c.open.ensures.stands w.tells w.classes w.lines w.journal w.kept)
    (λ number. c.open.ensures.beside w.tells (file_of number) (backup-other number) (backup-apart number)) c.in-Ok.held begins g.B.FormerDisk.former c.requires.former) in
    let former = g.B.FormerDisk.former in
    let end = g.D.Disk.view c.into_disk.result in
    let sight = copied_sight former (g.D.Disk.view c.new-store.result.disk) c.new-store.result.held c.new-store.result.copies in
    let back : IsBack former sight end = subst (λ t. IsBack former (copied_sight former (g.D.Disk.view t.disk) t.held t.copies) end) c.in-Err-start.ensures.back c.into_disk.ensures in
    subst (λ (n : ℕ). old.faults ≤ n) (same-faults end sight back begins.shelf shown) (subst (λ (n : ℕ). old.faults ≤ n) (sym begins.shown.lines.faults) c.open.ensures.no_fewer)

pub returns-in-Err-clause-gave_up : goal.returns-in-Err-clause-gave_up
returns-in-Err-clause-gave_up g c = λ told.
    let w = c.requires.opens told in
    gave-up-within _ g.O.Origin.opening (g.D.Disk.view c.args.disk) w.lines w.journal w.stands (g.D.Disk.view c.open.new.disk) w.classes w.kept.root (c.open.ensures.stands w.tells w.classes w.lines w.journal w.kept)

pub returns-in-Err-start-clause-gave_up : goal.returns-in-Err-start-clause-gave_up
returns-in-Err-start-clause-gave_up g c = λ told.
    let o = g.O.Origin.opening in
    let w = c.requires.opens told in
    let old = g.D.Disk.view c.args.disk in
    let v = g.D.Disk.view c.open.new.disk in
    let begins = c.in-Ok.ensures.begins w.tells w.classes w.lines w.journal w.kept w.by_area w.lie in
    let shown = c.new-store.ensures.shows begins.shelf begins.shown
    (all-stand old v c.open.ensures.told (g.met.D.Disk.content_left c.args.disk old.moment w.tells (omega arith)) w.classes w.lines w.journal w.kept (c.open.ensures.stands w.tells w.classes w.lines w.journal w.kept)
    (λ number. c.open.ensures.beside w.tells (file_of number) (backup-other number) (backup-apart number)) c.in-Ok.held begins g.B.FormerDisk.former c.requires.former) in
    let former = g.B.FormerDisk.former in
    let end = g.D.Disk.view c.into_disk.result in
    let sight = copied_sight former (g.D.Disk.view c.new-store.result.disk) c.new-store.result.held c.new-store.result.copies in
    let back : IsBack former sight end = subst (λ t. IsBack former (copied_sight former (g.D.Disk.view t.disk) t.held t.copies) end) c.in-Err-start.ensures.back c.into_disk.ensures in
    gave-up-behind _ o old w.lines w.journal w.stands end sight back begins.shelf shown begins.now c.new-store.ensures.outside

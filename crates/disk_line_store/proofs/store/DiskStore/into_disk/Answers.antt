use Rattle.std.proofs.Common.{IsTrue, refl, ap, sym, arith}
use Rattle.rdb_outside.specs.Disk.{LeftNow}
use Rattle.line_store.specs.Shelves.{Shelf}
use Rattle.store_copies.specs.Memory.{copied_by}
use Rattle.store_copies.proofs.Sighted.{outside-plain}
use Rattle.store_copies.proofs.Standing.{has-backup, stands-still-whole}
use Rattle.disk_line_store.proofs.store.DiskStore.into_disk.Goals as goal

pub returns : goal.returns
returns g c =
    let v = g.D.Disk.view c.args.self.disk in
    let reads : IsTrue v.tells → LeftNow v v.content = λ tells. g.met.D.Disk.content_left c.args.self.disk v.moment tells (omega arith) in
    let held = c.args.self.held in
    let copies = c.args.self.copies in
    record {
      held = held;
      shows = λ h shown. record {
        plain = shown.plain;
        shown = shown.shown;
        clock = ap (λ (x : Shelf). x.clock) (sym shown.is);
        now = ap (λ (x : Shelf). x.now) (sym shown.is);
      };
      left = λ t lines l. l;
      opens = λ t all. all;
      stand = λ s out. outside-plain (copied_by copies s) _ out;
      backed = λ h shown number since lines past is. record {
        backup = record { classes = is.whole.classes; lines = lines; last_group = is.whole.copying.backup.last_group };
        lines_are = refl;
        has = has-backup v held copies h shown number since lines is reads;
      };
      standing = λ h shown used number since b has none. stands-still-whole v held copies h shown used number since b has none;
    }

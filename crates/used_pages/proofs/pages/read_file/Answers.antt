use Rattle.std.proofs.Common.{◌≡◌, ◌≤◌, ◌<◌, ◌-◌, ℕ, sym, subst}
use Rattle.rdb_types.specs.declared.file.FileId.{FileId}
use Rattle.rdb_outside.specs.Disk.{Image, zeros}
use Rattle.rdb_outside.specs.Runs.{then_reads}
use Rattle.line_moves.proofs.Runs.{on_ok, reads_once, still_tells}
use Rattle.line_opening.proofs.Passed.{image_same}
use Rattle.stable_lines.specs.Slots.{area_file}
use Rattle.used_pages.specs.Pages.{bytes_at, HasUsedTo, AreWhole}
use Rattle.used_pages.proofs.Used.{all_used}
use Rattle.used_pages.proofs.pages.read_file.Goals as goal

pub returns-clause-reads : goal.returns-clause-reads
returns-clause-reads g c = let v = g.D.Disk.view in
    then_reads (v c.args.disk.now) (v c.length.new.self) (v c.read_pages.new.disk) (reads_once (v c.args.disk.now) (v c.length.new.self) c.length.result c.length.ensures.counts c.length.ensures.kept) c.read_pages.ensures.reads

pub returns-clause-bad : goal.returns-clause-bad
returns-clause-bad g c = let v = g.D.Disk.view in let old = v c.args.disk.now in let mid = v c.length.new.self in
    let reads = reads_once old mid c.length.result c.length.ensures.counts c.length.ensures.kept in
    λ f slot is t is_file whole. c.read_pages.ensures.bad f slot is (still_tells old mid reads.told t) is_file (subst AreWhole (sym (image_same old mid reads t)) whole)

pub returns-clause-used : goal.returns-clause-used
returns-clause-used g c = let v = g.D.Disk.view in let old = v c.args.disk.now in let mid = v c.length.new.self in
    let reads = reads_once old mid c.length.result c.length.ensures.counts c.length.ensures.kept in
    on_ok _ _ c.read_pages.result (λ used t.
    let same = image_same old mid reads t in
    let ends : (page : ℕ) → c.pages_within.result < page → page ≤ 65536 → bytes_at old.content c.args.file page ≡ zeros (area_file c.args.file) = λ page behind most.
    subst (λ (k : FileId). old.content k (page - 1) ≡ zeros k) c.area_file.ensures (c.in_ok-length.ensures.zeros t (page - 1) (c.pages_within.ensures.rest page behind most)) in
    all_used old.content c.args.file c.pages_within.result c.read_pages.new.pages ends
    (subst (λ (image : Image). HasUsedTo image c.args.file c.pages_within.result c.read_pages.new.pages) same (used (still_tells old mid reads.told t)))) c.read_pages.ensures.used

use Rattle.std.specs.Prelude.{IfSome}
use Rattle.std.proofs.Common.{rules, ◌≡◌, ◌-◌, ◌∙◌, ℕ, List, Option, sym, subst}
use Rattle.rdb_page.specs.declared.head.Head.{Head}
use Rattle.rdb_page.specs.Page.{IsUnused, StandsAs}
use Rattle.rdb_page.specs.Whole.{IsPageOf}
use Rattle.line_moves.proofs.Runs.{on_ok, reads_once, still_tells}
use Rattle.line_opening.proofs.Standing.{leaves_on}
use Rattle.database_opening.proofs.Others.{file_read, file_on}
use Rattle.used_pages.specs.Pages.{bytes_at}
use Rattle.copied_lines.specs.Holding.{from_line, AreBehind}
use Rattle.copied_lines.specs.Copying.{Copying, IsStopped}
use Rattle.copied_lines.proofs.OnPages.{file_of_owner}
use Rattle.copied_lines.proofs.Passing.{unused_passes}
use Rattle.copied_lines.proofs.Runs.{read_on, stopped_read}
use Rattle.copied_lines.proofs.pages.copy_page.Goals as goal

pub unreachable-requires : goal.unreachable-requires
unreachable-requires g c = c.in_default.ensures.none c.requires.placed.file c.requires.placed.owner

pub returns-in_err-read-clause-stopped : goal.returns-in_err-read-clause-stopped
returns-in_err-read-clause-stopped g c = let v = g.D.Disk.view in let old = v c.args.disk.now in let mid = v c.read.new.self in
    λ t former image now left behind was.
    stopped_read former image now (from_line left c.args.page 0) old c.args.backup.now c.requires.is_open was mid (reads_once old mid c.read.result c.read.ensures.counts c.read.ensures.kept) t

pub returns-in-Err-clause-stopped : goal.returns-in-Err-clause-stopped
returns-in-Err-clause-stopped g c = let v = g.D.Disk.view in let old = v c.args.disk.now in let mid = v c.read.new.self in
    λ t former image now left behind was.
    stopped_read former image now (from_line left c.args.page 0) old c.args.backup.now c.requires.is_open was mid (reads_once old mid c.read.result c.read.ensures.counts c.read.ensures.kept) t

pub returns-in-Ok-None-clause-stopped : goal.returns-in-Ok-None-clause-stopped
returns-in-Ok-None-clause-stopped g c = let v = g.D.Disk.view in let old = v c.args.disk.now in let mid = v c.read.new.self in
    λ t former image now left behind was.
    stopped_read former image now (from_line left c.args.page 0) old c.args.backup.now c.requires.is_open was mid (reads_once old mid c.read.result c.read.ensures.counts c.read.ensures.kept) t

pub returns-in-Ok-None-clause-copied : goal.returns-in-Ok-None-clause-copied
returns-in-Ok-None-clause-copied g c = let v = g.D.Disk.view in let old = v c.args.disk.now in let mid = v c.read.new.self in
    let reads = reads_once old mid c.read.result c.read.ensures.counts c.read.ensures.kept in
    let unused : IsUnused c.read.new.into = c.read_head.ensures.unused.0 (first_of (cc, search rules)) in
    λ t former image now left behind was.
    let there : c.read.new.into ≡ bytes_at image c.in-Some.file c.args.page.page = c.in_ok-read.ensures.bytes t ∙ (λ i. old.content (c.area_file.ensures i) (c.slot_of.ensures i)) ∙ was.same c.in-Some.file (c.args.page.page - 1) in
    unused_passes former image now left c.args.page c.in-Some.file c.in-Some.ensures.found mid c.args.backup.now (subst IsUnused there unused)
    (read_on former image now (from_line left c.args.page 0) old c.args.backup.now c.requires.is_open was mid reads t)

pub returns-in-Ok-Some-clause-bad : goal.returns-in-Ok-Some-clause-bad
returns-in-Ok-Some-clause-bad g c = let v = g.D.Disk.view in let old = v c.args.disk.now in
    let stands : StandsAs c.read.new.into c.in-Some.file c.args.page.page c.in-Ok-Some.head = subst (λ (o : Option Head). IfSome o (StandsAs c.read.new.into c.in-Some.file c.args.page.page)) c.in-Ok-Some.field-0-is c.in-Ok-Some.ensures.found in
    λ f slot is t former image now left was.
    let there : c.read.new.into ≡ bytes_at image c.in-Some.file c.args.page.page = c.in_ok-read.ensures.bytes t ∙ (λ i. old.content (c.area_file.ensures i) (c.slot_of.ensures i)) ∙ was.same c.in-Some.file (c.args.page.page - 1) in
    let whole : IsPageOf c.in-Some.file c.args.page.page c.read.new.into = subst (λ (bytes : List ℕ). IsPageOf c.in-Some.file c.args.page.page bytes) (sym there)
    (was.whole c.in-Some.file c.args.page.page (file_of_owner c.in-Some.file c.args.page.area c.in-Some.ensures.found) c.requires.placed.is_data) in
    c.copy_owned.ensures.bad f slot is (subst (λ (n : ℕ). IsPageOf c.in-Some.file n c.read.new.into) (sym stands.page_number) whole)

pub returns-in-Ok-Some-clause-copied : goal.returns-in-Ok-Some-clause-copied
returns-in-Ok-Some-clause-copied g c = let v = g.D.Disk.view in let old = v c.args.disk.now in let mid = v c.read.new.self in
    let reads = reads_once old mid c.read.result c.read.ensures.counts c.read.ensures.kept in
    let stands : StandsAs c.read.new.into c.in-Some.file c.args.page.page c.in-Ok-Some.head = subst (λ (o : Option Head). IfSome o (StandsAs c.read.new.into c.in-Some.file c.args.page.page)) c.in-Ok-Some.field-0-is c.in-Ok-Some.ensures.found in
    on_ok _ _ c.copy_owned.result (λ copied t former image now left behind was.
    let there : c.read.new.into ≡ bytes_at image c.in-Some.file c.args.page.page = c.in_ok-read.ensures.bytes t ∙ (λ i. old.content (c.area_file.ensures i) (c.slot_of.ensures i)) ∙ was.same c.in-Some.file (c.args.page.page - 1) in
    let number = sym stands.page_number in
    copied (still_tells old mid reads.told t) former image now left c.in-Some.ensures.found (there ∙ (λ i. bytes_at image c.in-Some.file (number i)))
    (subst (λ (n : ℕ). AreBehind (record { area = c.args.page.area; page = n }) left) number behind)
    (subst (λ (n : ℕ). Copying former image now (from_line left (record { area = c.args.page.area; page = n }) 0) mid c.args.backup.now) number
    (read_on former image now (from_line left c.args.page 0) old c.args.backup.now c.requires.is_open was mid reads t))) c.copy_owned.ensures.copied

pub returns-in-Ok-Some-clause-stopped : goal.returns-in-Ok-Some-clause-stopped
returns-in-Ok-Some-clause-stopped g c = let v = g.D.Disk.view in let old = v c.args.disk.now in let mid = v c.read.new.self in
    let reads = reads_once old mid c.read.result c.read.ensures.counts c.read.ensures.kept in
    let stands : StandsAs c.read.new.into c.in-Some.file c.args.page.page c.in-Ok-Some.head = subst (λ (o : Option Head). IfSome o (StandsAs c.read.new.into c.in-Some.file c.args.page.page)) c.in-Ok-Some.field-0-is c.in-Ok-Some.ensures.found in
    λ t former image now left behind was.
    let there : c.read.new.into ≡ bytes_at image c.in-Some.file c.args.page.page = c.in_ok-read.ensures.bytes t ∙ (λ i. old.content (c.area_file.ensures i) (c.slot_of.ensures i)) ∙ was.same c.in-Some.file (c.args.page.page - 1) in
    let number = sym stands.page_number in
    leaves_on old mid (v c.copy_owned.new.disk) (IsStopped now c.args.backup.now.number)
    (stopped_read former image now (from_line left c.args.page 0) old c.args.backup.now c.requires.is_open was mid reads t)
    (c.copy_owned.ensures.stopped (still_tells old mid reads.told t) former image now left c.in-Some.ensures.found (there ∙ (λ i. bytes_at image c.in-Some.file (number i)))
    (subst (λ (n : ℕ). AreBehind (record { area = c.args.page.area; page = n }) left) number behind)
    (subst (λ (n : ℕ). Copying former image now (from_line left (record { area = c.args.page.area; page = n }) 0) mid c.args.backup.now) number
    (read_on former image now (from_line left c.args.page 0) old c.args.backup.now c.requires.is_open was mid reads t)))

pub returns-in_err-read-clause-others : goal.returns-in_err-read-clause-others
returns-in_err-read-clause-others g c = let v = g.D.Disk.view in let old = v c.args.disk.now in let mid = v c.read.new.self in
    λ t file apart. file_read old mid (reads_once old mid c.read.result c.read.ensures.counts c.read.ensures.kept) t file

pub returns-in-Err-clause-others : goal.returns-in-Err-clause-others
returns-in-Err-clause-others g c = let v = g.D.Disk.view in let old = v c.args.disk.now in let mid = v c.read.new.self in
    λ t file apart. file_read old mid (reads_once old mid c.read.result c.read.ensures.counts c.read.ensures.kept) t file

pub returns-in-Ok-None-clause-others : goal.returns-in-Ok-None-clause-others
returns-in-Ok-None-clause-others g c = let v = g.D.Disk.view in let old = v c.args.disk.now in let mid = v c.read.new.self in
    λ t file apart. file_read old mid (reads_once old mid c.read.result c.read.ensures.counts c.read.ensures.kept) t file

pub returns-in-Ok-Some-clause-others : goal.returns-in-Ok-Some-clause-others
returns-in-Ok-Some-clause-others g c = let v = g.D.Disk.view in let old = v c.args.disk.now in let mid = v c.read.new.self in
    let reads = reads_once old mid c.read.result c.read.ensures.counts c.read.ensures.kept in
    λ t file apart. file_on old mid (v c.copy_owned.new.disk) file (file_read old mid reads t file) (c.copy_owned.ensures.others (still_tells old mid reads.told t) file apart)

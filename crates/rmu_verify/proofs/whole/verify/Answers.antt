use Rattle.std.proofs.Common.{rules, ◌≡◌, ◌++◌, ℕ, List, sym, ap, subst, ◌∙◌}
use Rattle.std.proofs.lemmas.Result.{err_from_is_err_and}
use Rattle.rdb_outside.specs.Disk.{Image, OnlyReads}
use Rattle.rdb_outside.specs.Runs.{then_reads}
use Rattle.line_moves.proofs.Runs.{still_tells}
use Rattle.line_opening.proofs.Passed.{image_same}
use Rattle.rmu_texts.specs.declared.faults.VerifyFault.{VerifyFault}
use Rattle.page_faults.specs.Listing.{Grows, ListsPages}
use Rattle.areas_at_rest.specs.lines_at_rest.declared.reading.FaultyPages.TheVariants.{LeftOut}
use Rattle.areas_at_rest.specs.lines_at_rest.Left.{LeavesOut}
use Rattle.areas_at_rest.proofs.Quiet.{rose_behind}
use Rattle.rmu_verify.proofs.whole.verify.Goals as goal

pub returns-clause-faults : goal.returns-clause-faults
returns-clause-faults g c = λ t journal is.
    let v = g.D.Disk.view in
    let v0 = v c.args.disk.now in
    let v1 = v c.read_before_images.new.disk in
    let v2 = v c.list_pages.new.disk in
    let r1 : OnlyReads v0 v1 = c.read_before_images.ensures.reads in
    let r2 : OnlyReads v0 v2 = then_reads v0 v1 v2 r1 (c.list_pages.ensures.quiet LeftOut).reads in
    let pages : Grows (ListsPages v0.content) c.new-faults.result c.list_pages.new.faults = subst (λ (m : Image). Grows (ListsPages m) c.new-faults.result c.list_pages.new.faults) (image_same v0 v1 r1 t) (c.in_ok-list_pages.ensures.listed (still_tells v0 v1 r1.told t)) in
    let lines = c.in_ok-verify_lines.ensures.found in
    record {
      pages = pages.0;
      lists = pages.2;
      lines = lines.0;
      finds = λ left all leaves stands. lines.2 (still_tells v0 v2 r2.told t) left (subst (λ (m : Image). LeavesOut m left) (sym (image_same v0 v2 r2 t)) leaves) journal.groups all (c.in_ok-before.ensures.lays t journal is left leaves.others) stands;
      are = lines.1 ∙ ap (λ (l : List VerifyFault). l ++ lines.0) (pages.1 ∙ ap (λ (l : List VerifyFault). l ++ pages.0) c.new-faults.ensures);
    }

pub returns-in_err-list_pages-clause-refused : goal.returns-in_err-list_pages-clause-refused
returns-in_err-list_pages-clause-refused g c = λ file slot is t headers journal isj.
    let p = err_from_is_err_and c.from_residual-in_err-list_pages.result c.from_residual-in_err-list_pages.ensures.1 in
    let same = ((c.list_pages.ensures.quiet LeftOut).refused file slot (first_of (cc, search rules))).0 in
    let no : ⊥ = cc in no

pub returns-in_err-list_pages-clause-failed : goal.returns-in_err-list_pages-clause-failed
returns-in_err-list_pages-clause-failed g c = λ is.
    let v = g.D.Disk.view in
    let v0 = v c.args.disk.now in
    let v1 = v c.read_before_images.new.disk in
    let v2 = v c.list_pages.new.disk in
    let r1 : OnlyReads v0 v1 = c.read_before_images.ensures.reads in
    let p = err_from_is_err_and c.from_residual-in_err-list_pages.result c.from_residual-in_err-list_pages.ensures.1 in
    rose_behind v0 v1 v2 r1 ((c.list_pages.ensures.quiet LeftOut).failed (first_of (cc, search rules)))

pub returns-in_err-list_pages-clause-reads : goal.returns-in_err-list_pages-clause-reads
returns-in_err-list_pages-clause-reads g c =
    let v = g.D.Disk.view in
    let v0 = v c.args.disk.now in
    let v1 = v c.read_before_images.new.disk in
    let v2 = v c.list_pages.new.disk in
    let r1 : OnlyReads v0 v1 = c.read_before_images.ensures.reads in
    then_reads v0 v1 v2 r1 (c.list_pages.ensures.quiet LeftOut).reads

pub returns-in_err-verify_lines-clause-failed : goal.returns-in_err-verify_lines-clause-failed
returns-in_err-verify_lines-clause-failed g c = λ is.
    let v = g.D.Disk.view in
    let v0 = v c.args.disk.now in
    let v1 = v c.read_before_images.new.disk in
    let v2 = v c.list_pages.new.disk in
    let r1 : OnlyReads v0 v1 = c.read_before_images.ensures.reads in
    let v3 = v c.verify_lines.new.disk in
    let r2 : OnlyReads v0 v2 = then_reads v0 v1 v2 r1 (c.list_pages.ensures.quiet LeftOut).reads in
    let p = err_from_is_err_and c.from_residual-in_err-verify_lines.result c.from_residual-in_err-verify_lines.ensures.1 in
    rose_behind v0 v2 v3 r2 (c.verify_lines.ensures.quiet.failed (first_of (cc, search rules)))

pub returns-in_err-verify_lines-clause-reads : goal.returns-in_err-verify_lines-clause-reads
returns-in_err-verify_lines-clause-reads g c =
    let v = g.D.Disk.view in
    let v0 = v c.args.disk.now in
    let v1 = v c.read_before_images.new.disk in
    let v2 = v c.list_pages.new.disk in
    let r1 : OnlyReads v0 v1 = c.read_before_images.ensures.reads in
    let v3 = v c.verify_lines.new.disk in
    let r2 : OnlyReads v0 v2 = then_reads v0 v1 v2 r1 (c.list_pages.ensures.quiet LeftOut).reads in
    then_reads v0 v2 v3 r2 c.verify_lines.ensures.quiet.reads

pub returns-clause-reads : goal.returns-clause-reads
returns-clause-reads g c =
    let v = g.D.Disk.view in
    let v0 = v c.args.disk.now in
    let v1 = v c.read_before_images.new.disk in
    let v2 = v c.list_pages.new.disk in
    let r1 : OnlyReads v0 v1 = c.read_before_images.ensures.reads in
    let v3 = v c.verify_lines.new.disk in
    let r2 : OnlyReads v0 v2 = then_reads v0 v1 v2 r1 (c.list_pages.ensures.quiet LeftOut).reads in
    then_reads v0 v2 v3 r2 c.verify_lines.ensures.quiet.reads

use Rattle.std.proofs.Common.{◌≡◌, ◌+◌, ◌-◌, ◌≤◌, ◌<◌, ℕ, inl, sym, subst, arith}
use Rattle.rdb_types.specs.declared.file.FileId.{FileId}
use Rattle.rdb_outside.specs.Disk.{Image, zeros}
use Rattle.rdb_outside.specs.Runs.{then_reads}
use Rattle.line_view.specs.Knowledge.{Lines}
use Rattle.stable_lines.specs.Slots.{area_file, file_of, slot_of}
use Rattle.line_moves.proofs.Runs.{reads_once, still_tells}
use Rattle.line_opening.proofs.Passed.{image_same}
use Rattle.rdb_page.specs.Page.{IsUnused}
use Rattle.page_faults.specs.Checks.{page_at}
use Rattle.lines_at_rest.specs.Area.{HoldsTo}
use Rattle.lines_at_rest.proofs.Found.{none_found, all_found}
use Rattle.lines_at_rest.specs.Left.{IsReadAs}
use Rattle.lines_at_rest.proofs.Left.{file_of_owner, read_unused}
use Rattle.lines_at_rest.proofs.Pages.{no_such_page, zeros_unused, behind_the_end}
use Rattle.lines_at_rest.proofs.area.read_area.Goals as goal

pub returns-in_default-clause-lines : goal.returns-in_default-clause-lines
returns-in_default-clause-lines g c = λ t file owner left so groups lines lays stands. absurd (c.in_default.ensures.none file owner)

pub returns-in_err-read_pages-clause-reads : goal.returns-in_err-read_pages-clause-reads
returns-in_err-read_pages-clause-reads g c = let v = g.D.Disk.view in
    then_reads (v c.args.disk.now) (v c.length.new.self) (v c.read_pages.new.disk) (reads_once (v c.args.disk.now) (v c.length.new.self) c.length.result c.length.ensures.counts c.length.ensures.kept) c.read_pages.ensures.reads

pub returns-clause-reads : goal.returns-clause-reads
returns-clause-reads g c = let v = g.D.Disk.view in
    then_reads (v c.args.disk.now) (v c.length.new.self) (v c.read_pages.new.disk) (reads_once (v c.args.disk.now) (v c.length.new.self) c.length.result c.length.ensures.counts c.length.ensures.kept) c.read_pages.ensures.reads

pub returns-clause-lines : goal.returns-clause-lines
returns-clause-lines g c = let v = g.D.Disk.view in let old = v c.args.disk.now in let mid = v c.length.new.self in
    let reads = reads_once old mid c.length.result c.length.ensures.counts c.length.ensures.kept in
    λ t file its left so groups lines lays stands.
    let held = c.args.held.now in
    let owner = c.in-Some.ensures.found in
    let mid_as : IsReadAs held.faulty mid.content left = subst (λ (image : Image). IsReadAs held.faulty image left) (sym (image_same old mid reads t)) so in
    let nothing : HoldsTo left held.before c.args.area 1 0 c.new-found.result = subst (λ (l : Lines). HoldsTo left held.before c.args.area 1 0 l) (sym c.new-found.ensures)
    (none_found left groups held.before lays c.args.area (λ q zero. no_such_page q (left (file_of q) (slot_of q)) (inl zero))) in
    let all : HoldsTo left held.before c.args.area (c.pages_within.result + 1) 0 c.read_pages.new.found = c.in_ok-read_pages.ensures.lines (still_tells old mid reads.told t) left mid_as groups lays owner nothing in
    let ends : (page : ℕ) → c.pages_within.result < page → page ≤ 65536 → IsUnused (page_at left c.in-Some.file page) = λ page behind most.
    read_unused held.faulty old.content left c.in-Some.file page so (file_of_owner c.in-Some.file c.args.area owner) (record { first = omega (arith, behind); last = most })
    (zeros_unused (area_file c.in-Some.file) (page_at old.content c.in-Some.file page) (subst (λ (k : FileId). old.content k (page - 1) ≡ zeros k) c.area_file.ensures (c.in_ok-length.ensures.zeros t (page - 1) (c.pages_within.ensures.rest page behind most)))) in
    all_found left groups held.before lays c.args.area (c.pages_within.result + 1) lines c.read_pages.new.found all (λ q own past. behind_the_end left c.in-Some.file c.args.area c.pages_within.result owner ends q own past) stands

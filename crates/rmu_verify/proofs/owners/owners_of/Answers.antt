use Rattle.std.proofs.Common.{◌≡◌, ◌≤◌, ◌-◌, subst, arith}
use Rattle.rdb_types.specs.declared.file.FileId.{FileId}
use Rattle.rdb_outside.specs.Disk.{Image, zeros}
use Rattle.line_moves.proofs.Runs.{reads_once, still_tells}
use Rattle.line_opening.proofs.Passed.{image_same}
use Rattle.line_opening.proofs.Counted.{if_ok}
use Rattle.stable_lines.specs.Slots.{area_file}
use Rattle.page_faults.specs.Checks.{page_at}
use Rattle.rmu_verify.specs.Owners.{HasOwners}
use Rattle.areas_at_rest.proofs.Quiet.{then as behind_reads}
use Rattle.rmu_verify.proofs.Owning.{all_owners, zeros_unused}
use Rattle.rmu_verify.proofs.owners.owners_of.Goals as goal

pub returns-clause-owners : goal.returns-clause-owners
returns-clause-owners g c =
    let v = g.D.Disk.view in let old = v c.args.disk.now in let mid = v c.length.new.self in
    let reads = reads_once old mid c.length.result c.length.ensures.counts c.length.ensures.kept in
    if_ok _ _ c.owners_to.result (λ owners has t.
    let same = image_same old mid reads t in
    all_owners old.content c.args.file c.min.result 65536 owners.keys (subst (λ (image : Image). HasOwners image c.args.file c.min.result owners.keys) same (has (still_tells old mid reads.told t)))
    (λ page behind last.
    let past : c.in_ok-length.length ≤ page - 1 = omega (arith, behind, last, c.min.ensures) in
    zeros_unused (area_file c.args.file) (page_at old.content c.args.file page) (subst (λ (k : FileId). old.content k (page - 1) ≡ zeros k) c.area_file.ensures (c.in_ok-length.ensures.zeros t (page - 1) past)))) c.owners_to.ensures.owners

pub returns-clause-quiet : goal.returns-clause-quiet
returns-clause-quiet g c faulty =
    let v = g.D.Disk.view in let old = v c.args.disk.now in let mid = v c.length.new.self in
    behind_reads old mid (v c.owners_to.new.disk) c.owners_to.result (reads_once old mid c.length.result c.length.ensures.counts c.length.ensures.kept) (c.owners_to.ensures.quiet faulty)

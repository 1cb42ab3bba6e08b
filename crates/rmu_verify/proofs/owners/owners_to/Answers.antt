use Rattle.std.proofs.Common.{◌≡◌, ◌∙◌, ◌+◌, ◌-◌, ℕ, List, ap, sym, subst, arith}
use Rattle.std.proofs.lemmas.Result.{err_from_is_err_and}
use Rattle.rdb_outside.specs.Runs.{one_call}
use Rattle.line_moves.proofs.Runs.{still_tells}
use Rattle.line_opening.proofs.Passed.{image_same}
use Rattle.stable_lines.specs.Slots.{area_file}
use Rattle.page_faults.specs.Checks.{page_at}
use Rattle.rmu_verify.specs.Owners.{AddsOwner}
use Rattle.areas_at_rest.proofs.Quiet.{failed_call, want}
use Rattle.rmu_verify.proofs.Owning.{no_owners, owners_more}
use Rattle.rmu_verify.proofs.owners.owners_to.Goals as goal

pub returns-in_err-read-clause-quiet : goal.returns-in_err-read-clause-quiet
returns-in_err-read-clause-quiet g c faulty =
    let v = g.D.Disk.view in
    let p = err_from_is_err_and c.from_residual.result c.from_residual.ensures.1 in
    rw (p.1, p.2) (failed_call (v c.args.disk.now) (v c.loop-slot.disk) (v c.read.new.self) c.read.result c.in_err-read.field-0.0 c.loop-slot.invariant.reads c.read.ensures.counts c.read.ensures.kept c.in_err-read.was)

pub loop-slot-preserved : goal.loop-slot-preserved
loop-slot-preserved g c =
    let v = g.D.Disk.view in
    let before = v c.args.disk.now in
    let mid = v c.loop-slot.disk in
    let was = c.loop-slot.invariant in
    record {
      reads = one_call before mid (v c.read.new.self) c.read.result was.reads c.read.ensures.counts c.read.ensures.kept;
      owners = λ t.
          let back : c.loop-slot.slot ≡ c.loop-slot.slot + 1 - 1 = omega arith in
          let there : before.content (area_file c.args.file) c.loop-slot.slot ≡ page_at before.content c.args.file (c.loop-slot.slot + 1) = ap (λ (s : ℕ). before.content (area_file c.args.file) s) back in
          let bytes : c.read.new.into ≡ before.content (area_file c.args.file) c.loop-slot.slot =
          c.in_ok-read.ensures.bytes (still_tells before mid was.reads.told t) ∙ (λ i. image_same before mid was.reads t i (c.area_file.ensures i) c.loop-slot.slot) in
          owners_more before.content c.args.file c.loop-slot.slot c.loop-slot.owners.keys c.add_owner.new.owners.keys (was.owners t) (omega (arith, c.loop-slot-test.true, c.requires))
          (subst (λ (page : List ℕ). AddsOwner c.args.file (c.loop-slot.slot + 1) page c.loop-slot.owners.keys c.add_owner.new.owners.keys) (bytes ∙ there) c.in-Ok.ensures);
    }

pub returns-in_default-clause-quiet : goal.returns-in_default-clause-quiet
returns-in_default-clause-quiet g c faulty =
    let v = g.D.Disk.view in
    want (v c.args.disk.now) (v c.read.new.self) (one_call (v c.args.disk.now) (v c.loop-slot.disk) (v c.read.new.self) c.read.result c.loop-slot.invariant.reads c.read.ensures.counts c.read.ensures.kept)

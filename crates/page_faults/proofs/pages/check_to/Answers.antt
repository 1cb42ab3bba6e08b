use Rattle.std.proofs.Common.{◌≡◌, ◌+◌, ◌++◌, ◌∷◌, [], true, false, sym, subst, ◌∙◌, rules}
use Rattle.rdb_outside.specs.Disk.{Image}
use Rattle.rdb_outside.specs.Runs.{no_calls, then_reads}
use Rattle.page_faults.specs.Checks.{fault_of, IsFault, IsFine}
use Rattle.page_faults.specs.Listing.{Grows, Lists}
use Rattle.page_faults.proofs.Reading.{image_same, told_on}
use Rattle.page_faults.proofs.Listed.{grows_none, grows_listed, grows_fine}
use Rattle.page_faults.proofs.pages.check_to.Goals as goal
use Rattle.page_faults.proofs.pages.check_to.Goals.{then-branch+in_ok-add_fault, else-branch}

pub loop-slot-init : goal.loop-slot-init
loop-slot-init g c =
    let before = g.D.Disk.view c.args.disk.now in
    record { reads = no_calls before; listed = λ t. grows_none before.content c.args.asked c.args.file c.args.faults.now }

pub returns-in_err-is_faulty-clause-reads : goal.returns-in_err-is_faulty-clause-reads
returns-in_err-is_faulty-clause-reads g c =
    let v = g.D.Disk.view in
    then_reads (v c.args.disk.now) (v c.loop-slot.disk) (v c.is_faulty.new.disk) c.loop-slot.invariant.reads c.is_faulty.ensures.reads

pub returns-in_err-add_fault-clause-reads : goal.returns-in_err-add_fault-clause-reads
returns-in_err-add_fault-clause-reads g c =
    let v = g.D.Disk.view in
    then_reads (v c.args.disk.now) (v c.loop-slot.disk) (v c.is_faulty.new.disk) c.loop-slot.invariant.reads c.is_faulty.ensures.reads

pub loop-slot-preserved : goal.loop-slot-preserved
loop-slot-preserved g c =
    let v = g.D.Disk.view in
    let before = v c.args.disk.now in
    let mid = v c.loop-slot.disk in
    let asked = c.args.asked in
    let file = c.args.file in
    let slot = c.loop-slot.slot in
    let so_far = c.loop-slot.invariant in
    record {
      reads = then_reads before mid (v c.is_faulty.new.disk) so_far.reads c.is_faulty.ensures.reads;
      listed = λ t.
          let told = told_on before mid so_far.reads t in
          let same = image_same before mid so_far.reads t in
          elim c.if-branch.branch [
            | then-branch+in_ok-add_fault w ↦
                let is : IsFault before.content asked file (slot + 1) = subst (λ (m : Image). IsFault m asked file (slot + 1)) same (c.in_ok-is_faulty.ensures.yes told (search rules)) in
                let made : c.if-branch.faults ≡ c.loop-slot.faults ++ fault_of asked file (slot + 1) ∷ [] = w.faults-is ∙ w.in_ok-add_fault.ensures.ok in
                grows_listed before.content asked file slot c.args.faults.now c.loop-slot.faults c.if-branch.faults (so_far.listed t) is made
            | else-branch w ↦
                let is : IsFine before.content asked file (slot + 1) = subst (λ (m : Image). IsFine m asked file (slot + 1)) same (c.in_ok-is_faulty.ensures.no told (search rules)) in
                subst (λ f. Grows (Lists before.content asked file (slot + 1)) c.args.faults.now f) (sym w.faults-is)
                (grows_fine before.content asked file slot c.args.faults.now c.loop-slot.faults (so_far.listed t) is)
          ];
    }

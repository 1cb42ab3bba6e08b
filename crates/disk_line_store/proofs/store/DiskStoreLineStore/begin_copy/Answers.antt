use Rattle.disk_line_store.proofs.Calls.{begun-readers}
use Rattle.disk_line_store.proofs.store.DiskStoreLineStore.begin_copy.Goals as goal

pub invariant_of-self : goal.invariant_of-self
invariant_of-self g c =
    let s = c.args.s.number in
    let held = c.args.self.now.held in
    let leaves = c.begin_copy-begun.ensures.leaves in
    record {
      few = c.steps_are_few.ensures.all held.members leaves.steps c.args.self.now.few;
      readers = begun-readers c.begin_copy-begun.result held c.begin_copy-begun.new.held c.args.self.now.copies c.begin_copy-begun.new.copies s c.args.self.now.readers leaves c.begin_copy-begun.ensures.others c.begin_copy-begun.ensures.reads c.begin_copy-begun.ensures.nothing;
    }

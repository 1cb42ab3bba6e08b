use Rattle.std.proofs.Common.{◌≡◌, None, sym, subst, ◌∙◌, IsTrue, arith}
use Rattle.rdb_outside.specs.Disk.{LeftNow}
use Rattle.line_store.specs.Seats.{Seat}
use Rattle.line_store.specs.Sights.{Does, Steps, stepped_to}
use Rattle.line_store.proofs.Begun.{step-begins}
use Rattle.change_steps.specs.disk_store.Seats.{stand_at}
use Rattle.change_steps.specs.disk_store.Shown.{sight_of}
use Rattle.store_copies.specs.Memory.{copied_by}
use Rattle.store_copies.specs.Shown.{copied_sight}
use Rattle.store_copies.proofs.Plain.{leaves-own}
use Rattle.store_copies.proofs.Sighted.{stands-plain}
use Rattle.disk_line_store.proofs.Calls.{Beside, beside-of, none-of, readers-beside, readers-stepped, reads-there, some-of, stepped}
use Rattle.disk_line_store.proofs.store.DiskStoreLineStore.step.Goals as goal

pub copy_step-requires-clause-reads : goal.copy_step-requires-clause-reads
copy_step-requires-clause-reads g c =
    let some = some-of c.of.result (sym c.is_some.ensures ∙ c.if-is_some.true) in
    reads-there c.args.self.now.held c.args.self.now.copies c.args.s.number c.args.self.now.readers some.0 (sym c.of.ensures.is ∙ some.1)

pub invariant_of-self : goal.invariant_of-self
invariant_of-self g c =
    let some = some-of c.of.result (sym c.is_some.ensures ∙ c.if-is_some.true) in
    record {
      few = c.args.self.now.few;
      readers = readers-stepped c.args.self.now.held c.args.self.now.copies c.args.s.number c.args.self.now.readers some.0 (sym c.of.ensures.is ∙ some.1) c.copy_step.new.copies c.copy_step.ensures.others;
    }

pub invariant_of-self-2 : goal.invariant_of-self-2
invariant_of-self-2 g c =
    let v = g.D.Disk.view c.args.self.now.disk in
    let w = g.D.Disk.view c.step-stepped.new.disk in
    let s = c.args.s.number in
    let held = c.args.self.now.held in
    let behind = c.step-stepped.new.held in
    let copies = c.args.self.now.copies in
    let none : copied_by copies s ≡ None = sym c.of.ensures.is ∙ none-of c.of.result (sym c.is_some.ensures ∙ c.if-is_some.false) in
    let beside : Beside s (sight_of v held) (sight_of w behind) = beside-of s (stepped_to (stand_at held.members s) c.step-stepped.result) (Steps s c.step-stepped.result) v w held behind c.step-stepped.ensures.comes in
    record {
      few = c.steps_are_few.ensures.all held.members beside.steps c.args.self.now.few;
      readers = readers-beside v w held behind copies s none beside c.args.self.now.readers;
    }

pub returns-clause-comes : goal.returns-clause-comes
returns-clause-comes g c =
    let former = g.O.FormerDisk.former in
    let v = g.D.Disk.view c.args.self.now.disk in
    let reads : IsTrue v.tells → LeftNow v v.content = λ tells. g.met.D.Disk.content_left c.args.self.now.disk v.moment tells (omega arith) in
    let w = g.D.Disk.view c.step-stepped.new.disk in
    let s = c.args.s.number in
    let held = c.args.self.now.held in
    let behind = c.step-stepped.new.held in
    let copies = c.args.self.now.copies in
    let result = c.step-stepped.result in
    let none : copied_by copies s ≡ None = sym c.of.ensures.is ∙ none-of c.of.result (sym c.is_some.ensures ∙ c.if-is_some.false) in
    subst (λ (seat : Seat). Does s (stepped_to seat result) (Steps s result) (copied_sight former v held copies) (copied_sight former w behind copies)) (sym (stands-plain v held copies c.args.self.now.readers s none))
    (stepped v w held behind copies s none (leaves-own v w reads c.step-stepped.ensures.writes) c.step-stepped.ensures.grows (stepped_to (stand_at held.members s) result) result (step-begins (stand_at held.members s) result) c.step-stepped.ensures.comes)

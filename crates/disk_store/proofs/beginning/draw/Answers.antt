use Rattle.std.proofs.Common.{◌≡◌, ◌≤◌, sym, subst, ap, ◌∙◌, refl, arith}
use Rattle.std.specs.Prelude.{slice_get}
use Rattle.line_store.specs.Shelves.{Shelf}
use Rattle.line_store.specs.Calls.{IsDone, Fails}
use Rattle.line_store.specs.declared.answers.Fault.TheVariants.{Bad}
use Rattle.line_store.specs.Seats.{done_at, failed_at}
use Rattle.line_store.specs.Sights.{seat_or}
use Rattle.disk_store.specs.declared.member.Ceiling.TheVariants.{Raised}
use Rattle.disk_store.specs.declared.member.Member.{Member}
use Rattle.disk_store.specs.declared.held.Numbers.{Numbers}
use Rattle.disk_store.specs.Memory.{StoreMemory, with_number}
use Rattle.disk_store.specs.Numbers.{with_settled}
use Rattle.disk_store.specs.Seats.{stand_at}
use Rattle.disk_store.specs.Shown.{DoesOn}
use Rattle.disk_store.proofs.Closing.{one-member}
use Rattle.disk_store.proofs.Failing.{does-fail, does-failed}
use Rattle.disk_store.proofs.Restored.{keeps-read}
use Rattle.disk_store.proofs.Drawing.{does-draw}
use Rattle.disk_store.proofs.Raising.{leads-read, may-draw-kept, number-is-kept, does-none}
use Rattle.disk_store.proofs.OwnFiles.{own-reads}
use Rattle.disk_store.proofs.beginning.draw.Goals as goal

pub returns-in_default-clause-comes : goal.returns-in_default-clause-comes
returns-in_default-clause-comes g c =
    let v = g.D.Disk.view c.args.disk.now in
    let w = g.D.Disk.view c.settle.new.disk in
    let at = c.requires.begins in
    does-fail v w c.args.held.now c.args.s.number at.member at.is (λ reads. cc) (keeps-read v w c.args.held.now c.args.s.number at.member c.settle.ensures.reads c.settle.ensures.keeps) (λ changes. cc) (c.in_default.ensures.counts.cause refl)

pub returns-clause-comes : goal.returns-clause-comes
returns-clause-comes g c =
    let v = g.D.Disk.view c.args.disk.now in
    let w = g.D.Disk.view c.settle.new.disk in
    let s = c.args.s.number in
    let held = c.args.held.now in
    let at = c.requires.begins in
    let settled : c.settle_ceiling.new.self ≡ with_settled held = c.settle_ceiling.ensures in
    let comes = c.draw_number.ensures in
    let there = ap (λ (x : StoreMemory). slice_get x.members s) (sym settled) ∙ comes.1 in
    let same : comes.0 ≡ at.member = one-member held.members s comes.0 at.member there at.is in
    subst (λ new. DoesOn s (seat_or (stand_at held.members s) (done_at (stand_at held.members s))) (λ h k. IsDone s h k) v held w new)
    (sym (comes.2 ∙ ap (λ (x : StoreMemory). with_number s comes.0 x) settled ∙ ap (λ (x : Member). with_number s x (with_settled held)) same))
    (does-draw v w held s held.numbers.written at.member Raised at.is c.requires.member at.at (leads-read v w held c.settle.ensures.reads c.settle.ensures.keeps) (may-draw-kept v w held s at.member at.is at.at c.settle.ensures.reads c.in-Ok.ensures.stable))

-- the number that is there, by memory behind the barrier
none-below : (held behind : StoreMemory) (inside : Numbers) → inside ≡ behind.numbers → behind ≡ with_settled held → inside.ceiling ≤ inside.next → held.numbers.written ≤ held.numbers.next
none-below held behind inside same settled none = subst (λ (n : Numbers). n.ceiling ≤ n.next) (same ∙ ap (λ (x : StoreMemory). x.numbers) settled) none

pub returns-then-held-clause-comes : goal.returns-then-held-clause-comes
returns-then-held-clause-comes g c =
    let v = g.D.Disk.view c.args.disk.now in
    let w = g.D.Disk.view c.settle.new.disk in
    let s = c.args.s.number in
    let held = c.args.held.now in
    let at = c.requires.begins in
    let settled : c.settle_ceiling.new.self ≡ with_settled held = c.settle_ceiling.ensures in
    let none = none-below held c.settle_ceiling.new.self c.held.inside.numbers (ap (λ (x : StoreMemory). x.numbers) c.held.view_is) settled c.if-held.true in
    let R = λ (h k : Shelf). Fails s (Bad c.root_file.result 0) h k in
    subst (λ new. DoesOn s (failed_at (stand_at held.members s)) R v held w new) (sym settled)
    (does-failed held s at.member at.is (λ changes. cc) R v w held (with_settled held) (does-none v w held s at.member at.is at.at none R))

pub returns-then-held-clause-kept : goal.returns-then-held-clause-kept
returns-then-held-clause-kept g c file slot is h shown =
    let held = c.args.held.now in
    let at = c.requires.begins in
    let none = none-below held c.settle_ceiling.new.self c.held.inside.numbers (ap (λ (x : StoreMemory). x.numbers) c.held.view_is) c.settle_ceiling.ensures c.if-held.true in
    let kept = number-is-kept (g.D.Disk.view c.args.disk.now) held c.args.s.number at.member at.is at.at h shown in
    omega (arith, none, kept)

pub returns-in_default-clause-writes : goal.returns-in_default-clause-writes
returns-in_default-clause-writes g c = own-reads (g.D.Disk.view c.args.disk.now) (g.D.Disk.view c.settle.new.disk) c.settle.ensures.reads

pub returns-then-held-clause-writes : goal.returns-then-held-clause-writes
returns-then-held-clause-writes g c = own-reads (g.D.Disk.view c.args.disk.now) (g.D.Disk.view c.settle.new.disk) c.settle.ensures.reads

pub returns-clause-writes : goal.returns-clause-writes
returns-clause-writes g c = own-reads (g.D.Disk.view c.args.disk.now) (g.D.Disk.view c.settle.new.disk) c.settle.ensures.reads

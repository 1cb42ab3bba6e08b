use Rattle.std.proofs.Common.{◌≡◌, IsTrue, Some, None, Err, ap, subst, sym, ◌∙◌, refl, arith}
use Rattle.std.proofs.lemmas.Option.{same_Some, none-some}
use Rattle.rdb_types.specs.declared.keys.Limits.{Limits}
use Rattle.rdb_outside.specs.Disk.{LeftNow}
use Rattle.backup_making.specs.Making.{file_of}
use Rattle.backup_steps.specs.reader_lines.Readers.{IsReader}
use Rattle.partial_backup.specs.declared.copying.Copying.{Copying}
use Rattle.disk_store.specs.declared.held.Tables.{Tables}
use Rattle.disk_store.specs.declared.member.Member.{Member}
use Rattle.disk_store.specs.declared.member.MemberStage.TheVariants as stage
use Rattle.disk_store.specs.Classed.{LieClassed}
use Rattle.store_copies.specs.Memory.{copied_by}
use Rattle.store_copies.proofs.CopySteps.{backed-by-none, backed-done, beside-none, copies-ended, copies-set, does-done, does-fault, does-more, done-as, done-there, goes-worked, kept-working, none-bad, rolling-done, set-own}
use Rattle.store_copies.proofs.Plain.{leaves-none}
use Rattle.store_copies.proofs.steps.copy_step.Goals as goal

pub returns-then-not-is_last-clause-comes : goal.returns-then-not-is_last-clause-comes
returns-then-not-is_last-clause-comes g c =
    let v = g.D.Disk.view c.args.disk.now in
    let s = c.args.s.number in
    let before = c.args.copies.now in
    let after = c.leave.new.self in
    let at = c.requires.reads in
    let it = c.in-Some.copying in
    let set = c.leave.ensures.copied in
    let numbers = c.leave.ensures.numbers in
    let now : IsTrue v.tells → LeftNow v v.content = λ tells. g.met.D.Disk.content_left c.args.disk.now v.moment tells (omega arith) in
    does-done v c.args.held.now s at.member at.is at.at before it (sym c.of.ensures.is ∙ c.in-Some.is) v (beside-none (file_of it.backup.number) v) now after
    (set-own before after s None set numbers) None (copies-set before after s None set numbers c.leave.ensures.done (λ x bad. absurd (none-some x bad))) (λ t n other. (leaves-none v now).untouched t n)
    (λ h k with-it shown behind on were n bad. absurd (none-some n bad))

pub returns-then-not-is_last-clause-backed : goal.returns-then-not-is_last-clause-backed
returns-then-not-is_last-clause-backed g c done =
    let v = g.D.Disk.view c.args.disk.now in
    let at = c.requires.reads in
    backed-by-none v c.args.held.now c.args.s.number at.member at.is at.at c.args.copies.now c.in-Some.copying (sym c.of.ensures.is ∙ c.in-Some.is) v c.leave.new.self (c.is_last.ensures.no c.if-not-is_last.true)

pub returns-in-Err-clause-comes : goal.returns-in-Err-clause-comes
returns-in-Err-clause-comes g c =
    let v = g.D.Disk.view c.args.disk.now in
    let w = g.D.Disk.view c.copy_next.new.disk in
    let s = c.args.s.number in
    let held = c.args.held.now in
    let before = c.args.copies.now in
    let at = c.requires.reads in
    let it : Copying = c.in-Some.copying in
    let m : Member = c.member.result.now in
    let was = c.member.ensures in
    let reads : m.stage ≡ stage.Reading = subst (λ (x : Member). x.stage ≡ stage.Reading) (same_Some at.member m (sym at.is ∙ was)) at.at in
    let is : copied_by before s ≡ Some it = sym c.of.ensures.is ∙ c.in-Some.is in
    let last = c.is_last.ensures.yes c.if-not-is_last.false in
    let left : IsTrue v.tells → LeftNow v v.content = λ tells. g.met.D.Disk.content_left c.args.disk.now v.moment tells (omega arith) in
    let beside = c.copy_next.ensures.beside in
    does-fault v held s m was reads before it is w beside left before refl c.in-Err.fault (λ e. c.in-Err.ensures.failed (ap Err e))
    (kept-working v held s m was reads before it is left last w beside)
    (none-bad v held s m was reads before it is left last c.sound.ensures c.in-Err.fault
    (λ file slot told tells former classes ledger lines reader ordered may lie copying. c.in-Err.ensures.bad file slot (ap Err told) tells former classes ledger lines
    (subst (λ (l : Limits). IsReader v ledger l.snaps m.reader lines) (sym c.limits-limit.ensures) reader) ordered may
    (c.next_line_in-next.ensures.leads classes lines (subst (λ (t : Tables). LieClassed t classes lines) (sym c.tables.ensures) lie)) copying))
    (goes-worked v held s m was reads before it is left last w it refl (λ tells former classes ledger lines reader ordered lie copying. c.in-Err.ensures.not_copied tells former classes lines copying))

pub returns-then-has_ended-clause-comes : goal.returns-then-has_ended-clause-comes
returns-then-has_ended-clause-comes g c =
    let v = g.D.Disk.view c.args.disk.now in
    let w = g.D.Disk.view c.copy_next.new.disk in
    let s = c.args.s.number in
    let held = c.args.held.now in
    let before = c.args.copies.now in
    let after = c.finish.new.self in
    let at = c.requires.reads in
    let it : Copying = c.in-Some.copying in
    let next : Copying = c.copy_next.new.copying in
    let m : Member = c.member.result.now in
    let was = c.member.ensures in
    let reads : m.stage ≡ stage.Reading = subst (λ (x : Member). x.stage ≡ stage.Reading) (same_Some at.member m (sym at.is ∙ was)) at.at in
    let is : copied_by before s ≡ Some it = sym c.of.ensures.is ∙ c.in-Some.is in
    let last = c.is_last.ensures.yes c.if-not-is_last.false in
    let left : IsTrue v.tells → LeftNow v v.content = λ tells. g.met.D.Disk.content_left c.args.disk.now v.moment tells (omega arith) in
    let left-behind : IsTrue w.tells → LeftNow w w.content = λ tells. g.met.D.Disk.content_left c.copy_next.new.disk w.moment tells (omega arith) in
    let set = c.finish.ensures.copied in
    let numbers = c.finish.ensures.numbers in
    let same = c.copy_next.ensures.same in
    let beside = c.copy_next.ensures.beside in
    let done = done-as before after next.backup.number it.backup.number same.number c.finish.ensures.done in
    let copies = copies-ended before after s it.backup.number set numbers done (record { copying = it; is = is; number_is = refl; last = last }) in
    does-done v held s m was reads before it is w beside left after
    (set-own before after s None set numbers) (Some it.backup.number) copies (kept-working v held s m was reads before it is left last w beside)
    (rolling-done v held s m was reads before it is w after (set-own before after s None set numbers) copies last left-behind next same.number same.last_group (c.has_ended.ensures.yes c.if-has_ended.true) (done-there before after it.backup.number done)
    (goes-worked v held s m was reads before it is left last w next same.limits
    (λ tells former classes ledger lines reader ordered lie copying. c.in_default-copy_next.ensures.copied tells former classes ledger lines
    (subst (λ (l : Limits). IsReader v ledger l.snaps m.reader lines) (sym c.limits-limit.ensures) reader) ordered
    (c.next_line_in-next.ensures.leads classes lines (subst (λ (t : Tables). LieClassed t classes lines) (sym c.tables.ensures) lie)) copying)))

pub returns-then-has_ended-clause-backed : goal.returns-then-has_ended-clause-backed
returns-then-has_ended-clause-backed g c done =
    let v = g.D.Disk.view c.args.disk.now in
    let w = g.D.Disk.view c.copy_next.new.disk in
    let s = c.args.s.number in
    let held = c.args.held.now in
    let before = c.args.copies.now in
    let after = c.finish.new.self in
    let at = c.requires.reads in
    let it : Copying = c.in-Some.copying in
    let next : Copying = c.copy_next.new.copying in
    let m : Member = c.member.result.now in
    let was = c.member.ensures in
    let reads : m.stage ≡ stage.Reading = subst (λ (x : Member). x.stage ≡ stage.Reading) (same_Some at.member m (sym at.is ∙ was)) at.at in
    let is : copied_by before s ≡ Some it = sym c.of.ensures.is ∙ c.in-Some.is in
    let last = c.is_last.ensures.yes c.if-not-is_last.false in
    let left : IsTrue v.tells → LeftNow v v.content = λ tells. g.met.D.Disk.content_left c.args.disk.now v.moment tells (omega arith) in
    let left-behind : IsTrue w.tells → LeftNow w w.content = λ tells. g.met.D.Disk.content_left c.copy_next.new.disk w.moment tells (omega arith) in
    let set = c.finish.ensures.copied in
    let numbers = c.finish.ensures.numbers in
    let same = c.copy_next.ensures.same in
    let ended = done-as before after next.backup.number it.backup.number same.number c.finish.ensures.done in
    let copies = copies-ended before after s it.backup.number set numbers ended (record { copying = it; is = is; number_is = refl; last = last }) in
    backed-done v held s m was reads before it is w after (set-own before after s None set numbers) copies last left-behind
    next same.number same.last_group (c.has_ended.ensures.yes c.if-has_ended.true) (done-there before after it.backup.number ended)
    (goes-worked v held s m was reads before it is left last w next same.limits
    (λ tells former classes ledger lines reader ordered lie copying. c.in_default-copy_next.ensures.copied tells former classes ledger lines
    (subst (λ (l : Limits). IsReader v ledger l.snaps m.reader lines) (sym c.limits-limit.ensures) reader) ordered
    (c.next_line_in-next.ensures.leads classes lines (subst (λ (t : Tables). LieClassed t classes lines) (sym c.tables.ensures) lie)) copying))

pub returns-clause-comes : goal.returns-clause-comes
returns-clause-comes g c =
    let v = g.D.Disk.view c.args.disk.now in
    let w = g.D.Disk.view c.copy_next.new.disk in
    let s = c.args.s.number in
    let held = c.args.held.now in
    let before = c.args.copies.now in
    let after = c.set.new.self in
    let at = c.requires.reads in
    let it : Copying = c.in-Some.copying in
    let next : Copying = c.copy_next.new.copying in
    let m : Member = c.member.result.now in
    let was = c.member.ensures in
    let reads : m.stage ≡ stage.Reading = subst (λ (x : Member). x.stage ≡ stage.Reading) (same_Some at.member m (sym at.is ∙ was)) at.at in
    let is : copied_by before s ≡ Some it = sym c.of.ensures.is ∙ c.in-Some.is in
    let last = c.is_last.ensures.yes c.if-not-is_last.false in
    let left : IsTrue v.tells → LeftNow v v.content = λ tells. g.met.D.Disk.content_left c.args.disk.now v.moment tells (omega arith) in
    let set = c.set.ensures.copied in
    let numbers = c.set.ensures.numbers in
    let same = c.copy_next.ensures.same in
    let beside = c.copy_next.ensures.beside in
    does-more v held s m was reads before it is w beside left after next (set-own before after s (Some next) set numbers) same.number same.last_group (c.in_default-copy_next.ensures.less c.next_line_in-next.ensures.goes_on)
    (copies-set before after s (Some next) set numbers c.set.ensures.done (λ x own. (it, is, sym same.number ∙ ap (λ (y : Copying). y.backup.number) (same_Some next x own))))
    (kept-working v held s m was reads before it is left last w beside)
    (goes-worked v held s m was reads before it is left last w next same.limits
    (λ tells former classes ledger lines reader ordered lie copying. c.in_default-copy_next.ensures.copied tells former classes ledger lines
    (subst (λ (l : Limits). IsReader v ledger l.snaps m.reader lines) (sym c.limits-limit.ensures) reader) ordered
    (c.next_line_in-next.ensures.leads classes lines (subst (λ (t : Tables). LieClassed t classes lines) (sym c.tables.ensures) lie)) copying))

use Rattle.std.proofs.Common.{◌≡◌, ◌≤◌, ◌^◌, ◌==◌, ◌+◌, sym, subst, ℕ, Option, Some, ap, ◌∙◌, arith, if◌then◌else◌}
use Rattle.line_store.specs.Seats.{Seat, begun}
use Rattle.partial_backup.specs.declared.copying.Copying.{Copying}
use Rattle.disk_store.proofs.Growing.{grow-same}
use Rattle.store_copies.proofs.Begins.{does-begin-copy, on-error, reading-at}
use Rattle.store_copies.proofs.Plain.{leaves-none, stays-with}
use Rattle.store_copies.proofs.beginning.begin_copy.Goals as goal

pub returns-in_err-begin_reading-clause-err : goal.returns-in_err-begin_reading-clause-err
returns-in_err-begin_reading-clause-err g c =
    let v = g.D.Disk.view c.args.disk.now in
    on-error c.from_residual.result (stays-with v v c.args.held.now c.begin_reading.new.held c.args.copies.now c.args.s.number c.requires.none (leaves-none v (λ tells. g.met.D.Disk.content_left c.args.disk.now v.moment tells (omega arith)))
    (grow-same c.args.held.now.tables c.begin_reading.new.held.tables c.begin_reading.ensures.tables) (ap (λ (x : Seat). begun x x) c.requires.outside) c.in_err-begin_reading.ensures.err)

pub returns-clause-ok : goal.returns-clause-ok
returns-clause-ok g c =
    let v = g.D.Disk.view c.args.disk.now in
    let s = c.args.s.number in
    let same : c.next_group.result.number ≡ c.args.held.now.next.number = λ i. (c.next_group.ensures i).number in
    does-begin-copy v (λ tells. g.met.D.Disk.content_left c.args.disk.now v.moment tells (omega arith)) c.args.held.now c.begin_reading.new.held c.args.copies.now c.set.new.self s c.args.number c.start.result c.requires.none
    (λ t. c.set.ensures.copied t ∙ ap (λ (x : Option Copying). if t == s then Some c.start.result else x) (c.note_last.ensures.copied t))
    (λ n. c.set.ensures.numbers n ∙ c.note_last.ensures.numbers n)
    (λ n. c.set.ensures.done n ∙ c.note_last.ensures.done n)
    (ap (λ (x : Copying). x.backup.number) c.start.ensures.made) (ap (λ (x : Copying). x.backup.limits) c.start.ensures.made ∙ c.limits-limits.ensures) c.sound.ensures.allowed.limited
    c.begin_reading.ensures.tables c.start.ensures.begun
    (λ one few. ap (λ (x : Copying). x.backup.last_group + 1) c.start.ensures.made ∙ c.last_group-last.ensures.before (subst (λ (n : ℕ). 1 ≤ n) (sym same) one) (subst (λ (n : ℕ). n ≤ 2 ^ 62 + 1) (sym same) few) ∙ same) c.requires.outside c.in_ok-begin_reading.ensures.ok

pub returns-clause-reads : goal.returns-clause-reads
returns-clause-reads g c = reading-at c.begin_reading.new.held.members c.args.s.number c.in_ok-begin_reading.ensures.ok.does.mine

pub returns-in_err-begin_reading-clause-leaves : goal.returns-in_err-begin_reading-clause-leaves
returns-in_err-begin_reading-clause-leaves g c = record { stand = λ t apart. c.in_err-begin_reading.ensures.err.does.others t apart; steps = λ t apart. c.in_err-begin_reading.ensures.err.does.steps t apart }

pub returns-clause-leaves : goal.returns-clause-leaves
returns-clause-leaves g c = record { stand = λ t apart. c.in_ok-begin_reading.ensures.ok.does.others t apart; steps = λ t apart. c.in_ok-begin_reading.ensures.ok.does.steps t apart }

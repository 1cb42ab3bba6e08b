use Rattle.std.proofs.Common.{Option, sym, subst}
use Rattle.next_lines.specs.declared.next.NextLine.{NextLine}
use Rattle.next_lines.specs.Next.{Leads}
use Rattle.backup_steps.proofs.Reading.{due_is, due_none, line_step}
use Rattle.backup_steps.proofs.steps.copy_next.Goals as goal

pub returns-in-Some-clause-copied : goal.returns-in-Some-clause-copied
returns-in-Some-clause-copied g c = let copying = c.args.copying.now in
    line_step c.copy_line.result (g.D.Disk.view c.args.disk.now) (g.D.Disk.view c.copy_line.new.disk) c.args.limit c.args.reader.now c.in-Some.next c.args.next copying c.copy_line.new.copying
    (due_is copying.backup.stage c.args.next c.in-Some.next c.in-Some.ensures) c.copy_line.ensures.copied

pub returns-in-Some-clause-bad : goal.returns-in-Some-clause-bad
returns-in-Some-clause-bad g c = let copying = c.args.copying.now in
    λ f s is t former classes ledger lines reader ordered may leads was.
    c.copy_line.ensures.bad f s is t former classes ledger lines reader ordered may
    (subst (λ (o : Option NextLine). Leads classes lines copying.from o) (sym (due_is copying.backup.stage c.args.next c.in-Some.next c.in-Some.ensures)) leads) was

pub returns-in_ok-go_on-in-None-clause-copied : goal.returns-in_ok-go_on-in-None-clause-copied
returns-in_ok-go_on-in-None-clause-copied g c = let copying = c.args.copying.now in
    λ t former classes ledger lines reader ordered leads was.
    c.in_ok-go_on-in-None.ensures.done t former classes lines ordered
    (λ opens. subst (λ (o : Option NextLine). Leads classes lines copying.from o) (due_none copying.backup.stage c.args.next c.in-None.ensures opens) leads) was

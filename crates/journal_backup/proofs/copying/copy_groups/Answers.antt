use Rattle.std.proofs.Common.{◌∙◌, arith}
use Rattle.line_moves.proofs.Runs.{on_ok, still_tells}
use Rattle.journal_backup.proofs.Calls.{keeps_written, keeps_on, stands_written, stands_on, copied_still}
use Rattle.journal_backup.proofs.copying.copy_groups.Goals as goal

pub returns-clause-told : goal.returns-clause-told
returns-clause-told g c = c.blank.ensures.writes.told ∙ c.copy_slots.ensures.told

pub returns-clause-no_fewer : goal.returns-clause-no_fewer
returns-clause-no_fewer g c = let first = c.copy_slots.ensures.no_fewer in let more = c.blank.ensures.writes.no_fewer in omega (arith, first, more)

pub returns-clause-copied : goal.returns-clause-copied
returns-clause-copied g c = let v = g.D.Disk.view in let old = v c.args.disk.now in let mid = v c.copy_slots.new.disk in let new = v c.blank.new.disk in
    on_ok _ _ c.blank.result (λ blanked t.
    copied_still c.args.number c.args.end old mid new (c.in_ok-copy_slots.ensures.copied t) c.blank.ensures.writes (still_tells old mid c.copy_slots.ensures.told t)) c.blank.ensures.blanked

pub returns-clause-ended : goal.returns-clause-ended
returns-clause-ended g c = let v = g.D.Disk.view in let old = v c.args.disk.now in let mid = v c.copy_slots.new.disk in
    on_ok _ _ c.blank.result (λ blanked t. blanked (still_tells old mid c.copy_slots.ensures.told t)) c.blank.ensures.blanked

pub returns-clause-stands : goal.returns-clause-stands
returns-clause-stands g c = let v = g.D.Disk.view in let old = v c.args.disk.now in let mid = v c.copy_slots.new.disk in let new = v c.blank.new.disk in let number = c.args.number in
    λ t. stands_on number old mid new (c.copy_slots.ensures.others t) (c.copy_slots.ensures.stands t) (stands_written number mid new c.args.end c.blank.ensures.writes (still_tells old mid c.copy_slots.ensures.told t))

pub returns-clause-others : goal.returns-clause-others
returns-clause-others g c = let v = g.D.Disk.view in let old = v c.args.disk.now in let mid = v c.copy_slots.new.disk in let new = v c.blank.new.disk in let number = c.args.number in
    λ t. keeps_on number old mid new (c.copy_slots.ensures.others t) (keeps_written number mid new c.args.end c.blank.ensures.writes (still_tells old mid c.copy_slots.ensures.told t))

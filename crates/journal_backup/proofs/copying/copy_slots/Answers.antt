use Rattle.std.proofs.Common.{rules, ◌≤◌, ◌∙◌, refl, arith}
use Rattle.line_moves.proofs.Runs.{still_tells}
use Rattle.line_opening.proofs.Standing.{stands_now}
use Rattle.database_opening.proofs.Others.{file_unused}
use Rattle.journal_backup.proofs.Calls.{keeps_written, keeps_on, stands_written, stands_on, copied_more}
use Rattle.journal_backup.proofs.copying.copy_slots.Goals as goal

pub loop-slot-init : goal.loop-slot-init
loop-slot-init g c = let old = g.D.Disk.view c.args.disk.now in
    record {
      told = refl;
      no_fewer = omega arith;
      copied = λ t slot first less. absurd (omega (arith, first, less));
      keeps = λ t file apart. file_unused old t file;
      stands = λ t now facts. stands_now old now facts;
    }

pub returns-in_err-copy_slot-clause-told : goal.returns-in_err-copy_slot-clause-told
returns-in_err-copy_slot-clause-told g c = c.copy_slot.ensures.writes.told ∙ c.loop-slot.invariant.told

pub returns-in_err-copy_slot-clause-no_fewer : goal.returns-in_err-copy_slot-clause-no_fewer
returns-in_err-copy_slot-clause-no_fewer g c = let so_far = c.loop-slot.invariant.no_fewer in let more = c.copy_slot.ensures.writes.no_fewer in omega (arith, so_far, more)

pub returns-in_err-copy_slot-clause-stands : goal.returns-in_err-copy_slot-clause-stands
returns-in_err-copy_slot-clause-stands g c = let v = g.D.Disk.view in let old = v c.args.disk.now in let mid = v c.loop-slot.disk in let new = v c.copy_slot.new.disk in let so_far = c.loop-slot.invariant in let number = c.args.number in
    λ t. stands_on number old mid new (so_far.keeps t) (so_far.stands t) (stands_written number mid new c.loop-slot.slot c.copy_slot.ensures.writes (still_tells old mid so_far.told t))

pub returns-in_err-copy_slot-clause-others : goal.returns-in_err-copy_slot-clause-others
returns-in_err-copy_slot-clause-others g c = let v = g.D.Disk.view in let old = v c.args.disk.now in let mid = v c.loop-slot.disk in let new = v c.copy_slot.new.disk in let so_far = c.loop-slot.invariant in let number = c.args.number in
    λ t. keeps_on number old mid new (so_far.keeps t) (keeps_written number mid new c.loop-slot.slot c.copy_slot.ensures.writes (still_tells old mid so_far.told t))

pub loop-slot-preserved : goal.loop-slot-preserved
loop-slot-preserved g c = let v = g.D.Disk.view in let old = v c.args.disk.now in let mid = v c.loop-slot.disk in let new = v c.copy_slot.new.disk in let so_far = c.loop-slot.invariant in let number = c.args.number in let slot = c.loop-slot.slot in
    record {
      told = c.copy_slot.ensures.writes.told ∙ so_far.told;
      no_fewer = let first = so_far.no_fewer in let more = c.copy_slot.ensures.writes.no_fewer in omega (arith, first, more);
      copied = λ t. let told = still_tells old mid so_far.told t in
          copied_more number slot old mid new (so_far.keeps t) c.copy_slot.ensures.writes told (c.in_ok-copy_slot.ensures.copied told) (so_far.copied t);
      keeps = λ t. keeps_on number old mid new (so_far.keeps t) (keeps_written number mid new slot c.copy_slot.ensures.writes (still_tells old mid so_far.told t));
      stands = λ t. stands_on number old mid new (so_far.keeps t) (so_far.stands t) (stands_written number mid new slot c.copy_slot.ensures.writes (still_tells old mid so_far.told t));
    }

pub returns-clause-copied : goal.returns-clause-copied
returns-clause-copied g c = λ t slot first less.
    let past : c.args.end ≤ c.loop-slot.slot = search rules in
    c.loop-slot.invariant.copied t slot first (omega (arith, less, past))

pub returns-clause-stands : goal.returns-clause-stands
returns-clause-stands g c = λ t. c.loop-slot.invariant.stands t

pub returns-clause-others : goal.returns-clause-others
returns-clause-others g c = λ t. c.loop-slot.invariant.keeps t

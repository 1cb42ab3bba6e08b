use Rattle.std.proofs.Common.{rules}
use Rattle.line_moves.proofs.Runs.{still_tells}
use Rattle.database_opening.proofs.Others.{file_read, file_on}
use Rattle.rmu_restore.proofs.Course.{source_still, planned_still, restored_before, within_reads, within_behind}
use Rattle.rmu_restore.proofs.restoring.restore.Goals as goal

pub carry_out-requires : goal.carry_out-requires
carry_out-requires g c = record { allowed = c.in_ok-plan.ensures.allowed }

pub returns-in_err-plan-clause-bad : goal.returns-in_err-plan-clause-bad
returns-in_err-plan-clause-bad g c = λ file slot is t classes head lines journal source. c.plan_restore.ensures.bad file slot (search rules) t classes head lines journal source

pub returns-in_err-plan-clause-within : goal.returns-in_err-plan-clause-within
returns-in_err-plan-clause-within g c = let v = g.D.Disk.view in
    λ t classes head lines journal source. within_reads c.args.number classes head lines journal (v c.args.disk.now) (v c.plan_restore.new.disk) c.plan_restore.ensures.reads t

pub returns-in_err-plan-clause-others : goal.returns-in_err-plan-clause-others
returns-in_err-plan-clause-others g c = let v = g.D.Disk.view in λ t file other. file_read (v c.args.disk.now) (v c.plan_restore.new.disk) c.plan_restore.ensures.reads t file

pub returns-in_err-carry_out-clause-bad : goal.returns-in_err-carry_out-clause-bad
returns-in_err-carry_out-clause-bad g c = let v = g.D.Disk.view in let old = v c.args.disk.now in let mid = v c.plan_restore.new.disk in let reads = c.plan_restore.ensures.reads in
    λ file slot is t classes head lines journal source.
    let planned = c.in_ok-plan.ensures.planned t classes head lines journal source in
    c.carry_out.ensures.bad file slot (search rules) (still_tells old mid reads.told t) classes head lines journal (source_still c.args.number classes head lines journal old mid reads t source) (planned_still c.args.number classes head lines journal old mid reads t c.in_ok-plan.plan planned)

pub returns-in_err-carry_out-clause-within : goal.returns-in_err-carry_out-clause-within
returns-in_err-carry_out-clause-within g c = let v = g.D.Disk.view in let old = v c.args.disk.now in let mid = v c.plan_restore.new.disk in let reads = c.plan_restore.ensures.reads in
    λ t classes head lines journal source.
    let planned = c.in_ok-plan.ensures.planned t classes head lines journal source in
    within_behind c.args.number classes head lines journal old mid reads t (v c.carry_out.new.disk)
    (c.carry_out.ensures.within (still_tells old mid reads.told t) classes head lines journal (source_still c.args.number classes head lines journal old mid reads t source) (planned_still c.args.number classes head lines journal old mid reads t c.in_ok-plan.plan planned))

pub returns-in_err-carry_out-clause-others : goal.returns-in_err-carry_out-clause-others
returns-in_err-carry_out-clause-others g c = let v = g.D.Disk.view in let old = v c.args.disk.now in let mid = v c.plan_restore.new.disk in let reads = c.plan_restore.ensures.reads in
    λ t file other. file_on old mid (v c.carry_out.new.disk) file (file_read old mid reads t file) (c.carry_out.ensures.others (still_tells old mid reads.told t) file other)

pub returns-clause-restored : goal.returns-clause-restored
returns-clause-restored g c = let v = g.D.Disk.view in let old = v c.args.disk.now in let mid = v c.plan_restore.new.disk in let reads = c.plan_restore.ensures.reads in
    λ t classes head lines journal source image left.
    let planned = c.in_ok-plan.ensures.planned t classes head lines journal source in
    restored_before c.args.number classes head lines journal old mid reads t image
    (c.in_ok-carry_out.ensures.restored (still_tells old mid reads.told t) classes head lines journal (source_still c.args.number classes head lines journal old mid reads t source) (planned_still c.args.number classes head lines journal old mid reads t c.in_ok-plan.plan planned) image left)

pub returns-clause-within : goal.returns-clause-within
returns-clause-within g c = let v = g.D.Disk.view in let old = v c.args.disk.now in let mid = v c.plan_restore.new.disk in let reads = c.plan_restore.ensures.reads in
    λ t classes head lines journal source.
    let planned = c.in_ok-plan.ensures.planned t classes head lines journal source in
    within_behind c.args.number classes head lines journal old mid reads t (v c.carry_out.new.disk)
    (c.carry_out.ensures.within (still_tells old mid reads.told t) classes head lines journal (source_still c.args.number classes head lines journal old mid reads t source) (planned_still c.args.number classes head lines journal old mid reads t c.in_ok-plan.plan planned))

pub returns-clause-others : goal.returns-clause-others
returns-clause-others g c = let v = g.D.Disk.view in let old = v c.args.disk.now in let mid = v c.plan_restore.new.disk in let reads = c.plan_restore.ensures.reads in
    λ t file other. file_on old mid (v c.carry_out.new.disk) file (file_read old mid reads t file) (c.carry_out.ensures.others (still_tells old mid reads.told t) file other)

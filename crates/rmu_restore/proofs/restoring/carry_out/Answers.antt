use Rattle.std.proofs.Common.{rules, ◌-◌, arith}
use Rattle.line_moves.proofs.Runs.{still_tells}
use Rattle.database_opening.proofs.Others.{file_on}
use Rattle.rmu_restore.proofs.Blank.{blank_laid}
use Rattle.rmu_restore.proofs.Course.{within_guard, within_blanks, within_lays, within_end, backup_there, lines_up_to, restored_image, kept_by_blanks, kept_by_lays}
use Rattle.rmu_restore.proofs.restoring.carry_out.Goals as goal

pub guard-requires : goal.guard-requires
guard-requires g c = let is = c.requires.allowed in record { format = is.format; state = (omega arith, omega arith); limits = is.limits; ceiling = is.ceiling; applied = is.applied }

pub returns-in_err-guard-clause-within : goal.returns-in_err-guard-clause-within
returns-in_err-guard-clause-within g c = let v = g.D.Disk.view in let old = v c.args.disk.now in let guarded = v c.guard.new.disk in
    λ t classes head lines journal source planned. within_guard classes head lines journal old guarded (c.guard.ensures.any_moment t)

pub returns-in_err-guard-clause-others : goal.returns-in_err-guard-clause-others
returns-in_err-guard-clause-others g c = λ t file other. c.guard.ensures.others t file other.root

pub returns-in_err-blank_all-clause-within : goal.returns-in_err-blank_all-clause-within
returns-in_err-blank_all-clause-within g c = let v = g.D.Disk.view in let old = v c.args.disk.now in let guarded = v c.guard.new.disk in let blanked = v c.blank_all.new.disk in
    λ t classes head lines journal source planned. let some = c.requires.allowed.ceiling.0 in within_blanks c.args.number classes head lines journal c.args.plan old guarded blanked blanked t source planned some c.guard.ensures.told (c.guard.ensures.others t) (c.in_ok-guard.ensures.guarded t) (c.guard.ensures.any_moment t) c.blank_all.ensures.runs

pub returns-in_err-blank_all-clause-others : goal.returns-in_err-blank_all-clause-others
returns-in_err-blank_all-clause-others g c = let v = g.D.Disk.view in let old = v c.args.disk.now in let guarded = v c.guard.new.disk in let blanked = v c.blank_all.new.disk in
    λ t file other. kept_by_blanks old guarded blanked t c.guard.ensures.told (c.guard.ensures.others t) c.blank_all.ensures.runs file other

pub returns-in_err-lay_all-clause-bad : goal.returns-in_err-lay_all-clause-bad
returns-in_err-lay_all-clause-bad g c = let v = g.D.Disk.view in let old = v c.args.disk.now in let guarded = v c.guard.new.disk in let blanked = v c.blank_all.new.disk in let laid = v c.lay_all.new.disk in
    λ file slot is t classes head lines journal source planned. let some = c.requires.allowed.ceiling.0 in
    let told = still_tells guarded blanked c.blank_all.ensures.runs.told (still_tells old guarded c.guard.ensures.told t) in
    c.lay_all.ensures.bad file slot (search rules) told (c.args.plan.root.ceiling - 1) head lines (backup_there c.args.number classes head lines journal c.args.plan old guarded blanked laid t source planned some c.guard.ensures.told (c.guard.ensures.others t) (c.in_ok-guard.ensures.guarded t) (c.guard.ensures.any_moment t) c.blank_all.ensures.runs) planned.count (lines_up_to c.args.number classes head lines journal c.args.plan old guarded blanked laid t source planned some c.guard.ensures.told (c.guard.ensures.others t) (c.in_ok-guard.ensures.guarded t) (c.guard.ensures.any_moment t) c.blank_all.ensures.runs)
    (blank_laid head.limits.pages (c.args.plan.root.ceiling - 1) blanked.content (c.in_ok-blank_all.ensures.blank (still_tells old guarded c.guard.ensures.told t)))

pub returns-in_err-lay_all-clause-within : goal.returns-in_err-lay_all-clause-within
returns-in_err-lay_all-clause-within g c = let v = g.D.Disk.view in let old = v c.args.disk.now in let guarded = v c.guard.new.disk in let blanked = v c.blank_all.new.disk in let laid = v c.lay_all.new.disk in
    λ t classes head lines journal source planned. let some = c.requires.allowed.ceiling.0 in within_lays c.args.number classes head lines journal c.args.plan old guarded blanked laid t source planned some c.guard.ensures.told (c.guard.ensures.others t) (c.in_ok-guard.ensures.guarded t) (c.guard.ensures.any_moment t) c.blank_all.ensures.runs c.lay_all.ensures.runs

pub returns-in_err-lay_all-clause-others : goal.returns-in_err-lay_all-clause-others
returns-in_err-lay_all-clause-others g c = let v = g.D.Disk.view in let old = v c.args.disk.now in let guarded = v c.guard.new.disk in let blanked = v c.blank_all.new.disk in let laid = v c.lay_all.new.disk in
    λ t file other. kept_by_lays old guarded blanked t c.guard.ensures.told (c.guard.ensures.others t) c.blank_all.ensures.runs file other laid c.lay_all.ensures.runs

pub returns-in_err-unguard-clause-within : goal.returns-in_err-unguard-clause-within
returns-in_err-unguard-clause-within g c = let v = g.D.Disk.view in let old = v c.args.disk.now in let guarded = v c.guard.new.disk in let blanked = v c.blank_all.new.disk in let laid = v c.lay_all.new.disk in
    λ t classes head lines journal source planned. let some = c.requires.allowed.ceiling.0 in
    let told = still_tells guarded blanked c.blank_all.ensures.runs.told (still_tells old guarded c.guard.ensures.told t) in
    let blank = c.in_ok-blank_all.ensures.blank (still_tells old guarded c.guard.ensures.told t) in
    let has = c.in_ok-lay_all.ensures.laid told (c.args.plan.root.ceiling - 1) head lines (backup_there c.args.number classes head lines journal c.args.plan old guarded blanked laid t source planned some c.guard.ensures.told (c.guard.ensures.others t) (c.in_ok-guard.ensures.guarded t) (c.guard.ensures.any_moment t) c.blank_all.ensures.runs) planned.count (lines_up_to c.args.number classes head lines journal c.args.plan old guarded blanked laid t source planned some c.guard.ensures.told (c.guard.ensures.others t) (c.in_ok-guard.ensures.guarded t) (c.guard.ensures.any_moment t) c.blank_all.ensures.runs)
    (blank_laid head.limits.pages (c.args.plan.root.ceiling - 1) blanked.content blank) in
    within_end c.args.number classes head lines journal c.args.plan old guarded blanked laid t source planned some c.guard.ensures.told (c.guard.ensures.others t) (c.in_ok-guard.ensures.guarded t) (c.guard.ensures.any_moment t) c.blank_all.ensures.runs c.lay_all.ensures.runs blank has (v c.unguard.new.disk) c.unguard.ensures.any_moment

pub returns-clause-within : goal.returns-clause-within
returns-clause-within g c = let v = g.D.Disk.view in let old = v c.args.disk.now in let guarded = v c.guard.new.disk in let blanked = v c.blank_all.new.disk in let laid = v c.lay_all.new.disk in
    λ t classes head lines journal source planned. let some = c.requires.allowed.ceiling.0 in
    let told = still_tells guarded blanked c.blank_all.ensures.runs.told (still_tells old guarded c.guard.ensures.told t) in
    let blank = c.in_ok-blank_all.ensures.blank (still_tells old guarded c.guard.ensures.told t) in
    let has = c.in_ok-lay_all.ensures.laid told (c.args.plan.root.ceiling - 1) head lines (backup_there c.args.number classes head lines journal c.args.plan old guarded blanked laid t source planned some c.guard.ensures.told (c.guard.ensures.others t) (c.in_ok-guard.ensures.guarded t) (c.guard.ensures.any_moment t) c.blank_all.ensures.runs) planned.count (lines_up_to c.args.number classes head lines journal c.args.plan old guarded blanked laid t source planned some c.guard.ensures.told (c.guard.ensures.others t) (c.in_ok-guard.ensures.guarded t) (c.guard.ensures.any_moment t) c.blank_all.ensures.runs)
    (blank_laid head.limits.pages (c.args.plan.root.ceiling - 1) blanked.content blank) in
    within_end c.args.number classes head lines journal c.args.plan old guarded blanked laid t source planned some c.guard.ensures.told (c.guard.ensures.others t) (c.in_ok-guard.ensures.guarded t) (c.guard.ensures.any_moment t) c.blank_all.ensures.runs c.lay_all.ensures.runs blank has (v c.unguard.new.disk) c.unguard.ensures.any_moment

pub returns-in_err-unguard-clause-others : goal.returns-in_err-unguard-clause-others
returns-in_err-unguard-clause-others g c = let v = g.D.Disk.view in let old = v c.args.disk.now in let guarded = v c.guard.new.disk in let blanked = v c.blank_all.new.disk in let laid = v c.lay_all.new.disk in
    λ t file other.
    let told = still_tells blanked laid c.lay_all.ensures.runs.told (still_tells guarded blanked c.blank_all.ensures.runs.told (still_tells old guarded c.guard.ensures.told t)) in
    file_on old laid (v c.unguard.new.disk) file (kept_by_lays old guarded blanked t c.guard.ensures.told (c.guard.ensures.others t) c.blank_all.ensures.runs file other laid c.lay_all.ensures.runs) (c.unguard.ensures.others told file other.root)

pub returns-clause-others : goal.returns-clause-others
returns-clause-others g c = let v = g.D.Disk.view in let old = v c.args.disk.now in let guarded = v c.guard.new.disk in let blanked = v c.blank_all.new.disk in let laid = v c.lay_all.new.disk in
    λ t file other.
    let told = still_tells blanked laid c.lay_all.ensures.runs.told (still_tells guarded blanked c.blank_all.ensures.runs.told (still_tells old guarded c.guard.ensures.told t)) in
    file_on old laid (v c.unguard.new.disk) file (kept_by_lays old guarded blanked t c.guard.ensures.told (c.guard.ensures.others t) c.blank_all.ensures.runs file other laid c.lay_all.ensures.runs) (c.unguard.ensures.others told file other.root)

pub returns-clause-restored : goal.returns-clause-restored
returns-clause-restored g c = let v = g.D.Disk.view in let old = v c.args.disk.now in let guarded = v c.guard.new.disk in let blanked = v c.blank_all.new.disk in let laid = v c.lay_all.new.disk in
    λ t classes head lines journal source planned. λ image left. let some = c.requires.allowed.ceiling.0 in
    let told = still_tells guarded blanked c.blank_all.ensures.runs.told (still_tells old guarded c.guard.ensures.told t) in
    let blank = c.in_ok-blank_all.ensures.blank (still_tells old guarded c.guard.ensures.told t) in
    let has = c.in_ok-lay_all.ensures.laid told (c.args.plan.root.ceiling - 1) head lines (backup_there c.args.number classes head lines journal c.args.plan old guarded blanked laid t source planned some c.guard.ensures.told (c.guard.ensures.others t) (c.in_ok-guard.ensures.guarded t) (c.guard.ensures.any_moment t) c.blank_all.ensures.runs) planned.count (lines_up_to c.args.number classes head lines journal c.args.plan old guarded blanked laid t source planned some c.guard.ensures.told (c.guard.ensures.others t) (c.in_ok-guard.ensures.guarded t) (c.guard.ensures.any_moment t) c.blank_all.ensures.runs)
    (blank_laid head.limits.pages (c.args.plan.root.ceiling - 1) blanked.content blank) in
    let late = still_tells blanked laid c.lay_all.ensures.runs.told told in
    restored_image c.args.number classes head lines journal c.args.plan old guarded blanked laid t source planned some c.guard.ensures.told (c.guard.ensures.others t) (c.in_ok-guard.ensures.guarded t) (c.guard.ensures.any_moment t) c.blank_all.ensures.runs c.lay_all.ensures.runs blank has image (c.in_ok-unguard.ensures.ended late image left)

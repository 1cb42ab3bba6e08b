use Rattle.std.proofs.Common.{rules, ℕ, subst, arith}
use Rattle.rdb_outside.specs.Disk.{LeavesOnly}
use Rattle.line_moves.proofs.Runs.{still_tells}
use Rattle.database_opening.proofs.Others.{file_on}
use Rattle.guarded_root.specs.Guarded.{IsEndOf, PendingOrEnd}
use Rattle.rmu_recover.specs.Recovering.{root_rolled}
use Rattle.rmu_recover.proofs.Course.{all_fit, content_stands, journals_now, to_roll_guarded, ready_guarded, within_guard, within_lays, within_end, rolled_image}
use Rattle.rmu_recover.proofs.recovering.carry_out.Goals as goal

pub guard-requires : goal.guard-requires
guard-requires g c = let is = c.requires.allowed in record { format = is.format; state = (omega arith, omega arith); limits = is.limits; ceiling = is.ceiling; applied = is.applied }

pub unguard-requires : goal.unguard-requires
unguard-requires g c = let is = c.requires.allowed in record { format = is.format; state = (omega arith, omega arith); limits = is.limits; ceiling = (c.requires.first, c.requires.few); applied = is.applied }

pub returns-in_err-guard-clause-within : goal.returns-in_err-guard-clause-within
returns-in_err-guard-clause-within g c = let v = g.D.Disk.view in let old = v c.args.disk.now in let guarded = v c.guard.new.disk in
    λ t former forward journals groups aij classes to_roll source fit sound same. within_guard former c.args.root forward groups aij classes old guarded to_roll (c.guard.ensures.adds t) source.pages fit

pub returns-in_err-guard-clause-others : goal.returns-in_err-guard-clause-others
returns-in_err-guard-clause-others g c = λ t file other. c.guard.ensures.others t file other.root

pub returns-in_err-lay_all-clause-bad : goal.returns-in_err-lay_all-clause-bad
returns-in_err-lay_all-clause-bad g c = let v = g.D.Disk.view in let old = v c.args.disk.now in let guarded = v c.guard.new.disk in let laid = v c.lay_all.new.disk in let root = c.args.root in let copies = c.args.copies.now in
    λ file slot is t former forward journals groups aij to_roll source fit same.
    let told_g = still_tells old guarded c.guard.ensures.told t in
    let adds = c.guard.ensures.adds t in
    let to_roll_g = to_roll_guarded former c.args.root forward groups aij (λ (n : ℕ). n) old guarded to_roll adds in
    let ready_g = ready_guarded former c.args.root forward groups aij (λ (n : ℕ). n) old guarded to_roll adds in
    let left_g = g.met.D.Disk.content_left c.guard.new.disk guarded.moment told_g (omega arith) in
    let stands_g = content_stands former c.args.root forward guarded to_roll_g left_g in
    let there = journals_now former c.args.root forward copies journals guarded.content stands_g source.journals_stand in
    let fits = all_fit former copies c.args.root forward journals groups aij source fit c.args.ceiling same c.requires.few in
    c.lay_all.ensures.bad file slot (search rules) told_g forward journals groups ready_g there source.follows fits

pub returns-in_err-lay_all-clause-within : goal.returns-in_err-lay_all-clause-within
returns-in_err-lay_all-clause-within g c = let v = g.D.Disk.view in let old = v c.args.disk.now in let guarded = v c.guard.new.disk in let laid = v c.lay_all.new.disk in let root = c.args.root in let copies = c.args.copies.now in
    λ t former forward journals groups aij classes to_roll source fit sound same.
    let told_g = still_tells old guarded c.guard.ensures.told t in
    let adds = c.guard.ensures.adds t in
    let to_roll_g = to_roll_guarded former c.args.root forward groups aij classes old guarded to_roll adds in
    let ready_g = ready_guarded former c.args.root forward groups aij classes old guarded to_roll adds in
    let left_g = g.met.D.Disk.content_left c.guard.new.disk guarded.moment told_g (omega arith) in
    let stands_g = content_stands former c.args.root forward guarded to_roll_g left_g in
    let there = journals_now former c.args.root forward copies journals guarded.content stands_g source.journals_stand in
    let fits = all_fit former copies c.args.root forward journals groups aij source fit c.args.ceiling same c.requires.few in
    let held = c.in_ok-guard.ensures.held t in
    let lays = c.lay_all.ensures.ready told_g forward journals groups there source.follows fits ready_g in
    within_lays former root forward groups aij classes old guarded to_roll adds source.pages fit held laid lays

pub returns-in_err-lay_all-clause-others : goal.returns-in_err-lay_all-clause-others
returns-in_err-lay_all-clause-others g c = let v = g.D.Disk.view in let old = v c.args.disk.now in let guarded = v c.guard.new.disk in let laid = v c.lay_all.new.disk in let root = c.args.root in let copies = c.args.copies.now in
    λ t file other. file_on old guarded laid file (c.guard.ensures.others t file other.root) (c.lay_all.ensures.runs.others (still_tells old guarded c.guard.ensures.told t) file other.area)

pub returns-in_err-unguard-clause-within : goal.returns-in_err-unguard-clause-within
returns-in_err-unguard-clause-within g c = let v = g.D.Disk.view in let old = v c.args.disk.now in let guarded = v c.guard.new.disk in let laid = v c.lay_all.new.disk in let root = c.args.root in let copies = c.args.copies.now in
    λ t former forward journals groups aij classes to_roll source fit sound same.
    let told_g = still_tells old guarded c.guard.ensures.told t in
    let adds = c.guard.ensures.adds t in
    let to_roll_g = to_roll_guarded former c.args.root forward groups aij classes old guarded to_roll adds in
    let ready_g = ready_guarded former c.args.root forward groups aij classes old guarded to_roll adds in
    let left_g = g.met.D.Disk.content_left c.guard.new.disk guarded.moment told_g (omega arith) in
    let stands_g = content_stands former c.args.root forward guarded to_roll_g left_g in
    let there = journals_now former c.args.root forward copies journals guarded.content stands_g source.journals_stand in
    let fits = all_fit former copies c.args.root forward journals groups aij source fit c.args.ceiling same c.requires.few in
    let held = c.in_ok-guard.ensures.held t in
    let lays = c.lay_all.ensures.ready told_g forward journals groups there source.follows fits ready_g in
    let told_l = still_tells guarded laid c.lay_all.ensures.runs.told told_g in
    let left_l = g.met.D.Disk.content_left c.lay_all.new.disk laid.moment told_l (omega arith) in
    let over = c.in_ok-lay_all.ensures.laid told_g forward journals groups ready_g there source.follows fits in
    within_end former root forward groups aij classes old guarded to_roll adds source.pages fit held laid lays copies journals source sound left_g left_l over (v c.unguard.new.disk) (subst (λ (n : ℕ). LeavesOnly laid (v c.unguard.new.disk) (PendingOrEnd laid (root_rolled root n))) same (c.unguard.ensures.slots told_l))

pub returns-in_err-unguard-clause-others : goal.returns-in_err-unguard-clause-others
returns-in_err-unguard-clause-others g c = let v = g.D.Disk.view in let old = v c.args.disk.now in let guarded = v c.guard.new.disk in let laid = v c.lay_all.new.disk in let root = c.args.root in let copies = c.args.copies.now in
    λ t file other.
    let told_g = still_tells old guarded c.guard.ensures.told t in
    file_on old laid (v c.unguard.new.disk) file (file_on old guarded laid file (c.guard.ensures.others t file other.root) (c.lay_all.ensures.runs.others told_g file other.area))
    (c.unguard.ensures.others (still_tells guarded laid c.lay_all.ensures.runs.told told_g) file other.root)

pub returns-clause-within : goal.returns-clause-within
returns-clause-within g c = let v = g.D.Disk.view in let old = v c.args.disk.now in let guarded = v c.guard.new.disk in let laid = v c.lay_all.new.disk in let root = c.args.root in let copies = c.args.copies.now in
    λ t former forward journals groups aij classes to_roll source fit sound same.
    let told_g = still_tells old guarded c.guard.ensures.told t in
    let adds = c.guard.ensures.adds t in
    let to_roll_g = to_roll_guarded former c.args.root forward groups aij classes old guarded to_roll adds in
    let ready_g = ready_guarded former c.args.root forward groups aij classes old guarded to_roll adds in
    let left_g = g.met.D.Disk.content_left c.guard.new.disk guarded.moment told_g (omega arith) in
    let stands_g = content_stands former c.args.root forward guarded to_roll_g left_g in
    let there = journals_now former c.args.root forward copies journals guarded.content stands_g source.journals_stand in
    let fits = all_fit former copies c.args.root forward journals groups aij source fit c.args.ceiling same c.requires.few in
    let held = c.in_ok-guard.ensures.held t in
    let lays = c.lay_all.ensures.ready told_g forward journals groups there source.follows fits ready_g in
    let told_l = still_tells guarded laid c.lay_all.ensures.runs.told told_g in
    let left_l = g.met.D.Disk.content_left c.lay_all.new.disk laid.moment told_l (omega arith) in
    let over = c.in_ok-lay_all.ensures.laid told_g forward journals groups ready_g there source.follows fits in
    within_end former root forward groups aij classes old guarded to_roll adds source.pages fit held laid lays copies journals source sound left_g left_l over (v c.unguard.new.disk) (subst (λ (n : ℕ). LeavesOnly laid (v c.unguard.new.disk) (PendingOrEnd laid (root_rolled root n))) same (c.unguard.ensures.slots told_l))

pub returns-clause-others : goal.returns-clause-others
returns-clause-others g c = let v = g.D.Disk.view in let old = v c.args.disk.now in let guarded = v c.guard.new.disk in let laid = v c.lay_all.new.disk in let root = c.args.root in let copies = c.args.copies.now in
    λ t file other.
    let told_g = still_tells old guarded c.guard.ensures.told t in
    file_on old laid (v c.unguard.new.disk) file (file_on old guarded laid file (c.guard.ensures.others t file other.root) (c.lay_all.ensures.runs.others told_g file other.area))
    (c.unguard.ensures.others (still_tells guarded laid c.lay_all.ensures.runs.told told_g) file other.root)

pub returns-clause-rolled : goal.returns-clause-rolled
returns-clause-rolled g c = let v = g.D.Disk.view in let old = v c.args.disk.now in let guarded = v c.guard.new.disk in let laid = v c.lay_all.new.disk in let root = c.args.root in let copies = c.args.copies.now in
    λ t former forward journals groups aij classes to_roll source fit sound same image left.
    let told_g = still_tells old guarded c.guard.ensures.told t in
    let adds = c.guard.ensures.adds t in
    let to_roll_g = to_roll_guarded former c.args.root forward groups aij classes old guarded to_roll adds in
    let ready_g = ready_guarded former c.args.root forward groups aij classes old guarded to_roll adds in
    let left_g = g.met.D.Disk.content_left c.guard.new.disk guarded.moment told_g (omega arith) in
    let stands_g = content_stands former c.args.root forward guarded to_roll_g left_g in
    let there = journals_now former c.args.root forward copies journals guarded.content stands_g source.journals_stand in
    let fits = all_fit former copies c.args.root forward journals groups aij source fit c.args.ceiling same c.requires.few in
    let held = c.in_ok-guard.ensures.held t in
    let lays = c.lay_all.ensures.ready told_g forward journals groups there source.follows fits ready_g in
    let told_l = still_tells guarded laid c.lay_all.ensures.runs.told told_g in
    let left_l = g.met.D.Disk.content_left c.lay_all.new.disk laid.moment told_l (omega arith) in
    let over = c.in_ok-lay_all.ensures.laid told_g forward journals groups ready_g there source.follows fits in
    rolled_image former root forward groups aij classes old guarded to_roll adds source.pages fit held laid lays copies journals source sound left_g left_l over image
    (subst (λ (n : ℕ). IsEndOf laid.content (root_rolled root n) image) same (c.in_ok-unguard.ensures.ended told_l image left))

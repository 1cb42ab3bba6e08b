use Rattle.std.proofs.Common.{◌≡◌, ◌≤◌, ℕ, Bool, true, Err, inl, inr, refl, map, IsTrue, ap, sym, subst, ◌∙◌, arith}
use Rattle.std.proofs.lemmas.Bool.{false≢true}
use Rattle.std.proofs.lemmas.Option.{none-some}
use Rattle.rdb_outside.specs.Causes.{Rose}
use Rattle.rdb_outside.specs.Disk.{LeavesOnly}
use Rattle.rdb_account.specs.Events.{event_of}
use Rattle.rdb_meaning.specs.Contents.{no_tables}
use Rattle.new_database.specs.Maker.{HasRoot, IsUnmade}
use Rattle.new_database.specs.New.{IsNewDatabaseOrNone}
use Rattle.line_runs.specs.Prefix.{HoldsAll}
use Rattle.workload_replies.specs.Replies.{has_death}
use Rattle.sound_maps.specs.Maps.{IsSoundWith}
use Rattle.workload_runs.specs.Among.{may_die_by}
use Rattle.workload_runs.specs.Deaths.{HaveCauses}
use Rattle.workload_runs.specs.Left.{HoldsRun, LastHolds}
use Rattle.workload_runs.specs.Runs.{AreRuns, EndIf}
use Rattle.workload_runs.specs.Scripts.{scripts_of_runs}
use Rattle.workload_runs.specs.Statuses.{IsWhole, deaths_of_last, last_of}
use Rattle.workload_runs.proofs.Crash.{Unbegun, images-of, left-of, none-left, none-made, refused-behind}
use Rattle.workload_runs.proofs.Deaths.{causes-of-last, fell-by, some-died}
use Rattle.workload_runs.proofs.Ended.{harmed-all, runs-not-nine, said-so, seen-runs, seen-status, stopped-all, unharmed, unmade-not-eight, unmade-not-four, unmade-not-seven, unmade-not-six, unmade-report, unmade-status}
use Rattle.workload_runs.proofs.Faultless.{faultless-behind}
use Rattle.workload_runs.proofs.Opening.{none-no-root}
use Rattle.workload_runs.proofs.Stopless.{stopless}
use Rattle.workload_runs.proofs.Stops.{nobody-halted}
use Rattle.workload_runs.proofs.whole.workload.Goals as goal

pub returns-in-Err-clause-reports : goal.returns-in-Err-clause-reports
returns-in-Err-clause-reports g c = unmade-report _ _ c.unwatched.result.status c.unmade.result.status _ _ c.unwatched.ensures.status c.unmade.ensures.status

pub returns-in-Ok-clause-runs : goal.returns-in-Ok-clause-runs
returns-in-Ok-clause-runs g c t unmade =
    let v = g.D.Disk.view in
    let made = c.make_new.new.disk.disk in
    let t0 = subst (λ d. IsTrue (v d).tells) (sym c.new-disk.ensures) t in
    let u0 = subst (λ d. IsUnmade (v d)) (sym c.new-disk.ensures) unmade in
    let tells : IsTrue (v made).tells = subst (λ (b : Bool). IsTrue b) (sym (c.in-Ok.ensures.any_moment t0 u0).told) t0 in
    let is = c.in-Ok.ensures.made t0 u0 (v made).content (c.told_is_left-in-Ok.ensures tells) in
    seen-runs c.unwatched-in-Ok.result.status c.finish.result.status c.begin-runs.result.status _ _ _ c.unwatched-in-Ok.result.accounts c.begin-runs.result.accounts
    c.unwatched-in-Ok.ensures.status c.finish.ensures.kept (c.unwatched-in-Ok.ensures.accounts ∙ c.finish.ensures.accounts) (c.begin-runs.ensures.runs tells is)

pub returns-in-Ok-clause-harmed : goal.returns-in-Ok-clause-harmed
returns-in-Ok-clause-harmed g c t unmade =
    let v = g.D.Disk.view in
    let made = c.make_new.new.disk.disk in
    let t0 = subst (λ d. IsTrue (v d).tells) (sym c.new-disk.ensures) t in
    let u0 = subst (λ d. IsUnmade (v d)) (sym c.new-disk.ensures) unmade in
    let tells : IsTrue (v made).tells = subst (λ (b : Bool). IsTrue b) (sym (c.in-Ok.ensures.any_moment t0 u0).told) t0 in
    let is = c.in-Ok.ensures.made t0 u0 (v made).content (c.told_is_left-in-Ok.ensures tells) in
    let before : (v c.args.disk).faults ≤ (v made).faults = subst (λ (n : ℕ). n ≤ (v made).faults) c.requires.began c.make_new.new.disk.no_fewer in
    let later : (v c.begin-runs.result.disk.disk).faults ≤ (v c.unwatched-in-Ok.result.disk).faults = subst (λ d. (v c.begin-runs.result.disk.disk).faults ≤ (v d).faults) (sym c.unwatched-in-Ok.ensures.disk) c.finish.ensures.reads.no_fewer in
    harmed-all (v c.args.disk).faults (v made).faults (v c.begin-runs.result.disk.disk).faults (v c.unwatched-in-Ok.result.disk).faults before later
    c.unwatched-in-Ok.result.accounts c.begin-runs.result.accounts (c.unwatched-in-Ok.ensures.accounts ∙ c.finish.ensures.accounts) (c.begin-runs.ensures.harmed tells is)

pub returns-in-Ok-clause-stopped : goal.returns-in-Ok-clause-stopped
returns-in-Ok-clause-stopped g c t unmade three =
    let v = g.D.Disk.view in
    let made = c.make_new.new.disk.disk in
    let t0 = subst (λ d. IsTrue (v d).tells) (sym c.new-disk.ensures) t in
    let u0 = subst (λ d. IsUnmade (v d)) (sym c.new-disk.ensures) unmade in
    let tells : IsTrue (v made).tells = subst (λ (b : Bool). IsTrue b) (sym (c.in-Ok.ensures.any_moment t0 u0).told) t0 in
    let is = c.in-Ok.ensures.made t0 u0 (v made).content (c.told_is_left-in-Ok.ensures tells) in
    let before : (v c.args.disk).faults ≤ (v made).faults = subst (λ (n : ℕ). n ≤ (v made).faults) c.requires.began c.make_new.new.disk.no_fewer in
    let later : (v c.begin-runs.result.disk.disk).faults ≤ (v c.unwatched-in-Ok.result.disk).faults = subst (λ d. (v c.begin-runs.result.disk.disk).faults ≤ (v d).faults) (sym c.unwatched-in-Ok.ensures.disk) c.finish.ensures.reads.no_fewer in
    let said = said-so 3 c.unwatched-in-Ok.result.status c.finish.result.status c.unwatched-in-Ok.ensures.status (λ five. omega (arith, five)) three in
    stopped-all (v c.args.disk).faults (v made).faults (v c.begin-runs.result.disk.disk).faults (v c.unwatched-in-Ok.result.disk).faults before later
    c.unwatched-in-Ok.result.accounts c.begin-runs.result.accounts c.finish.result.status c.begin-runs.result.status (c.unwatched-in-Ok.ensures.accounts ∙ c.finish.ensures.accounts) c.finish.ensures.kept said
    (c.begin-runs.ensures.stopped tells is) c.begin-runs.ensures.lived (c.begin-runs.ensures.harmed tells is)
    (λ zero_is. subst (λ d. Rose (v c.begin-runs.result.disk.disk).faults (v d).faults) (sym c.unwatched-in-Ok.ensures.disk) (c.finish.ensures.device said zero_is))

-- ---- of what they died

-- where no database was made nobody did
pub returns-in-Err-clause-causes : goal.returns-in-Err-clause-causes
returns-in-Err-clause-causes g c t unmade =
    let v = g.D.Disk.view in
    subst (λ es. HaveCauses (g.G.Gate.mortals c.args.gate.now) (Rose (v c.args.disk).faults (v c.unwatched.result.disk).faults) (map event_of (last_of es)))
    (sym (c.unwatched.ensures.accounts ∙ c.unmade.ensures.accounts)) tt

pub returns-in-Err-clause-fallen : goal.returns-in-Err-clause-fallen
returns-in-Err-clause-fallen g c t unmade eight =
    absurd (unmade-not-eight c.unwatched.result.status c.unmade.result.status c.unwatched.ensures.status c.unmade.ensures.status eight)

pub returns-in-Ok-clause-causes : goal.returns-in-Ok-clause-causes
returns-in-Ok-clause-causes g c t unmade =
    let v = g.D.Disk.view in
    let mortals = g.G.Gate.mortals c.args.gate.now in
    let accounts = c.unwatched-in-Ok.result.accounts in
    causes-of-last (EndIf (IsWhole c.unwatched-in-Ok.result.status)) (record { word = c.args.plan.now.word; may_die = may_die_by mortals }) mortals (Rose (v c.args.disk).faults (v c.unwatched-in-Ok.result.disk).faults) no_tables (scripts_of_runs c.args.plan.now.accounts) accounts
    refl (stopless c.args.plan.now.accounts c.requires.accounts.0 c.requires.accounts.1)
    (fell-by (deaths_of_last accounts) (v c.args.disk).faults (v c.unwatched-in-Ok.result.disk).faults (returns-in-Ok-clause-harmed g c t unmade))
    (returns-in-Ok-clause-runs g c t unmade)

pub returns-in-Ok-clause-fallen : goal.returns-in-Ok-clause-fallen
returns-in-Ok-clause-fallen g c t unmade eight =
    let v = g.D.Disk.view in
    let accounts = c.unwatched-in-Ok.result.accounts in
    let said = said-so 8 c.unwatched-in-Ok.result.status c.finish.result.status c.unwatched-in-Ok.ensures.status (λ five. omega (arith, five)) eight in
    let runs : c.begin-runs.result.status ≡ 8 = sym (c.finish.ensures.dead (inl said)) ∙ said in
    some-died (g.G.Gate.mortals c.args.gate.now) (Rose (v c.args.disk).faults (v c.unwatched-in-Ok.result.disk).faults) (last_of accounts)
    (subst (λ es. has_death (last_of es) ≡ true) (sym (c.unwatched-in-Ok.ensures.accounts ∙ c.finish.ensures.accounts)) (c.begin-runs.ensures.died runs))
    (returns-in-Ok-clause-causes g c t unmade)

-- ---- what a crash leaves

pub returns-in-Err-clause-images : goal.returns-in-Err-clause-images
returns-in-Err-clause-images g c t unmade =
    let v = g.D.Disk.view in
    let limits = c.args.plan.now.limits in
    let t0 = subst (λ d. IsTrue (v d).tells) (sym c.new-disk.ensures) t in
    let u0 = subst (λ d. IsUnmade (v d)) (sym c.new-disk.ensures) unmade in
    let any = subst (λ d. LeavesOnly (v d) (v c.make_new.new.disk.disk) (IsNewDatabaseOrNone limits)) c.new-disk.ensures (c.make_new.ensures.any_moment t0 u0) in
    let disk : c.unwatched.result.disk ≡ c.make_new.new.disk.disk = c.unwatched.ensures.disk ∙ ap (λ d. d.disk) c.unmade.ensures.disk in
    none-made IsSoundWith limits (v c.args.disk) (v c.unwatched.result.disk) _ (scripts_of_runs c.args.plan.now.accounts) c.unwatched.result.accounts c.unwatched.result.status (c.unwatched.ensures.accounts ∙ c.unmade.ensures.accounts)
    (subst (λ d. LeavesOnly (v c.args.disk) (v d) (IsNewDatabaseOrNone limits)) (sym disk) any)

pub returns-in-Err-clause-left : goal.returns-in-Err-clause-left
returns-in-Err-clause-left g c t unmade whole =
    none-left IsSoundWith (g.D.Disk.view c.unwatched.result.disk) _ (scripts_of_runs c.args.plan.now.accounts) c.unwatched.result.accounts (c.unwatched.ensures.accounts ∙ c.unmade.ensures.accounts)

pub returns-in-Ok-clause-images : goal.returns-in-Ok-clause-images
returns-in-Ok-clause-images g c t unmade =
    let v = g.D.Disk.view in
    let made = c.make_new.new.disk.disk in
    let t0 = subst (λ d. IsTrue (v d).tells) (sym c.new-disk.ensures) t in
    let u0 = subst (λ d. IsUnmade (v d)) (sym c.new-disk.ensures) unmade in
    let any = c.in-Ok.ensures.any_moment t0 u0 in
    let tells : IsTrue (v made).tells = subst (λ (b : Bool). IsTrue b) (sym any.told) t0 in
    let new = c.in-Ok.ensures.made t0 u0 in
    let held = c.begin-runs.ensures.holds tells (new (v made).content (c.told_is_left-in-Ok.ensures tells)) new in
    let limits = c.args.plan.now.limits in
    let disk = c.unwatched-in-Ok.ensures.disk in
    let began = subst (λ d. LeavesOnly (v d) (v made) (IsNewDatabaseOrNone limits)) c.new-disk.ensures any in
    subst (λ d. LastHolds (HoldsRun IsSoundWith (v d)) (Unbegun IsSoundWith limits (v c.args.disk) (v d)) (record { word = c.args.plan.now.word; may_die = may_die_by (g.G.Gate.mortals c.args.gate.now) }) no_tables (scripts_of_runs c.args.plan.now.accounts) c.unwatched-in-Ok.result.accounts c.unwatched-in-Ok.result.status) (sym disk)
    (images-of IsSoundWith limits (v c.args.disk) (v made) (v c.begin-runs.result.disk.disk) (v c.finish.result.disk.disk) (record { word = c.args.plan.now.word; may_die = may_die_by (g.G.Gate.mortals c.args.gate.now) }) (scripts_of_runs c.args.plan.now.accounts) c.unwatched-in-Ok.result.accounts c.begin-runs.result.accounts
    c.begin-runs.result.status c.finish.result.status c.unwatched-in-Ok.result.status (c.unwatched-in-Ok.ensures.accounts ∙ c.finish.ensures.accounts) c.unwatched-in-Ok.ensures.status c.finish.ensures.kept c.finish.ensures.reads
    (λ other. ap (λ d. v d.disk) (c.finish.ensures.same other)) held began tells new)

pub returns-in-Ok-clause-left : goal.returns-in-Ok-clause-left
returns-in-Ok-clause-left g c t unmade whole =
    let v = g.D.Disk.view in
    let made = c.make_new.new.disk.disk in
    let t0 = subst (λ d. IsTrue (v d).tells) (sym c.new-disk.ensures) t in
    let u0 = subst (λ d. IsUnmade (v d)) (sym c.new-disk.ensures) unmade in
    let any = c.in-Ok.ensures.any_moment t0 u0 in
    let tells : IsTrue (v made).tells = subst (λ (b : Bool). IsTrue b) (sym any.told) t0 in
    let new = c.in-Ok.ensures.made t0 u0 in
    let held = c.begin-runs.ensures.holds tells (new (v made).content (c.told_is_left-in-Ok.ensures tells)) new in
    let limits = c.args.plan.now.limits in
    let disk = c.unwatched-in-Ok.ensures.disk in
    subst (λ d. AreRuns (λ o sessions events. HoldsAll IsSoundWith o (v d) events) (record { word = c.args.plan.now.word; may_die = may_die_by (g.G.Gate.mortals c.args.gate.now) }) no_tables (scripts_of_runs c.args.plan.now.accounts) c.unwatched-in-Ok.result.accounts) (sym disk)
    (left-of IsSoundWith limits (v c.args.disk) (v made) (v c.begin-runs.result.disk.disk) (v c.finish.result.disk.disk) (record { word = c.args.plan.now.word; may_die = may_die_by (g.G.Gate.mortals c.args.gate.now) }) (scripts_of_runs c.args.plan.now.accounts) c.unwatched-in-Ok.result.accounts c.begin-runs.result.accounts
    c.begin-runs.result.status c.finish.result.status c.unwatched-in-Ok.result.status (c.unwatched-in-Ok.ensures.accounts ∙ c.finish.ensures.accounts) c.unwatched-in-Ok.ensures.status c.finish.ensures.kept c.finish.ensures.reads
    (λ other. ap (λ d. v d.disk) (c.finish.ensures.same other)) held whole)

-- ---- what status 4 says

pub returns-in-Err-clause-halted : goal.returns-in-Err-clause-halted
returns-in-Err-clause-halted g c = c.unwatched.ensures.halted

pub unwatched-requires : goal.unwatched-requires
unwatched-requires g c = nobody-halted c.unmade.result.halt c.unmade.result.status c.unmade.ensures.halt

pub returns-in-Err-clause-refused : goal.returns-in-Err-clause-refused
returns-in-Err-clause-refused g c t unmade four =
    absurd (unmade-not-four c.unwatched.result.status c.unmade.result.status c.unwatched.ensures.status c.unmade.ensures.status four)

pub returns-in-Err-clause-idle : goal.returns-in-Err-clause-idle
returns-in-Err-clause-idle g c t root =
    c.unwatched.ensures.halt (λ is. none-some _ (sym c.unmade.ensures.halt ∙ is)) ∙ c.unmade.ensures.halt

pub returns-in-Ok-clause-refused : goal.returns-in-Ok-clause-refused
returns-in-Ok-clause-refused g c t unmade four =
    let v = g.D.Disk.view in
    let made = c.make_new.new.disk.disk in
    let t0 = subst (λ d. IsTrue (v d).tells) (sym c.new-disk.ensures) t in
    let u0 = subst (λ d. IsUnmade (v d)) (sym c.new-disk.ensures) unmade in
    let any = c.in-Ok.ensures.any_moment t0 u0 in
    let tells : IsTrue (v made).tells = subst (λ (b : Bool). IsTrue b) (sym any.told) t0 in
    let new = c.in-Ok.ensures.made t0 u0 in
    let held = c.begin-runs.ensures.holds tells (new (v made).content (c.told_is_left-in-Ok.ensures tells)) new in
    let disk = c.unwatched-in-Ok.ensures.disk in
    let is = new (v made).content (c.told_is_left-in-Ok.ensures tells) in
    let said = said-so 4 c.unwatched-in-Ok.result.status c.finish.result.status c.unwatched-in-Ok.ensures.status (λ five. omega (arith, five)) four in
    refused-behind IsSoundWith (v c.begin-runs.result.disk.disk) (v c.finish.result.disk.disk) (v c.unwatched-in-Ok.result.disk) _ _ no_tables (scripts_of_runs c.args.plan.now.accounts) c.begin-runs.result.accounts
    c.begin-runs.result.status c.finish.result.status
    held c.finish.ensures.kept said c.begin-runs.ensures.count (λ other. ap (λ d. v d.disk) (c.finish.ensures.same other)) (ap v disk)
    (c.begin-runs.ensures.refused tells is) (c.finish.ensures.refused said) (c.told_is_left-in-Ok-2.ensures)

pub returns-in-Ok-clause-idle : goal.returns-in-Ok-clause-idle
returns-in-Ok-clause-idle g c t root =
    let v = g.D.Disk.view in
    absurd (false≢true (c.in-Ok.ensures.standing (subst (λ d. IsTrue (v d).tells) (sym c.new-disk.ensures) t) (subst (λ d. HasRoot (v d).content) (sym c.new-disk.ensures) root)).0)

-- ---- what is verified behind whole runs has no faults

pub returns-in-Err-clause-faultless : goal.returns-in-Err-clause-faultless
returns-in-Err-clause-faultless g c t unmade seven =
    unmade-not-seven c.unwatched.result.status c.unmade.result.status c.unwatched.ensures.status c.unmade.ensures.status seven

pub returns-in-Ok-clause-faultless : goal.returns-in-Ok-clause-faultless
returns-in-Ok-clause-faultless g c t unmade seven =
    let v = g.D.Disk.view in
    let made = c.make_new.new.disk.disk in
    let t0 = subst (λ d. IsTrue (v d).tells) (sym c.new-disk.ensures) t in
    let u0 = subst (λ d. IsUnmade (v d)) (sym c.new-disk.ensures) unmade in
    let tells : IsTrue (v made).tells = subst (λ (b : Bool). IsTrue b) (sym (c.in-Ok.ensures.any_moment t0 u0).told) t0 in
    let new = c.in-Ok.ensures.made t0 u0 in
    let held = c.begin-runs.ensures.holds tells (new (v made).content (c.told_is_left-in-Ok.ensures tells)) new in
    let said = said-so 7 c.unwatched-in-Ok.result.status c.finish.result.status c.unwatched-in-Ok.ensures.status (λ five. omega (arith, five)) seven in
    faultless-behind (v c.begin-runs.result.disk.disk) (v c.finish.result.disk.disk) _ _ no_tables (scripts_of_runs c.args.plan.now.accounts) c.begin-runs.result.accounts
    c.begin-runs.result.status c.finish.result.status _ _ _ _
    held c.finish.ensures.kept c.begin-runs.ensures.status c.begin-runs.ensures.count c.finish.ensures.reads c.told_is_left-in-Ok-2.ensures c.finish.ensures.reports said

-- ---- where nothing failed

pub returns-in-Err-clause-unharmed : goal.returns-in-Err-clause-unharmed
returns-in-Err-clause-unharmed g c t unmade disk sink =
    let v = g.D.Disk.view in
    let status = c.unwatched.result.status in
    let said = c.unmade.result.status in
    let seen = c.unwatched.ensures.status in
    let t0 = subst (λ d. IsTrue (v d).tells) (sym c.new-disk.ensures) t in
    unharmed status (seen-status status said seen (unmade-status said c.unmade.ensures.status))
    (λ three. disk (subst (λ (n : ℕ). Rose n (v c.unwatched.result.disk).faults) c.requires.began (c.unwatched.ensures.device three)))
    (unmade-not-six status said seen c.unmade.ensures.status)
    (unmade-not-seven status said seen c.unmade.ensures.status)
    (λ nine. none-no-root (v c.args.disk).content (unmade (v c.args.disk).content (c.told_is_left.ensures t))
    (subst (λ d. HasRoot (v d).content) c.new-disk.ensures (c.in-Err.ensures.not_empty (ap Err (c.unmade.ensures.taken (said-so 9 status said seen (λ five. omega (arith, five)) nine))) t0)))

pub returns-in-Ok-clause-unharmed : goal.returns-in-Ok-clause-unharmed
returns-in-Ok-clause-unharmed g c t unmade disk sink =
    let v = g.D.Disk.view in
    let status = c.unwatched-in-Ok.result.status in
    let said = c.finish.result.status in
    let seen = c.unwatched-in-Ok.ensures.status in
    unharmed status (seen-status status said seen c.finish.ensures.status)
    (λ three. disk (subst (λ (n : ℕ). Rose n (v c.unwatched-in-Ok.result.disk).faults) c.requires.began (c.unwatched-in-Ok.ensures.device three)))
    (λ six. sink (c.finish.ensures.sink (said-so 6 status said seen (λ five. omega (arith, five)) six)))
    (returns-in-Ok-clause-faultless g c t unmade)
    (λ nine.
    let is = said-so 9 status said seen (λ five. omega (arith, five)) nine in
    runs-not-nine c.begin-runs.result.status c.begin-runs.ensures.status (sym (c.finish.ensures.dead (inr is)) ∙ is))

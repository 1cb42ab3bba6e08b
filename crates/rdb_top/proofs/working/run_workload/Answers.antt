use Rattle.std.proofs.Common.{◌≡◌, ◌+◌, true, ℕ, List, [], None, map, refl, sym, subst, ◌∙◌, inl, inr, arith}
use Rattle.std.proofs.lemmas.Option.{none-some}
use Rattle.rdb_outside.specs.Causes.{Rose}
use Rattle.rdb_outside.specs.Moments.{started}
use Rattle.rdb_outside.specs.Runs.{no_calls}
use Rattle.rdb_meaning.specs.Contents.{no_tables}
use Rattle.rdb_account.specs.declared.event.Event.{Event}
use Rattle.rdb_account.specs.Events.{event_of}
use Rattle.workload_runs.specs.line_cluster.Deaths.{RoseBy, device_deaths}
use Rattle.command_words.specs.Options.{limits_of, nothing_asked}
use Rattle.sound_maps.specs.Maps.{IsSoundWith}
use Rattle.workload_runs.specs.rmu_commands.Written.{HasText}
use Rattle.workload_replies.specs.Replies.{has_death}
use Rattle.workload_runs.specs.Among.{may_die_by}
use Rattle.workload_runs.specs.Deaths.{HaveCauses, SomeDied}
use Rattle.workload_runs.specs.Reports.{Reports}
use Rattle.workload_runs.specs.Runs.{AreRuns, EndIf}
use Rattle.workload_runs.specs.Scripts.{scripts_of_runs}
use Rattle.workload_runs.specs.Statuses.{IsWhole}
use Rattle.workload_runs.proofs.Crash.{leaves-as-named, left-as-named, none-made}
use Rattle.workload_runs.proofs.Reporting.{gave-up}
use Rattle.rdb_top.specs.Workloads.{database_in}
use Rattle.rdb_top.proofs.Failures.{rose-deaths}
use Rattle.rdb_top.proofs.Unsaid.{nobody-died}
use Rattle.rdb_top.proofs.Workloads.{is-last, lived-end, three-end}
use Rattle.rdb_top.proofs.working.run_workload.Goals as goal

pub returns-in-Ok-clause-runs : goal.returns-in-Ok-clause-runs
returns-in-Ok-clause-runs g c told unmade =
    let all = c.workload.result.accounts in
    let dies = may_die_by (g.G.Gate.mortals c.args.gate.now) in (
      all,
      c.last_apart.ensures.accounts,
      subst (λ (n : ℕ). AreRuns (EndIf (IsWhole n)) (record { word = database_in c.args.task.words.now; may_die = dies }) no_tables (scripts_of_runs c.args.task.accounts) all) (sym c.last_apart.ensures.status)
          (subst (λ (n : ℕ). AreRuns (EndIf (IsWhole c.workload.result.status)) (record { word = database_in c.args.task.words.now; may_die = dies }) no_tables (scripts_of_runs n) all) c.in-Ok.ensures.accounts
          (subst (λ (w : List ℕ). AreRuns (EndIf (IsWhole c.workload.result.status)) (record { word = w; may_die = dies }) no_tables (scripts_of_runs c.in-Ok.plan.accounts) all) c.in-Ok.ensures.word
          (c.workload.ensures.runs told unmade))),
    )

pub returns-in-Ok-clause-three : goal.returns-in-Ok-clause-three
returns-in-Ok-clause-three g c text =
    three-end c.workload.result.accounts c.last_apart.result.earlier c.last_apart.result.events c.last_apart.ensures.accounts (c.workload.ensures.three (subst HasText c.last_apart.ensures.status text))

pub returns-in-Ok-clause-lived : goal.returns-in-Ok-clause-lived
returns-in-Ok-clause-lived g c text =
    lived-end c.workload.result.accounts c.last_apart.result.earlier c.last_apart.result.events c.last_apart.ensures.accounts (c.workload.ensures.lived (subst HasText c.last_apart.ensures.status text))

pub returns-in-Ok-clause-died : goal.returns-in-Ok-clause-died
returns-in-Ok-clause-died g c eight =
    subst (λ (es : List Event). has_death es ≡ true) (is-last c.workload.result.accounts c.last_apart.result.earlier c.last_apart.result.events c.last_apart.ensures.accounts)
    (c.workload.ensures.died (sym c.last_apart.ensures.status ∙ eight))

pub returns-in-Ok-clause-reports : goal.returns-in-Ok-clause-reports
returns-in-Ok-clause-reports g c =
    let k = g.K.Sink.taken in
    rw c.last_apart.ensures.disk (rw c.last_apart.ensures.status
    (subst (λ (es : List Event). Reports (g.D.Disk.view c.workload.result.disk) es c.workload.result.status (g.K.Sink.tells c.args.out.now ≡ true) (k c.args.out.now) (k c.workload.new.out))
    (is-last c.workload.result.accounts c.last_apart.result.earlier c.last_apart.result.events c.last_apart.ensures.accounts) c.workload.ensures.reports))

pub returns-in-Ok-clause-harmed : goal.returns-in-Ok-clause-harmed
returns-in-Ok-clause-harmed g c told unmade =
    rw c.last_apart.ensures.disk
    (subst (λ (es : List Event). RoseBy (device_deaths (map event_of es)) (g.D.Disk.view c.args.disk).faults (g.D.Disk.view c.workload.result.disk).faults)
    (is-last c.workload.result.accounts c.last_apart.result.earlier c.last_apart.result.events c.last_apart.ensures.accounts) (c.workload.ensures.harmed told unmade))

pub returns-in-Ok-clause-stopped : goal.returns-in-Ok-clause-stopped
returns-in-Ok-clause-stopped g c told unmade three =
    rw c.last_apart.ensures.disk
    (subst (λ (es : List Event). RoseBy (device_deaths (map event_of es) + 1) (g.D.Disk.view c.args.disk).faults (g.D.Disk.view c.workload.result.disk).faults)
    (is-last c.workload.result.accounts c.last_apart.result.earlier c.last_apart.result.events c.last_apart.ensures.accounts)
    (c.workload.ensures.stopped told unmade (sym c.last_apart.ensures.status ∙ three)))

-- of what they died
pub returns-in-Ok-clause-causes : goal.returns-in-Ok-clause-causes
returns-in-Ok-clause-causes g c told unmade =
    let v = g.D.Disk.view in
    rw c.last_apart.ensures.disk
    (subst (λ (es : List Event). HaveCauses (g.G.Gate.mortals c.args.gate.now) (Rose (v c.args.disk).faults (v c.workload.result.disk).faults) (map event_of es))
    (is-last c.workload.result.accounts c.last_apart.result.earlier c.last_apart.result.events c.last_apart.ensures.accounts) (c.workload.ensures.causes told unmade))

pub returns-in-Ok-clause-fallen : goal.returns-in-Ok-clause-fallen
returns-in-Ok-clause-fallen g c told unmade eight =
    let v = g.D.Disk.view in
    rw c.last_apart.ensures.disk
    (subst (λ (es : List Event). SomeDied (g.G.Gate.mortals c.args.gate.now) (Rose (v c.args.disk).faults (v c.workload.result.disk).faults) (map event_of es))
    (is-last c.workload.result.accounts c.last_apart.result.earlier c.last_apart.result.events c.last_apart.ensures.accounts)
    (c.workload.ensures.fallen told unmade (sym c.last_apart.ensures.status ∙ eight)))

-- what a crash leaves, by the words of the command
pub returns-in-Ok-clause-images : goal.returns-in-Ok-clause-images
returns-in-Ok-clause-images g c told unmade =
    let v = g.D.Disk.view in
    let all = c.workload.result.accounts in
    let dies = may_die_by (g.G.Gate.mortals c.args.gate.now) in (
      all,
      c.last_apart.ensures.accounts,
      rw c.last_apart.ensures.disk (rw c.last_apart.ensures.status
          (leaves-as-named IsSoundWith (v c.args.disk) (v c.workload.result.disk) c.in-Ok.plan.word (database_in c.args.task.words.now) dies c.in-Ok.plan.limits (limits_of nothing_asked) c.in-Ok.plan.accounts c.args.task.accounts all c.workload.result.status
          c.in-Ok.ensures.word c.in-Ok.ensures.limits c.in-Ok.ensures.accounts (c.workload.ensures.images told unmade))),
    )

pub returns-in-Ok-clause-left : goal.returns-in-Ok-clause-left
returns-in-Ok-clause-left g c told unmade whole =
    let v = g.D.Disk.view in
    let all = c.workload.result.accounts in
    let dies = may_die_by (g.G.Gate.mortals c.args.gate.now) in (
      all,
      c.last_apart.ensures.accounts,
      rw c.last_apart.ensures.disk
          (left-as-named IsSoundWith (v c.workload.result.disk) c.in-Ok.plan.word (database_in c.args.task.words.now) dies c.in-Ok.plan.accounts c.args.task.accounts all
          c.in-Ok.ensures.word c.in-Ok.ensures.accounts (c.workload.ensures.left told unmade (subst IsWhole c.last_apart.ensures.status whole))),
    )

pub returns-in-Ok-clause-refused : goal.returns-in-Ok-clause-refused
returns-in-Ok-clause-refused g c told unmade four =
    rw c.last_apart.ensures.disk (c.workload.ensures.refused told unmade (sym c.last_apart.ensures.status ∙ four))

pub returns-in-Ok-clause-halted : goal.returns-in-Ok-clause-halted
returns-in-Ok-clause-halted g c why is = c.last_apart.ensures.status ∙ c.workload.ensures.halted why (sym c.last_apart.ensures.halt ∙ is)

pub returns-in-Ok-clause-faultless : goal.returns-in-Ok-clause-faultless
returns-in-Ok-clause-faultless g c told unmade seven = c.workload.ensures.faultless told unmade (sym c.last_apart.ensures.status ∙ seven)

pub returns-in-Ok-clause-unharmed : goal.returns-in-Ok-clause-unharmed
returns-in-Ok-clause-unharmed g c told unmade disk sink =
    let v = g.D.Disk.view in
    rw c.last_apart.ensures.status (c.workload.ensures.unharmed told unmade
    (λ rose. disk (subst (λ d. Rose (v c.args.disk).faults (v d).faults) (sym c.last_apart.ensures.disk) rose)) sink)

pub returns-in-Ok-clause-idle : goal.returns-in-Ok-clause-idle
returns-in-Ok-clause-idle g c told root = c.last_apart.ensures.halt ∙ c.workload.ensures.idle told root

-- ---- no memory for the plan

pub returns-in-Err-clause-runs : goal.returns-in-Err-clause-runs
returns-in-Err-clause-runs g c told unmade = ([], inr (refl, c.unsaid.ensures.earlier, c.unsaid.ensures.events), tt)

pub returns-in-Err-clause-reports : goal.returns-in-Err-clause-reports
returns-in-Err-clause-reports g c = gave-up _ _ c.unsaid.result.status _ _ _ (inr (inr c.unsaid.ensures.status)) (λ tells. refl)

pub returns-in-Err-clause-harmed : goal.returns-in-Err-clause-harmed
returns-in-Err-clause-harmed g c told unmade =
    rw c.unsaid.ensures.disk (rose-deaths (map event_of c.unsaid.result.events) None _ _ (nobody-died c.unsaid.result.events None _ c.unsaid.ensures.events refl))

pub returns-in-Err-clause-causes : goal.returns-in-Err-clause-causes
returns-in-Err-clause-causes g c told unmade =
    let v = g.D.Disk.view in
    subst (λ (es : List Event). HaveCauses (g.G.Gate.mortals c.args.gate.now) (Rose (v c.args.disk).faults (v c.unsaid.result.disk).faults) (map event_of es)) (sym c.unsaid.ensures.events) tt

pub returns-in-Err-clause-fallen : goal.returns-in-Err-clause-fallen
returns-in-Err-clause-fallen g c told unmade eight = absurd (let five = c.unsaid.ensures.status in omega (arith, five, eight))

pub returns-in-Err-clause-standing : goal.returns-in-Err-clause-standing
returns-in-Err-clause-standing g c told root = (inr (inl c.unsaid.ensures.status), rw c.unsaid.ensures.disk ((no_calls (g.D.Disk.view c.args.disk)).keeps told))

pub returns-in-Err-clause-images : goal.returns-in-Err-clause-images
returns-in-Err-clause-images g c told unmade = (
  [],
  inr (refl, c.unsaid.ensures.earlier, c.unsaid.ensures.events),
  rw c.unsaid.ensures.disk (none-made IsSoundWith (limits_of nothing_asked) (g.D.Disk.view c.args.disk) (g.D.Disk.view c.args.disk) _ (scripts_of_runs c.args.task.accounts) [] c.unsaid.result.status refl
      (started (g.D.Disk.view c.args.disk) _ (λ image left. inl (unmade image left)))),
)

pub returns-in-Err-clause-left : goal.returns-in-Err-clause-left
returns-in-Err-clause-left g c told unmade whole = ([], inr (refl, c.unsaid.ensures.earlier, c.unsaid.ensures.events), tt)

pub returns-in-Err-clause-refused : goal.returns-in-Err-clause-refused
returns-in-Err-clause-refused g c told unmade four = absurd (let five = c.unsaid.ensures.status in omega (arith, five, four))

pub returns-in-Err-clause-halted : goal.returns-in-Err-clause-halted
returns-in-Err-clause-halted g c why is = absurd (none-some why (sym c.unsaid.ensures.halt ∙ is))

pub returns-in-Err-clause-faultless : goal.returns-in-Err-clause-faultless
returns-in-Err-clause-faultless g c told unmade seven = absurd (let five = c.unsaid.ensures.status in omega (arith, five, seven))

pub returns-in-Err-clause-unharmed : goal.returns-in-Err-clause-unharmed
returns-in-Err-clause-unharmed g c told unmade disk sink = rw c.unsaid.ensures.status refl

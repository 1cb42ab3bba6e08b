use Rattle.std.proofs.Common.{◌+◌, [], ℕ, List, inl, inr, sym, subst}
use Rattle.rdb_outside.specs.Disk.{OnlyReads}
use Rattle.rdb_meaning.specs.Contents.{no_tables}
use Rattle.page_faults.proofs.Reading.{told_on}
use Rattle.line_runs.specs.Openings.{HasNoNumbers, said_to}
use Rattle.sound_maps.specs.Laws.{empty}
use Rattle.sound_maps.specs.Maps.{IsSoundWith}
use Rattle.workload_runs.specs.Among.{may_die_by}
use Rattle.workload_runs.specs.Runs.{AreRuns, EndIf, opening_on}
use Rattle.workload_runs.specs.Scripts.{scripts_of_runs}
use Rattle.workload_runs.specs.Statuses.{IsWhole, deaths_of_last}
use Rattle.workload_runs.proofs.Left.{gave-up-stands, held-as-named, held-none, none-whole, pending-read}
use Rattle.workload_runs.proofs.Opening.{new-before, new-behind, new-opens, new-pending, new-stands, opens-read, told-before}
use Rattle.workload_runs.proofs.Stops.{has-numbers, nobody-halted, used-up}
use Rattle.workload_runs.proofs.Tallies.{rose-past}
use Rattle.workload_runs.proofs.whole.begin.Goals as goal

-- the first run opens with the new database, of which the preparation only reads
pub run_first-requires-clause-opens : goal.run_first-requires-clause-opens
run_first-requires-clause-opens g c κs within = λ told.
    let v = g.D.Disk.view in
    let old = v c.args.disk in
    let new = v c.prepare.new.disk in
    let reads = c.prepare.ensures.reads in
    let limits = c.args.plan.now.limits in
    let t = told-before old new reads told.0 in
    let is = new-before limits old new reads t told.1 in
    opens-read IsSoundWith old new reads t c.in-Ok.prepared.stand (c.in-Ok.ensures.limits t) (c.in-Ok.ensures.next t)
    no_tables (may_die_by (g.G.Gate.mortals c.args.gate.now)) c.in-Ok.prepared.said.word c.in-Ok.prepared.said.scripts.items []
    (new-opens limits old.content (c.new_is_kept.ensures limits old.content is) (c.a_new_database_opens.ensures limits old.content is)) empty

pub returns-in-Ok-clause-runs : goal.returns-in-Ok-clause-runs
returns-in-Ok-clause-runs g c t is =
    let v = g.D.Disk.view in
    let reads = c.prepare.ensures.reads in
    subst (λ (w : List ℕ). AreRuns (EndIf (IsWhole c.run_first.result.status)) (record { word = w; may_die = may_die_by (g.G.Gate.mortals c.args.gate.now) }) no_tables (scripts_of_runs c.args.plan.now.accounts) c.run_first.result.accounts) c.in-Ok.ensures.word
    (c.run_first.ensures.runs (told_on (v c.args.disk) (v c.prepare.new.disk) reads t, new-behind c.args.plan.now.limits (v c.args.disk) (v c.prepare.new.disk) reads t is))

pub returns-in-Ok-clause-harmed : goal.returns-in-Ok-clause-harmed
returns-in-Ok-clause-harmed g c t is =
    let v = g.D.Disk.view in
    let old = v c.args.disk in
    let new = v c.prepare.new.disk in
    let reads = c.prepare.ensures.reads in
    rose-past (deaths_of_last c.run_first.result.accounts) old.faults new.faults (v c.run_first.result.disk).faults reads.no_fewer
    (c.run_first.ensures.harmed (told_on old new reads t, new-behind c.args.plan.now.limits old new reads t is))

pub returns-in-Ok-clause-stopped : goal.returns-in-Ok-clause-stopped
returns-in-Ok-clause-stopped g c t is three =
    let v = g.D.Disk.view in
    let old = v c.args.disk in
    let new = v c.prepare.new.disk in
    let reads = c.prepare.ensures.reads in
    rose-past (deaths_of_last c.run_first.result.accounts + 1) old.faults new.faults (v c.run_first.result.disk).faults reads.no_fewer
    (c.run_first.ensures.stopped (told_on old new reads t, new-behind c.args.plan.now.limits old new reads t is) three)

-- a new database has its numbers
pub run_first-requires-clause-numbers : goal.run_first-requires-clause-numbers
run_first-requires-clause-numbers g c κs within = λ told.
    let v = g.D.Disk.view in
    let old = v c.args.disk in
    let new = v c.prepare.new.disk in
    let reads = c.prepare.ensures.reads in
    let limits = c.args.plan.now.limits in
    let t = told-before old new reads told.0 in
    let is = new-before limits old new reads t told.1 in
    has-numbers old new reads t [] (new-opens limits old.content (c.new_is_kept.ensures limits old.content is) (c.a_new_database_opens.ensures limits old.content is)) c.in-Ok.ensures.numbers

pub returns-in-Ok-clause-refused : goal.returns-in-Ok-clause-refused
returns-in-Ok-clause-refused g c t is =
    let v = g.D.Disk.view in
    let reads = c.prepare.ensures.reads in
    c.run_first.ensures.refused (told_on (v c.args.disk) (v c.prepare.new.disk) reads t, new-behind c.args.plan.now.limits (v c.args.disk) (v c.prepare.new.disk) reads t is)

pub returns-in-Err-clause-refused : goal.returns-in-Err-clause-refused
returns-in-Err-clause-refused g c t is four =
    let v = g.D.Disk.view in
    subst (λ d. HasNoNumbers (v d)) (sym c.none_begun.ensures.disk) (used-up (v c.args.disk) (v c.prepare.new.disk) c.prepare.ensures.reads (c.in-Err.ensures.refused (cc)))

pub returns-in-Err-clause-halted : goal.returns-in-Err-clause-halted
returns-in-Err-clause-halted g c = nobody-halted c.none_begun.result.halt c.none_begun.result.status c.none_begun.ensures.halt

-- the first run wasn't begun: only reads came before
pub returns-in-Err-clause-holds : goal.returns-in-Err-clause-holds
returns-in-Err-clause-holds g c t is made =
    let v = g.D.Disk.view in
    held-none IsSoundWith (v c.none_begun.result.disk) _ _ no_tables _ c.none_begun.result.accounts c.none_begun.result.status c.none_begun.ensures.accounts (
      (λ whole. none-whole c.in-Err.status c.in-Err.ensures.status (subst IsWhole c.none_begun.ensures.status whole)),
      inl (subst (λ d. OnlyReads (v c.args.disk) (v d)) (sym c.none_begun.ensures.disk) c.prepare.ensures.reads),
    )

-- it was, or its opening gave up over the new database
pub returns-in-Ok-clause-holds : goal.returns-in-Ok-clause-holds
returns-in-Ok-clause-holds g c t is made =
    let v = g.D.Disk.view in
    let old = v c.args.disk in
    let new = v c.prepare.new.disk in
    let reads = c.prepare.ensures.reads in
    let limits = c.args.plan.now.limits in
    let o = said_to (opening_on new.content c.in-Ok.prepared.stand no_tables (may_die_by (g.G.Gate.mortals c.args.gate.now))) c.in-Ok.prepared.said.word c.in-Ok.prepared.said.scripts.items in
    held-as-named IsSoundWith (v c.run_first.result.disk) _ _ _ _ _ _ _ _ _ _ c.in-Ok.ensures.word
    (c.run_first.ensures.holds (told_on old new reads t, new-behind limits old new reads t is))
    (λ gave. (
      gave.0,
      inr (gave-up-stands IsSoundWith o new (v c.run_first.result.disk)
          (λ image pending. new-stands limits image (new-pending limits old made image (pending-read old new reads t image pending)) (c.new_is_kept.ensures limits image)) gave.1),
    ))

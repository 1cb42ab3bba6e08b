use Rattle.std.proofs.Common.{refl}
use Rattle.opened_store.specs.disk_store.Shown.{sight_of}
use Rattle.line_runs.proofs.Opening.{opens-by}
use Rattle.line_runs.proofs.laws.a_run_opens.Goals as goal

pub returns : goal.returns
returns g c = λ image lines journal word o faults begins opens named stands few.
    let v = g.D.Disk.view c.args.disk.now in
    opens-by g.S.Statements.stands image lines journal v c.args.held.now begins word o faults opens named stands few (sight_of v c.args.held.now) begins.shown (λ n. refl)

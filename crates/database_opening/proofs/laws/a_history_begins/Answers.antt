use Rattle.std.proofs.Common.{◌≡◌, None, Some, refl}
use Rattle.line_opening.specs.stable_lines.History.{IsAt}
use Rattle.line_opening.proofs.of_stable_lines.Histories.{since_commit}
use Rattle.database_opening.specs.Start.{beginning_with, history_with}
use Rattle.database_opening.proofs.laws.a_history_begins.Goals as goal

pub returns : goal.returns
returns g c = let v = g.D.Disk.view c.args.disk.now in λ classes lines journal start begins.
    let now = beginning_with classes lines journal start in
    let history = history_with classes lines in
    let at : IsAt history now = record { commits = 0; last = refl; is = refl; flight = λ f flies. let bad : None ≡ Some f = flies in absurd (cc) } in
    (at, since_commit v history now at begins.facts)

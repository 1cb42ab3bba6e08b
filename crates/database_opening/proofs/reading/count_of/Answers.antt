use Rattle.std.proofs.Common.{rules, ◌≡◌, ◌≢◌, arith}
use Rattle.rdb_outside.specs.Runs.{no_calls}
use Rattle.line_opening.proofs.Counted.{if_ok}
use Rattle.database_opening.proofs.reading.count_of.Goals as goal

pub returns-then-number-eq0-clause-reads : goal.returns-then-number-eq0-clause-reads
returns-then-number-eq0-clause-reads g c = no_calls (g.D.Disk.view c.args.disk.now)

pub returns-then-number-eq0-clause-count : goal.returns-then-number-eq0-clause-count
returns-then-number-eq0-clause-count g c = λ t some. absurd (let none : c.args.number ≡ 0 = search rules in omega (arith, some, none))

pub returns-clause-count : goal.returns-clause-count
returns-clause-count g c = if_ok _ _ c.count_entries.result (λ count has t some. has t) c.count_entries.ensures.entries

pub returns-clause-none : goal.returns-clause-none
returns-clause-none g c =
    let off : c.args.number ≢ 0 = search rules in
    if_ok _ _ c.count_entries.result (λ count has none. absurd (off none)) c.count_entries.ensures.entries

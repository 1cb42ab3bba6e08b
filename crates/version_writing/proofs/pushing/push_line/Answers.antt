use Rattle.std.proofs.Common.{◌-◌, subst}
use Rattle.line_versions.specs.Versions.{snap_of}
use Rattle.line_versions.specs.Files.{snap_file, entries_in}
use Rattle.line_versions.specs.Course.{pushed}
use Rattle.line_moves.proofs.Runs.{still_tells}
use Rattle.rdb_types.specs.declared.keys.Line.{Line}
use Rattle.version_writing.proofs.Written.{writes_told}
use Rattle.version_writing.proofs.Held.{versions_read, versions_stay, versions_pushed, table_pushed}
use Rattle.version_writing.proofs.pushing.push_line.Goals as goal

pub returns-in_err-push_version-clause-writes : goal.returns-in_err-push_version-clause-writes
returns-in_err-push_version-clause-writes g c = let v = g.D.Disk.view in
    writes_told (v c.args.disk.now) (v c.line_at.new.disk) (v c.push_version.new.disk) (snap_file (snap_of c.args.key)) (c.chain_or_new.result - 1) c.push_version.result c.line_at.ensures.reads c.push_version.ensures.counts c.push_version.ensures.puts

pub returns-clause-writes : goal.returns-clause-writes
returns-clause-writes g c = let v = g.D.Disk.view in
    writes_told (v c.args.disk.now) (v c.line_at.new.disk) (v c.push_version.new.disk) (snap_file (snap_of c.args.key)) (c.chain_or_new.result - 1) c.push_version.result c.line_at.ensures.reads c.push_version.ensures.counts c.push_version.ensures.puts

pub returns-in_err-line-clause-versions : goal.returns-in_err-line-clause-versions
returns-in_err-line-clause-versions g c = let v = g.D.Disk.view in λ t now course limit held free was.
    versions_read (v c.args.disk.now) (v c.line_at.new.disk) now limit course t c.line_at.ensures.reads was

pub returns-then-eq-clause-versions : goal.returns-then-eq-clause-versions
returns-then-eq-clause-versions g c = let v = g.D.Disk.view in λ t now course limit held free was.
    versions_read (v c.args.disk.now) (v c.line_at.new.disk) now limit course t c.line_at.ensures.reads was

pub returns-in_err-push_version-clause-versions : goal.returns-in_err-push_version-clause-versions
returns-in_err-push_version-clause-versions g c = let v = g.D.Disk.view in λ t now course limit held free was.
    let old = v c.args.disk.now in let mid = v c.line_at.new.disk in let new = v c.push_version.new.disk in
    let writes = writes_told old mid new (snap_file (snap_of c.args.key)) (c.chain_or_new.result - 1) c.push_version.result c.line_at.ensures.reads c.push_version.ensures.counts c.push_version.ensures.puts in
    versions_stay old new now limit course c.args.key c.args.tsn c.args.slots.now c.chain_or_new.new.slots c.args.chain.now c.chain_or_new.result t c.chain_or_new.ensures.has writes held free was

pub returns-clause-versions : goal.returns-clause-versions
returns-clause-versions g c = let v = g.D.Disk.view in λ t now course limit held free was.
    let old = v c.args.disk.now in let mid = v c.line_at.new.disk in let new = v c.push_version.new.disk in
    let writes = writes_told old mid new (snap_file (snap_of c.args.key)) (c.chain_or_new.result - 1) c.push_version.result c.line_at.ensures.reads c.push_version.ensures.counts c.push_version.ensures.puts in
    versions_stay old new now limit course c.args.key c.args.tsn c.args.slots.now c.chain_or_new.new.slots c.args.chain.now c.chain_or_new.result t c.chain_or_new.ensures.has writes held free was

pub returns-clause-followed : goal.returns-clause-followed
returns-clause-followed g c = let v = g.D.Disk.view in λ some t now course limit held free ended goes was.
    let old = v c.args.disk.now in let mid = v c.line_at.new.disk in let new = v c.push_version.new.disk in
    let writes = writes_told old mid new (snap_file (snap_of c.args.key)) (c.chain_or_new.result - 1) c.push_version.result c.line_at.ensures.reads c.push_version.ensures.counts c.push_version.ensures.puts in
    let stands = subst (λ (l : Line). entries_in new.content (snap_of c.args.key) c.chain_or_new.result (pushed c.args.key c.args.tsn l)) (c.in_ok-line.ensures.line t) (c.in_ok-push_version.ensures.stands (still_tells old mid c.line_at.ensures.reads.told t)) in (
      versions_pushed old new now limit course c.args.key c.args.tsn c.args.slots.now c.chain_or_new.new.slots c.args.chain.now c.chain_or_new.result t c.chain_or_new.ensures.has writes held free was stands ended goes,
      table_pushed old new now limit course c.args.key c.args.tsn c.args.slots.now c.chain_or_new.new.slots c.args.chain.now c.chain_or_new.result t c.chain_or_new.ensures.has writes held free was stands,
    )

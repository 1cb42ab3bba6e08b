use Rattle.std.proofs.Common.{◌∙◌, refl, arith}
use Rattle.new_database.specs.Maker.{root_file}
use Rattle.disk_seats.proofs.of_line_moves.Runs.{read_pends}
use Rattle.member_steps.proofs.Begun.{limits_read}
use Rattle.member_steps.proofs.beginning.next_root.Goals as goal

pub returns-clause-limits : goal.returns-clause-limits
returns-clause-limits g c = λ t base was.
    let old = g.D.Disk.view c.args.disk.now in
    let left = g.met.D.Disk.content_left c.args.disk.now old.moment t (omega arith) in
    c.in-Some.ensures.raised.limits ∙ limits_read old base c.read.new.into c.in-Ok.root was (read_pends old left c.root_file.result root_file 0 0 c.read.new.into c.root_file.ensures refl (c.in_ok-read.ensures.bytes t)) c.in-Ok.ensures.found

pub returns-in_default-clause-bad : goal.returns-in_default-clause-bad
returns-in_default-clause-bad g c = λ file slot is t base was.
    let old = g.D.Disk.view c.args.disk.now in
    let left = g.met.D.Disk.content_left c.args.disk.now old.moment t (omega arith) in
    let there = was.root c.read.new.into (read_pends old left c.root_file.result root_file 0 0 c.read.new.into c.root_file.ensures refl (c.in_ok-read.ensures.bytes t)) in
    absurd (c.in_default.ensures.none there.root there.is)

use Rattle.std.proofs.Common.{◌+◌, length, sym, ◌∙◌, ap, subst, rules}
use Rattle.journal_scan.specs.Whole.{AreGroups}
use Rattle.journal_reading.specs.Journal.{standing}
use Rattle.rdb_outside.specs.Runs.{one_call, then_reads}
use Rattle.journal_reading.proofs.Standing.{is_read, groups, next_number, next_slot}
use Rattle.journal_reading.proofs.reading.scan.Goals as goal

pub returns-in_err-first-clause-bad_header : goal.returns-in_err-first-clause-bad_header
returns-in_err-first-clause-bad_header g c = λ bad. c.first_number.ensures.bad_header (search rules)

pub returns-in_err-length-clause-reads : goal.returns-in_err-length-clause-reads
returns-in_err-length-clause-reads g c =
    let view = g.D.Disk.view in
    one_call (view c.args.disk.now) (view c.first_number.new.disk) (view c.length.new.self) c.length.result c.first_number.ensures.reads c.length.ensures.counts c.length.ensures.kept

pub returns-in-Ok-clause-reads : goal.returns-in-Ok-clause-reads
returns-in-Ok-clause-reads g c =
    let view = g.D.Disk.view in
    let behind = one_call (view c.args.disk.now) (view c.first_number.new.disk) (view c.length.new.self) c.length.result c.first_number.ensures.reads c.length.ensures.counts c.length.ensures.kept in
    then_reads (view c.args.disk.now) (view c.length.new.self) (view c.read_groups.new.disk) behind c.read_groups.ensures.reads

pub returns-in-Err-clause-reads : goal.returns-in-Err-clause-reads
returns-in-Err-clause-reads g c =
    let view = g.D.Disk.view in
    let behind = one_call (view c.args.disk.now) (view c.first_number.new.disk) (view c.length.new.self) c.length.result c.first_number.ensures.reads c.length.ensures.counts c.length.ensures.kept in
    then_reads (view c.args.disk.now) (view c.length.new.self) (view c.read_groups.new.disk) behind c.read_groups.ensures.reads

pub returns-in-Ok-clause-groups : goal.returns-in-Ok-clause-groups
returns-in-Ok-clause-groups g c = λ tells first count is zeros_behind.
    let view = g.D.Disk.view in
    let old = view c.args.disk.now in
    let behind = one_call old (view c.first_number.new.disk) (view c.length.new.self) c.length.result c.first_number.ensures.reads c.length.ensures.counts c.length.ensures.kept in
    let read = is_read old (view c.first_number.new.disk) (view c.length.new.self) c.args.file c.in_ok-first.first c.in_ok-length.length c.in-Ok.scan tells c.first_number.ensures.reads behind c.in_ok-length.ensures.zeros c.in-Ok.ensures.read in
    let named = c.in_ok-first.ensures.only tells first is in
    subst (λ n. AreGroups n (standing old.content c.args.file 1 count) c.in-Ok.scan.groups) (sym named)
    (groups old.content c.args.file c.requires c.in_ok-first.first c.in_ok-length.length c.in-Ok.scan read.up_to read.ends count zeros_behind)

pub returns-in-Ok-clause-next_number : goal.returns-in-Ok-clause-next_number
returns-in-Ok-clause-next_number g c = λ tells first is.
    let view = g.D.Disk.view in
    let old = view c.args.disk.now in
    let behind = one_call old (view c.first_number.new.disk) (view c.length.new.self) c.length.result c.first_number.ensures.reads c.length.ensures.counts c.length.ensures.kept in
    let read = is_read old (view c.first_number.new.disk) (view c.length.new.self) c.args.file c.in_ok-first.first c.in_ok-length.length c.in-Ok.scan tells c.first_number.ensures.reads behind c.in_ok-length.ensures.zeros c.in-Ok.ensures.read in
    next_number old.content c.args.file c.requires c.in_ok-first.first c.in_ok-length.length c.in-Ok.scan read.up_to read.ends
    ∙ ap (λ n. n + length c.in-Ok.scan.groups) (sym (c.in_ok-first.ensures.only tells first is))

pub returns-in-Ok-clause-next_slot : goal.returns-in-Ok-clause-next_slot
returns-in-Ok-clause-next_slot g c = λ tells.
    let view = g.D.Disk.view in
    let old = view c.args.disk.now in
    let behind = one_call old (view c.first_number.new.disk) (view c.length.new.self) c.length.result c.first_number.ensures.reads c.length.ensures.counts c.length.ensures.kept in
    let read = is_read old (view c.first_number.new.disk) (view c.length.new.self) c.args.file c.in_ok-first.first c.in_ok-length.length c.in-Ok.scan tells c.first_number.ensures.reads behind c.in_ok-length.ensures.zeros c.in-Ok.ensures.read in
    next_slot old.content c.args.file c.requires c.in_ok-first.first c.in_ok-length.length c.in-Ok.scan read.up_to read.ends

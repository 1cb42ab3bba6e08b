use Rattle.std.proofs.Common.{◌≡◌, ◌-◌, ◌∙◌}
use Rattle.rdb_outside.specs.Runs.{no_calls, one_call}
use Rattle.area_files.specs.Areas.{space_page_of}
use Rattle.page_faults.specs.Checks.{page_at}
use Rattle.page_faults.proofs.Reading.{read_there, misowned, image_same, told_on, differ}
use Rattle.page_faults.proofs.checks.is_misowned.Goals as goal

pub returns-in_default-clause-reads : goal.returns-in_default-clause-reads
returns-in_default-clause-reads g c =
    let v = g.D.Disk.view in
    let old = v c.args.disk.now in
    one_call old old (v c.read.new.self) c.read.result (no_calls old) c.read.ensures.counts c.read.ensures.kept

pub returns-in_err-read-2-clause-reads : goal.returns-in_err-read-2-clause-reads
returns-in_err-read-2-clause-reads g c =
    let v = g.D.Disk.view in
    let old = v c.args.disk.now in
    let first = one_call old old (v c.read.new.self) c.read.result (no_calls old) c.read.ensures.counts c.read.ensures.kept in
    one_call old (v c.read.new.self) (v c.read-2.new.self) c.read-2.result first c.read-2.ensures.counts c.read-2.ensures.kept

pub returns-in-Some-said_owner-clause-reads : goal.returns-in-Some-said_owner-clause-reads
returns-in-Some-said_owner-clause-reads g c =
    let v = g.D.Disk.view in
    let old = v c.args.disk.now in
    let first = one_call old old (v c.read.new.self) c.read.result (no_calls old) c.read.ensures.counts c.read.ensures.kept in
    one_call old (v c.read.new.self) (v c.read-2.new.self) c.read-2.result first c.read-2.ensures.counts c.read-2.ensures.kept

pub returns-in-None-clause-reads : goal.returns-in-None-clause-reads
returns-in-None-clause-reads g c =
    let v = g.D.Disk.view in
    let old = v c.args.disk.now in
    let first = one_call old old (v c.read.new.self) c.read.result (no_calls old) c.read.ensures.counts c.read.ensures.kept in
    one_call old (v c.read.new.self) (v c.read-2.new.self) c.read-2.result first c.read-2.ensures.counts c.read-2.ensures.kept

pub returns-in-Some-said_owner-clause-yes : goal.returns-in-Some-said_owner-clause-yes
returns-in-Some-said_owner-clause-yes g c = λ t is.
    let v = g.D.Disk.view in
    let old = v c.args.disk.now in
    let mid = v c.read.new.self in
    let file = c.args.file in
    let page = c.args.page in
    let first = one_call old old mid c.read.result (no_calls old) c.read.ensures.counts c.read.ensures.kept in
    let here : c.read.new.into ≡ page_at old.content file page = read_there old.content c.area_file.result c.slot_of.result file page c.read.new.into (c.in_ok-read.ensures.bytes t) c.area_file.ensures c.slot_of.ensures in
    let second : c.read-2.new.into ≡ mid.content c.area_file-2.result c.slot_of-2.result = c.in_ok-read-2.ensures.bytes (told_on old mid first t) in
    let place : c.slot_of-2.result ≡ space_page_of page - 1 = c.slot_of-2.ensures ∙ (λ i. c.space_page_of.ensures i - 1) in
    let there : c.read-2.new.into ≡ page_at old.content file (space_page_of page) = read_there old.content c.area_file-2.result c.slot_of-2.result file (space_page_of page) c.read-2.new.into (second ∙ (λ i. image_same old mid first t i c.area_file-2.result c.slot_of-2.result)) c.area_file-2.ensures place in
    misowned old.content file page c.read.new.into c.read-2.new.into c.in-Some.owner c.in-Some-said_owner.said here there c.requires.plain c.in-Some.ensures.some c.in-Some-said_owner.ensures.some (differ c.in-Some-said_owner.said c.in-Some.owner is)

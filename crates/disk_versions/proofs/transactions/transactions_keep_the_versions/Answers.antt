use Rattle.std.proofs.Common.{arith}
use Rattle.rdb_outside.specs.Disk.{Pending}
use Rattle.line_opening.specs.stable_lines.Slots.{file_of, slot_of}
use Rattle.line_opening.proofs.of_line_moves.Runs.{pends}
use Rattle.disk_versions.proofs.Beginnings.{begins, secures}
use Rattle.disk_versions.proofs.Ends.{ends, nowhere, in_group, as_it_was, now_shown, lands, on_top}
use Rattle.disk_versions.proofs.Flights.{takes_off, falls}
use Rattle.disk_versions.proofs.transactions.transactions_keep_the_versions.Goals as goal

pub returns-clause-begins : goal.returns-clause-begins
returns-clause-begins g c = λ now limit course member idle was. begins (g.D.Disk.view c.args.disk.now) now limit course member idle was

pub returns-clause-secures : goal.returns-clause-secures
returns-clause-secures g c = λ now limit course member transaction all is bases was. secures (g.D.Disk.view c.args.disk.now) now limit course member transaction all is bases was

pub returns-clause-nowhere : goal.returns-clause-nowhere
returns-clause-nowhere g c = let v = g.D.Disk.view c.args.disk.now in λ now member transaction facts is undone key.
    let left = g.met.D.Disk.content_left c.args.disk.now v.moment c.requires.tells (omega arith) in
    nowhere v now member transaction facts is left undone key

pub returns-clause-ends : goal.returns-clause-ends
returns-clause-ends g c = let v = g.D.Disk.view c.args.disk.now in λ now limit course member transaction facts is undone none was.
    let left = g.met.D.Disk.content_left c.args.disk.now v.moment c.requires.tells (omega arith) in
    ends v now limit course member transaction is (facts.going member transaction is).alone (nowhere v now member transaction facts is left undone) none was

pub returns-clause-takes_off : goal.returns-clause-takes_off
returns-clause-takes_off g c = λ now limit course flight was. takes_off (g.D.Disk.view c.args.disk.now) now limit course flight was

pub returns-clause-falls : goal.returns-clause-falls
returns-clause-falls g c = λ now limit course was. falls (g.D.Disk.view c.args.disk.now) now limit course was

pub returns-clause-lands : goal.returns-clause-lands
returns-clause-lands g c = let v = g.D.Disk.view c.args.disk.now in λ now limit course flight transaction all lines flies stands is seat put apart was.
    let left = g.met.D.Disk.content_left c.args.disk.now v.moment c.requires.tells (omega arith) in
    let alone = (flies.going flight.member transaction is).alone in
    lands v now limit course flight transaction is alone
    (λ key bears. now_shown (Pending v) now flight transaction is alone stands key (v.content (file_of key) (slot_of key)) (pends v left (file_of key) (slot_of key)) bears)
    (λ key other. as_it_was (Pending v) now flight transaction is flies key (v.content (file_of key) (slot_of key)) (pends v left (file_of key) (slot_of key)) other)
    was (on_top v course transaction.tsn all lines seat put)
    (λ m p i undo off open_too got bears.
    let its = in_group (Pending v) now flight transaction is flies undo.key (v.content (file_of undo.key) (slot_of undo.key)) (pends v left (file_of undo.key) (slot_of undo.key)) bears in
    apart m p i undo off open_too got its.index its.line its.is its.same_key)

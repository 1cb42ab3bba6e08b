use Rattle.std.proofs.Common.{rules, arith}
use Rattle.line_moves.proofs.Runs.{still_tells}
use Rattle.line_opening.proofs.Standing.{stands_now}
use Rattle.database_opening.proofs.Others.{file_unused, file_on}
use Rattle.database_opening.specs.Start.{beginning_with}
use Rattle.journal_backup.specs.Copied.{copy_named}
use Rattle.journal_backup.proofs.Calls.{copies_apart}
use Rattle.journal_backup.proofs.Moments.{copying_leaves, none_left, may_empty, emptying_leaves, emptied_left}
use Rattle.journal_backup.proofs.emptying.back_up_journal.Goals as goal

pub returns-then-next-le1-clause-within : goal.returns-then-next-le1-clause-within
returns-then-next-le1-clause-within g c = let old = g.D.Disk.view c.args.disk.now in let start = c.args.start.now in
    λ t classes lines journal begins. copying_leaves classes lines journal start c.args.number old old (stands_now old (beginning_with classes lines journal start) begins.facts)

pub returns-then-next-le1-clause-others : goal.returns-then-next-le1-clause-others
returns-then-next-le1-clause-others g c = λ t file aside. file_unused (g.D.Disk.view c.args.disk.now) t file

pub returns-then-next-clause-within : goal.returns-then-next-clause-within
returns-then-next-clause-within g c = let old = g.D.Disk.view c.args.disk.now in let start = c.args.start.now in
    λ t classes lines journal begins. copying_leaves classes lines journal start c.args.number old old (stands_now old (beginning_with classes lines journal start) begins.facts)

pub returns-then-next-clause-others : goal.returns-then-next-clause-others
returns-then-next-clause-others g c = λ t file aside. file_unused (g.D.Disk.view c.args.disk.now) t file

pub returns-then-next-le1-clause-backed_up : goal.returns-then-next-le1-clause-backed_up
returns-then-next-le1-clause-backed_up g c = let old = g.D.Disk.view c.args.disk.now in
    λ t classes lines journal begins image left.
    let content = g.met.D.Disk.content_left c.args.disk.now old.moment t (omega arith) in
    none_left classes lines journal c.args.start.now c.args.number old content begins (search rules) image left

pub returns-in_err-copy_journal-clause-within : goal.returns-in_err-copy_journal-clause-within
returns-in_err-copy_journal-clause-within g c = let v = g.D.Disk.view in let old = v c.args.disk.now in let start = c.args.start.now in
    λ t classes lines journal begins. copying_leaves classes lines journal start c.args.number old (v c.copy_journal.new.disk) (c.copy_journal.ensures.stands t (beginning_with classes lines journal start) begins.facts)

pub returns-in_err-copy_journal-clause-others : goal.returns-in_err-copy_journal-clause-others
returns-in_err-copy_journal-clause-others g c = λ t file aside. c.copy_journal.ensures.others t file aside.copy

pub returns-in_err-begin_anew-clause-within : goal.returns-in_err-begin_anew-clause-within
returns-in_err-begin_anew-clause-within g c = let v = g.D.Disk.view in let old = v c.args.disk.now in let mid = v c.copy_journal.new.disk in let new = v c.begin_anew.new.disk in let start = c.args.start.now in let number = c.args.number in
    λ t classes lines journal begins.
    let content = g.met.D.Disk.content_left c.args.disk.now old.moment t (omega arith) in
    let now = beginning_with classes lines journal start in
    let told = still_tells old mid c.copy_journal.ensures.told t in
    let keeps = c.copy_journal.ensures.others t in let copied = c.in_ok-copy_journal.ensures.copied t in let stable = c.in_ok-copy_journal.ensures.stable t in let ended = c.in_ok-copy_journal.ensures.ended t (let at = begins.next.in_slot in omega (arith, at)) in
    emptying_leaves classes lines journal start number old content begins mid keeps copied ended stable new (c.begin_anew.ensures.others (copy_named number) (copies_apart number) told)
    (c.copy_journal.ensures.stands t now begins.facts) (c.begin_anew.ensures.stands told now (may_empty classes lines journal start number old content begins mid keeps copied ended stable))

pub returns-in_err-begin_anew-clause-others : goal.returns-in_err-begin_anew-clause-others
returns-in_err-begin_anew-clause-others g c = let v = g.D.Disk.view in let old = v c.args.disk.now in let mid = v c.copy_journal.new.disk in
    λ t file aside. file_on old mid (v c.begin_anew.new.disk) file (c.copy_journal.ensures.others t file aside.copy) (c.begin_anew.ensures.others file aside.journal (still_tells old mid c.copy_journal.ensures.told t))

pub returns-clause-within : goal.returns-clause-within
returns-clause-within g c = let v = g.D.Disk.view in let old = v c.args.disk.now in let mid = v c.copy_journal.new.disk in let new = v c.begin_anew.new.disk in let start = c.args.start.now in let number = c.args.number in
    λ t classes lines journal begins.
    let content = g.met.D.Disk.content_left c.args.disk.now old.moment t (omega arith) in
    let now = beginning_with classes lines journal start in
    let told = still_tells old mid c.copy_journal.ensures.told t in
    let keeps = c.copy_journal.ensures.others t in let copied = c.in_ok-copy_journal.ensures.copied t in let stable = c.in_ok-copy_journal.ensures.stable t in let ended = c.in_ok-copy_journal.ensures.ended t (let at = begins.next.in_slot in omega (arith, at)) in
    emptying_leaves classes lines journal start number old content begins mid keeps copied ended stable new (c.begin_anew.ensures.others (copy_named number) (copies_apart number) told)
    (c.copy_journal.ensures.stands t now begins.facts) (c.begin_anew.ensures.stands told now (may_empty classes lines journal start number old content begins mid keeps copied ended stable))

pub returns-clause-others : goal.returns-clause-others
returns-clause-others g c = let v = g.D.Disk.view in let old = v c.args.disk.now in let mid = v c.copy_journal.new.disk in
    λ t file aside. file_on old mid (v c.begin_anew.new.disk) file (c.copy_journal.ensures.others t file aside.copy) (c.begin_anew.ensures.others file aside.journal (still_tells old mid c.copy_journal.ensures.told t))

pub returns-clause-backed_up : goal.returns-clause-backed_up
returns-clause-backed_up g c = let v = g.D.Disk.view in let old = v c.args.disk.now in let mid = v c.copy_journal.new.disk in let new = v c.begin_anew.new.disk in let start = c.args.start.now in let number = c.args.number in
    λ t classes lines journal begins image left.
    let content = g.met.D.Disk.content_left c.args.disk.now old.moment t (omega arith) in
    let now = beginning_with classes lines journal start in
    let told = still_tells old mid c.copy_journal.ensures.told t in
    let keeps = c.copy_journal.ensures.others t in let copied = c.in_ok-copy_journal.ensures.copied t in let stable = c.in_ok-copy_journal.ensures.stable t in let ended = c.in_ok-copy_journal.ensures.ended t (let at = begins.next.in_slot in omega (arith, at)) in
    emptied_left classes lines journal start number old content begins mid keeps copied ended stable new (c.begin_anew.ensures.others (copy_named number) (copies_apart number) told)
    (c.in_ok-begin_anew.ensures.begun told now (may_empty classes lines journal start number old content begins mid keeps copied ended stable)) image left

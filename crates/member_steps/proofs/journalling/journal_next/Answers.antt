use Rattle.std.proofs.Common.{rules, ◌≡◌, ◌+◌, ◌∙◌, Ok, inl, inr, ⊎_elim, ap, arith}
use Rattle.rdb_types.specs.declared.keys.Tsn.{Tsn}
use Rattle.disk_seats.specs.stable_lines.Slots.{ruj_file}
use Rattle.disk_seats.proofs.of_line_moves.Runs.{writes_none, reads_then_writes, still_tells}
use Rattle.member_steps.proofs.Journals.{none_written, names_now, page_there, read_ledger, with_line}
use Rattle.member_steps.proofs.journalling.journal_next.Goals as goal

pub returns-in_err-needed-clause-writes : goal.returns-in_err-needed-clause-writes
returns-in_err-needed-clause-writes g c = let v = g.D.Disk.view in (0, writes_none (ruj_file c.args.member) 0 (v c.args.disk.now) (v c.needs_header.new.disk) c.needs_header.ensures.reads)

pub returns-in_err-needed-clause-keeps : goal.returns-in_err-needed-clause-keeps
returns-in_err-needed-clause-keeps g c = let v = g.D.Disk.view in λ t ledger o all n was is going same count. inl (read_ledger (v c.args.disk.now) (v c.needs_header.new.disk) ledger t c.needs_header.ensures.reads was)

pub returns-in_err-name_header-clause-writes : goal.returns-in_err-name_header-clause-writes
returns-in_err-name_header-clause-writes g c = let v = g.D.Disk.view in (0, reads_then_writes (v c.args.disk.now) (v c.needs_header.new.disk) (v c.name_header.new.disk) (ruj_file c.args.member) 0 c.needs_header.ensures.reads c.name_header.ensures.writes)

pub returns-in_err-name_header-clause-keeps : goal.returns-in_err-name_header-clause-keeps
returns-in_err-name_header-clause-keeps g c = let v = g.D.Disk.view in λ t ledger o all n was is going same count.
    let old = v c.args.disk.now in let mid = v c.needs_header.new.disk in let reads = c.needs_header.ensures.reads in
    let first : c.args.written ≡ 0 = c.in_ok-needed.ensures.needed (ap Ok c.if-needed.true) in
    let here = read_ledger old mid ledger t reads was in
    inl (c.name_header.ensures.keeps (still_tells old mid reads.told t) ledger o here (none_written mid ledger here c.args.member all n is (omega (arith, first, count))) going same)

pub returns-then-needed-clause-writes : goal.returns-then-needed-clause-writes
returns-then-needed-clause-writes g c = let v = g.D.Disk.view in (0, reads_then_writes (v c.args.disk.now) (v c.needs_header.new.disk) (v c.name_header.new.disk) (ruj_file c.args.member) 0 c.needs_header.ensures.reads c.name_header.ensures.writes)

pub returns-then-needed-clause-keeps : goal.returns-then-needed-clause-keeps
returns-then-needed-clause-keeps g c = let v = g.D.Disk.view in λ t ledger o all n was is going same count.
    let old = v c.args.disk.now in let mid = v c.needs_header.new.disk in let reads = c.needs_header.ensures.reads in
    let first : c.args.written ≡ 0 = c.in_ok-needed.ensures.needed (ap Ok c.if-needed.true) in
    let here = read_ledger old mid ledger t reads was in
    inl (c.name_header.ensures.keeps (still_tells old mid reads.told t) ledger o here (none_written mid ledger here c.args.member all n is (omega (arith, first, count))) going same)

pub returns-then-needed-clause-goes_on : goal.returns-then-needed-clause-goes_on
returns-then-needed-clause-goes_on g c = let v = g.D.Disk.view in λ t ledger o all n was is going same count none left within.
    let old = v c.args.disk.now in let mid = v c.needs_header.new.disk in let reads = c.needs_header.ensures.reads in
    let first : c.args.written ≡ 0 = c.in_ok-needed.ensures.needed (ap Ok c.if-needed.true) in
    let here = read_ledger old mid ledger t reads was in
    c.name_header.ensures.keeps (still_tells old mid reads.told t) ledger o here (none_written mid ledger here c.args.member all n is (omega (arith, first, count))) going same

pub returns-in_err-journal-clause-writes : goal.returns-in_err-journal-clause-writes
returns-in_err-journal-clause-writes g c = let v = g.D.Disk.view in (c.args.written + 1, reads_then_writes (v c.args.disk.now) (v c.needs_header.new.disk) (v c.journal.new.disk) (ruj_file c.args.member) (c.args.written + 1) c.needs_header.ensures.reads c.journal.ensures.writes)

pub returns-in_err-journal-clause-keeps : goal.returns-in_err-journal-clause-keeps
returns-in_err-journal-clause-keeps g c = let v = g.D.Disk.view in λ t ledger o all n was is going same count.
    let old = v c.args.disk.now in let mid = v c.needs_header.new.disk in let reads = c.needs_header.ensures.reads in
    inr (c.journal.ensures.keeps (still_tells old mid reads.told t) ledger o all n (read_ledger old mid ledger t reads was) is going same (omega (arith, count)))

pub returns-clause-writes : goal.returns-clause-writes
returns-clause-writes g c = let v = g.D.Disk.view in (c.args.written + 1, reads_then_writes (v c.args.disk.now) (v c.needs_header.new.disk) (v c.journal.new.disk) (ruj_file c.args.member) (c.args.written + 1) c.needs_header.ensures.reads c.journal.ensures.writes)

pub returns-clause-keeps : goal.returns-clause-keeps
returns-clause-keeps g c = let v = g.D.Disk.view in λ t ledger o all n was is going same count.
    let old = v c.args.disk.now in let mid = v c.needs_header.new.disk in let reads = c.needs_header.ensures.reads in
    inr (c.journal.ensures.keeps (still_tells old mid reads.told t) ledger o all n (read_ledger old mid ledger t reads was) is going same (omega (arith, count)))

pub returns-clause-goes_on : goal.returns-clause-goes_on
returns-clause-goes_on g c = let v = g.D.Disk.view in λ t ledger o all n was is going same count none left within.
    let old = v c.args.disk.now in let mid = v c.needs_header.new.disk in let reads = c.needs_header.ensures.reads in
    let here = read_ledger old mid ledger t reads was in
    with_line old (v c.journal.new.disk) mid ledger c.args.member all n c.args.key t reads
    (c.in_ok-journal.ensures.journalled (still_tells old mid reads.told t) ledger o all n here is going same (omega (arith, count)) (names_now mid ledger here c.args.member o all n is going (⊎_elim (λ some. inl (omega (arith, some, count))) (λ names. inr (names ∙ ap (λ (n : Tsn). n.number) same)) (c.in_ok-needed.ensures.named (ap Ok c.if-needed.false) t))) none left within)

pub returns-in_err-needed-clause-bad : goal.returns-in_err-needed-clause-bad
returns-in_err-needed-clause-bad g c = λ file slot is t member ledger was. c.needs_header.ensures.bad file slot (search rules) t member ledger was

pub returns-in_err-journal-clause-bad : goal.returns-in_err-journal-clause-bad
returns-in_err-journal-clause-bad g c = let v = g.D.Disk.view in λ file slot is t member ledger was.
    let old = v c.args.disk.now in let mid = v c.needs_header.new.disk in let reads = c.needs_header.ensures.reads in
    let now = still_tells old mid reads.told t in
    c.journal.ensures.bad file slot (search rules) now (page_there mid ledger (g.met.D.Disk.content_left c.needs_header.new.disk mid.moment now (omega arith)) (read_ledger old mid ledger t reads was) c.args.key c.args.place c.requires.place)

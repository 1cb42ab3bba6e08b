use Rattle.std.proofs.Common.{rules, ◌≤◌, List, ℕ, sym, subst, arith}
use Rattle.rdb_outside.specs.Runs.{no_calls, then_reads}
use Rattle.line_moves.specs.stable_lines.Slots.{ruj_file}
use Rattle.line_moves.specs.stable_lines.Kept.{IsRujHeader}
use Rattle.line_moves.proofs.Runs.{still_tells, facts_read, writes_none, reads_then_writes}
use Rattle.line_opening.proofs.Closed.{passed_over, closed_there, all_closed}
use Rattle.line_opening.proofs.closing.close_next.Goals as goal

pub loop-member-init : goal.loop-member-init
loop-member-init g c = record { reads = no_calls (g.D.Disk.view c.args.disk.now); closed = λ t was. was }

pub returns-in_err-named_by-clause-writes : goal.returns-in_err-named_by-clause-writes
returns-in_err-named_by-clause-writes g c = let v = g.D.Disk.view in let old = v c.args.disk.now in let mid = v c.loop-member.disk in let new = v c.named_by.new.disk in
    (0, writes_none (ruj_file 0) 0 old new (then_reads old mid new c.loop-member.invariant.reads c.named_by.ensures.reads))

pub returns-in_err-named_by-clause-keeps : goal.returns-in_err-named_by-clause-keeps
returns-in_err-named_by-clause-keeps g c = let v = g.D.Disk.view in let old = v c.args.disk.now in let mid = v c.loop-member.disk in let new = v c.named_by.new.disk in
    λ t now was none first. facts_read old new (then_reads old mid new c.loop-member.invariant.reads c.named_by.ensures.reads) t now was

pub returns-in-Ok-clause-writes : goal.returns-in-Ok-clause-writes
returns-in-Ok-clause-writes g c = let v = g.D.Disk.view in let old = v c.args.disk.now in let mid = v c.loop-member.disk in let read = v c.named_by.new.disk in let new = v c.close_header.new.disk in
    (c.loop-member.member, reads_then_writes old read new (ruj_file c.loop-member.member) 0 (then_reads old mid read c.loop-member.invariant.reads c.named_by.ensures.reads) c.close_header.ensures.writes)

pub returns-in-Err-clause-writes : goal.returns-in-Err-clause-writes
returns-in-Err-clause-writes g c = let v = g.D.Disk.view in let old = v c.args.disk.now in let mid = v c.loop-member.disk in let read = v c.named_by.new.disk in let new = v c.close_header.new.disk in
    (c.loop-member.member, reads_then_writes old read new (ruj_file c.loop-member.member) 0 (then_reads old mid read c.loop-member.invariant.reads c.named_by.ensures.reads) c.close_header.ensures.writes)

pub returns-in-Ok-clause-keeps : goal.returns-in-Ok-clause-keeps
returns-in-Ok-clause-keeps g c = let v = g.D.Disk.view in let old = v c.args.disk.now in let mid = v c.loop-member.disk in let read = v c.named_by.new.disk in
    let reads = then_reads old mid read c.loop-member.invariant.reads c.named_by.ensures.reads in
    λ t now was none first. c.close_header.ensures.keeps (still_tells old read reads.told t) now (facts_read old read reads t now was) (none c.loop-member.member) first

pub returns-in-Err-clause-keeps : goal.returns-in-Err-clause-keeps
returns-in-Err-clause-keeps g c = let v = g.D.Disk.view in let old = v c.args.disk.now in let mid = v c.loop-member.disk in let read = v c.named_by.new.disk in
    let reads = then_reads old mid read c.loop-member.invariant.reads c.named_by.ensures.reads in
    λ t now was none first. c.close_header.ensures.keeps (still_tells old read reads.told t) now (facts_read old read reads t now was) (none c.loop-member.member) first

pub returns-in-Ok-clause-closed : goal.returns-in-Ok-clause-closed
returns-in-Ok-clause-closed g c = let v = g.D.Disk.view in let old = v c.args.disk.now in let mid = v c.loop-member.disk in let read = v c.named_by.new.disk in let new = v c.close_header.new.disk in
    let reads = then_reads old mid read c.loop-member.invariant.reads c.named_by.ensures.reads in
    λ t was. let told = still_tells old read reads.told t in
    closed_there old read new c.loop-member.member reads t told c.close_header.ensures.writes (c.in-Ok.ensures.names told) (c.loop-member.invariant.closed t was)

pub loop-member-preserved : goal.loop-member-preserved
loop-member-preserved g c = let v = g.D.Disk.view in let old = v c.args.disk.now in let mid = v c.loop-member.disk in let read = v c.named_by.new.disk in
    let so_far = c.loop-member.invariant in
    record {
      reads = then_reads old mid read so_far.reads c.named_by.ensures.reads;
      closed = λ t was. passed_over old mid c.loop-member.member _ so_far.reads t (c.in_ok-named_by.ensures.names (still_tells old mid so_far.reads.told t)) (search rules) (so_far.closed t was);
    }

pub returns-clause-writes : goal.returns-clause-writes
returns-clause-writes g c = let v = g.D.Disk.view in
    (0, writes_none (ruj_file 0) 0 (v c.args.disk.now) (v c.loop-member.disk) c.loop-member.invariant.reads)

pub returns-clause-keeps : goal.returns-clause-keeps
returns-clause-keeps g c = let v = g.D.Disk.view in
    λ t now was none first. facts_read (v c.args.disk.now) (v c.loop-member.disk) c.loop-member.invariant.reads t now was

pub returns-clause-closed : goal.returns-clause-closed
returns-clause-closed g c = let v = g.D.Disk.view in λ t was.
    let past : 17 ≤ c.loop-member.member = search rules in
    all_closed (v c.args.disk.now) (v c.loop-member.disk) c.loop-member.member 17 c.loop-member.invariant.reads t past (c.loop-member.invariant.closed t was)

pub returns-in_err-named_by-clause-bad : goal.returns-in_err-named_by-clause-bad
returns-in_err-named_by-clause-bad g c = let v = g.D.Disk.view in let old = v c.args.disk.now in let mid = v c.loop-member.disk in let reads = c.loop-member.invariant.reads in
    λ file slot bad t first all. let less = c.loop-member-test.true in let from_on : c.args.from ≤ c.loop-member.member = search rules in
    c.named_by.ensures.bad file slot (search rules) (still_tells old mid reads.told t)
    (subst (λ (b : List ℕ). IsRujHeader b) (sym ((reads.keeps t).content (ruj_file c.loop-member.member) 0)) (all c.loop-member.member (record { first = omega (arith, first, from_on); last = omega (arith, less) })))

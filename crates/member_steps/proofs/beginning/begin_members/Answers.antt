use Rattle.std.proofs.Common.{◌≡◌, List, ℕ, sym, subst, arith}
use Rattle.rdb_outside.specs.Disk.{Image, IsPending, Pending}
use Rattle.rdb_outside.specs.Moments.{weaker}
use Rattle.root_file.specs.Root.{IsRoot}
use Rattle.new_database.specs.Maker.{root_file}
use Rattle.disk_seats.proofs.of_line_moves.Runs.{facts_read, still_tells}
use Rattle.member_steps.proofs.Begun.{begun}
use Rattle.member_steps.proofs.Raised.{others_written, pending_written, beside_written, left_written, others_settled, pending_settled, beside_settled, left_settled}
use Rattle.disk_seats.proofs.of_line_opening.Standing.{read_stands}
use Rattle.member_steps.proofs.beginning.begin_members.Goals as goal

pub returns-in_err-root-clause-keeps : goal.returns-in_err-root-clause-keeps
returns-in_err-root-clause-keeps g c = let v = g.D.Disk.view in λ t base was same. facts_read (v c.args.disk.now) (v c.next_root.new.disk) c.next_root.ensures.reads t base was

pub returns-in_err-write_root-clause-keeps : goal.returns-in_err-write_root-clause-keeps
returns-in_err-write_root-clause-keeps g c = let v = g.D.Disk.view in λ t base was same.
    let old = v c.args.disk.now in let mid = v c.next_root.new.disk in let reads = c.next_root.ensures.reads in let top = c.in_ok-root.ensures.raised.2 in
    c.write_root.ensures.keeps (still_tells old mid reads.told t) base (facts_read old mid reads t base was) (c.in_ok-root.ensures.limits t base was) (omega (arith, top, same))

pub returns-in_err-make_stable-clause-keeps : goal.returns-in_err-make_stable-clause-keeps
returns-in_err-make_stable-clause-keeps g c = let v = g.D.Disk.view in λ t base was same.
    let old = v c.args.disk.now in let mid = v c.next_root.new.disk in let put = v c.write_root.new.disk in let reads = c.next_root.ensures.reads in let top = c.in_ok-root.ensures.raised.2 in
    let told = still_tells old mid reads.told t in
    c.make_stable.ensures.keeps (still_tells mid put c.write_root.ensures.writes.told told) base
    (c.write_root.ensures.keeps told base (facts_read old mid reads t base was) (c.in_ok-root.ensures.limits t base was) (omega (arith, top, same)))

pub returns-clause-keeps : goal.returns-clause-keeps
returns-clause-keeps g c = let v = g.D.Disk.view in λ t base was same.
    let old = v c.args.disk.now in let mid = v c.next_root.new.disk in let put = v c.write_root.new.disk in let reads = c.next_root.ensures.reads in let top = c.in_ok-root.ensures.raised.2 in
    let told = still_tells old mid reads.told t in
    c.make_stable.ensures.keeps (still_tells mid put c.write_root.ensures.writes.told told) base
    (c.write_root.ensures.keeps told base (facts_read old mid reads t base was) (c.in_ok-root.ensures.limits t base was) (omega (arith, top, same)))

pub returns-clause-begins : goal.returns-clause-begins
returns-clause-begins g c = let v = g.D.Disk.view in λ t base was same rest.
    let old = v c.args.disk.now in let mid = v c.next_root.new.disk in let put = v c.write_root.new.disk in let reads = c.next_root.ensures.reads in let top = c.in_ok-root.ensures.raised.2 in
    let told = still_tells old mid reads.told t in let told_behind = still_tells mid put c.write_root.ensures.writes.told told in
    begun (v c.make_stable.new.disk) c.in_ok-root.root (c.in_ok-make_stable.ensures.stable told_behind)
    (subst (λ (b : List ℕ). IsRoot b c.in_ok-root.root) (sym ((c.make_stable.ensures.reads.keeps told_behind).content root_file 0)) (c.in_ok-write_root.ensures.stands told))
    base c.args.next_tsn
    (c.make_stable.ensures.keeps told_behind base (c.write_root.ensures.keeps told base (facts_read old mid reads t base was) (c.in_ok-root.ensures.limits t base was) (omega (arith, top, same))))
    rest c.in_ok-root.ensures.raised.1 top

pub returns-in_err-root-clause-others : goal.returns-in_err-root-clause-others
returns-in_err-root-clause-others g c = λ t file slot other. (c.next_root.ensures.reads.keeps t).content file slot

pub returns-in_err-root-clause-leaves : goal.returns-in_err-root-clause-leaves
returns-in_err-root-clause-leaves g c = let v = g.D.Disk.view in λ t base was same. read_stands (v c.args.disk.now) (v c.next_root.new.disk) base c.next_root.ensures.reads t was

pub returns-in_err-write_root-clause-others : goal.returns-in_err-write_root-clause-others
returns-in_err-write_root-clause-others g c = let v = g.D.Disk.view in λ t file slot other.
    others_written (v c.args.disk.now) (v c.next_root.new.disk) (v c.write_root.new.disk) c.next_root.ensures.reads c.write_root.ensures.writes t file slot other

pub returns-in_err-write_root-clause-leaves : goal.returns-in_err-write_root-clause-leaves
returns-in_err-write_root-clause-leaves g c = let v = g.D.Disk.view in λ t base was same.
    let old = v c.args.disk.now in let mid = v c.next_root.new.disk in let reads = c.next_root.ensures.reads in let top = c.in_ok-root.ensures.raised.2 in
    left_written old mid (v c.write_root.new.disk) reads c.write_root.ensures.writes t base was
    (c.write_root.ensures.keeps (still_tells old mid reads.told t) base (facts_read old mid reads t base was) (c.in_ok-root.ensures.limits t base was) (omega (arith, top, same)))

pub returns-in_err-make_stable-clause-others : goal.returns-in_err-make_stable-clause-others
returns-in_err-make_stable-clause-others g c = let v = g.D.Disk.view in λ t file slot other.
    others_settled (v c.args.disk.now) (v c.next_root.new.disk) (v c.write_root.new.disk) c.next_root.ensures.reads c.write_root.ensures.writes t (v c.make_stable.new.disk) c.make_stable.ensures.reads file slot other

pub returns-in_err-make_stable-clause-leaves : goal.returns-in_err-make_stable-clause-leaves
returns-in_err-make_stable-clause-leaves g c = let v = g.D.Disk.view in λ t base was same.
    let old = v c.args.disk.now in let mid = v c.next_root.new.disk in let reads = c.next_root.ensures.reads in let top = c.in_ok-root.ensures.raised.2 in
    left_settled old mid (v c.write_root.new.disk) reads c.write_root.ensures.writes t (v c.make_stable.new.disk) c.make_stable.ensures.reads base was
    (c.write_root.ensures.keeps (still_tells old mid reads.told t) base (facts_read old mid reads t base was) (c.in_ok-root.ensures.limits t base was) (omega (arith, top, same)))

pub returns-clause-others : goal.returns-clause-others
returns-clause-others g c = let v = g.D.Disk.view in λ t file slot other.
    others_settled (v c.args.disk.now) (v c.next_root.new.disk) (v c.write_root.new.disk) c.next_root.ensures.reads c.write_root.ensures.writes t (v c.make_stable.new.disk) c.make_stable.ensures.reads file slot other

pub returns-clause-leaves : goal.returns-clause-leaves
returns-clause-leaves g c = let v = g.D.Disk.view in λ t base was same.
    let old = v c.args.disk.now in let mid = v c.next_root.new.disk in let reads = c.next_root.ensures.reads in let top = c.in_ok-root.ensures.raised.2 in
    left_settled old mid (v c.write_root.new.disk) reads c.write_root.ensures.writes t (v c.make_stable.new.disk) c.make_stable.ensures.reads base was
    (c.write_root.ensures.keeps (still_tells old mid reads.told t) base (facts_read old mid reads t base was) (c.in_ok-root.ensures.limits t base was) (omega (arith, top, same)))

pub returns-clause-stands : goal.returns-clause-stands
returns-clause-stands g c = let v = g.D.Disk.view in λ t.
    let old = v c.args.disk.now in let mid = v c.next_root.new.disk in let put = v c.write_root.new.disk in
    let told = still_tells old mid c.next_root.ensures.reads.told t in
    subst (λ (b : List ℕ). IsRoot b c.in_ok-root.root) (sym ((c.make_stable.ensures.reads.keeps (still_tells mid put c.write_root.ensures.writes.told told)).content root_file 0)) (c.in_ok-write_root.ensures.stands told)

pub returns-clause-stable : goal.returns-clause-stable
returns-clause-stable g c = let v = g.D.Disk.view in λ t.
    let old = v c.args.disk.now in let mid = v c.next_root.new.disk in let put = v c.write_root.new.disk in
    c.in_ok-make_stable.ensures.stable (still_tells mid put c.write_root.ensures.writes.told (still_tells old mid c.next_root.ensures.reads.told t))

pub returns-in_err-root-clause-pending : goal.returns-in_err-root-clause-pending
returns-in_err-root-clause-pending g c = λ t file slot bytes other p. (c.next_root.ensures.reads.keeps t).pending file slot bytes p

pub returns-in_err-root-clause-beside : goal.returns-in_err-root-clause-beside
returns-in_err-root-clause-beside g c = let v = g.D.Disk.view in λ t file other.
    weaker (v c.args.disk.now) (v c.next_root.new.disk) (IsPending (v c.args.disk.now)) (λ (image : Image). (slot : ℕ) → Pending (v c.args.disk.now) file slot (image file slot)) (λ image is slot. is file slot) (c.next_root.ensures.reads.leaves t)

pub returns-in_err-write_root-clause-pending : goal.returns-in_err-write_root-clause-pending
returns-in_err-write_root-clause-pending g c = let v = g.D.Disk.view in λ t.
    pending_written (v c.args.disk.now) (v c.next_root.new.disk) (v c.write_root.new.disk) c.next_root.ensures.reads c.write_root.ensures.writes t

pub returns-in_err-write_root-clause-beside : goal.returns-in_err-write_root-clause-beside
returns-in_err-write_root-clause-beside g c = let v = g.D.Disk.view in λ t.
    beside_written (v c.args.disk.now) (v c.next_root.new.disk) (v c.write_root.new.disk) c.next_root.ensures.reads c.write_root.ensures.writes t

pub returns-in_err-make_stable-clause-pending : goal.returns-in_err-make_stable-clause-pending
returns-in_err-make_stable-clause-pending g c = let v = g.D.Disk.view in λ t.
    pending_settled (v c.args.disk.now) (v c.next_root.new.disk) (v c.write_root.new.disk) c.next_root.ensures.reads c.write_root.ensures.writes t (v c.make_stable.new.disk) c.make_stable.ensures.reads

pub returns-in_err-make_stable-clause-beside : goal.returns-in_err-make_stable-clause-beside
returns-in_err-make_stable-clause-beside g c = let v = g.D.Disk.view in λ t.
    beside_settled (v c.args.disk.now) (v c.next_root.new.disk) (v c.write_root.new.disk) c.next_root.ensures.reads c.write_root.ensures.writes t (v c.make_stable.new.disk) c.make_stable.ensures.reads

pub returns-clause-pending : goal.returns-clause-pending
returns-clause-pending g c = let v = g.D.Disk.view in λ t.
    pending_settled (v c.args.disk.now) (v c.next_root.new.disk) (v c.write_root.new.disk) c.next_root.ensures.reads c.write_root.ensures.writes t (v c.make_stable.new.disk) c.make_stable.ensures.reads

pub returns-clause-beside : goal.returns-clause-beside
returns-clause-beside g c = let v = g.D.Disk.view in λ t.
    beside_settled (v c.args.disk.now) (v c.next_root.new.disk) (v c.write_root.new.disk) c.next_root.ensures.reads c.write_root.ensures.writes t (v c.make_stable.new.disk) c.make_stable.ensures.reads

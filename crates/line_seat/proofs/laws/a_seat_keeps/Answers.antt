use Rattle.std.proofs.Common.{arith, refl}
use Rattle.line_seat.proofs.SeatStays.{stays_reads, stays_aside, stays_beside, stays_headed}
use Rattle.line_seat.proofs.laws.a_seat_keeps.Goals as goal

pub returns-clause-reads : goal.returns-clause-reads
returns-clause-reads g c = let v = g.D.Disk.view in λ now s o all n reads was. stays_reads (v c.args.before.now) (v c.args.after.now) c.requires.tells reads now s o all n was

pub returns-clause-aside : goal.returns-clause-aside
returns-clause-aside g c = let v = g.D.Disk.view in λ now s o all n file slot other rest was. stays_aside (v c.args.before.now) (v c.args.after.now) file slot c.requires.tells other rest now s o all n was

pub returns-clause-beside : goal.returns-clause-beside
returns-clause-beside g c = let v = g.D.Disk.view in λ now s o all n other slot apart le rest was. stays_beside (v c.args.before.now) (v c.args.after.now) other slot c.requires.tells rest now s o all n apart was le

pub returns-clause-headed : goal.returns-clause-headed
returns-clause-headed g c = let v = g.D.Disk.view in λ now s o all n other theirs apart is rest headers was.
    stays_headed (v c.args.before.now) (v c.args.after.now) other 0 c.requires.tells rest now s o all n apart was theirs.tsn.number headers refl (λ i undo got le. (was.before i undo got).committed.not_open other theirs is)

pub returns-clause-closed : goal.returns-clause-closed
returns-clause-closed g c = let v = g.D.Disk.view in λ now s o all n other apart rest headers was.
    stays_headed (v c.args.before.now) (v c.args.after.now) other 0 c.requires.tells rest now s o all n apart was 0 headers refl (λ i undo got le zero. omega (arith, le, zero))

use Rattle.std.proofs.Common.{sym, subst}
use Rattle.line_store.specs.Seats.{outside, IsReader}
use Rattle.line_store.specs.Calls.{Moves}
use Rattle.disk_store.specs.declared.member.Member.{Member}
use Rattle.disk_store.specs.Seats.{stand_of}
use Rattle.disk_store.specs.Shown.{DoesOn}
use Rattle.disk_store.proofs.EndedReading.{does-end-reading, kept-outside}
use Rattle.disk_store.proofs.starts.leave_reading.Goals as goal

pub returns-clause-comes : goal.returns-clause-comes
returns-clause-comes g c =
    let v = g.D.Disk.view c.args._disk.now in
    let s = c.args.s.number in
    let held = c.args.held.now in
    let comes = c.keep_start.ensures in
    let m : Member = comes.0 in
    subst (λ new. DoesOn s outside (Moves s outside) v held v new) (sym comes.2)
    (does-end-reading v held s m comes.1 (subst (λ x. IsReader (stand_of x)) comes.1 c.requires.reader) _)

pub returns-clause-outside : goal.returns-clause-outside
returns-clause-outside g c = let comes = c.keep_start.ensures in kept-outside c.args.held.now c.keep_start.new.self c.args.s.number comes.0 _ comes.1 comes.2

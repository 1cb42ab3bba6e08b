use Rattle.std.proofs.Common.{List, take}
use Rattle.lock_needs.specs.declared.need.Need.{Need as LockNeed}
use Rattle.line_view.specs.Knowledge.{Lines, IsInOrder, Agrees}
use Rattle.line_view.specs.Held.{knows}
use Rattle.line_view.specs.Writes.{laid_all}
use Rattle.kept_apart.specs.Guards.{AreOwn}
use Rattle.kept_apart.specs.Alike.{IsGuarded}
use Rattle.stepped_jobs.proofs.applying.follow.Given as goal

abbrev pub invariant-loop-write : goal.invariant-loop-write
invariant-loop-write l =
    ((all : Lines) → IsInOrder all → Agrees (knows l.fn.known) all → Agrees (knows l.known) (laid_all (take l.write-index l.writes) all))
    × ((got : List LockNeed) → AreOwn got l.writes → IsGuarded got (knows l.fn.known) → IsGuarded got (knows l.known))

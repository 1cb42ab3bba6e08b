use Rattle.std.proofs.Common.{◌≡◌}
use Rattle.agreement.proofs.RoomPages.{AreUpTo}
use Rattle.agreement.proofs.rooms.learn_rooms.Given as goal

abbrev pub invariant-loop-it : goal.invariant-loop-it
invariant-loop-it l = record { pages : AreUpTo l.page l.known.rooms; lines : l.known.lines ≡ l.fn.known.lines; areas : l.known.areas ≡ l.fn.known.areas }

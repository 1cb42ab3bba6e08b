use Rattle.std.proofs.Common.{◌≡◌, ◌++◌, map, drop}
use Rattle.reserved_locks.specs.Reserved.{lock_in, some_need, AreOnAreas}
use Rattle.reserved_locks.proofs.locks.locks_in.Given as goal

-- the locks so far, and those of the reservations that are left, are those of all
abbrev pub invariant-loop-reservation : goal.invariant-loop-reservation
invariant-loop-reservation l = (map some_need l.locks ++ map (lock_in l.tables) (drop l.reservation-index l.reserved) ≡ map (lock_in l.tables) l.reserved) × AreOnAreas l.locks

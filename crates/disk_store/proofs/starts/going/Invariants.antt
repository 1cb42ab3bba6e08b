use Rattle.std.proofs.Common.{◌≡◌, take, map}
use Rattle.disk_store.specs.Readers.{numbers_going}
use Rattle.disk_store.proofs.starts.going.Given as goal

abbrev pub invariant-loop-member : goal.invariant-loop-member
invariant-loop-member l = map (λ t. t.number) l.going.items ≡ numbers_going (take l.member-index l.members)

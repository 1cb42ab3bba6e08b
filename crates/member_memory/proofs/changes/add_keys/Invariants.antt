use Rattle.member_memory.proofs.Adding.{AddsSome}
use Rattle.member_memory.proofs.changes.add_keys.Given as goal

abbrev pub invariant-loop-write : goal.invariant-loop-write
invariant-loop-write l = AddsSome l.tsn l.limit l.writes l.write-index (record { lines = l.fn.lines; keys = l.fn.keys.items }) (record { lines = l.lines; keys = l.keys.items })

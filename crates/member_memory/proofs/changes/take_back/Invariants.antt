use Rattle.std.proofs.Common.{◌≡◌, List, length, vec_len}
use Rattle.rdb_types.specs.declared.keys.Tsn.{Tsn}
use Rattle.line_view.specs.declared.writes.Write.{Write}
use Rattle.member_memory.specs.Memory.{Memory}
use Rattle.member_memory.specs.Changes.{Grows}
use Rattle.member_memory.proofs.changes.take_back.Given as goal

abbrev pub invariant-loop-keys : goal.invariant-loop-keys
invariant-loop-keys l = (tsn : Tsn) (writes : List Write) (old : Memory) → Grows tsn writes old (record { lines = l.fn.lines; keys = l.fn.keys.items }) → l.count ≡ length old.keys
    → Grows tsn writes old (record { lines = l.lines; keys = l.keys.items })

abbrev pub decreases-loop-keys : goal.decreases-loop-keys
decreases-loop-keys l = vec_len l.keys

use Rattle.std.proofs.Common.{◌≡◌, take}
use Rattle.member_memory.specs.Changes.{rewritten_all}
use Rattle.member_memory.proofs.changes.rewrite_all.Given as goal

abbrev pub invariant-loop-write : goal.invariant-loop-write
invariant-loop-write l = l.lines ≡ rewritten_all (take l.write-index l.writes) l.fn.lines

use Rattle.std.proofs.Common.{◌≡◌, take}
use Rattle.line_view.specs.Writes.{laid_all}
use Rattle.member_memory.specs.Memory.{writes_in}
use Rattle.memory_store.proofs.lines.lay.Given as goal

abbrev pub invariant-loop-key : goal.invariant-loop-key
invariant-loop-key l = l.lines ≡ laid_all (writes_in (take l.key-index l.own)) l.fn.lines

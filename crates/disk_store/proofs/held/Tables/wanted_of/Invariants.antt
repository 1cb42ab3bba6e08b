use Rattle.std.proofs.Common.{◌≤◌, take}
use Rattle.disk_store.specs.Changing.{all_of}
use Rattle.disk_store.specs.Sound.{HasSlotsFor}
use Rattle.disk_store.proofs.held.Tables.wanted_of.Given as goal

abbrev pub invariant-loop-key : goal.invariant-loop-key
invariant-loop-key l = (all_of l.wanted ≤ l.key-index) × HasSlotsFor l.self l.wanted (take l.key-index l.keys)

use Rattle.std.proofs.Common.{◌≡◌, ◌≤◌, take}
use Rattle.std.specs.List.{sum_by}
use Rattle.disk_store.specs.Numbers.{kept_by}
use Rattle.disk_store.proofs.beginning.kept_among.Given as goal

abbrev pub invariant-loop-member : goal.invariant-loop-member
invariant-loop-member l = record { few : l.kept ≤ l.member-index; counted : l.kept ≡ sum_by kept_by (take l.member-index l.members) }

use Rattle.std.proofs.Common.{◌≡◌, Option, Some, true, subst}
use Rattle.rdb_types.specs.declared.keys.Dbkey.{Dbkey}
use Rattle.partial_backup.specs.Partial.{is_left}
use Rattle.next_lines.proofs.Leading.{left_area}
use Rattle.next_lines.proofs.next.first_area.Goals as goal

pub returns-in-Some : goal.returns-in-Some
returns-in-Some c = λ key is. let same : c.args.from ≡ Some c.in-Some.last = cc in left_area c.in-Some.last key (subst (λ (f : Option Dbkey). is_left f key ≡ true) same is)

use Rattle.std.proofs.Common.{◌≡◌, drop}
use Rattle.std.specs.List.{list_any}
use Rattle.catalog.specs.Schema.{same_field}
use Rattle.catalog.proofs.schema.is_named_among.Given as goal

abbrev pub invariant-loop-other : goal.invariant-loop-other
invariant-loop-other l = list_any (same_field l.field) (drop l.other-index l.others) ≡ list_any (same_field l.field) l.others

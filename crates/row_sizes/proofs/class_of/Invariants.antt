use Rattle.std.proofs.Common.{◌≡◌, ◌+◌, nat_le, drop}
use Rattle.std.specs.List.{sum_by}
use Rattle.rdb_meaning.specs.Contents.{longest_value}
use Rattle.row_sizes.proofs.class_of.Given as goal

abbrev pub invariant-loop-field : goal.invariant-loop-field
invariant-loop-field l = nat_le (3 + sum_by (λ f. longest_value f.kind) l.fields) 104 ≡ nat_le (sum_by (λ f. longest_value f.kind) (drop l.field-index l.fields)) l.room

-- Replies that stand in place of the one that an item means: locks, limits and memory refuse it, and it changes nothing.
use Rattle.std.specs.Prelude.{Bool, true, false}
use Rattle.rdo_ast.specs.declared.reply.Reply.{Reply}
use Rattle.rdo_ast.specs.declared.reply.Reply.TheVariants as r

abbrev pub is_refusal_of_means : Reply → Bool
is_refusal_of_means (r.LockConflict t) = true
is_refusal_of_means (r.Deadlock cycle) = true
is_refusal_of_means (r.AreaFull n) = true
is_refusal_of_means (r.RujFull n) = true
is_refusal_of_means (r.AijFull n) = true
is_refusal_of_means (r.SnapFull n) = true
is_refusal_of_means r.NoMemory = true
is_refusal_of_means _ = false

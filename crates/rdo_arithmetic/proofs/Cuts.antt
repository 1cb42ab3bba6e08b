-- Scales that are cut at 19: what comes of them by an operation is cut alike.
use Rattle.std.proofs.Common.{◌≡◌, ℕ, min, arith}
use Rattle.rdo_ast.specs.declared.syntax.Arithmetic.{Arithmetic}
use Rattle.rdo_ast.specs.declared.syntax.Arithmetic.TheVariants.{Plus, Minus, Times}
use Rattle.rdb_meaning.specs.Evaluation.{scale_by}

pub cut_by : (op : Arithmetic) (r s t : ℕ) → min r 19 ≡ min s 19 → min (scale_by op r t) 19 ≡ min (scale_by op s t) 19
cut_by Plus r s t e = omega arith
cut_by Minus r s t e = omega arith
cut_by Times r s t e = omega arith

pub cut_operand : (op : Arithmetic) (s t u : ℕ) → t ≡ min u 19 → min (scale_by op s t) 19 ≡ min (scale_by op s u) 19
cut_operand Plus s t u e = omega arith
cut_operand Minus s t u e = omega arith
cut_operand Times s t u e = omega arith

-- How many digits after the point a bound form's numbers have, by the types that its references carry.
use Rattle.std.specs.Prelude.{ℕ}
use Rattle.rdb_meaning.specs.Evaluation.{scale_by}
use Rattle.rdo_values.specs.Tree.{Expression, number, text, field, negative, chain, count, statistic, known, Operations, no_operation, operation}

abbrev mutual
  pub scale_in : Expression → ℕ
  scale_in (number n scale) = scale
  scale_in (text s) = 0
  scale_in (field r) = r.kind.scale
  scale_in (negative e) = scale_in e
  scale_in (chain e os) = scale_behind (scale_in e) os
  scale_in (count r) = 0
  scale_in (statistic s e r) = scale_in e
  scale_in (known e v) = scale_in e

  pub scale_behind : ℕ → Operations → ℕ
  scale_behind scale no_operation = scale
  scale_behind scale (operation op e os) = scale_behind (scale_by op scale (scale_in e)) os

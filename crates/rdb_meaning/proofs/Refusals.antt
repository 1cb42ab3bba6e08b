-- Where nothing is refused, neither the first nor what comes behind it is.
use Rattle.std.proofs.Common.{◌≡◌, Some, None, refl, ap, ◌∙◌}
use Rattle.rdb_meaning.specs.Checks.{Refusal, or_else}

pub first_known : (a b : Refusal) → or_else a b ≡ None → a ≡ None
first_known None b h = refl
first_known (Some r) b h = cc

pub rest_known : (a b : Refusal) → or_else a b ≡ None → b ≡ None
rest_known None b h = h
rest_known (Some r) b h = cc

pub both_known : (a b : Refusal) → a ≡ None → b ≡ None → or_else a b ≡ None
both_known a b h k = ap (λ r. or_else r b) h ∙ k

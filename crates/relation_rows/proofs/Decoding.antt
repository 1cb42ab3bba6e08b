-- Rows whose last fields came later.
use Rattle.std.proofs.Common.{◌≡◌, ◌<◌, ◌+◌, ◌-◌, ℕ, suc, List, [], ◌∷◌, ◌++◌, replicate, sym, ap, ◌∙◌, arith}
use Rattle.std.proofs.lemmas.List.{append_assoc}
use Rattle.rdb_types.specs.declared.values.Value.{Value}
use Rattle.rdb_types.specs.declared.values.Value.TheVariants.{Missing}

less_one : (n m : ℕ) → m < n → n - m ≡ suc (n - (m + 1))
less_one n m inside = omega (arith, inside)

pub one_missing_more : (row : List Value) (n m : ℕ) → m < n → (row ++ Missing ∷ []) ++ replicate (n - (m + 1)) Missing ≡ row ++ replicate (n - m) Missing
one_missing_more row n m inside = append_assoc row (Missing ∷ []) (replicate (n - (m + 1)) Missing) ∙ ap (λ k. row ++ replicate k Missing) (sym (less_one n m inside))

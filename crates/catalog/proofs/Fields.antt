-- The fields of a relation, one by one.
use Rattle.std.proofs.Common.{ℕ, suc, ◌+◌, ◌-◌, ◌<◌, ◌≡◌, List, [], ◌∷◌, ◌++◌, Some, sym, ap, ◌∙◌, arith, append_assoc}
use Rattle.std.specs.FinMap.Entries.{find}
use Rattle.rdb_types.specs.declared.values.Field.{Field}
use Rattle.catalog.specs.declared.directory.FieldPlace.{FieldPlace}
use Rattle.catalog.specs.declared.directory.PlacedField.{PlacedField}
use Rattle.catalog.specs.Directory.{place_order, place}
use Rattle.catalog.specs.Schema.{fields_from, next_field}

pub one_more : (limit p relation : ℕ) (m : List (FieldPlace × PlacedField)) (fields all : List Field) (found : PlacedField) (f : Field) → p < limit → Some found ≡ find place_order (place relation p) m → f ≡ found.field
    → fields ++ fields_from (limit - p) relation p m ≡ all → (fields ++ f ∷ []) ++ fields_from (limit - (p + 1)) relation (p + 1) m ≡ all
one_more limit p relation m fields all found f inside is same was =
    let more : limit - p ≡ suc (limit - (p + 1)) = omega (arith, inside) in
    let rest = fields_from (limit - (p + 1)) relation (p + 1) m in
    append_assoc fields (f ∷ []) rest
    ∙ ap (λ g. fields ++ g ∷ rest) same
    ∙ ap (λ o. fields ++ next_field o rest) is
    ∙ ap (λ k. fields ++ fields_from k relation p m) (sym more)
    ∙ was

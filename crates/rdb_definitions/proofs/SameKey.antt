-- Keys are the same where their first values are, and the others.
use Rattle.std.proofs.Common.{◌≡◌, ℕ, ◌+◌, ◌<◌, ◌&&◌, List, length, get_or, drop, refl, ◌∙◌}
use Rattle.std.specs.declared.cmp.Ordering.{Ordering}
use Rattle.std.specs.declared.cmp.Ordering.TheVariants.{Less, Equal, Greater}
use Rattle.std.specs.Ordering.{is_eq, ordering_then}
use Rattle.std.proofs.lemmas.List.{at_drop_more}
use Rattle.rdb_types.specs.declared.values.Value.TheVariants.{Missing}
use Rattle.rdb_types.specs.Order.{value_order, row_order}
use Rattle.rdb_checks.specs.rdb_meaning.Contents.{Row, key_of}

is_eq_then : (first rest : Ordering) → is_eq (ordering_then first rest) ≡ (is_eq first && is_eq rest)
is_eq_then Less rest = refl
is_eq_then Equal rest = refl
is_eq_then Greater rest = refl

pub same_key_more : (positions : List ℕ) (left right : Row) (i : ℕ) → i < length positions → is_eq (row_order (key_of (drop i positions) left) (key_of (drop i positions) right)) ≡ (is_eq (value_order (get_or left (get_or positions i 0) Missing) (get_or right (get_or positions i 0) Missing)) && is_eq (row_order (key_of (drop (i + 1) positions) left) (key_of (drop (i + 1) positions) right)))
same_key_more positions left right i h =
    at_drop_more (λ ps. is_eq (row_order (key_of ps left) (key_of ps right))) positions i 0 h
    ∙ is_eq_then (value_order (get_or left (get_or positions i 0) Missing) (get_or right (get_or positions i 0) Missing)) (row_order (key_of (drop (i + 1) positions) left) (key_of (drop (i + 1) positions) right))

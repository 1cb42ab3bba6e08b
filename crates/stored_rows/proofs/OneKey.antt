-- The keys of two rows, position by position.
use Rattle.std.proofs.Common.{◌≡◌, ℕ, ◌+◌, ◌<◌, Bool, true, List, length, drop, get_or, slice_index_or, refl, sym, ap, ◌∙◌}
use Rattle.std.specs.Ordering.{is_eq, ordering_then}
use Rattle.std.specs.declared.cmp.Ordering.{Ordering}
use Rattle.std.specs.declared.cmp.Ordering.TheVariants.{Less, Equal, Greater}
use Rattle.std.proofs.lemmas.List.{drop_more}
use Rattle.rdb_types.specs.declared.values.Value.TheVariants.{Missing}
use Rattle.rdb_types.specs.Order.{value_order, row_order}
use Rattle.rdb_meaning.specs.Contents.{Row, key_of}

then_equal : (r s : Ordering) → is_eq r ≡ true → is_eq (ordering_then r s) ≡ is_eq s
then_equal Less s is = let bad : ⊥ = cc in absurd bad
then_equal Equal s is = refl
then_equal Greater s is = let bad : ⊥ = cc in absurd bad

-- whether the rows have one key at the positions from this one on
abbrev pub is_one_from : List ℕ → Row → Row → ℕ → Bool
is_one_from positions one other i = is_eq (row_order (key_of (drop i positions) one) (key_of (drop i positions) other))

pub same_on : (positions : List ℕ) (one other : Row) (i : ℕ) (same whole : Bool) → i < length positions →
    same ≡ is_eq (value_order (slice_index_or one (get_or positions i 0) Missing) (slice_index_or other (get_or positions i 0) Missing)) → same ≡ true → is_one_from positions one other i ≡ whole → is_one_from positions one other (i + 1) ≡ whole
same_on positions one other i same whole inside is tie so =
    let v = slice_index_or one (get_or positions i 0) Missing in
    let w = slice_index_or other (get_or positions i 0) Missing in
    sym (ap (λ (l : List ℕ). is_eq (row_order (key_of l one) (key_of l other))) (drop_more positions i 0 inside)
    ∙ then_equal (value_order v w) (row_order (key_of (drop (i + 1) positions) one) (key_of (drop (i + 1) positions) other)) (sym is ∙ tie))
    ∙ so

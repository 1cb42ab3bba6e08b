-- Keys that repeat.
use Rattle.std.proofs.Common.{◌≡◌, ℕ, Bool, true, false, List, [], ◌∷◌, ◌++◌, refl, ap, ◌∙◌}
use Rattle.std.specs.Prelude.{◌||◌}
use Rattle.std.specs.List.{list_any}
use Rattle.std.specs.Ordering.{is_eq, ordering_reverse}
use Rattle.std.specs.declared.cmp.Ordering.{Ordering}
use Rattle.std.specs.declared.cmp.Ordering.TheVariants.{Less, Equal, Greater}
use Rattle.rdb_types.specs.declared.keys.Dbkey.{Dbkey}
use Rattle.rdb_types.specs.Order.{row_order}
use Rattle.rdb_types.specs.OrderLaws.{row_total}
use Rattle.rdb_meaning.specs.Contents.{Row, key_of, has_key}
use Rattle.rdb_meaning.specs.Defining.{keys_repeat}
use Rattle.catalog_definitions.proofs.Basics.{or_true}

mirrored : (r : Ordering) → is_eq (ordering_reverse r) ≡ is_eq r
mirrored Less = refl
mirrored Equal = refl
mirrored Greater = refl

tied_back : (a b : Row) → is_eq (row_order a b) ≡ is_eq (row_order b a)
tied_back a b = ap is_eq (row_total.antisymm a b) ∙ mirrored (row_order b a)

found_behind : (f : Row → Bool) (e : Dbkey × Row) (before behind : List (Dbkey × Row)) → f e.1 ≡ true → list_any (λ (x : Dbkey × Row). f x.1) (before ++ e ∷ behind) ≡ true
found_behind f e [] behind is = ap (λ b. b || list_any (λ (x : Dbkey × Row). f x.1) behind) is
found_behind f e (x ∷ xs) behind is = ap (λ b. f x.1 || b) (found_behind f e xs behind is) ∙ or_true (f x.1)

-- where a row before has the key of this one, a key repeats
pub repeats : (positions : List ℕ) (e : Dbkey × Row) (before behind : List (Dbkey × Row)) → has_key positions e.1 before ≡ true → keys_repeat positions (before ++ e ∷ behind) ≡ true
repeats positions e [] behind has = let bad : ⊥ = cc in absurd bad
repeats positions e (x ∷ xs) behind has =
    let all = xs ++ e ∷ behind in
    elim (is_eq (row_order (key_of positions e.1) (key_of positions x.1))) as (λ b. is_eq (row_order (key_of positions e.1) (key_of positions x.1)) ≡ b → (b || has_key positions e.1 xs) ≡ true → (has_key positions x.1 all || keys_repeat positions all) ≡ true) [
      | true ↦ λ tie h.
          ap (λ b. b || keys_repeat positions all)
          (found_behind (λ (other : Row). is_eq (row_order (key_of positions x.1) (key_of positions other))) e xs behind (tied_back (key_of positions x.1) (key_of positions e.1) ∙ tie))
      | false ↦ λ tie h. ap (λ b. has_key positions x.1 all || b) (repeats positions e xs behind h) ∙ or_true (has_key positions x.1 all)
    ] refl has

-- Lines that are reached, one list after another.
use Rattle.std.proofs.Common.{◌≡◌, ◌⊎◌, inl, inr, Bool, true, false, ◌||◌, List, [], ◌∷◌, ◌++◌, refl, sym, ap, subst, ◌∙◌}
use Rattle.std.specs.List.{list_any}
use Rattle.std.specs.declared.cmp.Ordering.{Ordering}
use Rattle.std.specs.declared.cmp.Ordering.TheVariants.{Less, Equal, Greater}
use Rattle.std.specs.Ordering.{is_eq, match_ordering}
use Rattle.std.specs.BTreeMap.{is_at}
use Rattle.std.specs.BTreeSet.{insert_key}
use Rattle.rdb_types.specs.declared.keys.Dbkey.{Dbkey}
use Rattle.rdb_types.specs.Order.{dbkey_order}
use Rattle.rdb_types.specs.OrderLaws.{same_dbkey}
use Rattle.sorted_index_laws.proofs.Frame.{IsApart}
use Rattle.sorted_index_laws.proofs.Lines.{AreApart, equal_eq, joined, distinct_more, none_distinct}
use Rattle.line_faults.specs.Found.{IsIn}
use Rattle.index_faults.specs.Walks.{Reaches}

in_append : (key : Dbkey) (xs ys : List Dbkey) → IsIn key (xs ++ ys) → IsIn key xs ⊎ IsIn key ys
in_append key [] ys there = inr there
in_append key (x ∷ xs) ys (inl same) = inl (inl same)
in_append key (x ∷ xs) ys (inr there) = elim (in_append key xs ys there) [
  | inl front ↦ inl (inr front)
  | inr rest ↦ inr rest
]

in_inserted : (key at : Dbkey) (ks : List Dbkey) → IsIn key ks → IsIn key (insert_key dbkey_order ks at)
in_inserted key at [] there = absurd there
in_inserted key at (x ∷ xs) there = elim (dbkey_order at x) as (λ r. IsIn key (match_ordering r (at ∷ x ∷ xs) (x ∷ xs) (x ∷ insert_key dbkey_order xs at))) [
  | Less ↦ inr there
  | Equal ↦ there
  | Greater ↦ elim there [
    | inl same ↦ inl same
    | inr rest ↦ inr (in_inserted key at xs rest)
  ]
]

own_inserted : (at : Dbkey) (ks : List Dbkey) → IsIn at (insert_key dbkey_order ks at)
own_inserted at [] = inl refl
own_inserted at (x ∷ xs) = elim (dbkey_order at x) as (λ r. dbkey_order at x ≡ r → IsIn at (match_ordering r (at ∷ x ∷ xs) (x ∷ xs) (x ∷ insert_key dbkey_order xs at))) [
  | Less ↦ λ is. inl refl
  | Equal ↦ λ is. inl (sym (same_dbkey at x is))
  | Greater ↦ λ is. inr (own_inserted at xs)
] refl

pub in_inserted_only : (key at : Dbkey) (ks : List Dbkey) → IsIn key (insert_key dbkey_order ks at) → IsIn key ks ⊎ (at ≡ key)
in_inserted_only key at [] (inl is) = inr is
in_inserted_only key at [] (inr none) = absurd none
in_inserted_only key at (x ∷ xs) there = elim (dbkey_order at x) as (λ r. IsIn key (match_ordering r (at ∷ x ∷ xs) (x ∷ xs) (x ∷ insert_key dbkey_order xs at)) → IsIn key (x ∷ xs) ⊎ (at ≡ key)) [
  | Less ↦ first
  | Equal ↦ λ old. inl old
  | Greater ↦ behind (in_inserted_only key at xs)
] there
  where
    first : IsIn key (at ∷ x ∷ xs) → IsIn key (x ∷ xs) ⊎ (at ≡ key)
    first (inl is) = inr is
    first (inr rest) = inl rest

    later : IsIn key xs ⊎ (at ≡ key) → IsIn key (x ∷ xs) ⊎ (at ≡ key)
    later (inl old) = inl (inr old)
    later (inr is) = inr is

    behind : (IsIn key (insert_key dbkey_order xs at) → IsIn key xs ⊎ (at ≡ key)) → IsIn key (x ∷ insert_key dbkey_order xs at) → IsIn key (x ∷ xs) ⊎ (at ≡ key)
    behind rest (inl is) = inl (inl is)
    behind rest (inr there) = later (rest there)

or_right : (a b : Bool) → b ≡ true → (a || b) ≡ true
or_right true b h = refl
or_right false b h = h

in_passes : (key : Dbkey) (ks : List Dbkey) → IsIn key ks → list_any (is_at (dbkey_order key)) ks ≡ true
in_passes key [] there = absurd there
in_passes key (k ∷ ks) (inl same) = ap (λ b. b || list_any (is_at (dbkey_order key)) ks) (ap (λ q. is_eq (dbkey_order key q)) same ∙ equal_eq key)
in_passes key (k ∷ ks) (inr there) = or_right (is_eq (dbkey_order key k)) (list_any (is_at (dbkey_order key)) ks) (in_passes key ks there)

-- lists without a key in common
apart_from : (xs : List Dbkey) (y : Dbkey) → (IsIn y xs → ⊥) → IsApart y xs
apart_from [] y none = tt
apart_from (x ∷ xs) y none = (first, apart_from xs y (λ there. none (inr there)))
  where
    isnt : (b : Bool) → is_eq (dbkey_order x y) ≡ b → b ≡ false
    isnt true is = absurd (none (inl (same_dbkey x y (ties (dbkey_order x y) is)))) where
      ties : (o : Ordering) → is_eq o ≡ true → o ≡ Equal
      ties Less h = absurd (let no : ⊥ = cc in no)
      ties Equal h = refl
      ties Greater h = absurd (let no : ⊥ = cc in no)
    isnt false is = refl

    first : is_eq (dbkey_order x y) ≡ false
    first = isnt (is_eq (dbkey_order x y)) refl

all_apart : (xs ys : List Dbkey) → ((key : Dbkey) → IsIn key xs → IsIn key ys → ⊥) → AreApart xs ys
all_apart xs [] none = tt
all_apart xs (y ∷ ys) none = (apart_from xs y (λ there. none y there (inl refl)), all_apart xs ys (λ key a b. none key a (inr b)))

-- ---- reaching

pub none_reached : (keys : List Dbkey) → Reaches keys keys []
none_reached keys = record {
  distinct = none_distinct;
  fresh = λ key there was. there;
  kept = λ key was. was;
  added = λ key there. absurd there;
}

pub one_reached : (old new : List Dbkey) (at : Dbkey) → list_any (is_at (dbkey_order at)) old ≡ false → new ≡ insert_key dbkey_order old at → Reaches old new (at ∷ [])
one_reached old new at fresh is = record {
  distinct = distinct_more at [] tt none_distinct;
  fresh = λ key there was. elim there [
    | inl same ↦ let passes = in_passes key old was in let isnt = ap (λ k. list_any (is_at (dbkey_order k)) old) (sym same) ∙ fresh in let no : ⊥ = cc in no
    | inr none ↦ none
  ];
  kept = λ key was. subst (IsIn key) (sym is) (in_inserted key at old was);
  added = λ key there. elim there [
    | inl same ↦ subst (IsIn key) (sym is) (subst (λ k. IsIn k (insert_key dbkey_order old at)) same (own_inserted at old))
    | inr none ↦ absurd none
  ];
}

pub more_reached : (old mid new xs ys : List Dbkey) → Reaches old mid xs → Reaches mid new ys → Reaches old new (xs ++ ys)
more_reached old mid new xs ys a b = record {
  distinct = joined xs ys a.distinct b.distinct (all_apart xs ys (λ key first then. b.fresh key then (a.added key first)));
  fresh = λ key there was. elim (in_append key xs ys there) [
    | inl first ↦ a.fresh key first was
    | inr then ↦ b.fresh key then (a.kept key was)
  ];
  kept = λ key was. b.kept key (a.kept key was);
  added = λ key there. elim (in_append key xs ys there) [
    | inl first ↦ b.kept key (a.added key first)
    | inr then ↦ b.added key then
  ];
}

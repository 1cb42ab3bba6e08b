-- Values, rows, Dbkeys and names are in total orders, in which what differs never ties.
use Rattle.std.specs.Prelude.{◌≡◌, ℕ, ℤ, List, [], ◌∷◌, pos}
use Rattle.std.proofs.Common.{refl, sym, ap, subst}
use Rattle.std.proofs.lemmas.Cmp.{ranked, nat_cmp_total, int_cmp_total, nat_list_cmp_total, on_total, then_total, lists_total}
use Rattle.std.proofs.lemmas.Map.Lookups.{exact_signed, exact_bytes}
use Rattle.std.specs.Cmp.{IsTotalOrder}
use Rattle.std.specs.Cmp.Lexicographic.{slice_cmp}
use Rattle.std.specs.declared.cmp.Ordering.{Ordering}
use Rattle.std.specs.declared.cmp.Ordering.TheVariants.{Less, Equal, Greater}
use Rattle.std.specs.Ordering.{nat_cmp, int_cmp, on, then_cmp, ordering_then}
use Rattle.rdb_types.specs.declared.keys.Dbkey.{Dbkey}
use Rattle.rdb_types.specs.declared.values.Value.{Value}
use Rattle.rdb_types.specs.declared.values.Value.TheVariants.{Missing, Number, Text}
use Rattle.rdb_types.specs.Order.{value_order, row_order, dbkey_order, chars_order}

-- values by their kinds, then as numbers, then as texts

abbrev kind : Value → ℕ
kind Missing = 0
kind (Number n) = 1
kind (Text t) = 2

abbrev number_in : Value → ℤ
number_in (Number n) = n
number_in _ = pos 0

abbrev text_in : Value → List ℕ
text_in (Text t) = t
text_in _ = []

abbrev by_kind : Value → Value → Ordering
by_kind = then_cmp (on kind nat_cmp) (then_cmp (on number_in int_cmp) (on text_in (slice_cmp nat_cmp)))

then_equal : (o : Ordering) → ordering_then o Equal ≡ o
then_equal Less = refl
then_equal Equal = refl
then_equal Greater = refl

by_kind_is : (a b : Value) → by_kind a b ≡ value_order a b
by_kind_is Missing Missing = refl
by_kind_is Missing (Number n) = refl
by_kind_is Missing (Text t) = refl
by_kind_is (Number m) Missing = refl
by_kind_is (Number m) (Number n) = then_equal (int_cmp m n)
by_kind_is (Number m) (Text t) = refl
by_kind_is (Text s) Missing = refl
by_kind_is (Text s) (Number n) = refl
by_kind_is (Text s) (Text t) = refl

pub value_total : IsTotalOrder value_order
value_total =
    let total : IsTotalOrder by_kind = then_total (on_total kind nat_cmp_total) (then_total (on_total number_in int_cmp_total) (on_total text_in nat_list_cmp_total)) in
    subst IsTotalOrder (λ i a b. by_kind_is a b i) total

pub row_total : IsTotalOrder row_order
row_total = lists_total value_total

pub dbkey_total : IsTotalOrder dbkey_order
dbkey_total = then_total (on_total (λ k. k.area) nat_cmp_total) (then_total (on_total (λ k. k.page) nat_cmp_total) (on_total (λ k. k.line) nat_cmp_total))

pub chars_total : IsTotalOrder chars_order
chars_total = nat_list_cmp_total

-- what ties is equal

both_equal : (o p : Ordering) → ordering_then o p ≡ Equal → (o ≡ Equal) × (p ≡ Equal)
both_equal Less p ties = cc
both_equal Equal p ties = (refl, ties)
both_equal Greater p ties = cc

pub same_value : (a b : Value) → value_order a b ≡ Equal → a ≡ b
same_value Missing Missing ties = refl
same_value Missing (Number n) ties = cc
same_value Missing (Text t) ties = cc
same_value (Number m) Missing ties = cc
same_value (Number m) (Number n) ties = ap Number (exact_signed m n ties)
same_value (Number m) (Text t) ties = cc
same_value (Text s) Missing ties = cc
same_value (Text s) (Number n) ties = cc
same_value (Text s) (Text t) ties = ap Text (exact_bytes s t ties)

pub same_row : (a b : List Value) → row_order a b ≡ Equal → a ≡ b
same_row [] [] ties = refl
same_row [] (y ∷ ys) ties = cc
same_row (x ∷ xs) [] ties = cc
same_row (x ∷ xs) (y ∷ ys) ties =
    let both = both_equal (value_order x y) (row_order xs ys) ties in
    λ i. same_value x y both.0 i ∷ same_row xs ys both.1 i

pub same_dbkey : (a b : Dbkey) → dbkey_order a b ≡ Equal → a ≡ b
same_dbkey a b ties =
    let areas = both_equal (nat_cmp a.area b.area) _ ties in
    let pages = both_equal (nat_cmp a.page b.page) _ areas.1 in
    let area = ranked _ _ _ (sym areas.0) in
    let page = ranked _ _ _ (sym pages.0) in
    let line = ranked _ _ _ (sym pages.1) in
    λ i. record { area = area i; page = page i; line = line i }

pub same_chars : (a b : List ℕ) → chars_order a b ≡ Equal → a ≡ b
same_chars a b ties = exact_bytes a b ties

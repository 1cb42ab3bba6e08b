-- A field's value that meets a comparison is within the limits that the comparison gives.
use Rattle.std.proofs.Common.{◌≡◌, ◌≢◌, ℕ, List, Bool, true, false, if◌then◌else◌, Option, Some, None, refl, ap, sym, ◌∙◌, subst}
use Rattle.std.specs.Prelude.{ℤ}
use Rattle.std.specs.declared.cmp.Ordering.{Ordering}
use Rattle.std.specs.declared.cmp.Ordering.TheVariants.{Less, Equal, Greater}
use Rattle.std.specs.Ordering.{nat_cmp, ordering_then}
use Rattle.std.specs.Cmp.Lexicographic.{slice_cmp}
use Rattle.std.proofs.lemmas.Cmp.{nat_list_cmp_total, tied_itself}
use Rattle.rdb_types.specs.declared.values.Value.{Value}
use Rattle.rdb_types.specs.declared.values.Value.TheVariants.{Missing, Number, Text}
use Rattle.rdb_types.specs.declared.values.Scaled.{Scaled}
use Rattle.rdb_types.specs.declared.values.FieldType.{FieldType}
use Rattle.rdo_ast.specs.declared.syntax.Comparison.{Comparison}
use Rattle.rdo_ast.specs.declared.syntax.Comparison.TheVariants as by
use Rattle.rdb_meaning.specs.Numbers.{Computed, is, overflow, fits_bits, fitted_value}
use Rattle.rdb_meaning.specs.Comparison.{holds, weighed, order_of_values, passes, judged, compared, passed_over, verdict_of}
use Rattle.rdb_types.specs.Order.{value_order}
use Rattle.rdb_meaning.specs.Evaluation.{scaled_by}
use Rattle.rdb_types.specs.OrderLaws.{same_value}
use Rattle.access_paths.specs.declared.limits.End.{End}
use Rattle.access_paths.specs.declared.limits.Limits.{Limits}
use Rattle.access_paths.specs.declared.limits.Limited.{Limited}
use Rattle.access_paths.specs.declared.limits.Limited.TheVariants as limited
use Rattle.access_paths.specs.declared.equated.Equated.{Equated}
use Rattle.access_paths.specs.declared.equated.Equated.TheVariants as to
use Rattle.access_paths.specs.Reached.{IsWide}
use Rattle.access_paths.specs.Nearest.{quadword, nearest_number, nearest_value, nearest, is_holding, meets}
use Rattle.access_paths.specs.Limits.{open_end, limits_by, limits_to, limits_of, highest_by, lowest_by, lowest_high, narrowed, narrowed_by}
use Rattle.access_paths.specs.Equated.{equal_to, equated_with}
use Rattle.access_paths.proofs.Ends.{is_from, is_up_to, IsInEnd, ends}
use Rattle.access_paths.proofs.Nearer.{order_at, choose_test}
use Rattle.access_paths.proofs.Clamped.{near_number}

-- ---- values within limits

abbrev pub is_above_end : End → Value → Bool
is_above_end e v = is_from e.included (value_order v e.value)

abbrev pub is_below_end : Option End → Value → Bool
is_below_end (Some e) v = is_up_to e.included (value_order v e.value)
is_below_end None v = true

pub record IsIn (limits : Limits) (v : Value) : Type 0 where
  pub low : is_above_end limits.low v ≡ true
  pub high : is_below_end limits.high v ≡ true

in_limits : (op : Comparison) (v : Value) (e : End) → is_above_end open_end v ≡ true → IsInEnd op e.included (value_order v e.value) → IsIn (limits_by op e) v
in_limits by.Equal v e present h = record { low = h.0; high = h.1 }
in_limits by.NotEqual v e present h = record { low = present; high = refl }
in_limits by.Greater v e present h = record { low = h; high = refl }
in_limits by.GreaterEqual v e present h = record { low = h; high = refl }
in_limits by.Less v e present h = record { low = present; high = h }
in_limits by.LessEqual v e present h = record { low = present; high = h }

-- ---- one comparison

holding : (b : Bool) → weighed b ≡ holds → b ≡ true
holding true h = refl
holding false h = absurd (cc)

is_holding-weighed : (b : Bool) → is_holding (weighed b) ≡ b
is_holding-weighed true = refl
is_holding-weighed false = refl

-- the limits by an end, where the value compares as the end's and then as that does
by_end : (op : Comparison) (kind : FieldType) (v f : Value) (other : Scaled) (e w : Ordering) → is_above_end open_end v ≡ true → meets op kind f other ≡ passes op e → w ≡ ordering_then (value_order v f) e → weighed (passes op w) ≡ holds → IsIn (limits_to op kind other (Some f)) v
by_end op kind v f other e w present m c h =
    let pass : passes op (ordering_then (value_order v f) e) ≡ true = ap (passes op) (sym c) ∙ holding (passes op w) h in
    in_limits op v (record { value = f; included = meets op kind f other }) present (subst (λ (b : Bool). IsInEnd op b (value_order v f)) (sym m) (ends op (value_order v f) e pass))

number_inside : (op : Comparison) (kind : FieldType) (n m : ℤ) (other : Scaled) → other.value ≡ Number m → fits_bits 63 n ≡ true → weighed (passes op (order_at n kind.scale m other.scale)) ≡ holds → IsIn (limits_to op kind other (Some (nearest_number m (fitted_value (quadword kind.scale) (Number m) other.scale)))) (Number n)
number_inside op kind n m other e wide h =
    let near = near_number n m kind.scale other.scale wide in
    let meets_is : meets op kind (Number near.0) other ≡ passes op (order_at near.0 kind.scale m other.scale) =
    ap (λ w. is_holding (judged op (order_of_values (Number near.0) kind.scale w other.scale))) e ∙ is_holding-weighed (passes op (order_at near.0 kind.scale m other.scale)) in
    subst (λ f. IsIn (limits_to op kind other (Some f)) (Number n)) (sym near.1.0)
    (by_end op kind (Number n) (Number near.0) other (order_at near.0 kind.scale m other.scale) (order_at n kind.scale m other.scale) refl meets_is near.1.1 h)

then_equal : (o : Ordering) → o ≡ ordering_then o Equal
then_equal Less = refl
then_equal Equal = refl
then_equal Greater = refl

text_inside : (op : Comparison) (kind : FieldType) (s t : List ℕ) (other : Scaled) → other.value ≡ Text t → weighed (passes op (slice_cmp nat_cmp s t)) ≡ holds → IsIn (limits_to op kind other (Some (Text t))) (Text s)
text_inside op kind s t other e h =
    let meets_is : meets op kind (Text t) other ≡ passes op Equal =
    ap (λ w. is_holding (judged op (order_of_values (Text t) 0 w other.scale))) e ∙ is_holding-weighed (passes op (slice_cmp nat_cmp t t)) ∙ ap (passes op) (tied_itself nat_list_cmp_total t) in
    by_end op kind (Text s) (Text t) other Equal (slice_cmp nat_cmp s t) refl meets_is (then_equal (slice_cmp nat_cmp s t)) h

inside_by : (op : Comparison) (kind : FieldType) (v w : Value) (other : Scaled) → other.value ≡ w → IsWide v → judged op (order_of_values (scaled_by kind v).value (scaled_by kind v).scale w other.scale) ≡ holds → IsIn (limits_to op kind other (nearest_value kind w other.scale)) v
inside_by op kind Missing Missing other e wide h = absurd (cc)
inside_by op kind Missing (Number m) other e wide h = absurd (cc)
inside_by op kind Missing (Text t) other e wide h = absurd (cc)
inside_by op kind (Number n) Missing other e wide h = absurd (cc)
inside_by op kind (Number n) (Number m) other e wide h = number_inside op kind n m other e wide h
inside_by op kind (Number n) (Text t) other e wide h = absurd (cc)
inside_by op kind (Text s) Missing other e wide h = absurd (cc)
inside_by op kind (Text s) (Number m) other e wide h = absurd (cc)
inside_by op kind (Text s) (Text t) other e wide h = text_inside op kind s t other e h

pub inside : (op : Comparison) (kind : FieldType) (v : Value) (other : Scaled) → IsWide v → compared op (is (scaled_by kind v)) (is other) ≡ holds → IsIn (limits_of op kind other) v
inside op kind v other wide h = inside_by op kind v other.value other refl wide h

-- ---- the value that a field is equated with

-- from an end on and up to it there is the end alone, where it is included
only_end : (included : Bool) (o : Ordering) → is_from included o ≡ true → is_up_to included o ≡ true → (included ≡ true) × (o ≡ Equal)
only_end true Less h k = absurd (cc)
only_end true Equal h k = (refl, refl)
only_end true Greater h k = absurd (cc)
only_end false Less h k = absurd (cc)
only_end false Equal h k = absurd (cc)
only_end false Greater h k = absurd (cc)

equal_found : (kind : FieldType) (v : Value) (other : Scaled) (near : Option Value) → IsIn (limits_to by.Equal kind other near) v → equal_to kind other near ≡ to.To v
equal_found kind v other None h =
    let only = only_end false (value_order v Missing) h.low h.high in absurd (cc)
equal_found kind v other (Some f) h =
    let only = only_end (meets by.Equal kind f other) (value_order v f) h.low h.high in
    ap (λ b. if b then to.To f else to.Never) only.0 ∙ ap to.To (sym (same_value v f only.1))

-- ---- with what an expression gives

-- what isn't passed over holds, where no expression overflows

weighed_holds : (b : Bool) → verdict_of (weighed b) ≢ passed_over → weighed b ≡ holds
weighed_holds true h = refl
weighed_holds false h = absurd (h refl)

judged_holds : (op : Comparison) (o : Option Ordering) → verdict_of (judged op o) ≢ passed_over → judged op o ≡ holds
judged_holds op None h = absurd (h refl)
judged_holds op (Some o) h = weighed_holds (passes op o) h

compared_holds : (op : Comparison) (a b : Scaled) → verdict_of (compared op (is a) (is b)) ≢ passed_over → compared op (is a) (is b) ≡ holds
compared_holds op a b h = judged_holds op (order_of_values a.value a.scale b.value b.scale) h

abbrev pub IsLimited : Limited → Value → Type 0
IsLimited limited.Nothing v = Unit {0}
IsLimited (limited.Within limits) v = IsIn limits v
IsLimited limited.Lost v = Unit {0}

highest_above : (o : Ordering) (a b : End) (v : Value) → is_above_end a v ≡ true → is_above_end b v ≡ true → is_above_end (highest_by o a b) v ≡ true
highest_above Less a b v h k = k
highest_above Equal a b v h k = choose_test (λ e. is_above_end e v ≡ true) a.included b a (λ _. k) (λ _. h)
highest_above Greater a b v h k = h

lowest_below : (o : Ordering) (a b : End) (v : Value) → is_below_end (Some a) v ≡ true → is_below_end (Some b) v ≡ true → is_below_end (Some (lowest_by o a b)) v ≡ true
lowest_below Less a b v h k = h
lowest_below Equal a b v h k = choose_test (λ e. is_below_end (Some e) v ≡ true) a.included b a (λ _. k) (λ _. h)
lowest_below Greater a b v h k = k

lowest_high_below : (a b : Option End) (v : Value) → is_below_end a v ≡ true → is_below_end b v ≡ true → is_below_end (lowest_high a b) v ≡ true
lowest_high_below None b v h k = k
lowest_high_below (Some a) None v h k = h
lowest_high_below (Some a) (Some b) v h k = lowest_below (value_order a.value b.value) a b v h k

narrowed_limited : (l : Limited) (limits : Limits) (v : Value) → IsLimited l v → IsIn limits v → IsLimited (narrowed l limits) v
narrowed_limited limited.Nothing limits v h k = k
narrowed_limited (limited.Within before) limits v h k = record {
  low = highest_above (value_order before.low.value limits.low.value) before.low limits.low v h.low k.low;
  high = lowest_high_below before.high limits.high v h.high k.high;
}
narrowed_limited limited.Lost limits v h k = tt

pub limited_by_value : (op : Comparison) (kind : FieldType) (v : Value) (c : Computed) (l : Limited) → IsWide v → verdict_of (compared op (is (scaled_by kind v)) c) ≢ passed_over → IsLimited l v → IsLimited (narrowed_by op kind c l) v
limited_by_value op kind v (is other) l wide h k = narrowed_limited l (limits_of op kind other) v k (inside op kind v other wide (compared_holds op (scaled_by kind v) other h))
limited_by_value op kind v overflow l wide h k = tt

-- the value is the one that it is equated with, if it is
abbrev pub IsEquated : Option Equated → Value → Type 0
IsEquated None v = Unit {0}
IsEquated (Some (to.To f)) v = f ≡ v
IsEquated (Some to.Never) v = ⊥
IsEquated (Some to.Lost) v = Unit {0}

pub equated_by_value : (kind : FieldType) (v : Value) (c : Computed) → IsWide v → verdict_of (compared by.Equal (is (scaled_by kind v)) c) ≢ passed_over → IsEquated (Some (equated_with kind c)) v
equated_by_value kind v (is other) wide h =
    subst (λ e. IsEquated (Some e) v) (sym (equal_found kind v other (nearest kind other) (inside by.Equal kind v other wide (compared_holds by.Equal (scaled_by kind v) other h)))) refl
equated_by_value kind v overflow wide h = tt

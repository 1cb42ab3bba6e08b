-- What tests that don't pass a row over say of its fields.
use Rattle.std.proofs.Common.{◌≡◌, ◌≢◌, ℕ, zero, suc, max, Bool, true, false, ◌&&◌, if◌then◌else◌, List, [], ◌∷◌, ◌++◌, length, get_or, slice_get, Option, Some, None, refl, ap, sym, ◌∙◌, subst, arith}
use Rattle.std.specs.Prelude.{nat_eq}
use Rattle.std.specs.Option.{option_or}
use Rattle.std.specs.declared.cmp.Ordering.{Ordering}
use Rattle.std.specs.declared.cmp.Ordering.TheVariants.{Less, Equal, Greater}
use Rattle.std.specs.Ordering.{int_cmp, nat_cmp, ordering_reverse, is_ge, is_le}
use Rattle.std.specs.Cmp.Lexicographic.{slice_cmp}
use Rattle.std.proofs.lemmas.Bool.Decides.{nat_tests}
use Rattle.std.proofs.lemmas.Cmp.{int_cmp_total, nat_list_cmp_total}
use Rattle.rdb_types.specs.declared.values.Value.{Value}
use Rattle.rdb_types.specs.declared.values.Value.TheVariants.{Missing, Number, Text}
use Rattle.rdb_types.specs.declared.values.FieldType.{FieldType}
use Rattle.rdo_ast.specs.declared.syntax.Comparison.{Comparison}
use Rattle.rdo_ast.specs.declared.syntax.Comparison.TheVariants as by
use Rattle.rdb_meaning.specs.Numbers.{Computed, is, overflow, brought}
use Rattle.rdb_meaning.specs.Comparison.{weighed, order_of, order_of_values, passes, judged, compared, within, lies_between, Verdict, chosen, passed_over, undecided, verdict_of, both_parts}
use Rattle.rdb_meaning.specs.Contents.{Row}
use Rattle.rdb_meaning.specs.Evaluation.{scaled_by, scaled_if}
use Rattle.rdo_values.specs.Tree.{Expression, number, text, field, negative, chain, count, statistic, known, Testing, compare, between, containing, starting_with, missing, any, negated, group, decided, Conjunction, no_test, test}
use Rattle.rdo_values.specs.Filled.{value_at, truth_at, parts_at}
use Rattle.rdo_values.proofs.Filling.{literal_gives}
use Rattle.access_paths.specs.declared.limits.Limited.{Limited}
use Rattle.access_paths.specs.declared.limits.Limited.TheVariants as limited
use Rattle.access_paths.specs.declared.equated.Equated.{Equated}
use Rattle.access_paths.specs.Serving.{Asked, is_before, kind_at, turned, is_bounding, is_equating, asked_if, asked_by, asked_between, asked_of, asked_in}
use Rattle.access_paths.specs.Reached.{IsWide}
use Rattle.access_paths.specs.Limits.{narrowed_by, narrowed_from}
use Rattle.access_paths.specs.Equated.{equated_with, first_equated}
use Rattle.access_paths.proofs.KnownBefore.{both_true, before_value}
use Rattle.access_paths.proofs.Steps.{narrowed_from-append, first_equated-append, between_unequated, equating}
use Rattle.access_paths.proofs.Inside.{IsLimited, limited_by_value, IsEquated, equated_by_value}

-- ---- the value of the field at a place

scaled_there : (kind : FieldType) (xs : Row) (i : ℕ) → scaled_if kind (slice_get xs i) ≡ scaled_by kind (get_or xs i Missing)
scaled_there kind [] i = refl
scaled_there kind (x ∷ xs) zero = refl
scaled_there kind (x ∷ xs) (suc i) = scaled_there kind xs i

same_place : (a b : ℕ) → nat_eq a b ≡ true → a ≡ b
same_place a b h = grind (arith, nat_tests)

none_some : {A : Type 0} (x : A) → None ≡ Some x → ⊥
none_some x e = cc

some_same : {A : Type 0} (a b : A) → Some a ≡ Some b → a ≡ b
some_same a b e = cc

kind_of_field : (b : Bool) (own kind : FieldType) → (if b then Some own else None) ≡ Some kind → (b ≡ true) × (own ≡ kind)
kind_of_field true own kind e = (refl, some_same own kind e)
kind_of_field false own kind e = absurd (none_some kind e)

field_value : (full : Row) (place : ℕ) (a : Expression) (kind : FieldType) → kind_at place a ≡ Some kind → value_at full a ≡ is (scaled_by kind (get_or full place Missing))
field_value full place (number n scale) kind e = absurd (none_some kind e)
field_value full place (text t) kind e = absurd (none_some kind e)
field_value full place (field r) kind e =
    let found = kind_of_field (nat_eq r.place place) r.kind kind e in
    literal_gives r.kind (slice_get full r.place) ∙ ap is (scaled_there r.kind full r.place)
    ∙ ap (λ k. is (scaled_by k (get_or full r.place Missing))) found.1 ∙ ap (λ p. is (scaled_by kind (get_or full p Missing))) (same_place r.place place found.0)
field_value full place (negative a) kind e = absurd (none_some kind e)
field_value full place (chain a os) kind e = absurd (none_some kind e)
field_value full place (count r) kind e = absurd (none_some kind e)
field_value full place (statistic s a r) kind e = absurd (none_some kind e)
field_value full place (known a v) kind e = absurd (none_some kind e)

-- ---- the sides of a comparison

reversed : Option Ordering → Option Ordering
reversed None = None
reversed (Some o) = Some (ordering_reverse o)

turned_passes : (op : Comparison) (o : Ordering) → passes (turned op) (ordering_reverse o) ≡ passes op o
turned_passes by.Equal Less = refl
turned_passes by.Equal Equal = refl
turned_passes by.Equal Greater = refl
turned_passes by.NotEqual Less = refl
turned_passes by.NotEqual Equal = refl
turned_passes by.NotEqual Greater = refl
turned_passes by.Greater Less = refl
turned_passes by.Greater Equal = refl
turned_passes by.Greater Greater = refl
turned_passes by.GreaterEqual Less = refl
turned_passes by.GreaterEqual Equal = refl
turned_passes by.GreaterEqual Greater = refl
turned_passes by.Less Less = refl
turned_passes by.Less Equal = refl
turned_passes by.Less Greater = refl
turned_passes by.LessEqual Less = refl
turned_passes by.LessEqual Equal = refl
turned_passes by.LessEqual Greater = refl

turned_some : (op : Comparison) (o p : Ordering) → p ≡ ordering_reverse o → judged (turned op) (Some p) ≡ judged op (Some o)
turned_some op o p e = ap weighed (ap (passes (turned op)) e ∙ turned_passes op o)

turned_values : (op : Comparison) (v : Value) (s : ℕ) (w : Value) (t : ℕ) → judged (turned op) (order_of_values w t v s) ≡ judged op (order_of_values v s w t)
turned_values op Missing s Missing t = refl
turned_values op Missing s (Number m) t = refl
turned_values op Missing s (Text b) t = refl
turned_values op (Number n) s Missing t = refl
turned_values op (Number n) s (Number m) t =
    let e : max t s ≡ max s t = omega arith in
    turned_some op (int_cmp (brought n s (max s t)) (brought m t (max s t))) (int_cmp (brought m t (max t s)) (brought n s (max t s)))
    (ap (λ k. int_cmp (brought m t k) (brought n s k)) e ∙ int_cmp_total.antisymm (brought m t (max s t)) (brought n s (max s t)))
turned_values op (Number n) s (Text b) t = refl
turned_values op (Text a) s Missing t = refl
turned_values op (Text a) s (Number m) t = refl
turned_values op (Text a) s (Text b) t = turned_some op (slice_cmp nat_cmp a b) (slice_cmp nat_cmp b a) (nat_list_cmp_total.antisymm b a)

turned_compared : (op : Comparison) (x y : Computed) → compared (turned op) y x ≡ compared op x y
turned_compared op (is a) (is b) = turned_values op a.value a.scale b.value b.scale
turned_compared op (is a) overflow = refl
turned_compared op overflow (is b) = refl
turned_compared op overflow overflow = refl

-- ---- one comparison

limited_if : (rows : Row) (g : Bool) (op : Comparison) (b : Expression) (k : Option FieldType) (l : Limited) (v : Value) → IsWide v → (g ≡ true → (kind : FieldType) → k ≡ Some kind → verdict_of (compared op (is (scaled_by kind v)) (value_at rows b)) ≢ passed_over) → IsLimited l v → IsLimited (narrowed_from rows l (asked_if g op b k)) v
limited_if rows true op b (Some kind) l v wide h k = limited_by_value op kind v (value_at rows b) l wide (h refl kind refl) k
limited_if rows true op b None l v wide h k = k
limited_if rows false op b kind l v wide h k = k

pub limited_by_comparison : (rows own : Row) (place : ℕ) (op : Comparison) (a b : Expression) (l : Limited) → IsWide (get_or (rows ++ own) place Missing) → verdict_of (compared op (value_at (rows ++ own) a) (value_at (rows ++ own) b)) ≢ passed_over → IsLimited l (get_or (rows ++ own) place Missing) → IsLimited (narrowed_from rows l (asked_by (length rows) place op a b)) (get_or (rows ++ own) place Missing)
limited_by_comparison rows own place op a b l wide h k =
    let full = rows ++ own in
    let v = get_or full place Missing in
    limited_if rows (is_bounding op && is_before (length rows) b) op b (kind_at place a) l v wide
    (λ g kind e. subst (λ c. verdict_of (compared op (is (scaled_by kind v)) c) ≢ passed_over) (before_value rows own b (both_true (is_bounding op) (is_before (length rows) b) g).1)
    (subst (λ x. verdict_of (compared op x (value_at full b)) ≢ passed_over) (field_value full place a kind e) h)) k

equated_if : (rows : Row) (g : Bool) (b : Expression) (k : Option FieldType) (v : Value) → IsWide v → (g ≡ true → (kind : FieldType) → k ≡ Some kind → verdict_of (compared by.Equal (is (scaled_by kind v)) (value_at rows b)) ≢ passed_over) → IsEquated (first_equated rows (asked_if g by.Equal b k)) v
equated_if rows true b (Some kind) v wide h = equated_by_value kind v (value_at rows b) wide (h refl kind refl)
equated_if rows true b None v wide h = tt
equated_if rows false b kind v wide h = tt

unequated_if : (rows : Row) (g : Bool) (op : Comparison) (b : Expression) (k : Option FieldType) → is_equating op ≡ false → first_equated rows (asked_if g op b k) ≡ None
unequated_if rows true op b (Some kind) h = ap (λ t. if t then Some (equated_with kind (value_at rows b)) else None) h
unequated_if rows true op b None h = refl
unequated_if rows false op b kind h = refl

equated_by_equation : (rows own : Row) (place : ℕ) (a b : Expression) → IsWide (get_or (rows ++ own) place Missing) → verdict_of (compared by.Equal (value_at (rows ++ own) a) (value_at (rows ++ own) b)) ≢ passed_over → IsEquated (first_equated rows (asked_by (length rows) place by.Equal a b)) (get_or (rows ++ own) place Missing)
equated_by_equation rows own place a b wide h =
    let full = rows ++ own in
    let v = get_or full place Missing in
    equated_if rows (is_before (length rows) b) b (kind_at place a) v wide
    (λ g kind e. subst (λ c. verdict_of (compared by.Equal (is (scaled_by kind v)) c) ≢ passed_over) (before_value rows own b g)
    (subst (λ x. verdict_of (compared by.Equal x (value_at full b)) ≢ passed_over) (field_value full place a kind e) h))

by_test : (P : Type 0) (b : Bool) → (b ≡ true → P) → (b ≡ false → P) → P
by_test P true h k = h refl
by_test P false h k = k refl

equated_by_comparison : (rows own : Row) (place : ℕ) (op : Comparison) (a b : Expression) → IsWide (get_or (rows ++ own) place Missing) → verdict_of (compared op (value_at (rows ++ own) a) (value_at (rows ++ own) b)) ≢ passed_over → IsEquated (first_equated rows (asked_by (length rows) place op a b)) (get_or (rows ++ own) place Missing)
equated_by_comparison rows own place op a b wide h =
    let v = get_or (rows ++ own) place Missing in
    by_test (IsEquated (first_equated rows (asked_by (length rows) place op a b)) v) (is_equating op)
    (λ e. let same = equating op e in subst (λ op. IsEquated (first_equated rows (asked_by (length rows) place op a b)) v) (sym same)
    (equated_by_equation rows own place a b wide (subst (λ op. verdict_of (compared op (value_at (rows ++ own) a) (value_at (rows ++ own) b)) ≢ passed_over) same h)))
    (λ e. subst (λ f. IsEquated f v) (sym (unequated_if rows (is_bounding op && is_before (length rows) b) op b (kind_at place a) e)) tt)

-- ---- one test

abbrev pub IsKept : Row → Testing → Type 0
IsKept full t = verdict_of (truth_at full t) ≢ passed_over

-- both comparisons of a BETWEEN hold, unless one overflows

both_weighed : (a b : Bool) → verdict_of (weighed (a && b)) ≢ passed_over → (verdict_of (weighed a) ≢ passed_over) × (verdict_of (weighed b) ≢ passed_over)
both_weighed true true h = (h, h)
both_weighed true false h = absurd (h refl)
both_weighed false b h = absurd (h refl)

both_kept : (o p : Option Ordering) → verdict_of (within o p) ≢ passed_over → (verdict_of (judged by.GreaterEqual o) ≢ passed_over) × (verdict_of (judged by.LessEqual p) ≢ passed_over)
both_kept None p h = absurd (h refl)
both_kept (Some o) None h = absurd (h refl)
both_kept (Some o) (Some p) h = both_weighed (is_ge o) (is_le p) h

lost_by : (op : Comparison) (kind : FieldType) (c : Computed) → narrowed_by op kind c limited.Lost ≡ limited.Lost
lost_by op kind (is other) = refl
lost_by op kind overflow = refl

lost_stays : (rows : Row) (asked : List Asked) → narrowed_from rows limited.Lost asked ≡ limited.Lost
lost_stays rows [] = refl
lost_stays rows (a ∷ more) = ap (λ l. narrowed_from rows l more) (lost_by a.op a.kind (value_at rows a.other)) ∙ lost_stays rows more

-- the limits by the two comparisons of a BETWEEN, where the types of its field and what its bounds give are known
between_limited : (kind : FieldType) (low high : Computed) (l : Limited) (v : Value) → IsWide v → verdict_of (lies_between (is (scaled_by kind v)) low high) ≢ passed_over → IsLimited l v → IsLimited (narrowed_by by.LessEqual kind high (narrowed_by by.GreaterEqual kind low l)) v
between_limited kind (is low) (is high) l v wide h k =
    let both = both_kept (order_of (scaled_by kind v) low) (order_of (scaled_by kind v) high) h in
    limited_by_value by.LessEqual kind v (is high) (narrowed_by by.GreaterEqual kind (is low) l) wide both.1 (limited_by_value by.GreaterEqual kind v (is low) l wide both.0 k)
between_limited kind (is low) overflow l v wide h k = tt
between_limited kind overflow high l v wide h k = subst (λ l. IsLimited l v) (sym (lost_by by.LessEqual kind high)) tt

between_if : (rows : Row) (low high : Expression) (k : Option FieldType) (l : Limited) (v : Value) → IsWide v → ((kind : FieldType) → k ≡ Some kind → verdict_of (lies_between (is (scaled_by kind v)) (value_at rows low) (value_at rows high)) ≢ passed_over) → IsLimited l v → IsLimited (narrowed_from rows l (asked_if true by.GreaterEqual low k ++ asked_if true by.LessEqual high k)) v
between_if rows low high (Some kind) l v wide h k = between_limited kind (value_at rows low) (value_at rows high) l v wide (h kind refl) k
between_if rows low high None l v wide h k = k

limited_by_between : (rows own : Row) (place : ℕ) (a low high : Expression) (b : Bool) (l : Limited) → (is_before (length rows) low && is_before (length rows) high) ≡ b → IsWide (get_or (rows ++ own) place Missing) → verdict_of (lies_between (value_at (rows ++ own) a) (value_at (rows ++ own) low) (value_at (rows ++ own) high)) ≢ passed_over → IsLimited l (get_or (rows ++ own) place Missing) → IsLimited (narrowed_from rows l (asked_between b (length rows) place a low high)) (get_or (rows ++ own) place Missing)
limited_by_between rows own place a low high false l e wide h k = k
limited_by_between rows own place a low high true l e wide h k =
    let full = rows ++ own in
    let v = get_or full place Missing in
    let both = both_true (is_before (length rows) low) (is_before (length rows) high) e in
    let whole : IsLimited (narrowed_from rows l (asked_if true by.GreaterEqual low (kind_at place a) ++ asked_if true by.LessEqual high (kind_at place a))) v =
    between_if rows low high (kind_at place a) l v wide
    (λ kind f. subst (λ c. verdict_of (lies_between (is (scaled_by kind v)) (value_at rows low) c) ≢ passed_over) (before_value rows own high both.1)
    (subst (λ c. verdict_of (lies_between (is (scaled_by kind v)) c (value_at full high)) ≢ passed_over) (before_value rows own low both.0)
    (subst (λ x. verdict_of (lies_between x (value_at full low) (value_at full high)) ≢ passed_over) (field_value full place a kind f) h))) k in
    subst (λ g. IsLimited (narrowed_from rows l (asked_if g by.GreaterEqual low (kind_at place a) ++ asked_if (is_before (length rows) high) by.LessEqual high (kind_at place a))) v) (sym both.0)
    (subst (λ g. IsLimited (narrowed_from rows l (asked_if true by.GreaterEqual low (kind_at place a) ++ asked_if g by.LessEqual high (kind_at place a))) v) (sym both.1) whole)

limited_by_test : (rows own : Row) (place : ℕ) (t : Testing) (l : Limited) → IsWide (get_or (rows ++ own) place Missing) → IsKept (rows ++ own) t → IsLimited l (get_or (rows ++ own) place Missing) → IsLimited (narrowed_from rows l (asked_of (length rows) place t)) (get_or (rows ++ own) place Missing)
limited_by_test rows own place (compare op a b) l wide h k =
    let v = get_or (rows ++ own) place Missing in
    subst (λ l. IsLimited l v) (sym (narrowed_from-append rows l (asked_by (length rows) place op a b) (asked_by (length rows) place (turned op) b a)))
    (limited_by_comparison rows own place (turned op) b a (narrowed_from rows l (asked_by (length rows) place op a b)) wide
    (subst (λ w. verdict_of w ≢ passed_over) (sym (turned_compared op (value_at (rows ++ own) a) (value_at (rows ++ own) b))) h)
    (limited_by_comparison rows own place op a b l wide h k))
limited_by_test rows own place (between a low high) l wide h k = limited_by_between rows own place a low high (is_before (length rows) low && is_before (length rows) high) l refl wide h k
limited_by_test rows own place (containing a b) l wide h k = k
limited_by_test rows own place (starting_with a b) l wide h k = k
limited_by_test rows own place (missing e) l wide h k = k
limited_by_test rows own place (any r) l wide h k = k
limited_by_test rows own place (negated c) l wide h k = k
limited_by_test rows own place (group c) l wide h k = k
limited_by_test rows own place (decided c v) l wide h k = k

equated_or : (a b : Option Equated) (v : Value) → IsEquated a v → IsEquated b v → IsEquated (option_or a b) v
equated_or None b v h k = k
equated_or (Some a) b v h k = h

equated_by_test : (rows own : Row) (place : ℕ) (t : Testing) → IsWide (get_or (rows ++ own) place Missing) → IsKept (rows ++ own) t → IsEquated (first_equated rows (asked_of (length rows) place t)) (get_or (rows ++ own) place Missing)
equated_by_test rows own place (compare op a b) wide h =
    let v = get_or (rows ++ own) place Missing in
    subst (λ e. IsEquated e v) (sym (first_equated-append rows (asked_by (length rows) place op a b) (asked_by (length rows) place (turned op) b a)))
    (equated_or (first_equated rows (asked_by (length rows) place op a b)) (first_equated rows (asked_by (length rows) place (turned op) b a)) v
    (equated_by_comparison rows own place op a b wide h)
    (equated_by_comparison rows own place (turned op) b a wide (subst (λ w. verdict_of w ≢ passed_over) (sym (turned_compared op (value_at (rows ++ own) a) (value_at (rows ++ own) b))) h)))
equated_by_test rows own place (between a low high) wide h = subst (λ e. IsEquated e (get_or (rows ++ own) place Missing)) (between_unequated rows (is_before (length rows) low && is_before (length rows) high) (length rows) place a low high) tt
equated_by_test rows own place (containing a b) wide h = tt
equated_by_test rows own place (starting_with a b) wide h = tt
equated_by_test rows own place (missing e) wide h = tt
equated_by_test rows own place (any r) wide h = tt
equated_by_test rows own place (negated c) wide h = tt
equated_by_test rows own place (group c) wide h = tt
equated_by_test rows own place (decided c v) wide h = tt

-- ---- all tests

parts_kept : (a b : Verdict) → both_parts a b ≢ passed_over → (a ≢ passed_over) × (b ≢ passed_over)
parts_kept chosen chosen h = (h, h)
parts_kept chosen passed_over h = absurd (h refl)
parts_kept chosen undecided h = ((λ e. cc), h)
parts_kept passed_over b h = absurd (h refl)
parts_kept undecided chosen h = (h, (λ e. cc))
parts_kept undecided passed_over h = absurd (h refl)
parts_kept undecided undecided h = (h, h)

pub limited_by_tests : (rows own : Row) (place : ℕ) (ts : Conjunction) (l : Limited) → IsWide (get_or (rows ++ own) place Missing) → parts_at (rows ++ own) ts ≢ passed_over → IsLimited l (get_or (rows ++ own) place Missing) → IsLimited (narrowed_from rows l (asked_in (length rows) place ts)) (get_or (rows ++ own) place Missing)
limited_by_tests rows own place no_test l wide h k = k
limited_by_tests rows own place (test t ts) l wide h k =
    let both = parts_kept (verdict_of (truth_at (rows ++ own) t)) (parts_at (rows ++ own) ts) h in
    subst (λ l. IsLimited l (get_or (rows ++ own) place Missing)) (sym (narrowed_from-append rows l (asked_of (length rows) place t) (asked_in (length rows) place ts)))
    (limited_by_tests rows own place ts (narrowed_from rows l (asked_of (length rows) place t)) wide both.1 (limited_by_test rows own place t l wide both.0 k))

pub equated_by_tests : (rows own : Row) (place : ℕ) (ts : Conjunction) → IsWide (get_or (rows ++ own) place Missing) → parts_at (rows ++ own) ts ≢ passed_over → IsEquated (first_equated rows (asked_in (length rows) place ts)) (get_or (rows ++ own) place Missing)
equated_by_tests rows own place no_test wide h = tt
equated_by_tests rows own place (test t ts) wide h =
    let both = parts_kept (verdict_of (truth_at (rows ++ own) t)) (parts_at (rows ++ own) ts) h in
    subst (λ e. IsEquated e (get_or (rows ++ own) place Missing)) (sym (first_equated-append rows (asked_of (length rows) place t) (asked_in (length rows) place ts)))
    (equated_or (first_equated rows (asked_of (length rows) place t)) (first_equated rows (asked_in (length rows) place ts)) (get_or (rows ++ own) place Missing)
    (equated_by_test rows own place t wide both.0) (equated_by_tests rows own place ts wide both.1))

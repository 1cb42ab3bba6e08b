-- A row that the tests don't pass over is among those that are come by.
use Rattle.std.proofs.Common.{◌≡◌, ◌≢◌, ℕ, zero, suc, ◌+◌, Bool, true, false, ◌&&◌, List, [], ◌∷◌, ◌++◌, length, get_or, Option, Some, None, option_map, option_and_then, unwrap_or, inl, inr, refl, ap, sym, ◌∙◌, subst, append_assoc, append-nil}
use Rattle.std.specs.List.{AllByRecursion}
use Rattle.std.specs.Option.{option_or}
use Rattle.std.specs.declared.cmp.Ordering.{Ordering}
use Rattle.std.specs.declared.cmp.Ordering.TheVariants.{Less, Equal, Greater}
use Rattle.std.specs.Ordering.{ordering_then}
use Rattle.std.proofs.lemmas.List.{get_or-append-add}
use Rattle.rdb_types.specs.declared.keys.Dbkey.{Dbkey}
use Rattle.rdb_types.specs.declared.values.Value.{Value}
use Rattle.rdb_types.specs.declared.values.Value.TheVariants.{Missing}
use Rattle.rdb_types.specs.Order.{value_order}
use Rattle.rdb_meaning.specs.Comparison.{passed_over}
use Rattle.rdb_meaning.specs.Contents.{Row, key_of}
use Rattle.rdo_values.specs.Tree.{Conjunction}
use Rattle.rdo_values.specs.Filled.{parts_at}
use Rattle.sorted_index_laws.specs.Keys.{is_within, between}
use Rattle.access_paths.specs.declared.limits.End.{End}
use Rattle.access_paths.specs.declared.limits.Limited.{Limited}
use Rattle.access_paths.specs.declared.limits.Limited.TheVariants as limited
use Rattle.access_paths.specs.declared.equated.Equated.{Equated}
use Rattle.access_paths.specs.declared.equated.Equated.TheVariants as to
use Rattle.access_paths.specs.declared.equated.EquatedKey.{EquatedKey}
use Rattle.access_paths.specs.declared.equated.EquatedKey.TheVariants as key
use Rattle.access_paths.specs.declared.choice.IndexPath.{IndexPath}
use Rattle.access_paths.specs.declared.choice.Access.{Access}
use Rattle.access_paths.specs.declared.choice.Access.TheVariants.{Scan, Find, Range}
use Rattle.access_paths.specs.Serving.{asked_in}
use Rattle.access_paths.specs.Limits.{bounds_to, limits_at}
use Rattle.access_paths.specs.Equated.{first_equated, with_equated, key_from, key_at}
use Rattle.access_paths.specs.Choice.{access_by_key, first_by_key, access_by_limits, first_limits, first_by_limits, choice}
use Rattle.access_paths.specs.Reached.{IsWide, Reaches}
use Rattle.access_paths.proofs.Ends.{is_from, is_up_to}
use Rattle.access_paths.proofs.Inside.{is_above_end, is_below_end, IsLimited, IsEquated}
use Rattle.access_paths.proofs.Served.{limited_by_tests, equated_by_tests}

-- ---- the field at a position

wide_at : (own : Row) (p : ℕ) → AllByRecursion IsWide own → IsWide (get_or own p Missing)
wide_at [] p h = tt
wide_at (v ∷ own) zero h = h.0
wide_at (v ∷ own) (suc p) h = wide_at own p h.1

abbrev IsGiven : Row → Row → Conjunction → Type 0
IsGiven rows own tests = AllByRecursion IsWide own × (parts_at (rows ++ own) tests ≢ passed_over)

field_wide : (rows own : Row) (p : ℕ) → AllByRecursion IsWide own → IsWide (get_or (rows ++ own) (length rows + p) Missing)
field_wide rows own p h = subst IsWide (sym (get_or-append-add rows own p Missing)) (wide_at own p h)

field_limited : (rows own : Row) (tests : Conjunction) (p : ℕ) → IsGiven rows own tests → IsLimited (limits_at rows (length rows + p) tests) (get_or own p Missing)
field_limited rows own tests p h =
    subst (IsLimited (limits_at rows (length rows + p) tests)) (get_or-append-add rows own p Missing)
    (limited_by_tests rows own (length rows + p) tests limited.Nothing (field_wide rows own p h.0) h.1 tt)

field_equated : (rows own : Row) (tests : Conjunction) (p : ℕ) → IsGiven rows own tests → IsEquated (first_equated rows (asked_in (length rows) (length rows + p) tests)) (get_or own p Missing)
field_equated rows own tests p h =
    subst (IsEquated (first_equated rows (asked_in (length rows) (length rows + p) tests))) (get_or-append-add rows own p Missing)
    (equated_by_tests rows own (length rows + p) tests (field_wide rows own p h.0) h.1)

-- ---- the key of an index

abbrev IsKey : EquatedKey → Row → Type 0
IsKey (key.To values) row = row ≡ values
IsKey key.Never row = ⊥
IsKey key.Lost row = Unit {0}

abbrev IsKeyIf : Option EquatedKey → Row → Type 0
IsKeyIf (Some k) row = IsKey k row
IsKeyIf None row = Unit {0}

longer_key : (k : EquatedKey) (e : Equated) (vs : Row) (v : Value) → IsKey k vs → IsEquated (Some e) v → IsKey (with_equated k e) (vs ++ v ∷ [])
longer_key (key.To values) (to.To f) vs v h e = λ i. h i ++ sym e i ∷ []
longer_key (key.To values) to.Never vs v h e = absurd e
longer_key (key.To values) to.Lost vs v h e = tt
longer_key key.Never e vs v h f = absurd h
longer_key key.Lost e vs v h f = tt

key_behind : (rows own : Row) (tests : Conjunction) (k : EquatedKey) (ps : List ℕ) (vs : Row) (v : Value) → ((k : EquatedKey) (vs : Row) → IsKey k vs → IsKeyIf (key_from rows tests k ps) (vs ++ key_of ps own)) → IsKey k vs → (e : Option Equated) → IsEquated e v → IsKeyIf (option_and_then (λ e. key_from rows tests (with_equated k e) ps) e) (vs ++ v ∷ key_of ps own)
key_behind rows own tests k ps vs v further is None f = tt
key_behind rows own tests k ps vs v further is (Some e) f =
    subst (IsKeyIf (key_from rows tests (with_equated k e) ps)) (append_assoc vs (v ∷ []) (key_of ps own))
    (further (with_equated k e) (vs ++ v ∷ []) (longer_key k e vs v is f))

key_with : (rows own : Row) (tests : Conjunction) (k : EquatedKey) (ps : List ℕ) (vs : Row) → IsGiven rows own tests → IsKey k vs → IsKeyIf (key_from rows tests k ps) (vs ++ key_of ps own)
key_with rows own tests k [] vs h is = subst (IsKey k) (sym (append-nil vs)) is
key_with rows own tests k (p ∷ ps) vs h is =
    key_behind rows own tests k ps vs (get_or own p Missing) (λ k vs is. key_with rows own tests k ps vs h is) is
    (first_equated rows (asked_in (length rows) (length rows + p) tests)) (field_equated rows own tests p h)

-- ---- bounds

then_equal : (o : Ordering) → ordering_then o Equal ≡ o
then_equal Less = refl
then_equal Equal = refl
then_equal Greater = refl

first_order : (v w : Value) → value_order v w ≡ ordering_then (value_order v w) Equal
first_order v w = sym (then_equal (value_order v w))

both_hold : (a b : Bool) → a ≡ true → b ≡ true → (a && b) ≡ true
both_hold true b h k = k
both_hold false b h k = absurd (cc)

within_bounds : (low : End) (high : Option End) (v : Value) (rest : Row) → is_above_end low v ≡ true → is_below_end high v ≡ true → is_within (between (bounds_to low high)) (v ∷ rest) ≡ true
within_bounds low (Some high) v rest h k =
    both_hold _ _ (ap (λ o. is_from low.included o) (sym (first_order v low.value)) ∙ h) (ap (λ o. is_up_to high.included o) (sym (first_order v high.value)) ∙ k)
within_bounds low None v rest h k =
    both_hold _ true (ap (λ o. is_from low.included o) (sym (first_order v low.value)) ∙ h) refl

-- ---- the indexes

abbrev ReachesIf : List IndexPath → Row → Option Access → Type 0
ReachesIf indexes own (Some a) = Reaches indexes own a
ReachesIf indexes own None = Unit {0}

reaches_behind : (x : IndexPath) (xs : List IndexPath) (own : Row) (a : Option Access) → ReachesIf xs own a → ReachesIf (x ∷ xs) own a
reaches_behind x xs own None h = tt
reaches_behind x xs own (Some Scan) h = tt
reaches_behind x xs own (Some (Find root k)) h = inr h
reaches_behind x xs own (Some (Range root bounds)) h = inr h

reaches_either : (indexes : List IndexPath) (own : Row) (a b : Option Access) → ReachesIf indexes own a → ReachesIf indexes own b → ReachesIf indexes own (option_or a b)
reaches_either indexes own None b h k = k
reaches_either indexes own (Some a) b h k = h

reached_by_key : (x : IndexPath) (xs : List IndexPath) (own : Row) (k : Option EquatedKey) → IsKeyIf k (key_of x.fields own) → ReachesIf (x ∷ xs) own (option_map (access_by_key x.root) k)
reached_by_key x xs own None h = tt
reached_by_key x xs own (Some (key.To values)) h = inl (refl, h)
reached_by_key x xs own (Some key.Never) h = absurd h
reached_by_key x xs own (Some key.Lost) h = tt

reached_by_keys : (rows own : Row) (tests : Conjunction) (indexes : List IndexPath) → IsGiven rows own tests → ReachesIf indexes own (first_by_key rows tests indexes)
reached_by_keys rows own tests [] h = tt
reached_by_keys rows own tests (x ∷ xs) h =
    reaches_either (x ∷ xs) own (option_map (access_by_key x.root) (key_at rows tests x.fields)) (first_by_key rows tests xs)
    (reached_by_key x xs own (key_at rows tests x.fields) (key_with rows own tests (key.To []) x.fields [] h refl))
    (reaches_behind x xs own (first_by_key rows tests xs) (reached_by_keys rows own tests xs h))

reached_by_limits : (root : Dbkey) (p : ℕ) (ps : List ℕ) (xs : List IndexPath) (own : Row) (l : Limited) → IsLimited l (get_or own p Missing) → ReachesIf (record { root = root; fields = p ∷ ps } ∷ xs) own (access_by_limits root l)
reached_by_limits root p ps xs own limited.Nothing h = tt
reached_by_limits root p ps xs own (limited.Within limits) h = inl (refl, within_bounds limits.low limits.high (get_or own p Missing) (key_of ps own) h.low h.high)
reached_by_limits root p ps xs own limited.Lost h = tt

first_reached : (rows own : Row) (tests : Conjunction) (root : Dbkey) (ps : List ℕ) (xs : List IndexPath) → IsGiven rows own tests → ReachesIf (record { root = root; fields = ps } ∷ xs) own (access_by_limits root (first_limits rows tests ps))
first_reached rows own tests root [] xs h = tt
first_reached rows own tests root (p ∷ ps) xs h = reached_by_limits root p ps xs own (limits_at rows (length rows + p) tests) (field_limited rows own tests p h)

reached_by_ranges : (rows own : Row) (tests : Conjunction) (indexes : List IndexPath) → IsGiven rows own tests → ReachesIf indexes own (first_by_limits rows tests indexes)
reached_by_ranges rows own tests [] h = tt
reached_by_ranges rows own tests (x ∷ xs) h =
    reaches_either (x ∷ xs) own (access_by_limits x.root (first_limits rows tests x.fields)) (first_by_limits rows tests xs)
    (first_reached rows own tests x.root x.fields xs h)
    (reaches_behind x xs own (first_by_limits rows tests xs) (reached_by_ranges rows own tests xs h))

reached_or_scanned : (indexes : List IndexPath) (own : Row) (a : Option Access) → ReachesIf indexes own a → Reaches indexes own (unwrap_or a Scan)
reached_or_scanned indexes own None h = tt
reached_or_scanned indexes own (Some a) h = h

pub reached : (indexes : List IndexPath) (tests : Conjunction) (rows own : Row) → AllByRecursion IsWide own → parts_at (rows ++ own) tests ≢ passed_over → Reaches indexes own (choice indexes rows tests)
reached indexes tests rows own wide kept =
    reached_or_scanned indexes own (option_or (first_by_key rows tests indexes) (first_by_limits rows tests indexes))
    (reaches_either indexes own (first_by_key rows tests indexes) (first_by_limits rows tests indexes)
    (reached_by_keys rows own tests indexes (wide, kept)) (reached_by_ranges rows own tests indexes (wide, kept)))

-- Keys that are put behind those before, and taken back.
use Rattle.std.proofs.Common.{◌≡◌, ℕ, zero, suc, ◌+◌, ◌≤◌, ◌<◌, ◌||◌, ◌⊎◌, inl, inr, Bool, true, false, cond, not, List, [], ◌∷◌, ◌++◌, length, Option, Some, None, T, refl, sym, ap, subst, ◌∙◌, arith}
use Rattle.std.specs.Prelude.{is_some, slice_get}
use Rattle.std.specs.List.{filter}
use Rattle.std.specs.declared.cmp.Ordering.{Ordering}
use Rattle.std.specs.declared.cmp.Ordering.TheVariants.{Less, Equal, Greater}
use Rattle.std.specs.Ordering.{is_eq}
use Rattle.std.specs.Cmp.{tied_itself}
use Rattle.std.specs.FinMap.Entries.{find, put, is_sorted, is_sorted-put, find-put, length-put}
use Rattle.std.proofs.lemmas.Option.{same_Some, none-some}
use Rattle.std.proofs.lemmas.Bool.{true≢false}
use Rattle.rdb_types.specs.declared.keys.Dbkey.{Dbkey}
use Rattle.rdb_types.specs.declared.keys.Line.{Line}
use Rattle.rdb_types.specs.declared.keys.Tsn.{Tsn}
use Rattle.rdb_types.specs.Order.{dbkey_order}
use Rattle.rdb_types.specs.OrderLaws.{dbkey_total, same_dbkey}
use Rattle.ordered_entries.proofs.Laws.{filter-put}
use Rattle.line_view.specs.declared.writes.Write.{Write}
use Rattle.line_store.specs.Seats.{is_written}
use Rattle.member_memory.specs.Memory.{Memory, AreKeysOf, has_key}
use Rattle.member_memory.specs.Changes.{blank, with_key, Grows, same, more}

-- ---- lists with one more element at their end

pub length-more : {X : Type 0} (xs : List X) (x : X) → length (xs ++ x ∷ []) ≡ length xs + 1
length-more [] x = refl
length-more (y ∷ ys) x = omega (arith, length-more ys x)

head-or : {X : Type 0} → X → List X → X
head-or d [] = d
head-or d (x ∷ xs) = x

tail-of : {X : Type 0} → List X → List X
tail-of [] = []
tail-of (x ∷ xs) = xs

not-more : {X : Type 0} (xs : List X) (x : X) → [] ≡ xs ++ x ∷ [] → ⊥
not-more xs x is = omega (arith, ap length is, length-more xs x)

pub same-front : {X : Type 0} (xs ys : List X) (x y : X) → xs ++ x ∷ [] ≡ ys ++ y ∷ [] → (xs ≡ ys) × (x ≡ y)
unfolding head-or tail-of
same-front [] [] x y is = (refl, ap (head-or x) is)
same-front [] (z ∷ zs) x y is = absurd (not-more zs y (ap tail-of is))
same-front (z ∷ zs) [] x y is = absurd (not-more zs x (sym (ap tail-of is)))
same-front (z ∷ zs) (w ∷ ws) x y is =
    let rest = same-front zs ws x y (ap tail-of is) in
    let first : z ≡ w = ap (head-or z) is in
    (λ i. first i ∷ rest.0 i, rest.1)

pub get-front : {X : Type 0} (xs : List X) (x y : X) (i : ℕ) → slice_get xs i ≡ Some y → slice_get (xs ++ x ∷ []) i ≡ Some y
get-front [] x y i is = absurd (none-some _ is)
get-front (z ∷ zs) x y zero is = is
get-front (z ∷ zs) x y (suc i) is = get-front zs x y i is

-- an element is one of the first, or the last
pub get-more : {X : Type 0} (xs : List X) (x y : X) (i : ℕ) → slice_get (xs ++ x ∷ []) i ≡ Some y → (slice_get xs i ≡ Some y) ⊎ ((i ≡ length xs) × (x ≡ y))
get-more [] x y zero is = inr (refl, same_Some _ _ is)
get-more [] x y (suc i) is = absurd (none-some _ is)
get-more (z ∷ zs) x y zero is = inl is
get-more (z ∷ zs) x y (suc i) is = elim (get-more zs x y i is) [ inl front ↦ inl front | inr last ↦ inr (ap suc last.0, last.1) ]

-- ---- what grows

pub tied : (r : Ordering) → is_eq r ≡ true → r ≡ Equal
tied Less e = absurd (true≢false (sym e))
tied Equal e = refl
tied Greater e = absurd (true≢false (sym e))

pub true-from_T : (b : Bool) → T b → b ≡ true
true-from_T true h = refl
true-from_T false h = absurd h

pub T-from_true : (b : Bool) → b ≡ true → T b
T-from_true b e = subst T (sym e) tt

-- a key is found as before, or it was put, being one of the writes
abbrev pub IsGrown : Tsn → List Write → Memory → Memory → Dbkey → Type 0
IsGrown tsn writes old new q = (find dbkey_order q new.lines ≡ find dbkey_order q old.lines) ⊎ ((find dbkey_order q old.lines ≡ None) × (find dbkey_order q new.lines ≡ Some (blank tsn)) × (is_written q writes ≡ true))

has-more : (q key : Dbkey) (keys : List Dbkey) → has_key q (keys ++ key ∷ []) ≡ (is_eq (dbkey_order q key) || has_key q keys)
has-more q key [] = refl
has-more q key (k ∷ ks) = ap (λ b. is_eq (dbkey_order q k) || b) (has-more q key ks) ∙ turned (is_eq (dbkey_order q k)) (is_eq (dbkey_order q key)) (has_key q ks)
  where
    turned : (a b c : Bool) → (a || (b || c)) ≡ (b || (a || c))
    turned true true c = refl
    turned true false c = refl
    turned false b c = refl

is-some-put : (b : Bool) (line : Line) (found : Option Line) → is_some (cond b (Some line) found) ≡ (b || is_some found)
is-some-put true line found = refl
is-some-put false line found = refl

-- a key that stands among the keys is one of them
pub has-it : (keys : List Dbkey) (i : ℕ) (key : Dbkey) → slice_get keys i ≡ Some key → has_key key keys ≡ true
has-it [] i key is = absurd (none-some _ is)
has-it (k ∷ ks) zero key is = ap (λ (q : Dbkey). is_eq (dbkey_order key q) || has_key key ks) (same_Some _ _ is) ∙ ap (λ r. is_eq r || has_key key ks) (tied_itself dbkey_total key)
has-it (k ∷ ks) (suc i) key is = ap (λ b. is_eq (dbkey_order key k) || b) (has-it ks i key is) ∙ always (is_eq (dbkey_order key k))
  where
    always : (b : Bool) → (b || true) ≡ true
    always true = refl
    always false = refl

-- one key more
one-kept : (tsn : Tsn) (key : Dbkey) (m : Memory) → find dbkey_order key m.lines ≡ None → AreKeysOf m.lines m.keys →
    AreKeysOf (put dbkey_order key (blank tsn) m.lines) (m.keys ++ key ∷ [])
one-kept tsn key m none were = record {
  ordered = true-from_T _ (is_sorted-put dbkey_order dbkey_total key (blank tsn) m.lines (T-from_true _ were.ordered));
  long = length-more m.keys key ∙ ap (λ n. n + 1) were.long ∙ sym (length-put dbkey_order dbkey_total key (blank tsn) m.lines (T-from_true _ were.ordered) ∙ ap (λ (x : Option Line). cond (is_some x) (length m.lines) (length m.lines + 1)) none);
  same = λ q. has-more q key m.keys ∙ ap (λ b. is_eq (dbkey_order q key) || b) (were.same q) ∙ sym (ap is_some (find-put dbkey_order dbkey_total q key (blank tsn) m.lines) ∙ is-some-put (is_eq (dbkey_order q key)) (blank tsn) (find dbkey_order q m.lines));
  once = λ i k q at also. once i k q (get-more m.keys key q i at) (get-more m.keys key q k also);
}
  where
    new-one : (i : ℕ) (q : Dbkey) → slice_get m.keys i ≡ Some q → key ≡ q → ⊥
    new-one i q at alike =
        true≢false (sym (has-it m.keys i q at) ∙ were.same q ∙ ap is_some (ap (λ (k : Dbkey). find dbkey_order k m.lines) (sym alike) ∙ none))

    once : (i k : ℕ) (q : Dbkey) → (slice_get m.keys i ≡ Some q) ⊎ ((i ≡ length m.keys) × (key ≡ q)) → (slice_get m.keys k ≡ Some q) ⊎ ((k ≡ length m.keys) × (key ≡ q)) → i ≡ k
    once i k q (inl at) (inl also) = were.once i k q at also
    once i k q (inl at) (inr last) = absurd (new-one i q at last.1)
    once i k q (inr last) (inl also) = absurd (new-one k q also last.1)
    once i k q (inr last) (inr too) = last.0 ∙ sym too.0

module _ (tsn : Tsn) (writes : List Write) (old : Memory) where
  pub grown-length : (new : Memory) → Grows tsn writes old new → length old.keys ≤ length new.keys
  grown-length new (same _ is) = subst (λ (m : Memory). length old.keys ≤ length m.keys) (sym is) (omega arith)
  grown-length new (more before _ key grows written none is) =
      subst (λ (m : Memory). length old.keys ≤ length m.keys) (sym is) (omega (arith, length-more before.keys key, grown-length before grows))

  -- the last key taken back, with its line
  pub grown-back : (new : Memory) (keys : List Dbkey) (key : Dbkey) → Grows tsn writes old new → length old.keys < length new.keys → new.keys ≡ keys ++ key ∷ [] →
      Grows tsn writes old (record { lines = filter (λ e. not (is_eq (dbkey_order key e.0))) new.lines; keys = keys })
  grown-back new keys key (same _ is) longer last = absurd (subst (λ (m : Memory). length old.keys < length m.keys → ⊥) (sym is) (λ h. omega arith) longer)
  grown-back new keys key (more before _ k grows written none is) longer last =
      let both = same-front before.keys keys k key (sym (ap (λ (m : Memory). m.keys) is) ∙ last) in
      let lines : filter (λ e. not (is_eq (dbkey_order key e.0))) new.lines ≡ before.lines =
      ap (λ (m : Memory). filter (λ e. not (is_eq (dbkey_order key e.0))) m.lines) is
      ∙ ap (λ (q : Dbkey). filter (λ e. not (is_eq (dbkey_order q e.0))) (put dbkey_order k (blank tsn) before.lines)) (sym both.1)
      ∙ filter-put dbkey_order dbkey_total k (blank tsn) before.lines none in
      subst (λ (m : Memory). Grows tsn writes old m) (λ i. record { lines = sym lines i; keys = both.0 i }) grows

  -- behind as many as there were before there is nothing to take back
  pub grown-none : (new : Memory) → Grows tsn writes old new → length new.keys ≤ length old.keys → new ≡ old
  grown-none new (same _ is) few = is
  grown-none new (more before _ key grows written none is) few =
      absurd (subst (λ (m : Memory). length m.keys ≤ length old.keys → ⊥) (sym is) (λ h. omega (arith, length-more before.keys key, grown-length before grows, h)) few)

  pub grown-more : (before new : Memory) (key : Dbkey) → Grows tsn writes old before → is_written key writes ≡ true → find dbkey_order key before.lines ≡ None → new ≡ with_key tsn key before → Grows tsn writes old new
  grown-more before new key grows written none is = more before new key grows written none is

  -- what is found
  pub grown-found : (new : Memory) (q : Dbkey) → Grows tsn writes old new → IsGrown tsn writes old new q
  grown-found new q (same _ is) = inl (ap (λ (m : Memory). find dbkey_order q m.lines) is)
  grown-found new q (more before _ key grows written none is) =
      let found : find dbkey_order q new.lines ≡ cond (is_eq (dbkey_order q key)) (Some (blank tsn)) (find dbkey_order q before.lines) =
      ap (λ (m : Memory). find dbkey_order q m.lines) is ∙ find-put dbkey_order dbkey_total q key (blank tsn) before.lines in
      by (is_eq (dbkey_order q key)) refl found (grown-found before q grows)
    where
      by : (b : Bool) → is_eq (dbkey_order q key) ≡ b → find dbkey_order q new.lines ≡ cond b (Some (blank tsn)) (find dbkey_order q before.lines) → IsGrown tsn writes old before q → IsGrown tsn writes old new q
      by true tie found rest =
          let one-key : q ≡ key = same_dbkey q key (tied _ tie) in
          let none-here : find dbkey_order q before.lines ≡ None = ap (λ (k : Dbkey). find dbkey_order k before.lines) one-key ∙ none in
          elim rest [
            | inl held ↦ inr (sym held ∙ none-here, found, ap (λ (k : Dbkey). is_written k writes) one-key ∙ written)
            | inr put ↦ absurd (none-some _ (sym none-here ∙ put.1))
          ]
      by false apart found rest = elim rest [ inl held ↦ inl (found ∙ held) | inr put ↦ inr (put.0, found ∙ put.1, put.2) ]

  -- the keys before stay in their places
  pub grown-keys : (new : Memory) (i : ℕ) (key : Dbkey) → Grows tsn writes old new → slice_get old.keys i ≡ Some key → slice_get new.keys i ≡ Some key
  grown-keys new i key (same _ is) has = ap (λ (m : Memory). slice_get m.keys i) is ∙ has
  grown-keys new i key (more before _ k grows written none is) has = ap (λ (m : Memory). slice_get m.keys i) is ∙ get-front before.keys k key i (grown-keys before i key grows has)

  pub grown-sorted : (new : Memory) → Grows tsn writes old new → is_sorted dbkey_order old.lines ≡ true → is_sorted dbkey_order new.lines ≡ true
  grown-sorted new (same _ is) sorted = ap (λ (m : Memory). is_sorted dbkey_order m.lines) is ∙ sorted
  grown-sorted new (more before _ k grows written none is) sorted =
      ap (λ (m : Memory). is_sorted dbkey_order m.lines) is ∙ true-from_T _ (is_sorted-put dbkey_order dbkey_total k (blank tsn) before.lines (T-from_true _ (grown-sorted before grows sorted)))

  -- the keys are still those of the lines, each once
  pub grown-kept : (new : Memory) → Grows tsn writes old new → AreKeysOf old.lines old.keys → AreKeysOf new.lines new.keys
  grown-kept new (same _ is) were = subst (λ (m : Memory). AreKeysOf m.lines m.keys) (sym is) were
  grown-kept new (more before _ k grows written none is) were =
      subst (λ (m : Memory). AreKeysOf m.lines m.keys) (sym is) (one-kept tsn k before none (grown-kept before grows were))

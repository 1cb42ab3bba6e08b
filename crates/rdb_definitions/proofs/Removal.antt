-- Taking entries away by their names.
use Rattle.std.proofs.Common.{◌≡◌, ℕ, ◌+◌, ◌<◌, ◌≤◌, Bool, true, false, ◌||◌, not, cond, List, [], ◌∷◌, map, length, get_or, drop, refl, sym, ap, ◌∙◌}
use Rattle.std.specs.List.{list_any, filter}
use Rattle.std.specs.declared.cmp.Ordering.{Ordering}
use Rattle.std.specs.declared.cmp.Ordering.TheVariants.{Less, Equal, Greater}
use Rattle.std.specs.Ordering.{is_eq, is_lt, ordering_reverse}
use Rattle.std.specs.Cmp.{tied_itself}
use Rattle.std.specs.FinMap.Entries.{below_all, is_sorted}
use Rattle.std.proofs.lemmas.Bool.{and_parts}
use Rattle.std.proofs.lemmas.List.{at_drop_more, at_drop_all}
use Rattle.std.proofs.lemmas.Map.Text.{is_eq-slice_cmp}
use Rattle.rdb_types.specs.OrderLaws.{chars_total}
use Rattle.rdo_ast.specs.Tree.{Name}
use Rattle.rdb_types.specs.Order.{chars_order}
use Rattle.rdb_checks.specs.rdb_meaning.Defining.{without}

-- names that tie are those of the same bytes
pub filter_tied : {A : Type 0} (n : Name) (es : List (Name × A)) → filter (λ e. not (is_eq (chars_order n e.0))) es ≡ without n es
filter_tied n es = λ i. filter (λ e. not (is_eq-slice_cmp n e.0 i)) es

-- the entry has one of the names
abbrev pub is_named : {A : Type 0} → List Name → Name × A → Bool
is_named ns e = list_any (λ n. is_eq (chars_order n e.0)) ns

filter_unnamed : {A : Type 0} (es : List (Name × A)) → filter (λ e. not (is_named [] e)) es ≡ es
filter_unnamed [] = refl
filter_unnamed (e ∷ es) = ap (λ l. e ∷ l) (filter_unnamed es)

filter-filter : {X : Type 0} (p q : X → Bool) (xs : List X) → filter (λ x. not (q x)) (filter (λ x. not (p x)) xs) ≡ filter (λ x. not (p x || q x)) xs
filter-filter p q [] = refl
filter-filter p q (x ∷ xs) =
    let rest = filter-filter p q xs in
    let left = filter (λ x. not (p x)) xs in
    let both = filter (λ x. not (p x || q x)) xs in
    elim (p x) as (λ b. filter (λ x. not (q x)) (cond (not b) (x ∷ left) left) ≡ cond (not (b || q x)) (x ∷ both) both) [
      | true ↦ rest
      | false ↦ ap (λ l. cond (not (q x)) (x ∷ l) l) rest
    ]

-- one name at a time
pub filter_named_more : {A : Type 0} (ns : List Name) (i : ℕ) (n : Name) (es : List (Name × A)) → i < length ns → n ≡ get_or ns i n → filter (λ e. not (is_named (drop i ns) e)) es ≡ filter (λ e. not (is_named (drop (i + 1) ns) e)) (filter (λ e. not (is_eq (chars_order n e.0))) es)
filter_named_more ns i n es h is =
    let rest = drop (i + 1) ns in
    at_drop_more (λ l. filter (λ e. not (is_named l e)) es) ns i n h
    ∙ ap (λ x. filter (λ e. not (is_named (x ∷ rest) e)) es) (sym is)
    ∙ sym (filter-filter (λ e. is_eq (chars_order n e.0)) (is_named rest) es)

pub filter_named_all : {A : Type 0} (ns : List Name) (i : ℕ) (es : List (Name × A)) → length ns ≤ i → filter (λ e. not (is_named (drop i ns) e)) es ≡ es
filter_named_all ns i es h = at_drop_all (λ l. filter (λ e. not (is_named l e)) es) ns i h ∙ filter_unnamed es

less : (r : Ordering) → is_lt r ≡ true → r ≡ Less
less Less h = refl
less Equal h = absurd (cc)
less Greater h = absurd (cc)

untied : (x y : Name) → is_lt (chars_order x y) ≡ true → (is_eq (chars_order x y) ≡ false) × (is_eq (chars_order y x) ≡ false)
untied x y h =
    let p = less (chars_order x y) h in
    (ap is_eq p, ap is_eq (chars_total.antisymm y x ∙ ap ordering_reverse p))

module _ {A : Type 0} where
  abbrev pub names_of : List (Name × A) → List Name
  names_of es = map (λ e. e.0) es

  unnamed_below : (x : Name × A) (p : Name × A → Bool) (es : List (Name × A)) → below_all chars_order x.0 es ≡ true → is_named (names_of (filter p es)) x ≡ false
  unnamed_below x p [] h = refl
  unnamed_below x p (e ∷ es) h =
      let parts = and_parts (is_lt (chars_order x.0 e.0)) (below_all chars_order x.0 es) h in
      let rest = unnamed_below x p es parts.1 in
      let left = filter p es in
      elim (p e) as (λ b. is_named (names_of (cond b (e ∷ left) left)) x ≡ false) [
        | true ↦ ap (λ b. b || is_named (names_of left) x) (untied x.0 e.0 parts.0).1 ∙ rest
        | false ↦ rest
      ]

  kept_below : (x : Name) (ns : List Name) (es : List (Name × A)) → below_all chars_order x es ≡ true → filter (λ e. not (is_named (x ∷ ns) e)) es ≡ filter (λ e. not (is_named ns e)) es
  kept_below x ns [] h = refl
  kept_below x ns (e ∷ es) h =
      let parts = and_parts (is_lt (chars_order x e.0)) (below_all chars_order x es) h in
      let left = filter (λ e. not (is_named (x ∷ ns) e)) es in
      ap (λ b. cond (not (b || is_named ns e)) (e ∷ left) left) (untied x e.0 parts.0).0
      ∙ ap (λ l. cond (not (is_named ns e)) (e ∷ l) l) (kept_below x ns es parts.1)

  -- in a list in order, the entries that pass a test are those that have their names
  pub filter_named : (p : Name × A → Bool) (es : List (Name × A)) → is_sorted chars_order es ≡ true → filter (λ e. not (is_named (names_of (filter p es)) e)) es ≡ filter (λ e. not (p e)) es
  filter_named p [] h = refl
  filter_named p (e ∷ es) h =
      let parts = and_parts (below_all chars_order e.0 es) (is_sorted chars_order es) h in
      let rest = filter_named p es parts.1 in
      let passed = filter p es in
      let failed = filter (λ e. not (p e)) es in
      elim (p e) as (λ b. filter (λ f. not (is_named (names_of (cond b (e ∷ passed) passed)) f)) (e ∷ es) ≡ cond (not b) (e ∷ failed) failed) [
        | true ↦
            let left = filter (λ f. not (is_named (e.0 ∷ names_of passed) f)) es in
            ap (λ r. cond (not (is_eq r || is_named (names_of passed) e)) (e ∷ left) left) (tied_itself chars_total e.0)
            ∙ kept_below e.0 (names_of passed) es parts.0 ∙ rest
        | false ↦
            let left = filter (λ f. not (is_named (names_of passed) f)) es in
            ap (λ b. cond (not b) (e ∷ left) left) (unnamed_below e p es parts.0) ∙ ap (λ l. e ∷ l) rest
      ]

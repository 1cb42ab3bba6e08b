-- Lists of areas, one behind the other.
use Rattle.std.proofs.Common.{◌≡◌, ℕ, Bool, true, false, cond, List, [], ◌∷◌, ◌++◌, inl, inr, refl, sym, ap, ◌∙◌, nat_eq}
use Rattle.std.specs.Prelude.{◌⊎◌, ◌||◌}
use Rattle.rdb_meaning.specs.declared.tables.Tables.{Tables}
use Rattle.rdb_meaning.specs.Contents.{is_used, relation_named}
use Rattle.rdb_meaning.specs.Checks.{Use}
use Rattle.used_areas.specs.Areas.{relation_areas, areas_read, areas_changed}

or_true : (b : Bool) → (b || true) ≡ true
or_true true = refl
or_true false = refl

pub left_of : (xs ys : List ℕ) (a : ℕ) → is_used a xs ≡ true → is_used a (xs ++ ys) ≡ true
left_of [] ys a h = let bad : ⊥ = cc in absurd bad
left_of (x ∷ xs) ys a h = elim (nat_eq a x) as (λ b. (b || is_used a xs) ≡ true → (b || is_used a (xs ++ ys)) ≡ true) [
  | true ↦ λ k. refl
  | false ↦ λ k. left_of xs ys a k
] h

pub right_of : (xs ys : List ℕ) (a : ℕ) → is_used a ys ≡ true → is_used a (xs ++ ys) ≡ true
right_of [] ys a h = h
right_of (x ∷ xs) ys a h = ap (λ b. nat_eq a x || b) (right_of xs ys a h) ∙ or_true (nat_eq a x)

pub either : (xs ys : List ℕ) (a : ℕ) → is_used a (xs ++ ys) ≡ true → (is_used a xs ≡ true) ⊎ (is_used a ys ≡ true)
either [] ys a h = inr h
either (x ∷ xs) ys a h = elim (nat_eq a x) as (λ b. (b || is_used a (xs ++ ys)) ≡ true → ((b || is_used a xs) ≡ true) ⊎ (is_used a ys ≡ true)) [
  | true ↦ λ k. inl refl
  | false ↦ λ k. either xs ys a k
] h

-- ---- areas of uses

-- what uses give is a list of areas for each
module _ (f : Use → List ℕ) (all : List Use → List ℕ) (none : all [] ≡ []) (more : (u : Use) (us : List Use) → all (u ∷ us) ≡ f u ++ all us) where
  all_left : (us vs : List Use) (a : ℕ) → is_used a (all us) ≡ true → is_used a (all (us ++ vs)) ≡ true
  all_left [] vs a h = let bad : false ≡ true = sym (ap (is_used a) none) ∙ h in let worse : ⊥ = cc in absurd worse
  all_left (u ∷ us) vs a h =
      ap (is_used a) (more u (us ++ vs))
      ∙ elim (either (f u) (all us) a (sym (ap (is_used a) (more u us)) ∙ h)) [
        | inl here ↦ left_of (f u) (all (us ++ vs)) a here
        | inr rest ↦ right_of (f u) (all (us ++ vs)) a (all_left us vs a rest)
      ]

  all_right : (us vs : List Use) (a : ℕ) → is_used a (all vs) ≡ true → is_used a (all (us ++ vs)) ≡ true
  all_right [] vs a h = h
  all_right (u ∷ us) vs a h = ap (is_used a) (more u (us ++ vs)) ∙ right_of (f u) (all (us ++ vs)) a (all_right us vs a h)

abbrev change_areas : Tables → Use → List ℕ
change_areas t u = cond u.changes (relation_areas t (relation_named u.relation t)) []

module _ (t : Tables) where
  pub read_left : (us vs : List Use) (a : ℕ) → is_used a (areas_read t us) ≡ true → is_used a (areas_read t (us ++ vs)) ≡ true
  read_left = all_left (λ (u : Use). relation_areas t (relation_named u.relation t)) (areas_read t) refl (λ u us. refl)

  pub read_right : (us vs : List Use) (a : ℕ) → is_used a (areas_read t vs) ≡ true → is_used a (areas_read t (us ++ vs)) ≡ true
  read_right = all_right (λ (u : Use). relation_areas t (relation_named u.relation t)) (areas_read t) refl (λ u us. refl)

  pub changed_left : (us vs : List Use) (a : ℕ) → is_used a (areas_changed t us) ≡ true → is_used a (areas_changed t (us ++ vs)) ≡ true
  changed_left = all_left (change_areas t) (areas_changed t) refl (λ u us. refl)

  pub changed_right : (us vs : List Use) (a : ℕ) → is_used a (areas_changed t vs) ≡ true → is_used a (areas_changed t (us ++ vs)) ≡ true
  changed_right = all_right (change_areas t) (areas_changed t) refl (λ u us. refl)

  here_read : (u : Use) (b : Bool) (a : ℕ) → is_used a (cond b (relation_areas t (relation_named u.relation t)) []) ≡ true → is_used a (relation_areas t (relation_named u.relation t)) ≡ true
  here_read u true a h = h
  here_read u false a h = let bad : ⊥ = cc in absurd bad

  -- what is changed is read
  pub changed_is_read : (us : List Use) (a : ℕ) → is_used a (areas_changed t us) ≡ true → is_used a (areas_read t us) ≡ true
  changed_is_read [] a h = h
  changed_is_read (u ∷ us) a h = elim (either (change_areas t u) (areas_changed t us) a h) [
    | inl here ↦ left_of (relation_areas t (relation_named u.relation t)) (areas_read t us) a (here_read u u.changes a here)
    | inr rest ↦ right_of (relation_areas t (relation_named u.relation t)) (areas_read t us) a (changed_is_read us a rest)
  ]

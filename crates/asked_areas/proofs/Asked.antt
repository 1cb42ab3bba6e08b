-- The locks of needs and of writes in the areas of the relations that are used.
use Rattle.std.proofs.Common.{◌≡◌, ◌==◌, ℕ, Bool, true, false, cond, ◌&&◌, List, [], ◌∷◌, ◌++◌, map, Option, Some, None, inl, inr, refl, ap, subst, ◌∙◌, nat_eq}
use Rattle.std.specs.Prelude.{◌⊎◌, ◌||◌}
use Rattle.std.specs.List.{list_any}
use Rattle.std.proofs.lemmas.Bool.{eqb-true}
use Rattle.rdo_ast.specs.Tree.{Name, Uttered}
use Rattle.rdb_meaning.specs.declared.tables.Index.{Index}
use Rattle.rdb_meaning.specs.declared.tables.Relation.{Relation}
use Rattle.rdb_meaning.specs.declared.tables.Tables.{Tables}
use Rattle.rdb_meaning.specs.Contents.{relation_named, indexes_on}
use Rattle.rdb_meaning.specs.Checks.{Use}
use Rattle.vms_queues.specs.declared.lock_mode.Mode.{Mode}
use Rattle.vms_queues.specs.declared.lock_mode.Mode.TheVariants.{PR, EX}
use Rattle.lock_needs.specs.declared.need.Need.{Need as LockNeed}
use Rattle.rdb_account.specs.AskedFor.{area_node, is_need, is_on_catalog, is_on_line_of, area_asks, relation_asks, use_asks, uses_ask, definition_asks}
use Rattle.session_jobs.specs.Asked.{is_definition, area_mode, is_lock_for}
use Rattle.line_view.specs.declared.need.Need.{Need}
use Rattle.line_view.specs.declared.need.Need.TheVariants.{Line, Area, Room}
use Rattle.statement_view.specs.Areas.{is_among, IsNeedOf}
use Rattle.used_areas.specs.Areas.{relation_areas, areas_read, areas_changed}

-- ---- tests

first_true : (a b : Bool) → a ≡ true → (a || b) ≡ true
first_true a b h = ap (λ x. x || b) h

then_true : (a b : Bool) → b ≡ true → (a || b) ≡ true
then_true true b h = refl
then_true false b h = h

either : (a b : Bool) → (a || b) ≡ true → (a ≡ true) ⊎ (b ≡ true)
either true b h = inl refl
either false b h = inr h

among_either : (xs ys : List ℕ) (a : ℕ) → is_among (xs ++ ys) a ≡ true → (is_among xs a ≡ true) ⊎ (is_among ys a ≡ true)
among_either [] ys a h = inr h
among_either (x ∷ xs) ys a h = elim (nat_eq a x) as (λ b. (b || is_among (xs ++ ys) a) ≡ true → ((b || is_among xs a) ≡ true) ⊎ (is_among ys a ≡ true)) [
  | true ↦ λ k. inl refl
  | false ↦ λ k. among_either xs ys a k
] h

-- ---- relations that are used

module _ (t : Tables) (lock : LockNeed) (area : ℕ) where
  -- an index in this area
  index_asks : (changes : Bool) (es : List (Name × Index)) → area_asks lock changes area ≡ true → is_among (map (λ e. e.1.area) es) area ≡ true → list_any (λ e. area_asks lock changes e.1.area) es ≡ true
  index_asks changes [] asks h = let bad : ⊥ = cc in absurd bad
  index_asks changes (e ∷ es) asks h = elim (either (nat_eq area e.1.area) (is_among (map (λ (x : Name × Index). x.1.area) es) area) h) [
    | inl same ↦ first_true (area_asks lock changes e.1.area) (list_any (λ (x : Name × Index). area_asks lock changes x.1.area) es) (subst (λ (a : ℕ). area_asks lock changes a ≡ true) (eqb-true area e.1.area same) asks)
    | inr rest ↦ then_true (area_asks lock changes e.1.area) (list_any (λ (x : Name × Index). area_asks lock changes x.1.area) es) (index_asks changes es asks rest)
  ]

  of_relation : (changes : Bool) (o : Option Relation) → area_asks lock changes area ≡ true → is_among (relation_areas t o) area ≡ true → relation_asks t lock changes o ≡ true
  of_relation changes None asks h = let bad : ⊥ = cc in absurd bad
  of_relation changes (Some r) asks h = elim (either (nat_eq area r.area) (is_among (map (λ (e : Name × Index). e.1.area) (indexes_on r.area t)) area) h) [
    | inl same ↦ first_true (area_asks lock changes r.area) (list_any (λ (e : Name × Index). area_asks lock changes e.1.area) (indexes_on r.area t)) (subst (λ (a : ℕ). area_asks lock changes a ≡ true) (eqb-true area r.area same) asks)
    | inr rest ↦ then_true (area_asks lock changes r.area) (list_any (λ (e : Name × Index). area_asks lock changes e.1.area) (indexes_on r.area t)) (index_asks changes (indexes_on r.area t) asks rest)
  ]

  read_asks : ((changes : Bool) → area_asks lock changes area ≡ true) → (us : List Use) → is_among (areas_read t us) area ≡ true → list_any (use_asks t lock) us ≡ true
  read_asks asks [] h = let bad : ⊥ = cc in absurd bad
  read_asks asks (u ∷ us) h = elim (among_either (relation_areas t (relation_named u.relation t)) (areas_read t us) area h) [
    | inl here ↦ first_true (use_asks t lock u) (list_any (use_asks t lock) us) (of_relation u.changes (relation_named u.relation t) (asks u.changes) here)
    | inr rest ↦ then_true (use_asks t lock u) (list_any (use_asks t lock) us) (read_asks asks us rest)
  ]

  changed_here : (u : Use) (b : Bool) → u.changes ≡ b → area_asks lock true area ≡ true → is_among (cond b (relation_areas t (relation_named u.relation t)) []) area ≡ true → use_asks t lock u ≡ true
  changed_here u true is asks h = of_relation u.changes (relation_named u.relation t) (ap (λ b. area_asks lock b area) is ∙ asks) h
  changed_here u false is asks h = let bad : ⊥ = cc in absurd bad

  change_asks : area_asks lock true area ≡ true → (us : List Use) → is_among (areas_changed t us) area ≡ true → list_any (use_asks t lock) us ≡ true
  change_asks asks [] h = let bad : ⊥ = cc in absurd bad
  change_asks asks (u ∷ us) h = elim (among_either (cond u.changes (relation_areas t (relation_named u.relation t)) []) (areas_changed t us) area h) [
    | inl here ↦ first_true (use_asks t lock u) (list_any (use_asks t lock) us) (changed_here u u.changes refl asks here)
    | inr rest ↦ then_true (use_asks t lock u) (list_any (use_asks t lock) us) (change_asks asks us rest)
  ]

  by_line : is_on_line_of area PR lock ≡ true → (changes : Bool) → area_asks lock changes area ≡ true
  by_line is changes =
      then_true (is_need (area_node area) PR lock) (is_on_line_of area PR lock || (changes && is_on_line_of area EX lock)) (first_true (is_on_line_of area PR lock) (changes && is_on_line_of area EX lock) is)

  by_area : is_need (area_node area) PR lock ≡ true → (changes : Bool) → area_asks lock changes area ≡ true
  by_area is changes = first_true (is_need (area_node area) PR lock) (is_on_line_of area PR lock || (changes && is_on_line_of area EX lock)) is

  by_write : is_on_line_of area EX lock ≡ true → area_asks lock true area ≡ true
  by_write is =
      then_true (is_need (area_node area) PR lock) (is_on_line_of area PR lock || is_on_line_of area EX lock) (then_true (is_on_line_of area PR lock) (is_on_line_of area EX lock) is)

  pub writes_asked : (us : List Use) → is_among (areas_changed t us) area ≡ true → is_on_line_of area EX lock ≡ true → list_any (use_asks t lock) us ≡ true
  writes_asked us among is = change_asks (by_write is) us among

-- ---- what a need wants

-- the catalog as a whole, or a relation that is used
abbrev WantedOf : Tables → LockNeed → Mode → List Use → Type 0
WantedOf t lock mode us = (is_on_catalog mode lock ≡ true) ⊎ (list_any (use_asks t lock) us ≡ true)

-- the mode in which the catalog is read
abbrev catalog_mode : Uttered → Mode
catalog_mode item = cond (is_definition item) EX PR

other_area : (a : ℕ) (areas : List ℕ) → (a == 1) ≡ false → is_among (1 ∷ areas) a ≡ true → is_among areas a ≡ true
other_area a areas apart h = elim (either (nat_eq a 1) (is_among areas a) h) [
  | inl same ↦ let bad : ⊥ = cc in absurd bad
  | inr rest ↦ rest
]

line_wanted : (item : Uttered) (t : Tables) (us : List Use) (lock : LockNeed) (area : ℕ) (b : Bool) → (area == 1) ≡ b → is_among (1 ∷ areas_read t us) area ≡ true → cond b (is_need (area_node 1) (area_mode item 1) lock) (is_on_line_of area PR lock) ≡ true → WantedOf t lock (catalog_mode item) us
line_wanted item t us lock area true is among wants = inl wants
line_wanted item t us lock area false apart among wants = inr (read_asks t lock area (by_line t lock area wants) us (other_area area (areas_read t us) apart among))

area_wanted : (item : Uttered) (t : Tables) (us : List Use) (lock : LockNeed) (area : ℕ) (b : Bool) → (area == 1) ≡ b → is_among (1 ∷ areas_read t us) area ≡ true → is_need (area_node area) (cond (b && is_definition item) EX PR) lock ≡ true → WantedOf t lock (catalog_mode item) us
area_wanted item t us lock area true is among wants = inl (subst (λ (a : ℕ). is_need (area_node a) (catalog_mode item) lock ≡ true) (eqb-true area 1 is) wants)
area_wanted item t us lock area false apart among wants = inr (read_asks t lock area (by_area t lock area wants) us (other_area area (areas_read t us) apart among))

-- ---- actions

asked_of : (t : Tables) (lock : LockNeed) (mode : Mode) (us : List Use) (rest : Bool) → WantedOf t lock mode us → (list_any (use_asks t lock) us ≡ true → rest ≡ true) → (is_on_catalog mode lock || rest) ≡ true
asked_of t lock mode us rest (inl catalog) because = first_true (is_on_catalog mode lock) rest catalog
asked_of t lock mode us rest (inr used) because = then_true (is_on_catalog mode lock) rest (because used)

pub action_asked : (item : Uttered) (t : Tables) (u : Use) (us : List Use) (need : Need) (lock : LockNeed) → is_definition item ≡ false → IsNeedOf (1 ∷ areas_read t (u ∷ us)) (areas_changed t (u ∷ us)) need → is_lock_for item need lock ≡ true → uses_ask t lock (u ∷ us) ≡ true
action_asked item t u us (Line key) lock none among wants =
    asked_of t lock PR (u ∷ us) (list_any (use_asks t lock) (u ∷ us)) (subst (λ b. WantedOf t lock (cond b EX PR) (u ∷ us)) none (line_wanted item t (u ∷ us) lock key.area (key.area == 1) refl among wants)) (λ h. h)
action_asked item t u us (Area area) lock none among wants =
    asked_of t lock PR (u ∷ us) (list_any (use_asks t lock) (u ∷ us)) (subst (λ b. WantedOf t lock (cond b EX PR) (u ∷ us)) none (area_wanted item t (u ∷ us) lock area (area == 1) refl among wants)) (λ h. h)
action_asked item t u us (Room room) lock none among wants = then_true (is_on_catalog PR lock) (list_any (use_asks t lock) (u ∷ us)) (writes_asked t lock room.area (u ∷ us) among wants)

pub action_written : (t : Tables) (us : List Use) (area : ℕ) (lock : LockNeed) → is_among (areas_changed t us) area ≡ true → is_on_line_of area EX lock ≡ true → uses_ask t lock us ≡ true
action_written t [] area lock among wants = let bad : ⊥ = cc in absurd bad
action_written t (u ∷ us) area lock among wants = then_true (is_on_catalog PR lock) (list_any (use_asks t lock) (u ∷ us)) (writes_asked t lock area (u ∷ us) among wants)

-- ---- definitions

pub definition_written : (t : Tables) (us : List Use) (area : ℕ) (lock : LockNeed) → is_among (1 ∷ areas_changed t us) area ≡ true → is_on_line_of area EX lock ≡ true → definition_asks t lock us ≡ true
definition_written t us area lock among wants =
    let rest = list_any (use_asks t lock) us in
    then_true (is_on_catalog EX lock) (is_on_line_of 1 EX lock || rest) (elim (either (nat_eq area 1) (is_among (areas_changed t us) area) among) [
      | inl same ↦ first_true (is_on_line_of 1 EX lock) rest (subst (λ (a : ℕ). is_on_line_of a EX lock ≡ true) (eqb-true area 1 same) wants)
      | inr of ↦ then_true (is_on_line_of 1 EX lock) rest (writes_asked t lock area us of wants)
    ])

wanted_of : (item : Uttered) (t : Tables) (us : List Use) (lock : LockNeed) → is_definition item ≡ true → WantedOf t lock (catalog_mode item) us → definition_asks t lock us ≡ true
wanted_of item t us lock is wanted =
    asked_of t lock EX us (is_on_line_of 1 EX lock || list_any (use_asks t lock) us) (subst (λ b. WantedOf t lock (cond b EX PR) us) is wanted) (then_true (is_on_line_of 1 EX lock) (list_any (use_asks t lock) us))

pub definition_asked : (item : Uttered) (t : Tables) (us : List Use) (need : Need) (lock : LockNeed) → is_definition item ≡ true → IsNeedOf (1 ∷ areas_read t us) (1 ∷ areas_changed t us) need → is_lock_for item need lock ≡ true → definition_asks t lock us ≡ true
definition_asked item t us (Line key) lock is among wants = wanted_of item t us lock is (line_wanted item t us lock key.area (key.area == 1) refl among wants)
definition_asked item t us (Area area) lock is among wants = wanted_of item t us lock is (area_wanted item t us lock area (area == 1) refl among wants)
definition_asked item t us (Room room) lock is among wants = definition_written t us room.area lock among wants

-- ---- a new index

pub index_written : (t : Tables) (us : List Use) (made area : ℕ) (lock : LockNeed) → is_among (made ∷ 1 ∷ []) area ≡ true → is_on_line_of area EX lock ≡ true → (is_on_line_of made EX lock || definition_asks t lock us) ≡ true
index_written t us made area lock among wants = elim (either (nat_eq area made) (is_among (1 ∷ []) area) among) [
  | inl same ↦ first_true (is_on_line_of made EX lock) (definition_asks t lock us) (subst (λ (a : ℕ). is_on_line_of a EX lock ≡ true) (eqb-true area made same) wants)
  | inr one ↦
      let is : area ≡ 1 = elim (either (nat_eq area 1) false one) [
        | inl same ↦ eqb-true area 1 same
        | inr never ↦ let bad : ⊥ = cc in absurd bad
      ] in
      then_true (is_on_line_of made EX lock) (definition_asks t lock us)
      (then_true (is_on_catalog EX lock) (is_on_line_of 1 EX lock || list_any (use_asks t lock) us) (first_true (is_on_line_of 1 EX lock) (list_any (use_asks t lock) us) (subst (λ (a : ℕ). is_on_line_of a EX lock ≡ true) is wants)))
]

pub index_asked : (item : Uttered) (t : Tables) (us : List Use) (made : ℕ) (need : Need) (lock : LockNeed) → is_definition item ≡ true → IsNeedOf (1 ∷ areas_read t us) (made ∷ 1 ∷ []) need → is_lock_for item need lock ≡ true → (is_on_line_of made EX lock || definition_asks t lock us) ≡ true
index_asked item t us made (Line key) lock is among wants = then_true (is_on_line_of made EX lock) (definition_asks t lock us) (wanted_of item t us lock is (line_wanted item t us lock key.area (key.area == 1) refl among wants))
index_asked item t us made (Area area) lock is among wants = then_true (is_on_line_of made EX lock) (definition_asks t lock us) (wanted_of item t us lock is (area_wanted item t us lock area (area == 1) refl among wants))
index_asked item t us made (Room room) lock is among wants = index_written t us made room.area lock among wants

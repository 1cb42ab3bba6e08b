-- From a line there is one walk, it comes to no slot twice, and so it is no longer than the slots are many.
use Rattle.std.proofs.Common.{◌≡◌, ◌≤◌, ◌<◌, ◌+◌, ℕ, ◌||◌, Bool, true, false, List, [], ◌∷◌, length, Option, refl, sym, ◌∙◌, ap, subst, arith, inl, inr}
use lib.Dec.{eqb}
use Rattle.std.specs.List.{list_any, AllByRecursion, IsDistinct}
use Rattle.std.proofs.lemmas.Bool.{false≢true}
use Rattle.std.proofs.lemmas.Map.Keys.{IsDistinct-cons}
use Rattle.std.proofs.lemmas.Map.Steps.{length-le_from_distinct_below}
use Rattle.rdb_outside.specs.rdb_types.declared.keys.Dbkey.{Dbkey}
use Rattle.rdb_outside.specs.rdb_types.declared.keys.Line.{Line}
use Rattle.snapshot_file.specs.declared.entry.SnapEntry.{SnapEntry}
use Rattle.line_versions.specs.Versions.{Entries, IsOneEach, Followed, snap_of, version_of, Start, LeadsOn, EndsHere, Walk}

no_end : (at : ℕ) → 1 ≤ at → at ≡ 0 → ⊥
no_end at h e = omega arith

pub record AreOne (over other : List ℕ) (a b : Option (List ℕ)) : Type 0 where
  pub way : over ≡ other
  pub answer : a ≡ b

module _ (E : Entries) (one : IsOneEach E) (followed : Followed) (r : Start) (key : Dbkey) where
  ends_one : (line : Line) (a b : Option (List ℕ)) → EndsHere r line a → EndsHere r line b → a ≡ b
  ends_one line a b (inl x) (inl y) = x.1 ∙ sym y.1
  ends_one line a b (inl x) (inr y) = absurd (false≢true (sym y.0 ∙ x.0))
  ends_one line a b (inr x) (inl y) = absurd (false≢true (sym x.0 ∙ y.0))
  ends_one line a b (inr x) (inr y) = x.2 ∙ sym y.2

  no_step : (line : Line) (at : ℕ) (a : Option (List ℕ)) → EndsHere r line a → LeadsOn E followed r key line at → ⊥
  no_step line at a (inl x) s = false≢true (sym s.unseen ∙ x.0)
  no_step line at a (inr x) s = no_end at s.number (sym s.chain ∙ x.1)

  same_entry : (line : Line) (at to : ℕ) (s : LeadsOn E followed r key line at) (t : LeadsOn E followed r key line to) → s.entry ≡ t.entry
  same_entry line at to s t =
      let here : at ≡ to = sym s.chain ∙ t.chain in
      one (snap_of key) at s.entry t.entry s.stands (subst (λ (n : ℕ). E (snap_of key) n t.entry) (sym here) t.stands)

  pub walk_one : (over other : List ℕ) (line : Line) (a b : Option (List ℕ)) → Walk E followed r key over line a → Walk E followed r key other line b → AreOne over other a b
  walk_one [] [] line a b w v = record { way = refl; answer = ends_one line a b w v }
  walk_one [] (to ∷ rest) line a b w v = absurd (no_step line to a w v.0)
  walk_one (at ∷ rest) [] line a b w v = absurd (no_step line at b v w.0)
  walk_one (at ∷ rest) (to ∷ more) line a b w v =
      let same : w.0.entry ≡ v.0.entry = same_entry line at to w.0 v.0 in
      let behind = walk_one rest more (version_of w.0.entry) a b w.1 (subst (λ (e : SnapEntry). Walk E followed r key more (version_of e) b) (sym same) v.1) in
      let here : at ≡ to = sym w.0.chain ∙ v.0.chain in
      record { way = λ i. (here i) ∷ (behind.way i); answer = behind.answer }

  -- the walk comes to that chain, and goes on over fewer
  record Comes (at : ℕ) (over : List ℕ) (a : Option (List ℕ)) : Type 0 where
    rest : List ℕ
    fewer : length rest < length over
    entry : SnapEntry
    stands : E (snap_of key) at entry
    goes_on : Walk E followed r key rest (version_of entry) a

  comes : (at : ℕ) (over : List ℕ) (line : Line) (a : Option (List ℕ)) → Walk E followed r key over line a → list_any (eqb at) over ≡ true → Comes at over a
  comes at [] line a w there = absurd (false≢true there)
  comes at (to ∷ rest) line a w there = by (eqb at to) refl there (λ h. comes at rest (version_of w.0.entry) a w.1 h)
    where
      number : (m n : ℕ) → eqb m n ≡ true → m ≡ n
      number m n h = grind arith

      by : (b : Bool) → eqb at to ≡ b → (b || list_any (eqb at) rest) ≡ true → (list_any (eqb at) rest ≡ true → Comes at rest a) → Comes at (to ∷ rest) a
      by true here h behind = record { rest = rest; fewer = omega arith; entry = w.0.entry; stands = subst (λ (n : ℕ). E (snap_of key) n w.0.entry) (sym (number at to here)) w.0.stands; goes_on = w.1 }
      by false here h behind =
          let c = behind h in
          record { rest = c.rest; fewer = let f = c.fewer in omega (arith, f); entry = c.entry; stands = c.stands; goes_on = c.goes_on }

  apart : (at : ℕ) (over : List ℕ) → list_any (eqb at) over ≡ false → AllByRecursion (λ n. eqb at n ≡ false) over
  apart at [] none = tt
  apart at (to ∷ rest) none = (first (eqb at to) (list_any (eqb at) rest) none, apart at rest (second (eqb at to) (list_any (eqb at) rest) none))
    where
      first : (a b : Bool) → (a || b) ≡ false → a ≡ false
      first a b h = grind arith

      second : (a b : Bool) → (a || b) ≡ false → b ≡ false
      second a b h = grind arith

  not_again : (at : ℕ) (rest : List ℕ) (line : Line) (a : Option (List ℕ)) → Walk E followed r key (at ∷ rest) line a → (b : Bool) → list_any (eqb at) rest ≡ b → b ≡ false
  not_again at rest line a w false is = refl
  not_again at rest line a w true is =
      let c = comes at rest (version_of w.0.entry) a w.1 is in
      let same : w.0.entry ≡ c.entry = one (snap_of key) at w.0.entry c.entry w.0.stands c.stands in
      let both = walk_one rest c.rest (version_of w.0.entry) a a w.1 (subst (λ (e : SnapEntry). Walk E followed r key c.rest (version_of e) a) (sym same) c.goes_on) in
      let long : length rest ≡ length c.rest = ap length both.way in
      let f = c.fewer in
      absurd (omega (arith, f, long))

  distinct : (over : List ℕ) (line : Line) (a : Option (List ℕ)) → Walk E followed r key over line a → IsDistinct eqb over
  unfolding IsDistinct
  distinct [] line a w = tt
  distinct (at ∷ rest) line a w = (apart at rest (not_again at rest line a w (list_any (eqb at) rest) refl), distinct rest (version_of w.0.entry) a w.1)

  within : (over : List ℕ) (line : Line) (a : Option (List ℕ)) (limit : ℕ) → ((file chain : ℕ) → followed file chain ≡ true → chain ≤ limit) → Walk E followed r key over line a → (q : ℕ) → list_any (eqb q) over ≡ true → (1 ≤ q) × (q ≤ limit)
  within [] line a limit most w q there = absurd (false≢true there)
  within (to ∷ rest) line a limit most w q there = by (eqb q to) refl there (λ h. within rest (version_of w.0.entry) a limit most w.1 q h)
    where
      number : (m n : ℕ) → eqb m n ≡ true → m ≡ n
      number m n h = grind arith

      by : (b : Bool) → eqb q to ≡ b → (b || list_any (eqb q) rest) ≡ true → (list_any (eqb q) rest ≡ true → (1 ≤ q) × (q ≤ limit)) → (1 ≤ q) × (q ≤ limit)
      by true here h behind =
          let same : q ≡ to = number q to here in
          let low : 1 ≤ to = w.0.number in
          let high : to ≤ limit = most (snap_of key) to w.0.held in
          (omega (arith, same, low), omega (arith, same, high))
      by false here h behind = behind h

  -- a walk is no longer than the limit of slots
  pub walk_within : (over : List ℕ) (line : Line) (a : Option (List ℕ)) (limit : ℕ) → ((file chain : ℕ) → followed file chain ≡ true → chain ≤ limit) → Walk E followed r key over line a → length over ≤ limit
  walk_within over line a limit most w =
      let all : IsDistinct eqb (0 ∷ over) = IsDistinct-cons eqb 0 over (apart 0 over (no_zero (list_any (eqb 0) over) refl)) (distinct over line a w) in
      let long : length (0 ∷ over) ≤ limit + 1 = length-le_from_distinct_below (0 ∷ over) (limit + 1) all low in
      omega (arith, long)
    where
      no_zero : (b : Bool) → list_any (eqb 0) over ≡ b → b ≡ false
      no_zero false is = refl
      no_zero true is = let h = (within over line a limit most w 0 is).0 in absurd (omega (arith, h))

      low : (q : ℕ) → list_any (eqb q) (0 ∷ over) ≡ true → q < limit + 1
      low q there = by (eqb q 0) refl there
        where
          number : (m n : ℕ) → eqb m n ≡ true → m ≡ n
          number m n h = grind arith

          by : (b : Bool) → eqb q 0 ≡ b → (b || list_any (eqb q) over) ≡ true → q < limit + 1
          by true here h = let same : q ≡ 0 = number q 0 here in omega (arith, same)
          by false here h = let k = (within over line a limit most w q h).1 in omega (arith, k)

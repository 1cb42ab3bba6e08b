-- The rooms that a statement hasn't written, numbered anew.
use Rattle.std.proofs.Common.{◌≡◌, ℕ, zero, suc, ◌+◌, ◌≤◌, Bool, true, false, cond, not, List, [], ◌∷◌, Some, None, refl, sym, ap, subst, ◌∙◌, arith}
use Rattle.std.specs.Prelude.{slice_get}
use Rattle.std.specs.List.{AllByRecursion, filter}
use Rattle.std.proofs.lemmas.Option.{none-some, same_Some}
use Rattle.rdb_types.specs.declared.keys.Dbkey.{Dbkey}
use Rattle.line_view.specs.declared.need.Room.{Room}
use Rattle.line_view.specs.Knowledge.{Knowledge}
use Rattle.statement_view.specs.Over.{is_written, room_at, and_rooms, rooms_from, all_rooms, rooms_left}
use Rattle.statement_view.proofs.Laying.{Written}

-- a room of this area and class, with a number at or above this one
pub record IsRoom (known : Knowledge) (area class low : ℕ) (key : Dbkey) : Type 0 where
  pub nth : ℕ
  pub at : low ≤ nth
  pub is : known.room (room_at area class nth) ≡ Some key

lower : (known : Knowledge) (area class low : ℕ) (keys : List Dbkey) → AllByRecursion (IsRoom known area class (low + 1)) keys → AllByRecursion (IsRoom known area class low) keys
lower known area class low [] each = tt
lower known area class low (k ∷ ks) each = (record { nth = each.0.nth; at = omega (arith, each.0.at); is = each.0.is }, lower known area class low ks each.1)

abbrev Apart : List Dbkey → Type 0
Apart [] = Unit {0}
Apart (k ∷ ks) = AllByRecursion (λ (l : Dbkey). k ≡ l → ⊥) ks × Apart ks

are_rooms : (more : ℕ) (known : Knowledge) (area class low : ℕ) → AllByRecursion (IsRoom known area class low) (rooms_from more known area class low)
are_rooms zero known area class low = tt
are_rooms (suc more) known area class low =
    elim (known.room (room_at area class low)) as (λ o. known.room (room_at area class low) ≡ o → AllByRecursion (IsRoom known area class low) (and_rooms o (rooms_from more known area class (low + 1)))) [
      | None ↦ λ is. tt
      | Some key ↦ λ is. (record { nth = low; at = omega arith; is = is }, lower known area class low (rooms_from more known area class (low + 1)) (are_rooms more known area class (low + 1)))
    ] refl

abbrev OneRoom : Knowledge → Type 0
OneRoom known = (a b : Room) (key : Dbkey) → known.room a ≡ Some key → known.room b ≡ Some key → a ≡ b

others : (known : Knowledge) (area class low : ℕ) (key : Dbkey) (keys : List Dbkey) → OneRoom known → known.room (room_at area class low) ≡ Some key → AllByRecursion (IsRoom known area class (low + 1)) keys → AllByRecursion (λ (l : Dbkey). key ≡ l → ⊥) keys
others known area class low key [] one is each = tt
others known area class low key (k ∷ ks) one is each = (
  λ same.
      let room : room_at area class low ≡ room_at area class each.0.nth = one _ _ key is (each.0.is ∙ ap Some (sym same)) in
      let number : low ≡ each.0.nth = ap (λ (r : Room). r.nth) room in
      omega (arith, number, each.0.at),
  others known area class low key ks one is each.1,
)

are_apart : (more : ℕ) (known : Knowledge) (area class low : ℕ) → OneRoom known → Apart (rooms_from more known area class low)
are_apart zero known area class low one = tt
are_apart (suc more) known area class low one =
    elim (known.room (room_at area class low)) as (λ o. known.room (room_at area class low) ≡ o → Apart (and_rooms o (rooms_from more known area class (low + 1)))) [
      | None ↦ λ is. tt
      | Some key ↦ λ is. (others known area class low key (rooms_from more known area class (low + 1)) one is (are_rooms more known area class (low + 1)), are_apart more known area class (low + 1) one)
    ] refl

-- ---- those that are left

chosen : (P : Dbkey → Type 0) (p : Dbkey → Bool) (ks : List Dbkey) → AllByRecursion P ks → AllByRecursion P (filter p ks)
chosen P p [] each = tt
chosen P p (k ∷ ks) each = elim (p k) as (λ b. AllByRecursion P (cond b (k ∷ filter p ks) (filter p ks))) [ true ↦ (each.0, chosen P p ks each.1) | false ↦ chosen P p ks each.1 ]

chosen_apart : (p : Dbkey → Bool) (ks : List Dbkey) → Apart ks → Apart (filter p ks)
chosen_apart p [] apart = tt
chosen_apart p (k ∷ ks) apart = elim (p k) as (λ b. Apart (cond b (k ∷ filter p ks) (filter p ks))) [ true ↦ (chosen (λ (l : Dbkey). k ≡ l → ⊥) p ks apart.0, chosen_apart p ks apart.1) | false ↦ chosen_apart p ks apart.1 ]

passes : (p : Dbkey → Bool) (ks : List Dbkey) → AllByRecursion (λ (k : Dbkey). p k ≡ true) (filter p ks)
passes p [] = tt
passes p (k ∷ ks) = elim (p k) as (λ b. p k ≡ b → AllByRecursion (λ (k : Dbkey). p k ≡ true) (cond b (k ∷ filter p ks) (filter p ks))) [ true ↦ λ is. (is, passes p ks) | false ↦ λ is. passes p ks ] refl

got : (P : Dbkey → Type 0) (ks : List Dbkey) (i : ℕ) (k : Dbkey) → AllByRecursion P ks → slice_get ks i ≡ Some k → P k
got P [] i k each is = absurd (none-some k is)
got P (l ∷ ls) zero k each is = subst P (same_Some l k is) each.0
got P (l ∷ ls) (suc j) k each is = got P ls j k each.1 is

one_place : (ks : List Dbkey) (i j : ℕ) (k : Dbkey) → Apart ks → slice_get ks i ≡ Some k → slice_get ks j ≡ Some k → i ≡ j
one_place [] i j k apart is too = absurd (none-some k is)
one_place (l ∷ ls) zero zero k apart is too = refl
one_place (l ∷ ls) zero (suc j) k apart is too = absurd (got (λ (m : Dbkey). l ≡ m → ⊥) ls j k apart.0 too (same_Some l k is))
one_place (l ∷ ls) (suc i) zero k apart is too = absurd (got (λ (m : Dbkey). l ≡ m → ⊥) ls i k apart.0 is (same_Some l k too))
one_place (l ∷ ls) (suc i) (suc j) k apart is too = ap (λ (n : ℕ). suc n) (one_place ls i j k apart.1 is too)

unwritten : (b : Bool) → not b ≡ true → b ≡ false
unwritten true h = let bad : ⊥ = cc in absurd bad
unwritten false h = refl

-- of so many rooms, those that aren't written
abbrev left_of : ℕ → Knowledge → Written → ℕ → ℕ → List Dbkey
left_of count known lines area class = filter (λ k. not (is_written lines k)) (rooms_from count known area class 0)

room_of : (count : ℕ) (known : Knowledge) (lines : Written) (area class nth : ℕ) (key : Dbkey) → slice_get (left_of count known lines area class) nth ≡ Some key → IsRoom known area class 0 key × (is_written lines key ≡ false)
room_of count known lines area class nth key is =
    let all = rooms_from count known area class 0 in
    let free = λ (k : Dbkey). not (is_written lines k) in (
      got (IsRoom known area class 0) (filter free all) nth key (chosen (IsRoom known area class 0) free all (are_rooms count known area class 0)) is,
      unwritten (is_written lines key) (got (λ (k : Dbkey). free k ≡ true) (filter free all) nth key (passes free all) is),
    )

once_of : (count : ℕ) (known : Knowledge) (lines : Written) (area class i j : ℕ) (key : Dbkey) → OneRoom known → slice_get (left_of count known lines area class) i ≡ Some key → slice_get (left_of count known lines area class) j ≡ Some key → i ≡ j
once_of count known lines area class i j key one is too =
    let all = rooms_from count known area class 0 in
    let free = λ (k : Dbkey). not (is_written lines k) in
    one_place (filter free all) i j key (chosen_apart free all (are_apart count known area class 0 one)) is too

-- How many rooms there are is no matter, and the number is too large to compute with.
counted : (known : Knowledge) (lines : Written) (area class : ℕ) → (count : ℕ) × (rooms_left known lines area class ≡ left_of count known lines area class)
unfolding rooms_left
counted known lines area class = (all_rooms, refl)

-- a room that is left is a room of the view below, and isn't written
pub left_room : (known : Knowledge) (lines : Written) (area class nth : ℕ) (key : Dbkey) → slice_get (rooms_left known lines area class) nth ≡ Some key → IsRoom known area class 0 key × (is_written lines key ≡ false)
left_room known lines area class nth key is =
    let left = counted known lines area class in
    room_of left.0 known lines area class nth key (sym (ap (λ (l : List Dbkey). slice_get l nth) left.1) ∙ is)

pub left_once : (known : Knowledge) (lines : Written) (area class i j : ℕ) (key : Dbkey) → OneRoom known → slice_get (rooms_left known lines area class) i ≡ Some key → slice_get (rooms_left known lines area class) j ≡ Some key → i ≡ j
left_once known lines area class i j key one is too =
    let left = counted known lines area class in
    let here = sym (ap (λ (l : List Dbkey). slice_get l i) left.1) ∙ is in
    let there = sym (ap (λ (l : List Dbkey). slice_get l j) left.1) ∙ too in
    once_of left.0 known lines area class i j key one here there

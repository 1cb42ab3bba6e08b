-- The lock of each reservation is one for which the reservations ask.
use Rattle.std.proofs.Common.{◌≡◌, ◌∷◌, [], ◌&&◌, ◌∙◌, ℕ, zero, suc, Bool, true, List, map, refl, sym, ap, subst, Option, Some, None, slice_get}
use Rattle.std.specs.List.{list_any, AllByRecursion}
use Rattle.std.proofs.lemmas.Bool.{and_from, or_left, or_right}
use Rattle.std.proofs.lemmas.Option.{none-some, same_Some}
use Rattle.rdo_ast.specs.declared.syntax.Reservation.{Reservation}
use Rattle.rdb_meaning.specs.declared.tables.Relation.{Relation}
use Rattle.rdb_meaning.specs.declared.tables.Tables.{Tables}
use Rattle.rdb_meaning.specs.Contents.{relation_named}
use Rattle.vms_queues.specs.declared.lock_mode.Mode.{Mode}
use Rattle.vms_queues.specs.declared.lock_mode.Mode.TheVariants.{NL, CR, CW, PR, PW, EX}
use Rattle.vms_queues.specs.Modes.{at_most}
use Rattle.lock_needs.specs.declared.need.Need.{Need}
use Rattle.rdb_account.specs.Events.{need}
use Rattle.lock_needs.specs.Nodes.{same_node}
use Rattle.lock_needs.proofs.NodeLaws.{same_node-refl}
use Rattle.rdb_account.specs.AskedFor.{area_node, is_mode, is_need, is_on_catalog, is_reserved, reserved_mode, reservations_ask}
use Rattle.line_view.specs.Knowledge.{Knowledge}
use Rattle.session_jobs.specs.Records.{Model, IsOrderly}
use Rattle.session_jobs.specs.Jobs.{WhereItAgrees}
use Rattle.reserved_locks.specs.Reserved.{lock_for, lock_in, some_need, AreLocksOf}

-- ---- lists of the same places

head-same : {A : Type 0} (x y : A) (xs ys : List A) → x ∷ xs ≡ y ∷ ys → x ≡ y
head-same x y xs ys e = ap (first x) e
  where
    first : {A : Type 0} → A → List A → A
    first d [] = d
    first d (z ∷ zs) = z

tail-same : {A : Type 0} (x y : A) (xs ys : List A) → x ∷ xs ≡ y ∷ ys → xs ≡ ys
tail-same x y xs ys e = ap rest e
  where
    rest : {A : Type 0} → List A → List A
    rest [] = []
    rest (z ∷ zs) = zs

none-same : {A : Type 0} (y : A) (ys : List A) → [] ≡ y ∷ ys → ⊥
none-same y ys e = absurd (cc)

-- ---- one reservation

mode-self : (m : Mode) → (at_most m m && at_most m m) ≡ true
mode-self NL = refl
mode-self CR = refl
mode-self CW = refl
mode-self PR = refl
mode-self PW = refl
mode-self EX = refl

need-self : (n : Need) → is_need n.node n.mode n ≡ true
need-self n = and_from (same_node n.node n.node) (is_mode n.mode n) (same_node-refl n.node) (mode-self n.mode)

is-for : (x : Reservation) (r : Option Relation) (n : Need) → lock_for x r ≡ Some n → is_reserved n x r ≡ true
is-for x None n h = absurd (none-some n h)
is-for x (Some r) n h = subst (λ (m : Need). is_need (area_node r.area) (reserved_mode x.share x.writes) m ≡ true) (same_Some (need (area_node r.area) (reserved_mode x.share x.writes)) n h) (need-self (need (area_node r.area) (reserved_mode x.share x.writes)))

-- ---- a relation that isn't there

pub none-without : (t : Tables) (rs : List Reservation) (locks : List Need) (i : ℕ) (x : Reservation) → slice_get rs i ≡ Some x → relation_named x.relation t ≡ None → AreLocksOf rs t locks → ⊥
none-without t [] locks i x at none are = none-some x at
none-without t (y ∷ ys) [] i x at none are = none-same (lock_in t y) (map (lock_in t) ys) (sym are)
none-without t (y ∷ ys) (n ∷ ns) zero x at none are =
    none-some n (sym (ap (lock_in t) (same_Some y x at) ∙ ap (lock_for x) none) ∙ head-same (lock_in t y) (some_need n) (map (lock_in t) ys) (map some_need ns) are)
none-without t (y ∷ ys) (n ∷ ns) (suc i) x at none are = none-without t ys ns i x at none (tail-same (lock_in t y) (some_need n) (map (lock_in t) ys) (map some_need ns) are)

-- ---- all of them

abbrev is_for_some : Tables → List Reservation → Need → Bool
is_for_some t rs n = list_any (λ y. is_reserved n y (relation_named y.relation t)) rs

-- each lock is of one of them
each-for : (t : Tables) (rs : List Reservation) (locks : List Need) → AreLocksOf rs t locks → AllByRecursion (λ n. is_for_some t rs n ≡ true) locks
each-for t rs [] h = tt
each-for t [] (n ∷ ns) h = absurd (none-same (some_need n) (map some_need ns) h)
each-for t (x ∷ xs) (n ∷ ns) h = (
  or_left (is_reserved n x (relation_named x.relation t)) (is_for_some t xs n) (is-for x (relation_named x.relation t) n (head-same (lock_in t x) (some_need n) (map (lock_in t) xs) (map some_need ns) h)),
  wider ns (each-for t xs ns (tail-same (lock_in t x) (some_need n) (map (lock_in t) xs) (map some_need ns) h)),
)
  where
    wider : (ms : List Need) → AllByRecursion (λ m. is_for_some t xs m ≡ true) ms → AllByRecursion (λ m. is_for_some t (x ∷ xs) m ≡ true) ms
    wider [] k = tt
    wider (m ∷ ms) k = (or_right (is_reserved m x (relation_named x.relation t)) (is_for_some t xs m) k.0, wider ms k.1)

asked-by : (t : Tables) (rs : List Reservation) (n : Need) → is_for_some t rs n ≡ true → reservations_ask t n rs ≡ true
asked-by t [] n h = h
asked-by t (x ∷ xs) n h = or_right (is_on_catalog PR n) (is_for_some t (x ∷ xs) n) h

each-asked : (t : Tables) (rs : List Reservation) (locks : List Need) → AllByRecursion (λ n. is_for_some t rs n ≡ true) locks → AllByRecursion (λ n. reservations_ask t n rs ≡ true) locks
each-asked t rs [] h = tt
each-asked t rs (n ∷ ns) h = (asked-by t rs n h.0, each-asked t rs ns h.1)

module _ (M : Model) (orderly : IsOrderly M) where
  -- all, over each map: each, over all maps
  each-where : (known : Knowledge) (P : Tables → Need → Type 0) (locks : List Need) → WhereItAgrees M known (λ t. AllByRecursion (P t) locks) → AllByRecursion (λ n. WhereItAgrees M known (λ t. P t n)) locks
  each-where known P [] h = tt
  each-where known P (n ∷ ns) h = (λ all t m agrees. (h all t m agrees).0, each-where known P ns (λ all t m agrees. (h all t m agrees).1))

  pub locks-asked : (known : Knowledge) (rs : List Reservation) (locks : List Need) → WhereItAgrees M known (λ t. AreLocksOf rs t locks) → AllByRecursion (λ n. WhereItAgrees M known (λ t. reservations_ask t n rs ≡ true)) locks
  locks-asked known rs locks h = each-where known (λ t n. reservations_ask t n rs ≡ true) locks (λ all t m agrees. each-asked t rs locks (each-for t rs locks (h all t m agrees)))

-- Work that keeps to some areas keeps to more.
use Rattle.std.proofs.Common.{◌≡◌, ℕ, zero, suc, Bool, true, false, List, [], ◌∷◌, Some, inl, inr, refl, sym, ap, subst, ◌∙◌, nat_eq}
use Rattle.std.specs.Prelude.{◌||◌, slice_get, Result, Ok, Err}
use Rattle.std.specs.List.{AllByRecursion}
use Rattle.std.proofs.lemmas.Bool.{eqb-true, eq-eqb}
use Rattle.std.proofs.lemmas.Option.{none-some, same_Some}
use Rattle.line_view.specs.declared.need.Need.{Need}
use Rattle.line_view.specs.declared.need.Need.TheVariants.{Line, Area, Room}
use Rattle.line_view.specs.declared.stop.Stop.{Stop}
use Rattle.line_view.specs.declared.stop.Stop.TheVariants.{Missing, Bad, NoMemory, Own}
use Rattle.line_view.specs.Stops.{Stops}
use Rattle.catalog_lines.specs.declared.line.IndexLine.{IndexLine}
use Rattle.sound_changes.proofs.Basics.{all_of}
use Rattle.statement_view.specs.Over.{Over}
use Rattle.statement_view.specs.Areas.{is_among, IsNeedOf, WritesOf, KeepsTo}
use Rattle.row_writes.specs.Areas.{areas_of, IsNodeOf, KeepsToNodes}

-- ---- lists of areas

-- each of these areas is one of those
abbrev pub Wider : List ℕ → List ℕ → Type 0
Wider small big = (area : ℕ) → is_among small area ≡ true → is_among big area ≡ true

or_true : (b : Bool) → (b || true) ≡ true
or_true true = refl
or_true false = refl

or_false : (b : Bool) → (b || false) ≡ true → b ≡ true
or_false true h = refl
or_false false h = h

pub one_more_area : (area : ℕ) (areas : List ℕ) → Wider areas (area ∷ areas)
one_more_area area areas a h = ap (λ b. nat_eq a area || b) h ∙ or_true (nat_eq a area)

pub first_area : (area : ℕ) (areas : List ℕ) → is_among (area ∷ areas) area ≡ true
first_area area areas = ap (λ b. b || is_among areas area) (eq-eqb area area refl)

pub one_of : (area : ℕ) (areas : List ℕ) → is_among areas area ≡ true → Wider (area ∷ []) areas
one_of area areas is a h = subst (λ (x : ℕ). is_among areas x ≡ true) (sym (eqb-true a area (or_false (nat_eq a area) h))) is

all_among : (xs : List IndexLine) → AllByRecursion (λ (x : IndexLine). is_among (areas_of xs) x.area ≡ true) xs
all_among [] = tt
all_among (x ∷ xs) = (
  first_area x.area (areas_of xs),
  all_of (λ (y : IndexLine). is_among (areas_of xs) y.area ≡ true) (λ (y : IndexLine). is_among (areas_of (x ∷ xs)) y.area ≡ true) (λ y h. one_more_area x.area (areas_of xs) y.area h) xs (all_among xs),
)

at_index : (P : IndexLine → Type 0) (xs : List IndexLine) (at : ℕ) (x : IndexLine) → AllByRecursion P xs → slice_get xs at ≡ Some x → P x
at_index P [] at x all is = absurd (none-some x is)
at_index P (y ∷ ys) zero x all is = subst P (same_Some y x is) all.0
at_index P (y ∷ ys) (suc at) x all is = at_index P ys at x all.1 is

pub index_among : (xs : List IndexLine) (at : ℕ) (x : IndexLine) → slice_get xs at ≡ Some x → is_among (areas_of xs) x.area ≡ true
index_among xs at x is = at_index (λ (y : IndexLine). is_among (areas_of xs) y.area ≡ true) xs at x (all_among xs) is

-- ---- what is written

pub nothing_written : (areas : List ℕ) (o : Over) → WritesOf areas o o
nothing_written areas o key here = inl here

pub writes_then : (areas : List ℕ) (old mid new : Over) → WritesOf areas old mid → WritesOf areas mid new → WritesOf areas old new
writes_then areas old mid new one two key here = elim (two key here) [ inl before ↦ one key before | inr of ↦ inr of ]

pub writes_wider : (small big : List ℕ) (old new : Over) → Wider small big → WritesOf small old new → WritesOf big old new
writes_wider small big old new wider writes key here = elim (writes key here) [ inl before ↦ inl before | inr of ↦ inr (wider key.area of) ]

-- ---- what is lacked

pub need_wider : (read changed reads changes : List ℕ) → Wider read reads → Wider changed changes → (need : Need) → IsNeedOf read changed need → IsNeedOf reads changes need
need_wider read changed reads changes more also (Line key) h = more key.area h
need_wider read changed reads changes more also (Area area) h = more area h
need_wider read changed reads changes more also (Room room) h = also room.area h

pub node_wider : (lines rooms more also : List ℕ) → Wider lines more → Wider rooms also → (need : Need) → IsNodeOf lines rooms need → IsNodeOf more also need
node_wider lines rooms more also one two (Line key) h = one key.area h
node_wider lines rooms more also one two (Area area) h = absurd h
node_wider lines rooms more also one two (Room room) h = two room.area h

node_needed : (lines rooms read : List ℕ) → Wider lines read → (need : Need) → IsNodeOf lines rooms need → IsNeedOf read rooms need
node_needed lines rooms read wider (Line key) h = wider key.area h
node_needed lines rooms read wider (Area area) h = absurd h
node_needed lines rooms read wider (Room room) h = h

abbrev pub StopsAt : {E : Type 0} → (Need → Type 0) → Stop E → Type 0
StopsAt next = Stops next (λ key. Unit {0}) (λ own. Unit {0})

pub stops_at : {E : Type 0} (next other : Need → Type 0) → ((need : Need) → next need → other need) → (stop : Stop E) → StopsAt next stop → StopsAt other stop
stops_at next other because (Missing need) said = because need said
stops_at next other because (Bad key) said = tt
stops_at next other because NoMemory said = tt
stops_at next other because (Own reason) said = tt

-- ---- work

pub keeps_wider : {T E : Type 0} (read changed reads changes : List ℕ) (old new : Over) → Wider read reads → Wider changed changes → (result : Result T (Stop E)) → KeepsTo read changed old new result → KeepsTo reads changes old new result
keeps_wider read changed reads changes old new more also (Ok given) keeps = writes_wider changed changes old new also keeps
keeps_wider read changed reads changes old new more also (Err stop) keeps = stops_at (IsNeedOf read changed) (IsNeedOf reads changes) (need_wider read changed reads changes more also) stop keeps

-- who keeps to nodes keeps to their areas
pub keeps_areas : {T E : Type 0} (lines rooms read : List ℕ) (old new : Over) → Wider lines read → (result : Result T (Stop E)) → KeepsToNodes lines rooms old new result → KeepsTo read rooms old new result
keeps_areas lines rooms read old new wider (Ok given) keeps = keeps
keeps_areas lines rooms read old new wider (Err stop) keeps = stops_at (IsNodeOf lines rooms) (IsNeedOf read rooms) (node_needed lines rooms read wider) stop keeps

-- Lines of groups, the writes that they are, and whose a page is behind them.
use Rattle.std.proofs.Common.{◌≡◌, ℕ, zero, suc, ◌+◌, ◌-◌, ◌≤◌, ◌==◌, ◌&&◌, Bool, true, false, cond, List, [], ◌∷◌, ◌++◌, length, map, slice_get, Option, Some, None, refl, sym, ◌∙◌, ap, subst, arith}
use Rattle.std.specs.Option.{option_map}
use Rattle.std.proofs.lemmas.Option.{slice_get-map}
use Rattle.aij_journal.specs.declared.part.GroupLine.{GroupLine}
use Rattle.journal_scan.specs.declared.group.Group.{Group}
use Rattle.line_view.specs.declared.writes.Write.{Write}
use Rattle.line_versions.specs.Lines.{storage_area}
use Rattle.stable_lines.specs.Slots.{area_file}
use Rattle.stable_lines.specs.Journal.{write_of}
use Rattle.rolled_lines.specs.HalfLaid.{writes_of}
use Rattle.laid_groups.specs.Forward.{IsWrittenBy}
use Rattle.fitted_groups.specs.Meeting.{lines_among, is_there, first_there, owner_met, class_met}

-- ---- each line is a write

map_joins : (a b : List GroupLine) → map write_of (a ++ b) ≡ map write_of a ++ map write_of b
map_joins [] b = refl
map_joins (l ∷ a) b = ap (λ (ws : List Write). write_of l ∷ ws) (map_joins a b)

pub writes_are : (groups : List Group) → writes_of groups ≡ map write_of (lines_among groups)
writes_are [] = refl
writes_are (g ∷ gs) = ap (λ (ws : List Write). map write_of g.lines ++ ws) (writes_are gs) ∙ sym (map_joins g.lines (lines_among gs))

pub is_write : (groups : List Group) (i : ℕ) (l : GroupLine) → slice_get (lines_among groups) i ≡ Some l → slice_get (writes_of groups) i ≡ Some (write_of l)
is_write groups i l got = ap (λ (ws : List Write). slice_get ws i) (writes_are groups) ∙ slice_get-map write_of (lines_among groups) i ∙ ap (option_map write_of) got

-- a line of one of the groups is among them
pub record IsAmong (groups : List Group) (l : GroupLine) : Type 0 where
  pub index : ℕ
  pub is : slice_get (lines_among groups) index ≡ Some l

pub in_front : (a b : List GroupLine) (i : ℕ) (l : GroupLine) → slice_get a i ≡ Some l → slice_get (a ++ b) i ≡ Some l
in_front [] b i l got = let bad : None ≡ Some l = got in absurd (cc)
in_front (x ∷ a) b zero l got = got
in_front (x ∷ a) b (suc i) l got = in_front a b i l got

pub behind_front : (a b : List GroupLine) (i : ℕ) → slice_get (a ++ b) (length a + i) ≡ slice_get b i
behind_front [] b i = ap (slice_get b) (let none : 0 + i ≡ i = omega arith in none)
behind_front (x ∷ a) b i = ap (slice_get (x ∷ (a ++ b))) (let one : suc (length a) + i ≡ suc (length a + i) = omega arith in one) ∙ behind_front a b i

pub is_among : (groups : List Group) (n i : ℕ) (g : Group) (l : GroupLine) → slice_get groups n ≡ Some g → slice_get g.lines i ≡ Some l → IsAmong groups l
is_among [] n i g l at got = let bad : None ≡ Some g = at in absurd (cc)
is_among (x ∷ gs) zero i g l at got = record { index = i; is = in_front x.lines (lines_among gs) i l (subst (λ (y : Group). slice_get y.lines i ≡ Some l) (sym (same x g at)) got) }
  where
    same : (a b : Group) → Some a ≡ Some b → a ≡ b
    same a b is = cc
is_among (x ∷ gs) (suc n) i g l at got = let rest = is_among gs n i g l at got in record { index = length x.lines + rest.index; is = behind_front x.lines (lines_among gs) rest.index ∙ rest.is }

-- ---- the first line on a page

pub record IsFirst (file number : ℕ) (ls : List GroupLine) (l : GroupLine) : Type 0 where
  pub index : ℕ
  pub is : slice_get ls index ≡ Some l
  pub there : is_there file number l ≡ true

pub first_is : (file number : ℕ) (ls : List GroupLine) (l : GroupLine) → first_there file number ls ≡ Some l → IsFirst file number ls l
first_is file number [] l found = let bad : None ≡ Some l = found in absurd (cc)
first_is file number (x ∷ ls) l found = by (λ rest. first_is file number ls l rest) (is_there file number x) refl
  where
    same : (a b : GroupLine) → Some a ≡ Some b → a ≡ b
    same a b is = cc

    by : (first_there file number ls ≡ Some l → IsFirst file number ls l) → (b : Bool) → is_there file number x ≡ b → IsFirst file number (x ∷ ls) l
    by more true is = let here : x ≡ l = same x l (sym (ap (λ (b : Bool). cond b (Some x) (first_there file number ls)) is) ∙ found) in
        record { index = 0; is = ap Some here; there = subst (λ (y : GroupLine). is_there file number y ≡ true) here is }
    by more false is = let rest = more (sym (ap (λ (b : Bool). cond b (Some x) (first_there file number ls)) is) ∙ found) in
        record { index = suc rest.index; is = rest.is; there = rest.there }

-- it is a write of that page
pub first_true : (a b : Bool) → (a && b) ≡ true → a ≡ true
first_true true b is = refl
first_true false b is = is

pub second_true : (a b : Bool) → (a && b) ≡ true → b ≡ true
second_true true b is = is
second_true false b is = let bad : false ≡ true = is in let no : ⊥ = cc in absurd no

pub same_number : (a b : ℕ) → (a == b) ≡ true → a ≡ b
same_number a b is = grind (arith, is)

pub first_writes : (groups : List Group) (file number : ℕ) (l : GroupLine) → first_there file number (lines_among groups) ≡ Some l → IsWrittenBy (writes_of groups) file number
first_writes groups file number l found =
    let first = first_is file number (lines_among groups) l found in
    record {
      index = first.index;
      write = write_of l;
      is = is_write groups first.index l first.is;
      on = record {
        in_file = ap area_file (same_number (storage_area l.key.area) file (first_true (storage_area l.key.area == file) (l.key.page == number) first.there));
        in_slot = ap (λ (n : ℕ). n - 1) (same_number l.key.page number (second_true (storage_area l.key.area == file) (l.key.page == number) first.there));
      };
    }

-- ---- whose a page is

pub owner_stays : (owner entry : ℕ) (first : Option GroupLine) → 1 ≤ owner → owner_met owner first entry ≡ owner
owner_stays zero entry first some = absurd (omega (arith, some))
owner_stays (suc owner) entry first some = refl

pub class_stays : (owner class : ℕ) (first : Option GroupLine) → 1 ≤ owner → class_met owner first class ≡ class
class_stays zero class first some = absurd (omega (arith, some))
class_stays (suc owner) class first some = refl

pub owner_entered : (owner entry : ℕ) → owner ≡ 0 → owner_met owner None entry ≡ entry
owner_entered zero entry none = refl
owner_entered (suc owner) entry none = absurd (omega (arith, none))

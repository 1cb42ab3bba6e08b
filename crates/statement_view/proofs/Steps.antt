-- The view of a statement, as its parts hold it.
use Rattle.std.proofs.Common.{◌≡◌, ℕ, zero, suc, ◌+◌, ◌-◌, ◌<◌, ◌≤◌, inl, inr, Bool, true, false, cond, not, List, [], ◌∷◌, Option, Some, None, refl, sym, ap, subst, ◌∙◌, arith, add-one}
use Rattle.std.proofs.Math.Nat.{eq-or-lt_of_le}
use Rattle.std.specs.Prelude.{is_some, option_map, slice_get}
use Rattle.std.specs.List.{filter}
use Rattle.std.specs.Ordering.{nat_cmp, is_eq}
use Rattle.std.specs.FinMap.Entries.{find, put, find-put}
use Rattle.std.specs.Map.{lookup}
use Rattle.std.specs.BTreeMap.{is_at, insert_entry}
use Rattle.std.specs.BTreeSet.{BTreeSet}
use Rattle.rdb_types.specs.declared.keys.Dbkey.{Dbkey}
use Rattle.rdb_types.specs.Order.{dbkey_order}
use Rattle.rdb_types.specs.OrderLaws.{dbkey_total}
use Rattle.line_view.specs.declared.need.Room.{Room}
use Rattle.line_view.specs.declared.view.Seen.{Seen}
use Rattle.line_view.specs.Knowledge.{Knowledge, Shows}
use Rattle.line_view.specs.Held.{Held, knows, key_sets, room_order}
use Rattle.line_view.proofs.Entries.{find_lookup, find_keys, put_insert, found_behind}
use Rattle.line_view.proofs.Steps.{room_total, same_room}
use Rattle.statement_view.specs.Over.{Over, first_of, is_written, room_at, and_rooms, rooms_from, all_rooms, rooms_left, knows_over, AreRoomsWritten, ArePassed}
use Rattle.statement_view.proofs.Laying.{Written}

pub line_is : (lines : Written) (o : Over) (key : Dbkey) (what : Option (Option (List ℕ))) → o.lines ≡ lines → lookup (is_at (dbkey_order key)) lines ≡ what → find dbkey_order key o.lines ≡ what
line_is lines o key what same found = ap (λ (l : Written). find dbkey_order key l) same ∙ find_lookup dbkey_order key lines ∙ found

pub line_over : (lines : Written) (o : Over) (key : Dbkey) (what : Option (List ℕ)) → o.lines ≡ lines → lookup (is_at (dbkey_order key)) lines ≡ Some what → (knows_over o).line key ≡ Some what
line_over lines o key what same found = ap (λ f. first_of f ((knows o.base).line key)) (line_is lines o key (Some what) same found)

pub line_below : (lines : Written) (o : Over) (h : Held) (key : Dbkey) (s : Seen) → o.lines ≡ lines → h ≡ o.base → lookup (is_at (dbkey_order key)) lines ≡ None → Shows s ((knows h).line key) → Shows s ((knows_over o).line key)
line_below lines o h key s same base none shows =
    subst (Shows s) (ap (λ (b : Held). (knows b).line key) base ∙ sym (ap (λ f. first_of f ((knows o.base).line key)) (line_is lines o key None same none))) shows

pub area_over : (areas : List (ℕ × BTreeSet Dbkey)) (o : Over) (area : ℕ) (s : BTreeSet Dbkey) → o.areas ≡ key_sets areas → lookup (is_at (nat_cmp area)) areas ≡ Some s → (knows_over o).area area ≡ Some s.keys
area_over areas o area s same found =
    ap (λ f. first_of f ((knows o.base).area area)) (ap (find nat_cmp area) same ∙ find_keys area areas ∙ ap (option_map (λ (s : BTreeSet Dbkey). s.keys)) found)

pub area_below : (areas : List (ℕ × BTreeSet Dbkey)) (o : Over) (h : Held) (area : ℕ) → o.areas ≡ key_sets areas → h ≡ o.base → lookup (is_at (nat_cmp area)) areas ≡ None → (knows h).area area ≡ (knows_over o).area area
area_below areas o h area same base none =
    ap (λ (b : Held). (knows b).area area) base
    ∙ sym (ap (λ f. first_of f ((knows o.base).area area)) (ap (find nat_cmp area) same ∙ find_keys area areas ∙ ap (option_map (λ (s : BTreeSet Dbkey). s.keys)) none))

-- ---- rooms

abbrev pub left_from : ℕ → Knowledge → Written → ℕ → ℕ → ℕ → List Dbkey
left_from more known lines area class nth = filter (λ k. not (is_written lines k)) (rooms_from more known area class nth)

pub left_at_first : (known : Knowledge) (lines : Written) (area class : ℕ) → left_from all_rooms known lines area class 0 ≡ rooms_left known lines area class
unfolding rooms_left
left_at_first known lines area class = refl

-- one more room is looked at
pub left_none : (more : ℕ) (known : Knowledge) (lines : Written) (area class nth : ℕ) → known.room (room_at area class nth) ≡ None → left_from (suc more) known lines area class nth ≡ []
left_none more known lines area class nth none = ap (λ o. filter (λ k. not (is_written lines k)) (and_rooms o (rooms_from more known area class (nth + 1)))) none

pub left_written : (more : ℕ) (known : Knowledge) (lines : Written) (area class nth : ℕ) (key : Dbkey) → known.room (room_at area class nth) ≡ Some key → is_written lines key ≡ true → left_from (suc more) known lines area class nth ≡ left_from more known lines area class (nth + 1)
left_written more known lines area class nth key is taken =
    ap (λ o. filter (λ k. not (is_written lines k)) (and_rooms o (rooms_from more known area class (nth + 1)))) is
    ∙ ap (λ b. cond (not b) (key ∷ left_from more known lines area class (nth + 1)) (left_from more known lines area class (nth + 1))) taken

pub left_free : (more : ℕ) (known : Knowledge) (lines : Written) (area class nth : ℕ) (key : Dbkey) → known.room (room_at area class nth) ≡ Some key → is_written lines key ≡ false → left_from (suc more) known lines area class nth ≡ key ∷ left_from more known lines area class (nth + 1)
left_free more known lines area class nth key is free =
    ap (λ o. filter (λ k. not (is_written lines k)) (and_rooms o (rooms_from more known area class (nth + 1)))) is
    ∙ ap (λ b. cond (not b) (key ∷ left_from more known lines area class (nth + 1)) (left_from more known lines area class (nth + 1))) free

pub is_written_is : (lines : Written) (o : Over) (key : Dbkey) (b : Bool) → o.lines ≡ lines → b ≡ is_some (lookup (is_at (dbkey_order key)) lines) → b ≡ is_written o.lines key
is_written_is lines o key b same found = found ∙ ap is_some (sym (find_lookup dbkey_order key lines)) ∙ ap (λ (l : Written). is_written l key) (sym same)

module _ (known : Knowledge) (lines : Written) (area class nth left : ℕ) (whole : Option Dbkey) (key : Dbkey) (within : nth < 4294967295) (room : known.room (room_at area class nth) ≡ Some key) where
  more : 4294967295 - nth ≡ suc (4294967295 - (nth + 1))
  more = omega (arith, within)

  pub goes_past : is_written lines key ≡ true → slice_get (left_from (4294967295 - nth) known lines area class nth) left ≡ whole → slice_get (left_from (4294967295 - (nth + 1)) known lines area class (nth + 1)) left ≡ whole
  goes_past taken is = sym (ap (λ (m : ℕ). slice_get (left_from m known lines area class nth) left) more ∙ ap (λ (l : List Dbkey). slice_get l left) (left_written (4294967295 - (nth + 1)) known lines area class nth key room taken)) ∙ is

  pub goes_on : (less : ℕ) → left ≡ suc less → is_written lines key ≡ false → slice_get (left_from (4294967295 - nth) known lines area class nth) left ≡ whole → slice_get (left_from (4294967295 - (nth + 1)) known lines area class (nth + 1)) less ≡ whole
  goes_on less one free is =
      sym (ap (λ (n : ℕ). slice_get (left_from (4294967295 - nth) known lines area class nth) n) one
      ∙ ap (λ (m : ℕ). slice_get (left_from m known lines area class nth) (suc less)) more
      ∙ ap (λ (l : List Dbkey). slice_get l (suc less)) (left_free (4294967295 - (nth + 1)) known lines area class nth key room free)) ∙ is

  pub found_here : left ≡ 0 → is_written lines key ≡ false → slice_get (left_from (4294967295 - nth) known lines area class nth) left ≡ whole → Some key ≡ whole
  found_here none free is =
      sym (ap (λ (n : ℕ). slice_get (left_from (4294967295 - nth) known lines area class nth) n) none
      ∙ ap (λ (m : ℕ). slice_get (left_from m known lines area class nth) 0) more
      ∙ ap (λ (l : List Dbkey). slice_get l 0) (left_free (4294967295 - (nth + 1)) known lines area class nth key room free)) ∙ is

-- ---- rooms that are passed

-- those that are passed are left out
pub passed : (known : Knowledge) (lines : Written) (area class left below : ℕ) → below ≤ 4294967295 → AreRoomsWritten known lines area class below →
    slice_get (left_from (4294967295 - below) known lines area class below) left ≡ slice_get (rooms_left known lines area class) left
passed known lines area class left zero within written = ap (λ (l : List Dbkey). slice_get l left) (left_at_first known lines area class)
passed known lines area class left (suc b) within written =
    let room = written b (omega arith) in
    subst (λ (m : ℕ). slice_get (left_from (4294967295 - m) known lines area class m) left ≡ slice_get (rooms_left known lines area class) left) (add-one b)
    (goes_past known lines area class b left (slice_get (rooms_left known lines area class) left) room.0 (omega (arith, within)) room.1 room.2
    (passed known lines area class left b (omega (arith, within)) (λ nth less. written nth (omega (arith, less)))))

pub one_more_written : (known : Knowledge) (lines : Written) (area class n : ℕ) (key : Dbkey) → AreRoomsWritten known lines area class n → known.room (room_at area class n) ≡ Some key → is_written lines key ≡ true → AreRoomsWritten known lines area class (n + 1)
one_more_written known lines area class n key written room taken = λ nth less.
    let within : nth ≤ n = omega (arith, less) in
    elim (eq-or-lt_of_le within) [
      | inl here ↦ subst (λ (m : ℕ). (k : Dbkey) × (known.room (room_at area class m) ≡ Some k) × (is_written lines k ≡ true)) (sym here) (key, room, taken)
      | inr below ↦ written nth below
    ]

still_written : (key q : Dbkey) (image : Option (List ℕ)) (lines : Written) → is_written lines q ≡ true → is_written (put dbkey_order key image lines) q ≡ true
still_written key q image lines taken =
    ap is_some (find-put dbkey_order dbkey_total q key image lines)
    ∙ elim (is_eq (dbkey_order q key)) as (λ b. is_some (cond b (Some image) (find dbkey_order q lines)) ≡ true) [ true ↦ refl | false ↦ taken ]

-- behind a write they are passed still
pub still_passed : (known : Knowledge) (lines new : Written) (passed : List (Room × ℕ)) (key : Dbkey) (image : Option (List ℕ)) → ArePassed known lines passed → new ≡ insert_entry dbkey_order lines key image → ArePassed known new passed
still_passed known lines new passed key image are step =
    subst (λ (l : Written). ArePassed known l passed) (put_insert dbkey_order key image lines ∙ sym step)
    (λ first count found nth less. let room = are first count found nth less in (room.0, room.1, still_written key room.0 image lines room.2))

-- what is noted of one more
pub more_passed : (known : Knowledge) (lines : Written) (passed new : List (Room × ℕ)) (room : Room) (count : ℕ) → ArePassed known lines passed → AreRoomsWritten known lines room.area room.class count → new ≡ insert_entry room_order passed room count → ArePassed known lines new
more_passed known lines passed new room count are written step = λ first n found.
    elim (found_behind room_order room_total first room count n passed same_room (ap (find room_order first) (put_insert room_order room count passed ∙ sym step) ∙ found)) [
      | inl e ↦ subst (λ (r : Room). AreRoomsWritten known lines r.area r.class n) (sym e.0) (subst (λ (m : ℕ). AreRoomsWritten known lines room.area room.class m) (sym e.1) written)
      | inr e ↦ are first n e
    ]

-- what is noted, by the view
pub noted : (o : Over) (h : Held) (lines : Written) (notes : List (Room × ℕ)) (room : Room) (what : Option ℕ) (count : ℕ) → h ≡ o.base → o.lines ≡ lines → ArePassed (knows h) lines notes → lookup (is_at (room_order room)) notes ≡ what → what ≡ Some count →
    AreRoomsWritten (knows o.base) o.lines room.area room.class count
noted o h lines notes room what count base same are found some =
    subst (λ (b : Held). AreRoomsWritten (knows b) o.lines room.area room.class count) base
    (subst (λ (l : Written). AreRoomsWritten (knows h) l room.area room.class count) (sym same) (are room count (find_lookup room_order room notes ∙ found ∙ some)))

pub room_is : (o : Over) (h : Held) (area class nth : ℕ) (key : Dbkey) → h ≡ o.base → (knows h).room (room_at area class nth) ≡ Some key → (knows o.base).room (room_at area class nth) ≡ Some key
room_is o h area class nth key base is = ap (λ (b : Held). (knows b).room (room_at area class nth)) (sym base) ∙ is

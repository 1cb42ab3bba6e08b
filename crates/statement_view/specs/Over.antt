-- The lines that a statement has written, over what is known.
use Rattle.std.specs.Prelude.{◌≡◌, ◌≢◌, ◌<◌, ℕ, zero, suc, ◌+◌, Bool, true, not, List, [], ◌∷◌, map, Option, Some, None, is_some, slice_get, if◌then◌else◌}
use Rattle.std.specs.List.{filter}
use Rattle.std.specs.Ordering.{nat_cmp}
use Rattle.std.specs.FinMap.Entries.{find, put}
use Rattle.rdb_types.specs.declared.keys.Dbkey.{Dbkey}
use Rattle.rdb_types.specs.Order.{dbkey_order}
use Rattle.line_view.specs.declared.need.Room.{Room}
use Rattle.line_view.specs.Knowledge.{Knowledge, Lines, IsInOrder, Agrees, laid}
use Rattle.line_view.specs.declared.writes.Write.{Write}
use Rattle.line_view.specs.Held.{Held, knows, written, room_order}

-- what is known, the last images of the lines that were written, and the present keys of areas that were changed
pub record Over : Type 0 where
  pub base : Held
  pub lines : List (Dbkey × Option (List ℕ))
  pub areas : List (ℕ × List Dbkey)

-- what is seen of what is known: the keys of areas, or those of none
abbrev pub seen_of : Bool → Held → Held
seen_of sees_areas h = record { lines = h.lines; areas = if sees_areas then h.areas else []; rooms = h.rooms }

abbrev pub first_of : {X : Type 0} → Option X → Option X → Option X
first_of (Some x) other = Some x
first_of None other = other

abbrev pub is_written : List (Dbkey × Option (List ℕ)) → Dbkey → Bool
is_written lines key = is_some (find dbkey_order key lines)

abbrev pub room_at : ℕ → ℕ → ℕ → Room
room_at area class nth = record { area = area; class = class; nth = nth }

abbrev pub and_rooms : Option Dbkey → List Dbkey → List Dbkey
and_rooms None rest = []
and_rooms (Some key) rest = key ∷ rest

-- the rooms from this number on, up to the first that isn't known, and no more than so many
abbrev pub rooms_from : ℕ → Knowledge → ℕ → ℕ → ℕ → List Dbkey
rooms_from zero known area class nth = []
rooms_from (suc more) known area class nth = and_rooms (known.room (room_at area class nth)) (rooms_from more known area class (nth + 1))

-- the numbers of rooms are below this
abbrev pub all_rooms : ℕ
all_rooms = 4294967295

-- the rooms of the numbers below this one are known
abbrev pub AreRoomsKnown : Knowledge → ℕ → ℕ → ℕ → Type 0
AreRoomsKnown known area class below = (nth : ℕ) → nth < below → known.room (room_at area class nth) ≢ None

-- the rooms of the numbers below this one are known, and their lines are written
abbrev pub AreRoomsWritten : Knowledge → List (Dbkey × Option (List ℕ)) → ℕ → ℕ → ℕ → Type 0
AreRoomsWritten known lines area class below = (nth : ℕ) → nth < below → (key : Dbkey) × (known.room (room_at area class nth) ≡ Some key) × (is_written lines key ≡ true)

-- what is noted of rooms, by the first of their area and class
abbrev pub ArePassed : Knowledge → List (Dbkey × Option (List ℕ)) → List (Room × ℕ) → Type 0
ArePassed known lines passed = (first : Room) (count : ℕ) → find room_order first passed ≡ Some count → AreRoomsWritten known lines first.area first.class count

-- the rooms that aren't written
unfoldable pub rooms_left : Knowledge → List (Dbkey × Option (List ℕ)) → ℕ → ℕ → List Dbkey
rooms_left known lines area class = filter (λ k. not (is_written lines k)) (rooms_from all_rooms known area class 0)

-- A written line is as it was written, the keys of a changed area are those behind the changes, and the rooms that aren't written are numbered anew.
abbrev pub knows_over : Over → Knowledge
knows_over o = record {
  line = λ key. first_of (find dbkey_order key o.lines) ((knows o.base).line key);
  area = λ area. first_of (find nat_cmp area o.areas) ((knows o.base).area area);
  room = λ room. slice_get (rooms_left (knows o.base) o.lines room.area room.class) room.nth;
}

-- the map behind the writes, which are laid in the order of their keys
abbrev pub laid_over : List (Dbkey × Option (List ℕ)) → Lines → Lines
laid_over [] all = all
laid_over (e ∷ es) all = laid_over es (laid e.0 e.1 all)

abbrev pub area_written : Dbkey → Bool → List (ℕ × List Dbkey) → Option (List Dbkey) → List (ℕ × List Dbkey)
area_written key is_present areas (Some keys) = put nat_cmp key.area (written key is_present keys) areas
area_written key is_present areas None = areas

-- one more write: where the keys of its area are known, those behind it are
abbrev pub with_over : Dbkey → Option (List ℕ) → Over → Over
with_over key image o = record {
  base = o.base;
  lines = put dbkey_order key image o.lines;
  areas = area_written key (is_some image) o.areas (first_of (find nat_cmp key.area o.areas) ((knows o.base).area key.area));
}

-- the keys of an area that is known below are kept above, but for those that are kept already
abbrev pub area_kept : ℕ → List (ℕ × List Dbkey) → Option (List Dbkey) → Option (List Dbkey) → List (ℕ × List Dbkey)
area_kept area areas (Some above) below = areas
area_kept area areas None (Some keys) = put nat_cmp area keys areas
area_kept area areas None None = areas

abbrev pub write_of : Dbkey × Option (List ℕ) → Write
write_of e = record { key = e.0; image = e.1 }

abbrev pub writes_of : List (Dbkey × Option (List ℕ)) → List Write
writes_of = map write_of

-- The view agrees with the map behind its writes, and what is known with the map before them.
pub record Stands (o : Over) (first : Lines) : Type 0 where
  pub ordered : IsInOrder first
  pub base : Agrees (knows o.base) first
  pub agrees : Agrees (knows_over o) (laid_over o.lines first)

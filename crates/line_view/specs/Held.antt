-- What a `Known` holds.
use Rattle.std.specs.Prelude.{◌≡◌, ℕ, Bool, List, [], ◌∷◌, map, Option, Some, None, is_some, if◌then◌else◌}
use Rattle.std.specs.declared.cmp.Ordering.{Ordering}
use Rattle.std.specs.Ordering.{nat_cmp, ordering_then}
use Rattle.std.specs.FinMap.Entries.{find, put}
use Rattle.std.specs.List.Sorted.{IsStrictlySortedBy}
use Rattle.std.specs.BTreeMap.{is_at}
use Rattle.std.specs.BTreeSet.{BTreeSet, insert_key}
use Rattle.std.specs.Map.{set_value}
use Rattle.std.specs.Set.{remove_key}
use Rattle.ordered_entries.specs.rdb_types.declared.keys.Dbkey.{Dbkey}
use Rattle.ordered_entries.specs.rdb_types.Order.{dbkey_order}
use Rattle.line_view.specs.declared.need.Room.{Room}
use Rattle.line_view.specs.declared.known.PresentLine.{PresentLine}
use Rattle.line_view.specs.Knowledge.{Knowledge, Lines, keys_of}

pub record Held : Type 0 where
  pub lines : List (Dbkey × Option (List ℕ))
  pub areas : List (ℕ × List Dbkey)
  pub rooms : List (Room × Dbkey)

abbrev pub entry_of : PresentLine → Dbkey × List ℕ
entry_of line = (line.key, line.image)

abbrev pub room_order : Room → Room → Ordering
room_order a b = ordering_then (nat_cmp a.area b.area) (ordering_then (nat_cmp a.class b.class) (nat_cmp a.nth b.nth))

abbrev pub nothing : Held
nothing = record { lines = []; areas = []; rooms = [] }

abbrev pub unless_present : Dbkey → Option (Option (List ℕ)) → Option Dbkey
unless_present key (Some (Some image)) = None
unless_present key (Some None) = Some key
unless_present key None = Some key

abbrev pub usable : List (Dbkey × Option (List ℕ)) → Option Dbkey → Option Dbkey
usable lines (Some key) = unless_present key (find dbkey_order key lines)
usable lines None = None

-- A line that is known to be present is no room.
abbrev pub knows : Held → Knowledge
knows h = record {
  line = λ key. find dbkey_order key h.lines;
  area = λ area. find nat_cmp area h.areas;
  room = λ room. usable h.lines (find room_order room h.rooms);
}

abbrev pub with_line : Dbkey → Option (List ℕ) → Held → Held
with_line key image h = record h { lines = put dbkey_order key image h.lines }

abbrev pub with_room : Room → Dbkey → Held → Held
with_room room key h = record h { rooms = put room_order room key h.rooms }

abbrev pub without_rooms : Held → Held
without_rooms h = record h { rooms = [] }

-- these lines are present
abbrev pub with_lines : Lines → Held → Held
with_lines [] h = h
with_lines (e ∷ es) h = with_lines es (with_line e.0 (Some e.1) h)

-- the keys in ascending order, each once
abbrev pub ordered_from : List Dbkey → List Dbkey → List Dbkey
ordered_from found [] = found
ordered_from found (key ∷ keys) = ordered_from (insert_key dbkey_order found key) keys

abbrev pub ordered : List Dbkey → List Dbkey
ordered = ordered_from []

abbrev pub with_keys : ℕ → List Dbkey → Held → Held
with_keys area keys h = record h { areas = put nat_cmp area (ordered keys) h.areas }

-- these are the present lines of a logical area
abbrev pub with_area : ℕ → Lines → Held → Held
with_area area lines h = with_keys area (keys_of lines) (with_lines lines h)

-- the present keys of an area behind a write
abbrev pub written : Dbkey → Bool → List Dbkey → List Dbkey
written key is_present keys = if is_present then insert_key dbkey_order keys key else remove_key (is_at (dbkey_order key)) keys

abbrev pub with_written : Dbkey → Bool → List (ℕ × List Dbkey) → Option (List Dbkey) → List (ℕ × List Dbkey)
with_written key is_present areas (Some keys) = set_value (is_at (nat_cmp key.area)) areas (written key is_present keys)
with_written key is_present areas None = areas

-- the keys of the areas that are known, behind a write
abbrev pub areas_written : Dbkey → Bool → List (ℕ × List Dbkey) → List (ℕ × List Dbkey)
areas_written key is_present areas = with_written key is_present areas (find nat_cmp key.area areas)

-- a write laid over what is held
abbrev pub with_write : Dbkey → Option (List ℕ) → Held → Held
with_write key image h = record h { lines = put dbkey_order key image h.lines; areas = areas_written key (is_some image) h.areas }

-- the rooms are different lines, each of its own area
pub record AreRooms (rooms : List (Room × Dbkey)) : Type 0 where
  pub within : (room : Room) (key : Dbkey) → find room_order room rooms ≡ Some key → key.area ≡ room.area
  pub apart : (a b : Room) (key : Dbkey) → find room_order a rooms ≡ Some key → find room_order b rooms ≡ Some key → a ≡ b

abbrev pub key_sets : List (ℕ × BTreeSet Dbkey) → List (ℕ × List Dbkey)
key_sets = map (λ e. (e.0, e.1.keys))

-- These lines are those before the line was put, if that is what was known of it.
abbrev pub TakesBack : Dbkey → Option (Option (List ℕ)) → List (Dbkey × Option (List ℕ)) → List (Dbkey × Option (List ℕ)) → Type 0
TakesBack key before old new = (lines : List (Dbkey × Option (List ℕ))) (image : Option (List ℕ)) →
    IsStrictlySortedBy dbkey_order (map (λ e. e.0) lines) → find dbkey_order key lines ≡ before → old ≡ put dbkey_order key image lines → new ≡ lines

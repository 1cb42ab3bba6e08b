-- What a view knows of a full map of lines, and what it means that it agrees with one.
use Rattle.std.specs.Prelude.{◌≡◌, ℕ, ◌==◌, true, not, List, map, Option, Some, None}
use Rattle.std.specs.List.{filter}
use Rattle.std.specs.Ordering.{is_eq}
use Rattle.std.specs.FinMap.Entries.{find, put, is_sorted}
use Rattle.ordered_entries.specs.rdb_types.declared.keys.Dbkey.{Dbkey}
use Rattle.ordered_entries.specs.rdb_types.Order.{dbkey_order}
use Rattle.line_view.specs.declared.need.Room.{Room}
use Rattle.line_view.specs.declared.view.Seen.{Seen}
use Rattle.line_view.specs.declared.view.Seen.TheVariants.{Unknown, Absent, Present}

-- ---- a full map

-- the present lines with the bytes of their images, in the order of their Dbkeys
abbrev pub Lines : Type 0
Lines = List (Dbkey × List ℕ)

abbrev pub IsInOrder : Lines → Type 0
IsInOrder lines = is_sorted dbkey_order lines ≡ true

abbrev pub line_in : Dbkey → Lines → Option (List ℕ)
line_in = find dbkey_order

abbrev pub lines_in : ℕ → Lines → Lines
lines_in area = filter (λ e. e.0.area == area)

abbrev pub keys_of : Lines → List Dbkey
keys_of = map (λ e. e.0)

-- a write laid over the map: the line is present with this image, or it isn't
abbrev pub laid : Dbkey → Option (List ℕ) → Lines → Lines
laid key (Some image) lines = put dbkey_order key image lines
laid key None lines = filter (λ e. not (is_eq (dbkey_order key e.0))) lines

-- ---- a view

-- What is known: of a line whether it is present, with its image; of a logical area the present keys; of a room its Dbkey. What is not known is None.
pub record Knowledge : Type 0 where
  pub line : Dbkey → Option (Option (List ℕ))
  pub area : ℕ → Option (List Dbkey)
  pub room : Room → Option Dbkey

-- Each line that is known is the map's, and each area has the map's present keys. The rooms are different lines, each of its own area and not present.
pub record Agrees (known : Knowledge) (lines : Lines) : Type 0 where
  pub line : (key : Dbkey) (what : Option (List ℕ)) → known.line key ≡ Some what → what ≡ line_in key lines
  pub area : (area : ℕ) (keys : List Dbkey) → known.area area ≡ Some keys → keys ≡ keys_of (lines_in area lines)
  pub within : (room : Room) (key : Dbkey) → known.room room ≡ Some key → key.area ≡ room.area
  pub free : (room : Room) (key : Dbkey) → known.room room ≡ Some key → line_in key lines ≡ None
  pub apart : (a b : Room) (key : Dbkey) → known.room a ≡ Some key → known.room b ≡ Some key → a ≡ b

-- what is answered of a line
abbrev pub Shows : Seen → Option (Option (List ℕ)) → Type 0
Shows Unknown what = what ≡ None
Shows Absent what = what ≡ Some None
Shows (Present image) what = what ≡ Some (Some image.now)

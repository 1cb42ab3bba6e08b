-- Maps of lines that agree wherever an owner's needs keep others from writing.
use Rattle.std.specs.Prelude.{◌≡◌, ℕ, true, List, Option, Some}
use Rattle.rdb_types.specs.declared.keys.Dbkey.{Dbkey}
use Rattle.lock_needs.specs.declared.need.Need.{Need}
use Rattle.line_view.specs.declared.need.Room.{Room}
use Rattle.line_view.specs.Knowledge.{Knowledge, Lines, line_in, lines_in, keys_of}
use Rattle.rdb_account.specs.AskedFor.{area_node}
use Rattle.kept_apart.specs.Guards.{line_node, is_guarded}

-- each line that is guarded is the same in both, and each area that is guarded has the same keys
pub record AreAlike (got : List Need) (a b : Lines) : Type 0 where
  pub line : (key : Dbkey) → is_guarded got (line_node key) ≡ true → line_in key a ≡ line_in key b
  pub area : (area : ℕ) → is_guarded got (area_node area) ≡ true → keys_of (lines_in area a) ≡ keys_of (lines_in area b)

-- All that is known is guarded: a line by a need on it or above it, an area by a need on it, a room by a need on its line.
pub record IsGuarded (got : List Need) (known : Knowledge) : Type 0 where
  pub line : (key : Dbkey) (what : Option (List ℕ)) → known.line key ≡ Some what → is_guarded got (line_node key) ≡ true
  pub area : (area : ℕ) (keys : List Dbkey) → known.area area ≡ Some keys → is_guarded got (area_node area) ≡ true
  pub room : (room : Room) (key : Dbkey) → known.room room ≡ Some key → is_guarded got (line_node key) ≡ true

-- what the first guards, the second guards too
abbrev pub GuardsMore : List Need → List Need → Type 0
GuardsMore few more = (n : _) → is_guarded few n ≡ true → is_guarded more n ≡ true

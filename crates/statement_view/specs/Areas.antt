-- In which logical areas a statement reads and writes lines.
use Rattle.std.specs.Prelude.{◌≡◌, ◌⊎◌, ℕ, Bool, true, nat_eq, List, Result}
use Rattle.std.specs.List.{list_any}
use Rattle.rdb_types.specs.declared.keys.Dbkey.{Dbkey}
use Rattle.line_view.specs.declared.need.Need.{Need}
use Rattle.line_view.specs.declared.need.Need.TheVariants.{Line, Area, Room}
use Rattle.line_view.specs.declared.stop.Stop.{Stop}
use Rattle.line_view.specs.Stops.{Answers}
use Rattle.statement_view.specs.Over.{Over, is_written}

-- whether it is one of these areas
abbrev pub is_among : List ℕ → ℕ → Bool
is_among areas area = list_any (nat_eq area) areas

-- a line, or all lines, of an area that is read, or a room of one that is changed
abbrev pub IsNeedOf : List ℕ → List ℕ → Need → Type 0
IsNeedOf read changed (Line key) = is_among read key.area ≡ true
IsNeedOf read changed (Area area) = is_among read area ≡ true
IsNeedOf read changed (Room room) = is_among changed room.area ≡ true

-- each line that the new view has written beyond the old one is of one of these areas
abbrev pub WritesOf : List ℕ → Over → Over → Type 0
WritesOf changed old new = (key : Dbkey) → is_written new.lines key ≡ true → (is_written old.lines key ≡ true) ⊎ (is_among changed key.area ≡ true)

-- Work over the view keeps to these areas: what it names as missing is of those that are read, or is a room of those that are changed, and behind success what it wrote is of the latter.
abbrev pub KeepsTo : {T E : Type 0} → List ℕ → List ℕ → Over → Over → Result T (Stop E) → Type 0
KeepsTo read changed old new result = Answers (λ given. WritesOf changed old new) (IsNeedOf read changed) (λ key. Unit {0}) (λ own. Unit {0}) result

-- a room of this area
abbrev pub IsRoomOf : ℕ → Need → Type 0
IsRoomOf area (Line key) = ⊥
IsRoomOf area (Area all) = ⊥
IsRoomOf area (Room room) = room.area ≡ area

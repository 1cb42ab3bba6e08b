-- Writes that were laid in part, before a stop.
use Rattle.std.specs.Prelude.{ℕ, ◌≡◌, cond, List, [], ◌∷◌, map, take, Option}
use Rattle.std.specs.List.{flat_map}
use Rattle.std.specs.Ordering.{is_eq}
use Rattle.rdb_types.specs.declared.keys.Dbkey.{Dbkey}
use Rattle.rdb_types.specs.Order.{dbkey_order}
use Rattle.journal_scan.specs.declared.group.Group.{Group}
use Rattle.line_view.specs.declared.writes.Write.{Write}
use Rattle.line_view.specs.Knowledge.{Lines, line_in}
use Rattle.stable_lines.specs.Journal.{write_of}

-- what a line is behind these writes
abbrev pub line_behind : Dbkey → List Write → Option (List ℕ) → Option (List ℕ)
line_behind key [] before = before
line_behind key (w ∷ ws) before = line_behind key ws (cond (is_eq (dbkey_order key w.key)) w.image before)

-- Each line is as it was behind some of the writes, from the first on, for each line as many as may be.
abbrev pub HalfLaid : Lines → List Write → Lines → Type 0
HalfLaid lines writes half = (key : Dbkey) → (count : ℕ) × (line_in key half ≡ line_behind key (take count writes) (line_in key lines))

-- the writes of groups, one behind another
abbrev pub writes_of : List Group → List Write
writes_of groups = flat_map (λ g. map write_of g.lines) groups

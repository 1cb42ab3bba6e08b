-- Which lines a search is told to lack.
use Rattle.std.specs.Prelude.{◌≡◌, ℕ, None}
use Rattle.rdb_types.specs.declared.keys.Dbkey.{Dbkey}
use Rattle.line_view.specs.Knowledge.{Knowledge}

-- a line of this area that isn't known
abbrev pub IsUnknownIn : Knowledge → ℕ → Dbkey → Type 0
IsUnknownIn known area key = (key.area ≡ area) × (known.line key ≡ None)

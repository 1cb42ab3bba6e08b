-- What a reader is answered.
use Rattle.std.specs.Prelude.{ℕ, List, Option, Some, None}
use Rattle.rdb_types.specs.declared.keys.Line.{Line}
use Rattle.line_versions.specs.Lines.{shown}

-- the bytes of a version that is present
abbrev pub shown_of : Option Line → Option (List ℕ)
shown_of None = None
shown_of (Some version) = shown version

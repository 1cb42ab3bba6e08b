-- Places in a script.
use Rattle.std.specs.Prelude.{ℕ, suc, ◌+◌, if◌then◌else◌, ◌==◌, [], ◌∷◌, fold}
use Rattle.rdo_tokens.specs.Lex.{Text}
use Rattle.rdo_parser.specs.declared.place.Place.{Place}

-- the place behind a byte; a line ends with byte 10
abbrev pub behind_byte : Place → ℕ → Place
behind_byte p b = if b == 10 then record { line = p.line + 1; column = 1 } else record { line = p.line; column = p.column + 1 }

-- the place behind this part of a script, which begins at line 1 and column 1
abbrev pub place_behind : Text → Place
place_behind = fold behind_byte (record { line = 1; column = 1 })

-- how many bytes there are up to the next line
abbrev pub line_len : Text → ℕ
line_len [] = 0
line_len (b ∷ z) = if b == 10 then 1 else suc (line_len z)

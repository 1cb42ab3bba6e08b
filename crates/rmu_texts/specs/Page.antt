-- A page as hexadecimal digits.
use Rattle.std.specs.Prelude.{ℕ, zero, suc, ◌*◌, ◌/◌, ◌%◌, false, List, [], ◌∷◌, ◌++◌, take, drop, codes}
use Rattle.std.specs.List.{flat_map}
use Rattle.std.specs.Fmt.{digit_glyph}

-- a byte as two digits in lower case
abbrev pub hex_byte : ℕ → List ℕ
hex_byte b = digit_glyph false (b / 16) ∷ digit_glyph false (b % 16) ∷ []

-- four digits of the offset, then each byte with a blank in front
abbrev pub bytes_line : ℕ → List ℕ → List ℕ
bytes_line offset bytes = hex_byte (offset / 256) ++ hex_byte (offset % 256) ++ flat_map (λ b. 32 ∷ hex_byte b) bytes ++ codes "\n"

-- the line of this number, counted from 0, has 16 bytes
abbrev pub line_of : List ℕ → ℕ → List ℕ
line_of page line = bytes_line (16 * line) (take 16 (drop (16 * line) page))

-- the first lines
unfoldable pub lines_to : List ℕ → ℕ → List ℕ
lines_to page zero = []
lines_to page (suc line) = lines_to page line ++ line_of page line

-- all 64 of them
abbrev pub page_text : List ℕ → List ℕ
page_text page = lines_to page 64

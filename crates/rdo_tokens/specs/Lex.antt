-- The tokens of a script. A text reads as 0 past its end.
use Rattle.std.specs.Prelude.{ℕ, zero, suc, ◌+◌, ◌-◌, ◌*◌, Bool, true, false, not, ◌&&◌, ◌||◌, if◌then◌else◌, ◌==◌, nat_le, List, [], ◌∷◌, length, take, drop, map, fold, slice_index, Option, Some, None}
use Rattle.std.specs.Char.{is_ascii_digit, is_ascii_alphabetic, is_ascii_alphanumeric}
use Rattle.std.specs.List.{prefix_len}
use Rattle.std.specs.Str.{str_eq_ignore_ascii_case}
use denote.Enum.Bare.{sameb}
use Rattle.rdo_tokens.specs.contracts.token.Kind.{the_type}
use Rattle.rdo_tokens.specs.declared.lex.Class.{Class}
use Rattle.rdo_tokens.specs.declared.lex.Class.TheVariants as class
use Rattle.rdo_tokens.specs.declared.lex.Cut.{Cut}
use Rattle.rdo_tokens.specs.declared.token.Kind.{Kind}
use Rattle.rdo_tokens.specs.declared.token.Kind.TheVariants as k
use Rattle.rdo_tokens.specs.declared.token.TheConstants.{RESERVED}

abbrev pub Text : Type 0
Text = List ℕ

-- blanks, tabs and line ends
abbrev pub is_blank : ℕ → Bool
is_blank b = b == 9 || b == 10 || b == 13 || b == 32

abbrev pub is_printable : ℕ → Bool
is_printable b = nat_le 32 b && nat_le b 126

abbrev pub is_in : Class → ℕ → Bool
is_in class.Digit b = is_ascii_digit b
is_in class.Word b = is_ascii_alphanumeric b || b == 95 || b == 36
is_in class.Comment b = is_printable b || b == 9 || b == 13

-- the first place from `at` on whose byte is not of the class
abbrev pub past : Class → Text → ℕ → ℕ
past c z at = at + prefix_len (is_in c) (drop at z)

-- ---- words and names

abbrev pub lookup : List (Text × Kind) → Text → Kind
lookup [] word = k.Name
lookup (w ∷ ws) word = if str_eq_ignore_ascii_case w.0 word then w.1 else lookup ws word

-- a reserved word has its own kind, and any other word is a name
unfoldable pub word_kind : Text → Kind
word_kind = lookup (map (λ w. (w.0.now, w.1)) RESERVED)

abbrev pub max_name : ℕ
max_name = 31

abbrev pub word : Text → Cut
word z = let end = past class.Word z 0 in record { kind = if nat_le end max_name then word_kind (take end z) else k.Bad; len = end }

-- ---- numbers

abbrev pub past_fraction : Text → ℕ → ℕ
past_fraction z at = if slice_index z at == 46 && is_ascii_digit (slice_index z (at + 1)) then past class.Digit z (at + 1) else at

-- the value of the digits, the point left out
abbrev pub digits_value : Text → ℕ
digits_value = fold (λ n b. if b == 46 then n else 10 * n + (b - 48)) 0

-- how many digits stand after the point
abbrev pub digits_scale : Text → ℕ
digits_scale z = length z - (past class.Digit z 0 + 1)

abbrev pub max_number : ℕ
max_number = 9223372036854775807

abbrev pub max_number_scale : ℕ
max_number_scale = 9

abbrev pub is_number : Text → Bool
is_number z = nat_le (digits_value z) max_number && nat_le (digits_scale z) max_number_scale

abbrev pub number : Text → Cut
number z = record { kind = k.Number; len = past_fraction z (past class.Digit z 0) }

-- ---- texts

-- The place after the closing quote, for a text whose bytes from `at` on are these. A doubled quote does not close.
abbrev pub closing : ℕ → Bool → ℕ → Text → Option ℕ
closing quote is_second at [] = None
closing quote true at (b ∷ z) = closing quote false (at + 1) z
closing quote false at (b ∷ z) =
    if not (is_printable b) then None else (if b == quote && not (slice_index z 0 == quote) then Some (at + 1) else closing quote (b == quote) (at + 1) z)

abbrev pub closed : Option ℕ → Cut
closed None = record { kind = k.Bad; len = 1 }
closed (Some end) = record { kind = k.Quoted; len = end }

abbrev pub quoted : Text → Cut
quoted z = closed (closing (slice_index z 0) false 1 (drop 1 z))

-- one quote for each two
abbrev pub undouble : ℕ → Bool → Text → Text
undouble quote is_second [] = []
undouble quote true (b ∷ z) = undouble quote false z
undouble quote false (b ∷ z) = b ∷ undouble quote (b == quote) z

-- what stands between the quotes
abbrev pub inside : Text → Text
inside z = take (length z - 2) (drop 1 z)

abbrev pub ends_blank : Text → Bool
ends_blank z = slice_index z (length z - 1) == 32

-- without the blanks at its end
abbrev pub before_trimmed : ℕ → Text → Text
before_trimmed b [] = if b == 32 then [] else b ∷ []
before_trimmed b (x ∷ z) = b ∷ x ∷ z

abbrev pub trimmed : Text → Text
trimmed [] = []
trimmed (b ∷ z) = before_trimmed b (trimmed z)

unfoldable pub text_value : Text → Text
text_value z = trimmed (undouble (slice_index z 0) false (inside z))

-- ---- symbols, by their first two bytes

abbrev pub single : ℕ → Kind
single b =
    if b == 46 then k.Dot else (if b == 44 then k.Comma else (if b == 59 then k.Semicolon else (if b == 61 then k.Equal
    else (if b == 43 then k.Plus else (if b == 45 then k.Minus else (if b == 42 then k.Star else (if b == 40 then k.Open
    else (if b == 41 then k.Close else (if b == 36 then k.Dollar else (if b == 47 then k.Slash else k.Bad))))))))))

unfoldable pub symbol : ℕ → ℕ → Cut
symbol b next =
    if b == 60 then (if next == 62 then record { kind = k.Unequal; len = 2 } else (if next == 61 then record { kind = k.LessEqual; len = 2 } else record { kind = k.Less; len = 1 }))
    else (if b == 62 then (if next == 61 then record { kind = k.GreaterEqual; len = 2 } else record { kind = k.Greater; len = 1 })
    else record { kind = single b; len = 1 })

-- ---- tokens

-- The token at the front of a text that begins with no blank and no comment.
unfoldable pub token : Text → Cut
token [] = record { kind = k.Finished; len = 0 }
token (b ∷ z) =
    if is_ascii_alphabetic b then word (b ∷ z) else (if is_ascii_digit b then number (b ∷ z)
    else (if b == 39 || b == 34 then quoted (b ∷ z) else symbol b (slice_index z 0)))

-- the text after a comment whose mark is behind
abbrev pub after_comment : Text → Text
after_comment z = drop (past class.Comment z 0) z

-- the text from its first byte on that belongs to no blank and no comment; the number counts the bytes that are left of a comment
abbrev pub skip_from : ℕ → Text → Text
skip_from left [] = []
skip_from (suc left) (b ∷ z) = skip_from left z
skip_from zero (b ∷ z) = if is_blank b then skip_from 0 z else (if b == 33 then skip_from (past class.Comment z 0) z else b ∷ z)

unfoldable pub skip : Text → Text
skip = skip_from 0

-- the text begins with no blank and no comment
abbrev pub starts : Text → Bool
starts [] = true
starts (b ∷ z) = not (is_blank b || b == 33)

-- A token: its kind, its bytes, and how many bytes there are from it to the end of the script.
pub record Token : Type 0 where
  pub kind : Kind
  pub spelling : Text
  pub left : ℕ

-- The tokens of a text. The first number counts the bytes that are left of a blank, a comment or a token.
abbrev pub tokens_from : ℕ → Text → List Token
tokens_from left [] = []
tokens_from (suc left) (b ∷ z) = tokens_from left z
tokens_from zero (b ∷ z) =
    if is_blank b then tokens_from 0 z
    else (if b == 33 then tokens_from (past class.Comment z 0) z
    else record { kind = (token (b ∷ z)).kind; spelling = take (token (b ∷ z)).len (b ∷ z); left = length (b ∷ z) } ∷ tokens_from ((token (b ∷ z)).len - 1) z)

unfoldable pub tokens : Text → List Token
tokens = tokens_from 0

-- `==` on kinds
unfoldable pub same_kind : Kind → Kind → Bool
same_kind = sameb the_type

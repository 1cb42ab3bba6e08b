-- Words in their canonical spelling, the text that they make, and its tokens.
use Rattle.std.specs.Prelude.{◌≡◌, ℕ, zero, suc, ◌+◌, ◌/◌, ◌%◌, ◌==◌, if◌then◌else◌, List, [], ◌∷◌, ◌++◌, map, codes, decimal}
use Rattle.rdo_tokens.specs.declared.token.Kind.{Kind}
use Rattle.rdo_tokens.specs.declared.token.Kind.TheVariants as k
use Rattle.rdo_tokens.specs.declared.token.TheConstants.{RESERVED}
use Rattle.rdo_tokens.specs.Lex.{Text, same_kind}
use Rattle.rdo_tokens.specs.Input.{Input}

pub record Spelled : Type 0 where
  pub kind : Kind
  pub spelling : Text

-- ---- reserved words and symbols

abbrev pub reserved : List (Text × Kind) → Kind → Text
reserved [] kind = []
reserved (w ∷ ws) kind = if same_kind w.1 kind then w.0 else reserved ws kind

unfoldable pub spelling_of : Kind → Text
spelling_of k.Dot = codes "."
spelling_of k.Comma = codes ","
spelling_of k.Semicolon = codes ";"
spelling_of k.Equal = codes "="
spelling_of k.Unequal = codes "<>"
spelling_of k.Greater = codes ">"
spelling_of k.GreaterEqual = codes ">="
spelling_of k.Less = codes "<"
spelling_of k.LessEqual = codes "<="
spelling_of k.Plus = codes "+"
spelling_of k.Minus = codes "-"
spelling_of k.Star = codes "*"
spelling_of k.Open = codes "("
spelling_of k.Close = codes ")"
spelling_of k.Dollar = codes "$"
spelling_of k.Slash = codes "/"
spelling_of kind = reserved (map (λ w. (w.0.now, w.1)) RESERVED) kind

abbrev pub word : Kind → Spelled
word kind = record { kind = kind; spelling = spelling_of kind }

-- ---- names, numbers and texts

abbrev pub name_word : Text → Spelled
name_word n = record { kind = k.Name; spelling = n }

-- the number without its last digits
abbrev pub without_last : ℕ → ℕ → ℕ
without_last zero n = n
without_last (suc digits) n = without_last digits (n / 10)

-- the last digits of a number
abbrev pub last_digits : ℕ → ℕ → Text
last_digits zero n = []
last_digits (suc digits) n = last_digits digits (n / 10) ++ (48 + n % 10) ∷ []

-- a point before the last digits, as many as the scale says
unfoldable pub number_text : ℕ → ℕ → Text
number_text digits zero = decimal digits
number_text digits (suc scale) = decimal (without_last (suc scale) digits) ++ 46 ∷ last_digits (suc scale) digits

abbrev pub number_word : ℕ → ℕ → Spelled
number_word digits scale = record { kind = k.Number; spelling = number_text digits scale }

-- two quotes for each one
abbrev pub doubled : Text → Text
doubled [] = []
doubled (b ∷ z) = if b == 39 then 39 ∷ 39 ∷ doubled z else b ∷ doubled z

unfoldable pub quoted_text : Text → Text
quoted_text z = 39 ∷ doubled z ++ 39 ∷ []

abbrev pub quoted_word : Text → Spelled
quoted_word z = record { kind = k.Quoted; spelling = quoted_text z }

-- ---- lists

-- the separator and an item, for each item
abbrev pub more_words : {A : Type 0} → Kind → (A → List Spelled) → List A → List Spelled
more_words separator words [] = []
more_words separator words (x ∷ xs) = word separator ∷ words x ++ more_words separator words xs

-- items with a separator between two
abbrev pub separated_words : {A : Type 0} → Kind → (A → List Spelled) → List A → List Spelled
separated_words separator words [] = []
separated_words separator words (x ∷ xs) = words x ++ more_words separator words xs

-- ---- the text, and the tokens

-- each word with a blank behind it
abbrev pub text_of : List Spelled → Text
text_of [] = []
text_of (w ∷ ws) = w.spelling ++ 32 ∷ text_of ws

-- these tokens are these words
abbrev pub AreSpelled : List Spelled → Input → Type 0
AreSpelled [] [] = Unit {0}
AreSpelled [] (t ∷ ts) = ⊥
AreSpelled (w ∷ ws) [] = ⊥
AreSpelled (w ∷ ws) (t ∷ ts) = (w.kind ≡ t.kind) × (w.spelling ≡ t.spelling) × AreSpelled ws ts

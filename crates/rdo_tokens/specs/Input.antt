-- What a production reads from, and the steps that every production is made of.
use Rattle.std.specs.Prelude.{◌≡◌, ℕ, zero, suc, Bool, if◌then◌else◌, ◌==◌, ◌&&◌, nat_le, List, [], ◌∷◌, ◌++◌, map, Option, Some, None, Result, Ok, Err}
use Rattle.std.specs.Char.{to_ascii_uppercase}
use Rattle.std.specs.Str.{str_eq_ignore_ascii_case}
use Rattle.rdo_tokens.specs.declared.lex.Numeral.{Numeral}
use Rattle.rdo_tokens.specs.declared.token.Kind.{Kind}
use Rattle.rdo_tokens.specs.declared.token.Kind.TheVariants as k
use Rattle.rdo_tokens.specs.declared.tokens.Stop.{Stop}
use Rattle.rdo_tokens.specs.declared.tokens.Stop.TheVariants.{Memory, Offending}
use Rattle.rdo_tokens.specs.Lex.{Text, Token, same_kind, is_number, digits_value, digits_scale, text_value}

-- the tokens that are left
abbrev pub Input : Type 0
Input = List Token

unfoldable pub kind : Input → Kind
kind [] = k.Finished
kind (t ∷ ts) = t.kind

unfoldable pub spelling : Input → Text
spelling [] = []
spelling (t ∷ ts) = t.spelling

unfoldable pub next : Input → Input
next [] = []
next (t ∷ ts) = ts

-- how many bytes there are from the next token on
unfoldable pub left : Input → ℕ
left [] = 0
left (t ∷ ts) = t.left

-- ---- parsers

-- the value and the tokens that are left, or the tokens from the offending one on
abbrev pub Outcome : Type 0 → Type 0
Outcome A = Result (A × Input) Input

abbrev pub Parser : Type 0 → Type 0
Parser A = Input → Outcome A

abbrev pub and_then : {A B : Type 0} → Outcome A → (A → Parser B) → Outcome B
and_then (Ok p) f = f p.0 p.1
and_then (Err e) f = Err e

infixl 10 ◌>>=◌
abbrev pub ◌>>=◌ : {A B : Type 0} → Parser A → (A → Parser B) → Parser B
p >>= f = λ i. and_then (p i) f

infixl 10 ◌>>◌
abbrev pub ◌>>◌ : {A B : Type 0} → Parser A → Parser B → Parser B
p >> q = p >>= (λ _. q)

abbrev pub pure : {A : Type 0} → A → Parser A
pure a = λ i. Ok (a, i)

infixr 11 ◌<$>◌
abbrev pub ◌<$>◌ : {A B : Type 0} → (A → B) → Parser A → Parser B
f <$> p = p >>= (λ x. pure (f x))

-- the next token is the offending one
abbrev pub refuse : {A : Type 0} → Parser A
refuse = λ i. Err i

abbrev pub peek : Parser Kind
peek = λ i. Ok (kind i, i)

-- the token's bytes, whatever its kind
abbrev pub take_token : Parser Text
take_token = λ i. Ok (spelling i, next i)

unfoldable pub sees : Kind → Input → Bool
sees k i = same_kind (kind i) k

unfoldable pub after : Kind → Input → Input
after k i = if sees k i then next i else i

-- takes a token of this kind, if it comes next
abbrev pub eat : Kind → Parser Bool
eat k = λ i. Ok (sees k i, after k i)

unfoldable pub expect : Kind → Parser (Unit {0})
expect k = λ i. if sees k i then Ok (tt, next i) else refuse i

-- ---- names, numbers and texts

unfoldable pub upper : Text → Text
upper = map to_ascii_uppercase

unfoldable pub name : Parser Text
name = λ i. if sees k.Name i then Ok (upper (spelling i), next i) else refuse i

-- this name and no other; names are in capitals
unfoldable pub same_name : Text → Parser (Unit {0})
same_name known = λ i. if sees k.Name i then (if str_eq_ignore_ascii_case (spelling i) known then Ok (tt, next i) else refuse i) else refuse i

unfoldable pub text : Parser Text
text = λ i. if sees k.Quoted i then Ok (text_value (spelling i), next i) else refuse i

-- the number that is spelled so, where it is in range
unfoldable pub number_value : Text → Option Numeral
number_value s = if is_number s then Some (record { digits = digits_value s; scale = digits_scale s }) else None

abbrev pub number_of : Option Numeral → Parser Numeral
number_of (Some n) = λ i. Ok (n, next i)
number_of None = refuse

unfoldable pub number : Parser Numeral
number = λ i. if sees k.Number i then number_of (number_value (spelling i)) i else refuse i

-- a number without a fraction, from `least` to `most`
abbrev pub whole_of : ℕ → ℕ → Option Numeral → Parser ℕ
whole_of least most (Some n) = λ i. if n.scale == 0 && nat_le least n.digits && nat_le n.digits most then Ok (n.digits, next i) else refuse i
whole_of least most None = refuse

unfoldable pub whole_number : ℕ → ℕ → Parser ℕ
whole_number least most = λ i. if sees k.Number i then whole_of least most (number_value (spelling i)) i else refuse i

-- ---- lists. The number bounds the turns. Each turn takes a token and so a byte, so the count of the bytes that are left is enough.

-- { separator item }
unfoldable pub more_from : {A : Type 0} → Kind → Parser A → ℕ → List A → Parser (List A)
more_from separator item zero found = pure found
more_from separator item (suc n) found = do
  more ← eat separator
  if more then (do x ← item; more_from separator item n (found ++ x ∷ [])) else pure found

-- item { separator item }
unfoldable pub separated : {A : Type 0} → Kind → Parser A → Parser (List A)
separated separator item = do
  x ← item
  (λ i. more_from separator item (left i) (x ∷ []) i)

-- ---- what a function that parses ensures: the outcome of the production, unless memory fails. After a refusal the offending token comes next.

abbrev pub Reads : {A : Type 0} → Outcome A → Result A Stop → Input → Type 0
Reads outcome (Ok a) new = outcome ≡ Ok (a, new)
Reads outcome (Err Memory) new = Unit {0}
Reads outcome (Err Offending) new = outcome ≡ Err new

-- Worked texts and their tokens: the kind, the bytes, and how many bytes there are from the token to the end.
use Rattle.std.proofs.Common.{◌≡◌, List, [], ◌∷◌, ◌++◌, map, refl, Some, None}
use Rattle.std.specs.Prelude.{codes, replicate}
use Rattle.rdo_tokens.specs.declared.token.Kind.{Kind}
use Rattle.rdo_tokens.specs.declared.token.Kind.TheVariants as k
use Rattle.rdo_tokens.specs.Lex.{Text, Token, tokens, token, symbol, word_kind, text_value}
use Rattle.rdo_tokens.specs.Input.{number_value}

kinds : Text → List Kind
kinds z = map (λ (t : Token). t.kind) (tokens z)

-- blanks, a comment and a line end stand between tokens
tokens_of_lines : tokens (codes "print D.CODE ! all" ++ 10 ∷ codes "<>12.5") ≡
    record { kind = k.Print; spelling = codes "print"; left = 25 } ∷
    record { kind = k.Name; spelling = codes "D"; left = 19 } ∷
    record { kind = k.Dot; spelling = codes "."; left = 18 } ∷
    record { kind = k.Name; spelling = codes "CODE"; left = 17 } ∷
    record { kind = k.Unequal; spelling = codes "<>"; left = 6 } ∷
    record { kind = k.Number; spelling = codes "12.5"; left = 4 } ∷ []
unfolding tokens token symbol word_kind
tokens_of_lines = refl

-- a number ends before a letter, and before a point without a digit
kinds_of_numbers : kinds (codes "12AB 1. .5") ≡ k.Number ∷ k.Name ∷ k.Number ∷ k.Dot ∷ k.Dot ∷ k.Number ∷ []
unfolding kinds tokens token symbol word_kind
kinds_of_numbers = refl

-- a text that is not closed on its line is bad at its quote
kinds_of_open_text : kinds (codes "'A" ++ 10 ∷ codes "'") ≡ k.Bad ∷ k.Name ∷ k.Bad ∷ []
unfolding kinds tokens token symbol word_kind
kinds_of_open_text = refl

-- a name has 31 characters at most
kinds_of_long_words : kinds (replicate 31 65 ++ 32 ∷ replicate 32 65) ≡ k.Name ∷ k.Bad ∷ []
unfolding kinds tokens token symbol word_kind
kinds_of_long_words = refl

-- a byte that is no character is bad, in a comment too
kinds_of_bad_bytes : kinds (7 ∷ codes "A ! B" ++ 200 ∷ codes "C") ≡ k.Bad ∷ k.Name ∷ k.Bad ∷ k.Name ∷ []
unfolding kinds tokens token symbol word_kind
kinds_of_bad_bytes = refl

-- a doubled quote is one quote, and the blanks at the end are dropped
value_of_text : text_value (codes "' it''s  '") ≡ codes " it's"
unfolding text_value
value_of_text = refl

value_of_number : number_value (codes "0012.50") ≡ Some (record { digits = 1250; scale = 2 })
unfolding number_value
value_of_number = refl

-- the greatest number, one more, and ten digits after the point
values_at_limits : map number_value (codes "9223372036854775807" ∷ codes "9223372036854775808" ∷ codes "0.1234567890" ∷ []) ≡
    Some (record { digits = 9223372036854775807; scale = 0 }) ∷ None ∷ None ∷ []
unfolding number_value
values_at_limits = refl

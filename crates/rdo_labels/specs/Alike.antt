-- What it means that statements are read alike in two lists of tokens, and in two texts.
use Rattle.std.specs.Prelude.{◌≡◌, ◌<◌, [], ◌∷◌, ◌++◌, Ok, Err}
use Rattle.rdo_ast.specs.declared.syntax.Statement.{Statement}
use Rattle.rdo_tokens.specs.Lex.{Text, tokens}
use Rattle.rdo_tokens.specs.Input.{Input, left}
use Rattle.rdo_parser.specs.Statements.{pointed}

-- the same kinds and spellings
abbrev pub SameWords : Input → Input → Type 0
SameWords [] [] = Unit {0}
SameWords [] (u ∷ us) = ⊥
SameWords (t ∷ ts) [] = ⊥
SameWords (t ∷ ts) (u ∷ us) = (t.kind ≡ u.kind) × (t.spelling ≡ u.spelling) × SameWords ts us

-- the same kind and spelling of the next token, or the end of both
abbrev pub SameNextWord : Input → Input → Type 0
SameNextWord [] [] = Unit {0}
SameNextWord [] (u ∷ us) = ⊥
SameNextWord (t ∷ ts) [] = ⊥
SameNextWord (t ∷ ts) (u ∷ us) = (t.kind ≡ u.kind) × (t.spelling ≡ u.spelling)

-- each label is greater than the next
abbrev pub Descends : Input → Type 0
Descends [] = Unit {0}
Descends (t ∷ ts) = (left ts < t.left) × Descends ts

-- What is read is read wherever the same words come before the same next word.
abbrev pub ReadAlike : Type 0
ReadAlike = (i rest : Input) (x : Statement) → Descends i → pointed i ≡ Ok (x, rest) →
    (front : Input) × (i ≡ front ++ rest) × ((words other : Input) → SameWords front words → SameNextWord rest other → Descends (words ++ other) → pointed (words ++ other) ≡ Ok (x, other))

-- What is refused at a token is refused there, wherever the same words come before the same offending word.
abbrev pub RefusedAlike : Type 0
RefusedAlike = (i rest : Input) → Descends i → pointed i ≡ Err rest →
    (front : Input) × (i ≡ front ++ rest) × ((words other : Input) → SameWords front words → SameNextWord rest other → Descends (words ++ other) → pointed (words ++ other) ≡ Err other)

-- The same in two texts: the statement at the front of one is read in each other that has the same words there and the same next word.
abbrev pub TextReadAlike : Type 0
TextReadAlike = (z : Text) (rest : Input) (x : Statement) → pointed (tokens z) ≡ Ok (x, rest) →
    (front : Input) × (tokens z ≡ front ++ rest) × ((y : Text) (words other : Input) → tokens y ≡ words ++ other → SameWords front words → SameNextWord rest other → pointed (tokens y) ≡ Ok (x, other))

abbrev pub TextRefusedAlike : Type 0
TextRefusedAlike = (z : Text) (rest : Input) → pointed (tokens z) ≡ Err rest →
    (front : Input) × (tokens z ≡ front ++ rest) × ((y : Text) (words other : Input) → tokens y ≡ words ++ other → SameWords front words → SameNextWord rest other → pointed (tokens y) ≡ Err other)

-- What the steps of a cursor give, at a text that begins with a token.
use Rattle.std.proofs.Common.{◌≡◌, ◌≢◌, ◌≤◌, true, [], ◌∷◌, length, drop, take, refl, ap}
use Rattle.rdo_tokens.specs.Lex.{Text, token, tokens, starts, skip}
use Rattle.rdo_tokens.specs.Input.{kind, spelling, next, left}
use Rattle.rdo_tokens.proofs.LexLemmas.{tokens-skip, tokens-starts}

pub whole : (z : Text) → tokens (skip z) ≡ tokens z
whole = tokens-skip

pub kind_ahead : (z : Text) → starts z ≡ true → (z ≢ [] → 1 ≤ (token z).len) → kind (tokens z) ≡ (token z).kind
unfolding kind tokens token
kind_ahead [] s moves = refl
kind_ahead (b ∷ z) s moves = ap kind (tokens-starts b z s (moves (λ e. cc)))

pub spelling_ahead : (z : Text) → starts z ≡ true → (z ≢ [] → 1 ≤ (token z).len) → spelling (tokens z) ≡ take (token z).len z
unfolding spelling tokens token
spelling_ahead [] s moves = refl
spelling_ahead (b ∷ z) s moves = ap spelling (tokens-starts b z s (moves (λ e. cc)))

pub left_ahead : (z : Text) → starts z ≡ true → (z ≢ [] → 1 ≤ (token z).len) → left (tokens z) ≡ length z
unfolding left tokens
left_ahead [] s moves = refl
left_ahead (b ∷ z) s moves = ap left (tokens-starts b z s (moves (λ e. cc)))

pub next_ahead : (z : Text) → starts z ≡ true → (z ≢ [] → 1 ≤ (token z).len) → next (tokens z) ≡ tokens (drop (token z).len z)
unfolding next tokens token
next_ahead [] s moves = refl
next_ahead (b ∷ z) s moves = ap next (tokens-starts b z s (moves (λ e. cc)))

pub empty_ahead : tokens [] ≡ []
unfolding tokens
empty_ahead = refl

pub some_ahead : (z : Text) → starts z ≡ true → (z ≢ [] → 1 ≤ (token z).len) → tokens z ≡ [] → z ≡ []
some_ahead [] s moves e = refl
some_ahead (b ∷ z) s moves e = let f = tokens-starts b z s (moves (λ e. cc)) in cc

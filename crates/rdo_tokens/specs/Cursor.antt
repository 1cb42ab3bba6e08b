-- What a `Tokens` shows, and what it keeps ready.
use Rattle.std.specs.Prelude.{◌≡◌, ◌≢◌, ◌≤◌, true, List, [], length}
use Rattle.rdo_tokens.specs.declared.tokens.Tokens.TheInside.{Inside}
use Rattle.rdo_tokens.specs.Lex.{Token, token, tokens, starts}

abbrev pub tokens_of : Inside → List Token
tokens_of t = tokens t.ahead.now

pub record IsReady (t : Inside) : Type 0 where
  pub starts : starts t.ahead.now ≡ true
  pub cut : t.cut ≡ token t.ahead.now
  pub moves : t.ahead.now ≢ [] → 1 ≤ t.cut.len
  pub within : t.cut.len ≤ length t.ahead.now

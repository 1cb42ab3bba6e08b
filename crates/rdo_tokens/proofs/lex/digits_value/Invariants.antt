use Rattle.std.proofs.Common.{◌≡◌, ◌≤◌, ◌+◌, ◌<◌, take}
use Rattle.rdo_tokens.specs.Lex.{digits_value, max_number}
use Rattle.rdo_tokens.proofs.lex.digits_value.Given as goal

abbrev pub invariant-loop-b : goal.invariant-loop-b
invariant-loop-b l = record {
  fits : digits_value (take l.b-index l.text) ≤ max_number → l.n ≡ digits_value (take l.b-index l.text);
  above : max_number < digits_value (take l.b-index l.text) → l.n ≡ max_number + 1;
  small : l.n ≤ max_number + 1;
}

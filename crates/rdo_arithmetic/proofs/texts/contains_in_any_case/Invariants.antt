use Rattle.std.proofs.Common.{◌≡◌, drop}
use Rattle.std.specs.Str.{str_to_ascii_uppercase}
use Rattle.rdb_meaning.specs.Comparison.{contains}
use Rattle.rdo_arithmetic.proofs.texts.contains_in_any_case.Given as goal

abbrev pub invariant-loop-start : goal.invariant-loop-start
invariant-loop-start l =
    contains (str_to_ascii_uppercase l.pattern) (str_to_ascii_uppercase l.text)
    ≡ contains (str_to_ascii_uppercase l.pattern) (str_to_ascii_uppercase (drop l.start l.text))

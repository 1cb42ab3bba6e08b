use Rattle.std.proofs.Common.{◌<◌, ◌^◌, All, length}
use Rattle.session_cases.proofs.scripts_of.Given as goal

abbrev pub invariant-loop-text : goal.invariant-loop-text
invariant-loop-text l = All (λ script. length script.items < 2 ^ 32) l.scripts.items

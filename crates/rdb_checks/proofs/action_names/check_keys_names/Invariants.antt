use Rattle.std.proofs.Common.{◌≡◌, drop}
use Rattle.rdb_meaning.specs.Checks.{first_refusal, reference_names}
use Rattle.rdb_checks.proofs.action_names.check_keys_names.Given as goal

abbrev pub invariant-loop-key : goal.invariant-loop-key
invariant-loop-key l =
    first_refusal (λ k. reference_names k.reference l.tables l.scope) l.keys
    ≡ first_refusal (λ k. reference_names k.reference l.tables l.scope) (drop l.key-index l.keys)

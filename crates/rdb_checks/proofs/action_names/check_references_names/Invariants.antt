use Rattle.std.proofs.Common.{◌≡◌, drop}
use Rattle.rdb_meaning.specs.Checks.{first_refusal, reference_names}
use Rattle.rdb_checks.proofs.action_names.check_references_names.Given as goal

abbrev pub invariant-loop-reference : goal.invariant-loop-reference
invariant-loop-reference l =
    first_refusal (λ r. reference_names r l.tables l.scope) l.references
    ≡ first_refusal (λ r. reference_names r l.tables l.scope) (drop l.reference-index l.references)

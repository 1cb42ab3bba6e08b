-- What is refused of an action that is checked and bound.
use Rattle.std.proofs.Common.{◌≡◌, Some, None, [], Result, Ok, Err, subst}
use Rattle.rdo_ast.specs.declared.reply.Standing.{Standing}
use Rattle.rdo_ast.specs.Tree.{Act}
use Rattle.rdb_meaning.specs.declared.tables.Tables.{Tables}
use Rattle.rdb_meaning.specs.Checks.{or_else, reservation_refusal, act_names, act_uses, act_clashes}
use Rattle.rdb_meaning.specs.Evaluation.{Scope}
use Rattle.rdb_meaning.specs.Meaning.{act_standing_refusal, act_later_refusal, act_refusal, reservations_of, clash}
use Rattle.rdb_checks.specs.declared.stop.Stop.{Stop as CheckStop}
use Rattle.rdb_checks.specs.declared.stop.Stop.TheVariants as check
use Rattle.rdb_checks.specs.Answers.{Finds}
use Rattle.catalog_definitions.proofs.KeyPlaces.{first_none}
use Rattle.rdo_bind.specs.declared.action.BoundAction.{BoundAction}

-- what the check lets pass has no name that stands for nothing
names_free : (a : Act) (standing : Standing) (t : Tables) → act_refusal a standing t ≡ None → act_names a t [] ≡ None
names_free a standing t free =
    (first_none (act_names a t []) (or_else (reservation_refusal (reservations_of standing) (act_uses a [])) (clash (act_clashes a t [])))
    (first_none (act_standing_refusal a standing) (act_later_refusal a standing t) free).1).0

pub binds : (result : Result BoundAction CheckStop) (a : Act) (standing : Standing) (t : Tables) (scope : Scope) → scope ≡ [] → act_refusal a standing t ≡ None → Finds result (act_names a t scope) → Finds result (act_refusal a standing t)
binds (Ok bound) a standing t scope none free finds = free
binds (Err (check.Refused reply)) a standing t scope none free finds =
    let names : act_names a t [] ≡ Some reply = subst (λ (s : Scope). act_names a t s ≡ Some reply) none finds in
    let not : act_names a t [] ≡ None = names_free a standing t free in
    let bad : ⊥ = cc in absurd bad
binds (Err check.Memory) a standing t scope none free finds = tt
